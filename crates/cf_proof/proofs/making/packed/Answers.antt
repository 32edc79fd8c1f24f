use Rattle.std.proofs.Common.{ap, ◌∙◌, arith, refl, ◌++◌}
use Rattle.cf_proof.specs.Proof.{flags_of}
use Rattle.std.proofs.lemmas.List.{take_all}
use Rattle.cf_proof.specs.Steps.{low_bits}
use Rattle.cf_proof.proofs.MakeLemmas.{flags_whole, flags_part}
use Rattle.cf_proof.proofs.making.packed.Goals as goal
use Rattle.cf_proof.proofs.making.packed.Goals.{then-part-gt0+in_ok-push, else-part-gt0}

pub loop-bit-init : goal.loop-bit-init
unfolding low_bits
loop-bit-init c = record {
  bits = rw c.new-bytes.ensures.items refl;
  few = omega arith;
  small = omega arith;
}

pub returns : goal.returns
returns c =
    let all = c.loop-bit.invariant.bits ∙ take_all c.loop-bit.bit-index c.args.bits.now c.loop-bit-test.false in
    elim c.if-part-gt0.branch [
      | then-part-gt0+in_ok-push w ↦ flags_part c.args.bits.now c.loop-bit.bytes.items _ c.loop-bit.part.n c.loop-bit.part.byte all w.if-part-gt0.true c.loop-bit.invariant.few c.loop-bit.invariant.small (ap (λ v. v.items) w.bytes-is ∙ w.in_ok-push.ensures.items)
      | else-part-gt0 w ↦ flags_whole c.args.bits.now _ c.loop-bit.part.n c.loop-bit.part.byte (ap (λ v. flags_of v.items ++ low_bits c.loop-bit.part.n c.loop-bit.part.byte) w.bytes-is ∙ all) (omega (arith, w.if-part-gt0.false))
    ]
