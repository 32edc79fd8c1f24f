use Rattle.std.proofs.Common.{◌++◌, ◌∙◌, subst}
use Rattle.cf_block.specs.Commitment.{AreTxids}
use Rattle.cf_proof.specs.Proof.{proof_spelling}
use Rattle.cf_proof.specs.Made.{AreFlagsOf}
use Rattle.cf_proof.proofs.MakeLemmas.{made}
use Rattle.cf_proof.proofs.making.make_proof.Goals as goal

pub returns : goal.returns
returns c =
    let are = subst (AreTxids c.in_ok-ids.ids) c.as_slice.ensures c.in_ok-ids.ensures in
    let flags = subst (λ s. AreFlagsOf s c.in_ok-flags.flags.items) c.deref.ensures.value c.in_ok-flags.ensures in
    made c.args.b.now c.args.place c.in_ok-ids.ids c.as_slice-2.result.now c.len-total.result c.height_of.result c.new-hashes.result.items c.put_parts.new.hashes.items c.new-bits.result.items c.put_parts.new.bits.items
    c.in_ok-flags.flags.items c.new-out.result.items _ are c.as_slice-2.ensures c.len-total.ensures c.height_of.ensures.value c.new-hashes.ensures.items c.in_ok-put_parts.ensures.hashes c.new-bits.ensures.items
    c.in_ok-put_parts.ensures.bits flags c.new-out.ensures.items
    (c.in_ok-write_proof.ensures ∙ (λ i. c.new-out.result.items ++ proof_spelling (record { header = c.args.b.now.header; total = c.len-total.result; hashes = c.from_vec.ensures i; flags = c.from_vec-2.ensures i })))
