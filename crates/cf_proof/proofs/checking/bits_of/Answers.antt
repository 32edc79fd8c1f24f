use Rattle.std.proofs.Common.{◌≡◌, ℕ, ◌+◌, List, take, sym, subst}
use Rattle.cf_proof.specs.Proof.{flags_of}
use Rattle.cf_proof.proofs.WalkLemmas.{flags_more}
use Rattle.cf_proof.proofs.checking.bits_of.Goals as goal

pub loop-byte-preserved : goal.loop-byte-preserved
loop-byte-preserved c =
    let l = c.loop-byte in
    let same = c.as_slice-byte-items.ensures in
    let before = subst (λ (xs : List ℕ). l.bits.items ≡ flags_of (take l.byte-index xs)) (sym same) l.invariant in
    subst (λ (xs : List ℕ). c.put_bits.new.bits.items ≡ flags_of (take (l.byte-index + 1) xs)) same
    (flags_more c.as_slice-byte-items.result.now l.byte-index l.bits.items _ c.loop-byte-test.true before c.in_ok-put_bits.ensures)
