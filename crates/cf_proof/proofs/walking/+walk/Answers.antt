use Rattle.std.proofs.Common.{◌≡◌, ◌-◌, ◌∷◌, List, Bool, true, take, drop, length, sym, ap, subst, arith}
use Rattle.cf_block.specs.Views.{bytes_of}
use Rattle.cf_proof.specs.Walk.{walk}
use Rattle.cf_proof.specs.Steps.{IsNodeOf}
use Rattle.cf_proof.proofs.TreeLemmas.{left_there}
use Rattle.cf_proof.proofs.WalkLemmas.{front_is, one_child, two_children}
use Rattle.cf_proof.proofs.walking.+walk.Goals as goal

pub walk-requires : goal.walk-requires
walk-requires t c = (omega arith, (c.requires.few, (omega arith, left_there c.args.place c.args.height c.args.total (omega arith) c.requires.there)))

pub returns-then-not-is_there : goal.returns-then-not-is_there
returns-then-not-is_there t c =
    let split : c.args.bits.now ≡ true ∷ take (length c.args.bits.now - 1) (drop 1 c.args.bits.now) = front_is c.args.bits.now _ (omega arith) c.if-not-bit.false in
    let P : List Bool → Type 0 = λ b. IsNodeOf c.args.txid.now.0 (walk c.args.total c.args.height c.args.place b (bytes_of c.args.hashes.now)) c.with_left.result.hash.0 c.with_left.result.twins c.with_left.result.found c.with_left.result.bits.now (bytes_of c.with_left.result.hashes.now) in
    subst P (sym split) (one_child c.args.txid.now.0 c.args.total c.args.height (c.args.height - 1) c.args.place (take (length c.args.bits.now - 1) (drop 1 c.args.bits.now)) (bytes_of c.args.hashes.now) _ _ _ _ _ _ _ _ _ _ (omega arith) c.in-Some.ensures (sym c.if-not-is_there.ensures)
    c.with_left.ensures.hash c.with_left.ensures.twins c.with_left.ensures.found c.with_left.ensures.bits (ap bytes_of c.with_left.ensures.hashes))

pub returns-in-Some-walk : goal.returns-in-Some-walk
returns-in-Some-walk t c =
    let split : c.args.bits.now ≡ true ∷ take (length c.args.bits.now - 1) (drop 1 c.args.bits.now) = front_is c.args.bits.now _ (omega arith) c.if-not-bit.false in
    let P : List Bool → Type 0 = λ b. IsNodeOf c.args.txid.now.0 (walk c.args.total c.args.height c.args.place b (bytes_of c.args.hashes.now)) c.with_both.result.hash.0 c.with_both.result.twins c.with_both.result.found c.with_both.result.bits.now (bytes_of c.with_both.result.hashes.now) in
    subst P (sym split) (two_children c.args.txid.now.0 c.args.total c.args.height (c.args.height - 1) c.args.place (take (length c.args.bits.now - 1) (drop 1 c.args.bits.now)) (bytes_of c.args.hashes.now) _ _ _ _ _ _ _ _ _ _ _ _ _ _ _ (omega arith) c.in-Some.ensures (sym c.if-not-is_there.ensures) c.in-Some-walk.ensures
    c.with_both.ensures.hash c.with_both.ensures.twins c.with_both.ensures.found c.with_both.ensures.bits (ap bytes_of c.with_both.ensures.hashes))
