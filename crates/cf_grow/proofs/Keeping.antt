-- What is kept of the blocks that join a chain.
use Rattle.std.proofs.Common.{◌≡◌, ℕ, ◌-◌, List, [], ◌∷◌, ◌++◌, length, take, drop, Option, Some, None, refl, sym, ap, ◌∙◌, arith}
use Rattle.std.proofs.lemmas.List.{append-nil, length-append, take_at, drop_at}
use Rattle.std.specs.List.{flat_map}
use Rattle.cf_block.specs.declared.tx.Block.{Block}
use Rattle.cf_bytes.specs.Outside.{with_more}
use Rattle.cf_grow.specs.Growing.{Growth, KeepsWhatJoins}
use Rattle.cf_grow.specs.Keeping.{records_above, without_last}
use Rattle.cf_walk.specs.Records.{record_spelling}

drop_own : {A : Type 0} (xs ys : List A) → drop (length xs) (xs ++ ys) ≡ ys
drop_own xs ys = drop_at xs ys (length xs) refl

-- nothing more is told
more_none : (o : Option (List ℕ)) → with_more o [] ≡ o
more_none None = refl
more_none (Some bytes) = ap Some (append-nil bytes)

-- what was put behind is taken back
pub taken_back : (o : Option (List ℕ)) (r : List ℕ) → without_last (length r) (with_more o r) ≡ o
taken_back None r = refl
taken_back (Some bytes) r =
    let n : length (bytes ++ r) - length r ≡ length bytes = (let e = length-append bytes r in omega (arith, e)) in
    ap Some (ap (λ (k : ℕ). take k (bytes ++ r)) n ∙ take_at bytes r (length bytes) refl)

-- where nothing has changed nothing is kept
pub keeps_none : (old new : Growth) → new ≡ old → KeepsWhatJoins old new
keeps_none old new same =
    ap (λ (g : Growth). g.kept) same ∙ sym (more_none old.kept)
    ∙ ap (λ (bytes : List ℕ). with_more old.kept bytes)
    (sym (ap (flat_map record_spelling) (ap (λ (bs : List Block). drop (length old.blocks) bs) (ap (λ (g : Growth). g.blocks) same ∙ sym (append-nil old.blocks))
    ∙ drop_own old.blocks [])))

-- the record of the block that has joined
pub keeps_one : (old new : Growth) (b : Block) → new.blocks ≡ old.blocks ++ b ∷ [] → new.kept ≡ with_more old.kept (record_spelling b) → KeepsWhatJoins old new
keeps_one old new b more kept =
    kept
    ∙ ap (λ (bytes : List ℕ). with_more old.kept bytes)
    (sym (ap (flat_map record_spelling) (ap (λ (bs : List Block). drop (length old.blocks) bs) more ∙ drop_own old.blocks (b ∷ []))
    ∙ append-nil (record_spelling b)))

-- what is kept of a block that is put on, or isn't
pub ruleset kept_so = (keeps_none, keeps_one)
