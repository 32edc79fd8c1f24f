-- Where a last entry stands.
use Rattle.std.proofs.Common.{◌≡◌, ℕ, Bool, true, false, true≢false, not, ◌&&◌, List, [], ◌∷◌, ◌++◌, refl, ap, ◌∙◌, arith}
use Rattle.std.proofs.lemmas.Grind.{common_steps}
use Rattle.cf_tasks.specs.declared.entry.Item.{Item}
use Rattle.cf_tasks.specs.Queue.{entry}
use Rattle.cf_outside.specs.declared.entry.EntryKind.{EntryKind}
use Rattle.cf_outside.specs.declared.entry.EntryKind.TheVariants.{Got, Tick, Last}
use Rattle.cf_outside.specs.Pieces.{is_last, is_open}

-- what has a last entry still has it with more behind
pub last_stays : (xs ys : List (Item EntryKind)) → is_open xs ≡ false → is_open (xs ++ ys) ≡ false
last_stays [] ys h = absurd (true≢false h)
last_stays (x ∷ xs) ys h = grind (arith, common_steps, last_stays xs ys)

pub closes : (xs : List (Item EntryKind)) (p : ℕ) → is_open (xs ++ entry p Last ∷ []) ≡ false
closes [] p = refl
closes (x ∷ xs) p = ap (λ b. not (is_last x.kind) && b) (closes xs p) ∙ none (not (is_last x.kind))
  where
    none : (b : Bool) → b && false ≡ false
    none true = refl
    none false = refl
