-- What holds of a hub of which nothing has passed yet, and of one task more.
use Rattle.std.proofs.Common.{◌≡◌, ℕ, Bool, true, false, true≢false, List, [], ◌∷◌, ◌++◌, Option, Some, None, IfSome, map, take, sym, ap, ◌∙◌, subst}
use Rattle.std.proofs.lemmas.List.{map-append}
use Rattle.cf_wires.specs.Log.{Log, Tally, Told, Tells, deliveries}
use Rattle.cf_tasks.specs.declared.entry.Item.{Item}
use Rattle.cf_outside.specs.declared.entry.EntryKind.{EntryKind}
use Rattle.cf_outside.specs.declared.reader.Reader.{Reader}
use Rattle.cf_hub.specs.Finish.{begun}
use Rattle.cf_hub.specs.Gives.{given_of, LogGives}

abbrev is_there : {X : Type 0} → Option X → Bool
is_there None = false
is_there (Some x) = true

pub no_some : {X : Type 0} (x : X) → Some x ≡ None → ⊥
no_some x e = true≢false (ap is_there e)

-- nothing has passed
pub nothing_log : (t : Told) (got : List (Item EntryKind)) → Tells [] t → LogGives t got
nothing_log t got n = λ log is.
    let Q : Option Log → Type 0 = λ o. IfSome o (λ l. l ≡ []) in
    let e : log ≡ [] = subst Q is n.content in
    ap deliveries e ∙ sym (ap (λ (y : Tally). take y.taken (given_of got)) n.counts)

-- one task more
pub task_more : {S R : Type 0} (was now : List (Reader S R)) (t : Reader S R) (n : ℕ) (s : S) → now ≡ was ++ t ∷ [] → t.sender.number ≡ n → t.source ≡ s → map begun now ≡ map begun was ++ (n, s) ∷ []
task_more was now t n s e f g =
    ap (map begun) e ∙ map-append begun was (t ∷ []) ∙ ap (λ (x : ℕ). map begun was ++ (x, t.source) ∷ []) f ∙ ap (λ x. map begun was ++ (n, x) ∷ []) g

-- a dial, between equal dialers
pub same_dial : {D X : Type 0} (Q : D → X → D → Type 0) (a a' b b' : D) (x : X) → a ≡ a' → b' ≡ b → Q a x b → Q a' x b'
same_dial {D = D} Q a a' b b' x e f h =
    let L : D → Type 0 = λ d. Q d x b in
    let R : D → Type 0 = λ d. Q a' x d in
    subst R (sym f) (subst L e h)
