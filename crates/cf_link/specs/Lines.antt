-- machine: tasks in a line.
use Rattle.std.specs.Prelude.{◌≡◌, ◌⊎◌, ℕ, ◌+◌, Bool, true, false, List, [], ◌∷◌, Option, Some, None}
use Rattle.cf_link.specs.declared.line.Live.{Live}

-- the tasks that were started and not given back, in order; the flags of those that run, in order; whether there is room for one more; and whether the first one is over
pub record Line (J F : Type 0) : Type 0 where
  pub tasks : List J
  pub flags : List F
  pub room : Bool
  pub ready : Bool

module _ {F : Type 0} (tells : F → Bool → Type 0) where
  -- each of the flags has answered that it isn't raised
  abbrev pub AllRun : List F → Type 0
  AllRun [] = Unit {0}
  AllRun (f ∷ fs) = tells f false × AllRun fs

  -- of the flags some are left, in the same order, and each other one has answered that it is raised
  abbrev pub Stay : List F → List F → Type 0
  Stay [] left = left ≡ []
  Stay (f ∷ fs) left = (tells f true × Stay fs left) ⊎ ((rest : List F) × (left ≡ f ∷ rest) × Stay fs rest)

-- whether there is what came of the first task
abbrev pub is_first_there : {R : Type 0} → List (Option R) → Bool
is_first_there [] = false
is_first_there (Some r ∷ outs) = true
is_first_there (None ∷ outs) = false

-- The tasks of a line from this number on, with what is kept of each: of one that is over, what came of it; the others are those that run, in the same order, each under its number.
abbrev pub Fits : {J F : Type 0} → ℕ → List J → List (Option J) → List (Live J F) → Type 0
Fits n [] [] live = live ≡ []
Fits n [] (_ ∷ _) live = ⊥
Fits n (_ ∷ _) [] live = ⊥
Fits n (t ∷ ts) (Some ran ∷ outs) live = (ran ≡ t) × Fits (n + 1) ts outs live
Fits {J} {F} n (t ∷ ts) (None ∷ outs) live = (l : Live J F) × (ls : List (Live J F)) × (live ≡ l ∷ ls) × (l.number ≡ n) × (l.running ≡ t) × Fits (n + 1) ts outs ls
