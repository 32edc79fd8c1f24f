-- How many bytes a walk holds.
use Rattle.std.proofs.Common.{◌≡◌, ◌⊎◌, inl, inr, ℕ, ◌+◌, ◌<◌, ◌≤◌, List, length, drop, true, sym, subst, arith}
use Rattle.std.proofs.lemmas.Bool.{cases_lt}
use Rattle.std.proofs.lemmas.List.{length-drop}
use Rattle.cf_conn.proofs.Stepping.{more_steps, no_steps}
use Rattle.cf_conn.specs.Window.{Pane}
use Rattle.cf_walk.specs.Files.{all_zeros}
use Rattle.cf_walk.specs.Judging.{IsBlank}
use Rattle.cf_walk.specs.Records.{max_record}
use Rattle.cf_walk.specs.Striding.{StaysFew, most_held}

-- what isn't whole, and isn't blank, is shorter than the longest record
pub short_so_far : (bytes : List ℕ) → (all_zeros bytes ≡ true) ⊎ (length bytes < max_record + 8) → (IsBlank bytes → ⊥)
    → length bytes < max_record + 8
short_so_far bytes (inr short) never = short
short_so_far bytes (inl zeros) never = elim (cases_lt (length bytes) 8) [
  | inl few ↦ omega (arith, few)
  | inr many ↦ absurd (never (many, zeros))
]

-- a piece more than the longest record has, or no more than before
pub few_wanted : (before after : Pane) (n : ℕ) → n ≤ max_record + 8
    → (length after.held ≤ length before.held) ⊎ (length after.held < n + 65536) → StaysFew before after
few_wanted before after n small (inl fewer) = λ few. omega (arith, few, fewer)
few_wanted before after n small (inr piece) = λ few. omega (arith, small, piece)

-- what is taken is held no more
pub few_taken : (before after : Pane) (n : ℕ) → after ≡ record before { held = drop n before.held } → StaysFew before after
few_taken before after n is few =
    subst (λ (w : Pane). length w.held < most_held) (sym is) (omega (arith, few, length-drop n before.held))

-- what is held before a record is taken, and the steps to there
pub ruleset prepares = (short_so_far, few_wanted, no_steps, more_steps)
