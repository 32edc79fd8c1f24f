-- machine: the next bytes of a source, which can be looked at.
use Rattle.std.specs.Prelude.{◌≡◌, ℕ, ◌≤◌, ◌⊎◌, List, [], length, take, drop, option_map, Option, IfSome, Result, Ok, Err}
use Rattle.cf_conn.specs.Source.{with_front}
use Rattle.cf_bytes.specs.Outside.{HasRisen}
use Rattle.cf_conn.specs.declared.reading.ReadFail.{ReadFail}
use Rattle.cf_conn.specs.declared.reading.ReadFail.TheVariants as fails

-- the bytes that were read and not taken, and how many may still be read
pub record Pane : Type 0 where
  pub held : List ℕ
  pub room : ℕ

-- the bytes that count: those that are held, and of those that are left as many as may be read
abbrev pub seen : Pane → Option (List ℕ) → Option (List ℕ)
seen w left = with_front w.held (option_map (λ l. take w.room l) left)

-- the bytes behind those that count
abbrev pub beyond : Pane → Option (List ℕ) → Option (List ℕ)
beyond w left = option_map (λ l. drop w.room l) left

-- no more comes: no more may be read, or nothing is left
abbrev pub IsOver : Pane → Option (List ℕ) → Type 0
IsOver w left = (w.room ≡ 0) ⊎ IfSome left (λ l. l ≡ [])

-- so many bytes are held, or all that come
abbrev pub IsThere : ℕ → Pane → Option (List ℕ) → Type 0
IsThere n w left = (n ≤ length w.held) ⊎ IsOver w left

-- what reads do to the count of faults: it rises where the answer is Failed, and else stays; they don't answer TooBig
abbrev pub CountsReads : {X : Type 0} → Result X ReadFail → ℕ → ℕ → Type 0
CountsReads (Ok x) before after = after ≡ before
CountsReads (Err fails.TooBig) before after = ⊥
CountsReads (Err fails.Failed) before after = HasRisen before after
CountsReads (Err fails.NoMemory) before after = after ≡ before
