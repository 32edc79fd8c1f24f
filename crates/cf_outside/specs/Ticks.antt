-- machine: what a ticker sends of its pulse.
use Rattle.std.specs.Prelude.{◌≡◌, ◌⊎◌, ℕ, Bool, true, List, [], ◌∷◌, ◌++◌, Option}
use Rattle.cf_bytes.specs.Outside.{HasRisen, with_more}
use Rattle.cf_tasks.specs.declared.entry.Item.{Item}
use Rattle.cf_tasks.specs.Queue.{entry}
use Rattle.cf_outside.specs.declared.entry.EntryKind.{EntryKind}
use Rattle.cf_outside.specs.declared.entry.EntryKind.TheVariants.{Got, Tick, Last}

abbrev pub seconds_of : EntryKind → List ℕ
seconds_of (Got p) = []
seconds_of (Tick s) = s ∷ []
seconds_of Last = []

-- the ticks, in order
abbrev pub ticks : List (Item EntryKind) → List ℕ
ticks [] = []
ticks (e ∷ es) = seconds_of e.kind ++ ticks es

module _ {P : Type 0} (answers : P → Option (List ℕ)) where
  -- an answer came, and was sent
  abbrev pub TicksOn : ℕ → P → List (Item EntryKind) → List (Item EntryKind) → P → Type 0
  TicksOn p before sent sent' after = (s : ℕ) × (sent' ≡ sent ++ entry p (Tick s) ∷ []) × (answers after ≡ with_more (answers before) (s ∷ []))

  -- an answer came, and was not sent: the last entry was, since it was told to stop, or one came back, which was counted
  abbrev pub TicksOff : ℕ → P → List (Item EntryKind) → ℕ → List (Item EntryKind) → ℕ → P → Bool → Type 0
  TicksOff p before sent returned sent' returned' after told = (((sent' ≡ sent ++ entry p Last ∷ []) × (told ≡ true)) ⊎ ((sent' ≡ sent) × HasRisen returned returned')) × ((s : ℕ) × (answers after ≡ with_more (answers before) (s ∷ [])))

  -- what was sent is all of the answers but the last
  abbrev pub Ticked : P → List (Item EntryKind) → P → Type 0
  Ticked before sent after = (s : ℕ) × (answers after ≡ with_more (answers before) (ticks sent ++ s ∷ []))

-- it was told to stop, or an entry came back, which was counted
abbrev pub WasTold : Bool → ℕ → ℕ → Type 0
WasTold told returned returned' = (told ≡ true) ⊎ HasRisen returned returned'
