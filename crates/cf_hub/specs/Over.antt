-- machine: which peers have come to their end.
use Rattle.std.specs.Prelude.{◌≡◌, ℕ, ◌+◌, Bool, true, false, List, [], ◌∷◌, Option, Some, None, map, slice_index_or}
use Rattle.cf_tasks.specs.declared.entry.Item.{Item}
use Rattle.cf_tasks.specs.Queue.{of}
use Rattle.cf_outside.specs.declared.entry.EntryKind.{EntryKind}
use Rattle.cf_outside.specs.Pieces.{is_open}

abbrev pub is_there : {W : Type 0} → Option W → Bool
is_there None = false
is_there (Some w) = true

-- by their numbers, which peers have a writer: those whose dials went well
abbrev pub connections : {W : Type 0} → List (Option W) → List Bool
connections ws = map is_there ws

-- the numbers of those that are marked, in order, where the first has this number
abbrev pub numbers_from : ℕ → List Bool → List ℕ
numbers_from n [] = []
numbers_from n (true ∷ bs) = n ∷ numbers_from (n + 1) bs
numbers_from n (false ∷ bs) = numbers_from (n + 1) bs

-- of each peer that has a writer the last entry was noted
abbrev pub AllGone : {W : Type 0} → List (Option W) → List Bool → Type 0
AllGone ws gone = (p : ℕ) → slice_index_or (connections ws) p false ≡ true → slice_index_or gone p false ≡ true

-- of each peer that is noted a last entry was received
abbrev pub Heard : List Bool → List (Item EntryKind) → Type 0
Heard gone got = (p : ℕ) → slice_index_or gone p false ≡ true → is_open (of p got) ≡ false

-- of each peer that has a writer a last entry was received
abbrev pub HaveEnded : List Bool → List (Item EntryKind) → Type 0
HaveEnded peers got = (p : ℕ) → slice_index_or peers p false ≡ true → is_open (of p got) ≡ false
