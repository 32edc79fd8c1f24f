-- machine: what a reader sends of its source.
use Rattle.std.specs.Prelude.{◌≡◌, ◌⊎◌, ℕ, Bool, true, false, not, ◌&&◌, List, [], ◌∷◌, ◌++◌, Option, IfSome}
use Rattle.cf_bytes.specs.Outside.{HasRisen}
use Rattle.cf_conn.specs.Source.{with_front}
use Rattle.cf_tasks.specs.declared.entry.Item.{Item}
use Rattle.cf_tasks.specs.Queue.{entry}
use Rattle.cf_outside.specs.declared.entry.EntryKind.{EntryKind}
use Rattle.cf_outside.specs.declared.entry.EntryKind.TheVariants.{Got, Tick, Last}

abbrev pub bytes_of : EntryKind → List ℕ
bytes_of (Got p) = p
bytes_of (Tick s) = []
bytes_of Last = []

abbrev pub is_last : EntryKind → Bool
is_last (Got p) = false
is_last (Tick s) = false
is_last Last = true

-- the pieces, joined
abbrev pub bytes_in : List (Item EntryKind) → List ℕ
bytes_in [] = []
bytes_in (e ∷ es) = bytes_of e.kind ++ bytes_in es

-- there is no last entry
abbrev pub is_open : List (Item EntryKind) → Bool
is_open [] = true
is_open (e ∷ es) = not (is_last e.kind) && is_open es

module _ {S : Type 0} (left : S → Option (List ℕ)) where
  -- the source gave these bytes
  abbrev pub Gives : S → List ℕ → S → Type 0
  Gives before bytes after = left before ≡ with_front bytes (left after)

  module _ (faults : S → ℕ) where
    -- one piece was read and sent
    abbrev pub Goes : ℕ → S → List (Item EntryKind) → List (Item EntryKind) → S → Type 0
    Goes p before sent sent' after = (bytes : List ℕ) × (sent' ≡ sent ++ entry p (Got bytes) ∷ []) × Gives before bytes after × (faults after ≡ faults before)

    module _ (ended : S → Bool) where
      -- the source is at its end, or a fault came
      abbrev pub Ends : S → S → Type 0
      Ends before after = ((ended after ≡ true) × IfSome (left after) (λ bytes. bytes ≡ [])) ⊎ HasRisen (faults before) (faults after)

      -- the last entry was sent, or one came back, which was counted
      abbrev pub Stops : ℕ → S → List (Item EntryKind) → ℕ → List (Item EntryKind) → ℕ → S → Type 0
      Stops p before sent returned sent' returned' after =
          ((sent' ≡ sent ++ entry p Last ∷ []) × Gives before [] after × Ends before after)
          ⊎ ((sent' ≡ sent) × HasRisen returned returned' × ((lost : List ℕ) × Gives before lost after))

      -- the pieces are the first bytes that the source gave. A last entry comes only after its end or a fault, with all that it gave, and nothing follows it
      abbrev pub Reads : S → List (Item EntryKind) → S → Type 0
      Reads before sent after =
          (lost : List ℕ) × Gives before (bytes_in sent ++ lost) after
          × ((is_open sent ≡ true) ⊎ ((es : List (Item EntryKind)) × (e : Item EntryKind) × (sent ≡ es ++ e ∷ []) × (is_open es ≡ true) × (e.kind ≡ Last) × (lost ≡ []) × Ends before after))

-- a last entry stands there
abbrev pub HasLast : List (Item EntryKind) → Type 0
HasLast es = is_open es ≡ false

-- a last entry was sent, or the count of entries that came back has risen
abbrev pub HasStopped : ℕ → List (Item EntryKind) → ℕ → Type 0
HasStopped returned sent returned' = HasLast sent ⊎ HasRisen returned returned'
