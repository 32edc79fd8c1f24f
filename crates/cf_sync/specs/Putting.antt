-- statement: the texts that a client which follows puts, one at each moment at rest where it differs from the last.
use Rattle.std.specs.Prelude.{◌≡◌, ℕ, bytes_eq, if◌then◌else◌, List, [], ◌∷◌}
use Rattle.cf_bytes.specs.declared.hash.Hash32.{Hash32}
use Rattle.cf_wires.specs.declared.event.Event.TheVariants.{Took}
use Rattle.cf_peer.specs.declared.mode.Mode.TheVariants.{Following}
use Rattle.cf_wires.specs.Log.{Log}
use Rattle.cf_scan.specs.declared.history.Entry.{Entry}
use Rattle.cf_scan.specs.HistoryText.{history_text}
use Rattle.cf_sync.specs.Fetching.{IsConnected, IsQuiet}
use Rattle.cf_sync.specs.Sync.{HasAskedIn}

-- one text more, unless it is the last one; the newest first
abbrev pub put : List ℕ → List (List ℕ) → List (List ℕ)
put text [] = text ∷ []
put text (last ∷ more) = if bytes_eq text last then last ∷ more else text ∷ last ∷ more

-- nothing is open, and somebody is there
pub record IsAtRest (log : Log) : Type 0 where
  pub quiet : IsQuiet log
  pub who : ℕ
  pub there : IsConnected log who

-- what was put by a moment right before the next delivery, or at the end, where this was put before: at rest the
-- history and the tip as they are known then
pub record PutsAt (watch : List (List ℕ)) (log : Log) (before now : List (List ℕ)) : Type 0 where
  pub at_rest : IsAtRest log
      → (height : ℕ) × ((hash : Hash32) × ((entries : List Entry)
      × (HasAskedIn Following watch height hash entries log × (now ≡ put (history_text entries height hash.0) before))))
  pub elsewhere : (IsAtRest log → ⊥) → now ≡ before

-- what was put before each delivery of the log
abbrev pub WerePut : List (List ℕ) → Log → List (List ℕ) → Type 0
WerePut watch [] texts = texts ≡ []
WerePut watch (Took d ∷ log) texts =
    (before : List (List ℕ)) × (WerePut watch log before × PutsAt watch log before texts)
WerePut watch (_ ∷ log) texts = WerePut watch log texts

-- and by now
abbrev pub ArePut : List (List ℕ) → Log → List (List ℕ) → Type 0
ArePut watch log texts = (before : List (List ℕ)) × (WerePut watch log before × PutsAt watch log before texts)

-- this is the last text
abbrev pub EndsWith : List ℕ → List (List ℕ) → Type 0
EndsWith text texts = (more : List (List ℕ)) × (texts ≡ text ∷ more)
