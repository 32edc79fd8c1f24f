-- machine: whose turn it is, and what is delivered then.
use Rattle.std.specs.Prelude.{◌≡◌, ◌≢◌, ◌⊎◌, ℕ, suc, ◌≤◌, ◌<◌, List, [], ◌∷◌, length, slice_get, slice_set, Option, Some, None}
use Rattle.cf_wires.specs.declared.event.Delivery.{Delivery}
use Rattle.cf_wires.specs.declared.event.Delivery.TheVariants.{Got, Gone, Tick, Ended}
use Rattle.cf_wires.specs.declared.event.Event.TheVariants.{Took}
use Rattle.cf_wires.specs.Log.{Log}
use Rattle.cf_played.specs.Peers.{Peer}
use Rattle.cf_played.specs.Waiting.{front_of, behind_front}

-- no bytes wait of the peers at these places, from one on and below another
pub record Rest (peers : List Peer) (from below : ℕ) : Type 0 where
  pub each : (i : ℕ) (peer : Peer) → slice_get peers i ≡ Some peer → from ≤ i → i < below → peer.waiting ≡ []

-- the first peer at or behind a place of whom bytes wait
pub record IsFirst (peers : List Peer) (from place : ℕ) : Type 0 where
  pub peer : Peer
  pub at : slice_get peers place ≡ Some peer
  pub behind : from ≤ place
  pub some : peer.waiting ≢ []
  pub none : Rest peers from place

abbrev pub IsFoundFrom : List Peer → ℕ → Option ℕ → Type 0
IsFoundFrom peers from (Some place) = IsFirst peers from place
IsFoundFrom peers from None = Rest peers from (length peers)

-- the first peer in turn from a place on of whom bytes wait, where behind the last one the first follows again; or there is none
abbrev pub IsTurn : List Peer → ℕ → Option ℕ → Type 0
IsTurn peers from (Some place) = IsFirst peers from place ⊎ (Rest peers from (length peers) × IsFirst peers 0 place)
IsTurn peers from None = Rest peers 0 (length peers)

-- the number of the peer that was served last, which is the place behind it; 0 where none was
abbrev pub last_served : Log → ℕ
last_served [] = 0
last_served (Took (Got q piece) ∷ log) = q.0
last_served (_ ∷ log) = last_served log

-- this piece was taken from the front of what waits of the peer at a place
pub record HasGiven (old : List Peer) (place : ℕ) (piece : List ℕ) (new : List Peer) : Type 0 where
  pub peer : Peer
  pub at : slice_get old place ≡ Some peer
  pub piece_is : piece ≡ front_of peer.waiting
  pub new_is : new ≡ slice_set old place (record peer { waiting = behind_front peer.waiting })

-- The next delivery: a piece of the peer whose turn it is, in turn from the one served last on; 60 seconds where no bytes wait of anybody.
abbrev pub IsNext : List Peer → ℕ → Delivery → List Peer → Type 0
IsNext old last (Got p piece) new = (place : ℕ) × (p.0 ≡ suc place) × IsTurn old last (Some place) × HasGiven old place piece new
IsNext old last (Tick s) new = (s ≡ 60) × IsTurn old last None × (new ≡ old)
IsNext old last (Gone p) new = ⊥
IsNext old last Ended new = ⊥
