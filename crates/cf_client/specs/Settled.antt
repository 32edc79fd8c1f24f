-- machine: what is true of a client's places and of what it has seen between two calls.
use Rattle.std.specs.Prelude.{◌≡◌, ℕ, true, List, [], is_some, unwrap_or, Some}
use Rattle.cf_bytes.specs.declared.peer.PeerNo.{PeerNo}
use Rattle.cf_dispute.specs.Claims.{Table, Tables}
use Rattle.cf_headers.specs.Chain.{Chain, Hash}
use Rattle.cf_headers.specs.Heights.{common_of}
use Rattle.cf_headers.specs.Store.{IsBest}
use Rattle.cf_tracker.specs.Seen.{Seen}
use Rattle.cf_match.specs.Verdicts.{Verdicts}
use Rattle.cf_peer.specs.declared.mode.Mode.{Mode}
use Rattle.cf_peer.specs.Peer.{IsRight}
use Rattle.cf_tables.specs.Known as known
use Rattle.cf_seek.specs.Opens.{Opens}
use Rattle.cf_seek.specs.Seeking.{ArePassed, AreSought}
use Rattle.cf_seek.specs.Testing.{IsTrial}
use Rattle.cf_tables.specs.Wanting.{AreClaimed}
use Rattle.cf_place.specs.declared.place.Place.{Place}
use Rattle.cf_place.specs.declared.place.Place.TheVariants.{Here, Lost}
use Rattle.cf_place.specs.Places.{place_at, is_here, is_idle, is_settled}

-- the peers that are connected are those that are tracked
abbrev pub AreEntered : List Place → Seen → Type 0
AreEntered places s = (p : ℕ) → is_here (place_at places p) ≡ is_some (s.chains p)

-- what is open to a connected peer agrees with what it claims
abbrev pub IsRightAt : Place → Table → Type 0
IsRightAt (Here peer) table = IsRight peer.request table
IsRightAt (Lost loss) table = Unit {0}

-- so it is of each peer
abbrev pub AreRight : List Place → Tables → Type 0
AreRight places tables = (p : ℕ) → IsRightAt (place_at places p) (tables p)

-- a peer's chain, genesis's where it isn't tracked
abbrev pub chain_at : Seen → ℕ → Chain
chain_at s p = unwrap_or (s.chains p) []

-- Of the blocks of a peer's chain up to a height, but for one with genesis's hash: it claims each; and there is none whose filter is to be asked for, or
-- that is to be fetched, and that is open to nobody.
pub record IsThrough (extracts : known.ExtractTable) (tables : Tables) (verdicts : Verdicts) (opens : Opens) (p : ℕ) (own : Chain) (common : ℕ) : Type 0 where
  pub claimed : AreClaimed tables p own common
  pub judged : AreSought extracts tables verdicts opens own common
  pub fetched : ArePassed extracts tables verdicts opens own common

-- of the fetched blocks on which they differ there is none on a peer's chain up to a height of which what it claims is to be tested
abbrev pub IsTriedThrough : Seen → ℕ → Chain → ℕ → Type 0
IsTriedThrough s p own common = (block : Hash) (h : ℕ) → IsTrial s.table s.claims s.trials.told p own common block h → ⊥

-- a peer with nothing open has nothing left to be asked about what it shares with the best chain
abbrev pub IsAskedThrough : Place → Seen → ℕ → Type 0
IsAskedThrough place s p =
    is_idle place ≡ true → (best : PeerNo) → IsBest s.chains (Some best)
    → IsThrough s.table s.claims s.verdicts s.opens p (chain_at s p) (common_of (chain_at s p) (chain_at s best.0))
    × IsTriedThrough s p (chain_at s p) (common_of (chain_at s p) (chain_at s best.0))

-- so it is with each of them
abbrev pub AreAskedThrough : List Place → Seen → Type 0
AreAskedThrough places s = (p : ℕ) → IsAskedThrough (place_at places p) s p

-- between two calls of the client: nobody's request is late, nobody is left to ask, and it tracks the connected peers
pub record AreSettled (mode : Mode) (places : List Place) (s : Seen) : Type 0 where
  pub each : (p : ℕ) → is_settled mode (place_at places p) ≡ true
  pub through : AreAskedThrough places s
  pub entered : AreEntered places s
