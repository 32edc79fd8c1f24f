-- machine: whom tests expose: who claims a filter that was found to lack what its block pays.
use Rattle.std.specs.Prelude.{◌≡◌, ◌⊎◌, ℕ, List, Option, Some, None}
use Rattle.cf_headers.specs.Chain.{Hash, IsIn}
use Rattle.cf_peer.specs.declared.peer.Peer.{Peer}
use Rattle.cf_peer.specs.declared.peer.Reaction.{Reaction}
use Rattle.cf_peer.specs.declared.peer.Reaction.TheVariants.{Nothing as NoReply, Send, Close, Expose}
use Rattle.cf_peer.specs.Peer.{Holds}
use Rattle.cf_peer.specs.Trail.{Trail}
use Rattle.cf_seek.specs.Testing.{AreUnexposed, IsExposed}
use Rattle.cf_hear.specs.declared.stop.HearStop.{HearStop}
use Rattle.cf_hear.specs.declared.stop.HearStop.TheVariants.{Fault, Exposed}
use Rattle.cf_tracker.specs.Seen.{Seen}
use Rattle.cf_hear.specs.Seen.{Follows}

-- p is exposed by its claim of this block
abbrev pub IsExposedIn : Seen → ℕ → Hash → Hash → Type 0
IsExposedIn s p block filter = IsExposed s.claims s.trials.told p block filter

-- nobody is exposed
abbrev pub IsUnexposed : Seen → Type 0
IsUnexposed s = AreUnexposed s.claims s.trials.told

-- p is exposed by this; and whoever else is claims the same
pub record IsExposing (s : Seen) (p : ℕ) (block filter : Hash) : Type 0 where
  pub here : IsExposedIn s p block filter
  pub others : (q : ℕ) (at of : Hash) → IsExposedIn s q at of → (q ≡ p) ⊎ ((at ≡ block) × (of ≡ filter))

-- what was seen with a reply, where nobody was exposed before
abbrev pub Exposes : Seen → ℕ → Reaction → Type 0
Exposes s p NoReply = IsUnexposed s
Exposes s p (Send m) = IsUnexposed s
Exposes s p (Close cause) = IsUnexposed s
Exposes s p (Expose block filter) = IsExposing s p block.0 filter.0

-- what was seen with the reply to a peer that held any trail by which it was tracked, where nobody was exposed before
abbrev pub MayExpose : Seen → Seen → ℕ → Peer → Reaction → Type 0
MayExpose before after p peer reply =
    (t : Trail) → Holds peer t → Follows before p t → IsUnexposed before → Exposes after p reply

-- what was seen with the frame at the front of some bytes, if one is whole
abbrev pub ExposesNext : Seen → ℕ → Option Reaction → Type 0
ExposesNext s p None = IsUnexposed s
ExposesNext s p (Some reply) = Exposes s p reply

-- what was seen with a piece
abbrev pub ExposesLast : Seen → ℕ → Option HearStop → Type 0
ExposesLast s p None = IsUnexposed s
ExposesLast s p (Some (Fault cause)) = IsUnexposed s
ExposesLast s p (Some (Exposed e)) = IsExposing s p e.block.0 e.filter.0

-- the reply exposes p by its claim of one of these blocks, or it isn't exposed by any of them
abbrev pub ExposesAmong : Seen → ℕ → List Hash → Reaction → Type 0
ExposesAmong s p blocks NoReply = (block : Hash) → IsIn block blocks → (filter : Hash) → IsExposedIn s p block filter
    → ⊥
ExposesAmong s p blocks (Send m) = ⊥
ExposesAmong s p blocks (Close cause) = ⊥
ExposesAmong s p blocks (Expose block filter) = IsExposedIn s p block.0 filter.0
