-- statement: the log as a client knew it that wasn't told yet of some failed sends.
use Rattle.std.specs.Prelude.{◌≡◌, ◌⊎◌, ℕ, ◌==◌, Bool, true, false, not, ◌&&◌, ◌||◌, if◌then◌else◌, [], ◌∷◌, ◌++◌}
use Rattle.cf_wires.specs.declared.event.Event.TheVariants.{SendFailed, Closed, Took}
use Rattle.cf_wires.specs.Log.{Log, tally_of}
use Rattle.cf_peer.specs.Trail.{Trail, Part, Called, Said, Refused, Passed, part_of, trail, is_connected, has_failed}
use Rattle.cf_peer.specs.Asking.{counted, fetched_blocks, given_filters}
use Rattle.cf_match.specs.declared.job.Job.{Job}
use Rattle.cf_headers.specs.Chain.{Hash}
use Rattle.cf_sync.specs.Fetching.{IsGiven, IsTest, IsTested, is_after_tick}

-- a send to this peer has failed since the last delivery, and the peer wasn't closed for it yet, so the client isn't told
abbrev pub is_untold : Log → ℕ → Bool
is_untold [] q = false
is_untold (SendFailed p ∷ log) q = (p.0 == q) || is_untold log q
is_untold (Closed p ∷ log) q = not (p.0 == q) && is_untold log q
is_untold (Took d ∷ log) q = false
is_untold (_ ∷ log) q = is_untold log q

-- the log just before the newest send to this peer that failed
abbrev pub before_failure : Log → ℕ → Log
before_failure [] q = []
before_failure (SendFailed p ∷ log) q = if p.0 == q then log else before_failure log q
before_failure (_ ∷ log) q = before_failure log q

-- what a client may have put on top of a peer's trail while it didn't know of a failed send: messages to the peer, and its loss;
-- nothing that the peer says, and no seconds that pass
abbrev pub IsMeant : Trail → Type 0
IsMeant [] = Unit {0}
IsMeant (Called ∷ t) = ⊥
IsMeant (Said m ∷ t) = ⊥
IsMeant (Refused c ∷ t) = ⊥
IsMeant (Passed s ∷ t) = ⊥
IsMeant (_ ∷ t) = IsMeant t

-- two parts of a peer are equal; or in both it was cut off and a send to it has failed, and both hold the same blocks that it brought
-- and the same filters that it gave
abbrev pub Alike : Part → Part → Type 0
Alike t u =
    (t ≡ u)
    ⊎ ((is_connected t.trail ≡ false) × (is_connected u.trail ≡ false) × (has_failed t.trail ≡ true) × (has_failed u.trail ≡ true) × (fetched_blocks (counted t.trail) ≡ fetched_blocks (counted u.trail)) × (given_filters (counted t.trail) ≡ given_filters (counted u.trail)))

-- a filter is to be tested by the one log as by the other
abbrev pub IsSameTest : Log → Log → ℕ → Hash → Type 0
IsSameTest planned log q block = (IsTest planned q block → IsTest log q block) × (IsTest log q block → IsTest planned q block)

-- of each block and filter: it was given by the one log where it was by the other
abbrev pub IsSameGiven : Log → Log → Type 0
IsSameGiven planned log = (job : Job) → (IsGiven planned job → IsGiven log job) × (IsGiven log job → IsGiven planned job)

-- of a peer whose failed send isn't told its part just before that send, with what was planned on top; of all others the actual part, or one that is alike: cut
-- off by a failed send as well, with the same blocks and filters brought; and as many peers were dialled; and the same filters were given and tested, and are to be tested of those others; and the last delivery is a tick of both or of neither
pub record IsPlanned (planned log : Log) : Type 0 where
  pub told : (q : ℕ) → is_untold log q ≡ false → Alike (part_of planned q) (part_of log q)
  pub untold : (q : ℕ) → is_untold log q ≡ true
      → (more : Trail) × (IsMeant more × (part_of planned q ≡ record (part_of (before_failure log q) q) { trail = more ++ trail (before_failure log q) q }))
  pub dials : (tally_of planned).dials ≡ (tally_of log).dials
  pub tested : (job : Job) → IsTested planned job → IsTested log job
  pub tests : (job : Job) → IsTested log job → IsTested planned job
  pub gave : IsSameGiven planned log
  pub ticked : is_after_tick planned ≡ is_after_tick log
  pub aims : (q : ℕ) → is_untold log q ≡ false → is_connected (trail log q) ≡ true → (block : Hash) → IsSameTest planned log q block
