-- statement: of whom nothing is left to be blamed, who was answered, and who was asked all that is asked.
use Rattle.std.specs.Prelude.{◌≡◌, ℕ, [], false}
use Rattle.cf_headers.specs.Chain.{Chain, NoHashClash}
use Rattle.cf_wires.specs.Log.{Log}
use Rattle.cf_peer.specs.Trail.{trail}
use Rattle.cf_peer.specs.Asking.{Deserves, is_open}
use Rattle.cf_peer.specs.declared.mode.Mode.TheVariants.{Following}
use Rattle.cf_peer.specs.declared.peer.Cause.{Cause}
use Rattle.cf_sync.specs.Blame.{AreBlamed}
use Rattle.cf_sync.specs.Fetching.{AreBytes, IsAskedOutIn, IsBest, IsConnected, IsOmitting, IsQuiet, RightlyIn, Rule}
use Rattle.cf_sync.specs.Sync.{IsHashed}
use Rattle.cf_place.specs.Standing.{IsAnswered}

-- no connected peer deserves to be closed
abbrev pub IsInnocent : Log → Type 0
IsInnocent log = (p : ℕ) → IsConnected log p → (cause : Cause) → Deserves (trail log p) cause → ⊥

-- no connected peer claims a filter that was tested and omits an output's script
abbrev pub IsBlameless : Log → Type 0
IsBlameless log = (p : ℕ) → IsOmitting log p → ⊥

-- With nothing open, where no strings clash: what each claims of the best chain's fetched blocks on which they differ was tested, and nobody is left whose filter
-- omits something.
abbrev pub HasBlamed : Log → Type 0
HasBlamed log = AreBytes log → RightlyIn Following log → NoHashClash (IsHashed log []) → IsQuiet log → (chain : Chain) → IsBest log chain → AreBlamed log chain

-- each connected peer was sent the client's version, and what is owed to its messages
abbrev pub AreAnswered : Log → Type 0
AreAnswered log = (p : ℕ) → IsConnected log p → IsAnswered (trail log p)

-- each connected peer with nothing open was asked all that the rule asks of it, by the best chain
abbrev pub AreAskedOut : Rule → Log → Type 0
AreAskedOut rule log = (chain : Chain) → IsBest log chain → (p : ℕ) → IsConnected log p
    → is_open (trail log p) ≡ false → IsAskedOutIn rule.mode rule.watch log chain p
