-- statement: a peer whose chain grows while it answers, and what it is promised by a client that follows.
use Rattle.std.specs.Prelude.{◌≡◌, ◌≢◌, ℕ, zero, suc, ◌≤◌, pos, Bool, true, false, ◌||◌, List, [], ◌∷◌, ◌++◌, length, take, Option, Some, None}
use Rattle.cf_bytes.specs.declared.hash.Hash32.{Hash32}
use Rattle.cf_block.specs.declared.tx.Block.{Block}
use Rattle.cf_chain.specs.Good.{IsGoodChain, headers_of}
use Rattle.cf_chain.specs.Grow.{top_hash, announcement, growing_answers}
use Rattle.cf_headers.specs.Chain.{Hash, Chain, IsWithinLimit, NoHashClash}
use Rattle.cf_headers.specs.Shown.{Shows}
use Rattle.cf_msg.specs.declared.msg.Inventory.{Inventory}
use Rattle.cf_msg.specs.declared.msg.Msg.{Msg}
use Rattle.cf_msg.specs.declared.msg.Msg.TheVariants.{Pong, Inv}
use Rattle.cf_msg.specs.Message.{is_version}
use Rattle.cf_wires.specs.Log.{Log}
use Rattle.cf_peer.specs.Trail.{Trail, Called, Said, Refused, Asked, trail}
use Rattle.cf_peer.specs.Asking.{lists}
use Rattle.cf_scan.specs.declared.history.Entry.{Entry as HistoryEntry}
use Rattle.cf_sync.specs.Fetching.{IsConnected, IsQuiet, counted_part}
use Rattle.cf_sync.specs.Honesty.{is_chatter, IsAnswer, InTime, Stays, was_called, IsNeverClosed}
use Rattle.cf_sync.specs.Sync.{IsHashed, IsHistoryOf}

-- ---- what it says

-- Blocks are those of its chain in the end, the lowest first. As it grows it has the lower ones of them. Where it
-- stands: the height of the chain that it answered at or announced last; whether a version was answered; the rest of
-- the answer that it gives; and what it was asked besides, the oldest first.
pub record Turn : Type 0 where
  pub height : ℕ
  pub met : Bool
  pub left : List Msg
  pub asked : List Msg

-- It takes up the next message once the answer before is given: what it then has to say, by the chain of its height.
abbrev pub left_then : List Block → Bool → List Msg → List Msg → List Msg
left_then blocks met (n ∷ left) asked = n ∷ left
left_then blocks met [] [] = []
left_then blocks met [] (q ∷ asked) = growing_answers (pos 0) 0 blocks met q

-- whether a version was answered then
abbrev pub met_then : Bool → List Msg → List Msg → Bool
met_then met (n ∷ left) asked = met
met_then met [] [] = met
met_then met [] (q ∷ asked) = met || is_version q

-- what it hasn't taken up then
abbrev pub asked_then : List Msg → List Msg → List Msg
asked_then (n ∷ left) asked = asked
asked_then [] [] = []
asked_then [] (q ∷ asked) = asked

-- where it stands once it has taken up the next message
abbrev pub taking_up : List Block → Turn → Turn
taking_up blocks s = record {
  height = s.height;
  met = met_then s.met s.left s.asked;
  left = left_then (take s.height blocks) s.met s.left s.asked;
  asked = asked_then s.left s.asked;
}

-- and once it has taken up so many
abbrev pub taken_up : ℕ → List Block → Turn → Turn
taken_up zero blocks s = s
taken_up (suc n) blocks s = taken_up n blocks (taking_up blocks s)

-- what it may say at any time, and is no answer
abbrev pub is_small_talk : Msg → Bool
is_small_talk (Inv entries) = false
is_small_talk (Pong number) = false
is_small_talk m = is_chatter m

-- between two answers it announces the chain that it answered at, or a higher one
pub record Announces (blocks : List Block) (entries : List Inventory) (s now : Turn) : Type 0 where
  pub between : s.left ≡ []
  pub height : ℕ
  pub up : s.height ≤ height
  pub low : height ≤ length blocks
  pub tip : Inv entries ≡ announcement (top_hash (take height blocks))
  pub next : now ≡ record s { height = height }

-- it says the next message of the answer that it gives
pub record SaysNext (m : Msg) (s now : Turn) : Type 0 where
  pub due : Msg
  pub rest : List Msg
  pub left : s.left ≡ due ∷ rest
  pub answer : IsAnswer m due
  pub next : now ≡ record s { left = rest }

-- small talk leaves it where it stands
abbrev pub SaysPlain : Bool → Msg → Turn → Turn → Type 0
SaysPlain true m s now = now ≡ s
SaysPlain false m s now = SaysNext m s now

-- any message but an announcement is small talk or the next of its answer
abbrev pub SaysNow : List Block → Msg → Turn → Turn → Type 0
SaysNow blocks (Inv entries) s now = Announces blocks entries s now
SaysNow blocks m s now = SaysPlain (is_small_talk m) m s now

-- a message, once it has taken up so many of those that it was asked
abbrev pub Says : List Block → Msg → Turn → Turn → Type 0
Says blocks m s now = (n : ℕ) × SaysNow blocks m (taken_up n blocks s) now

-- before all else it has the chain of this height
abbrev pub new_turn : ℕ → Turn
new_turn first = record { height = first; met = false; left = []; asked = [] }

-- where it may stand after all that passed since it was dialled: each whole frame of it spells a message, and the
-- bytes behind them aren't bad
abbrev pub Reaches : List Block → ℕ → Trail → Turn → Type 0
Reaches blocks first [] s = s ≡ new_turn first
Reaches blocks first (Called ∷ t) s = s ≡ new_turn first
Reaches blocks first (Said m ∷ t) s = (before : Turn) × Reaches blocks first t before × Says blocks m before s
Reaches blocks first (Refused c ∷ t) s = ⊥
Reaches blocks first (Asked m ∷ t) s =
    (before : Turn) × Reaches blocks first t before × (s ≡ record before { asked = before.asked ++ m ∷ [] })
Reaches blocks first (_ ∷ t) s = Reaches blocks first t s

-- at every moment of the log p has answered so, and in time; no dial of it has failed, it hasn't gone, and no send to it has failed
abbrev pub IsGrowingOver : Log → ℕ → List Block → ℕ → Type 0
IsGrowingOver [] p blocks first = Unit {0}
IsGrowingOver (e ∷ log) p blocks first =
    ((s : Turn) × Reaches blocks first (trail (e ∷ log) p) s) × InTime e log p × Stays e p
    × IsGrowingOver log p blocks first

-- a peer whose chain grows up to these blocks, from the chain of a height on
pub record IsGrowing (log : Log) (p : ℕ) (blocks : List Block) (first : ℕ) : Type 0 where
  pub good : IsGoodChain blocks
  pub low : IsWithinLimit (headers_of blocks)
  pub from : first ≤ length blocks
  pub dialled : was_called (trail log p) ≡ true
  pub growing : IsGrowingOver log p blocks first

-- ---- which chain it has told of

-- the hash that the first entry names, or what was there before
abbrev pub hash_first : List Inventory → Option Hash → Option Hash
hash_first [] before = before
hash_first (entry ∷ more) before = Some entry.hash.0

-- the hash that a message announces, or what was there before
abbrev pub told_by : Msg → Option Hash → Option Hash
told_by (Inv entries) before = hash_first entries before
told_by m before = before

-- the hash in its last announcement
abbrev pub last_told : Trail → Option Hash
last_told [] = None
last_told (Called ∷ t) = None
last_told (Said m ∷ t) = told_by m (last_told t)
last_told (_ ∷ t) = last_told t

-- the chain up to this height is the one with this tip, or the first where there is none
abbrev pub IsTip : List Block → ℕ → ℕ → Option Hash → Type 0
IsTip blocks first height None = height ≡ first
IsTip blocks first height (Some hash) = (height ≤ length blocks) × (top_hash (take height blocks) ≡ hash)

-- the chain up to this height is the one that it announced last, or the first where it announced none
abbrev pub IsTold : List Block → ℕ → Trail → ℕ → Type 0
IsTold blocks first t height = IsTip blocks first height (last_told t)

-- no other connected peer has shown another chain that is at least as long
abbrev pub OthersShowNone : Log → ℕ → List Block → Type 0
OthersShowNone log p blocks =
    (q : ℕ) (other : Chain) → q ≢ p → IsConnected log q → Shows (lists (counted_part log q)) other
    → length (headers_of blocks) ≤ length other → other ≡ headers_of blocks

-- ---- what follows

-- The follow theorem: where p grows, and no two of the strings that were hashed have one hash, p is never closed and
-- is still connected; and where no other connected peer has shown another chain at least as long as the one that p
-- told of last, with nothing open the tip and the history are those of that chain, each of its blocks scanned.
pub record FollowTheorem (watch : List (List ℕ)) (height : ℕ) (hash : Hash32) (entries : List HistoryEntry)
    (log : Log) : Type 0 where
  pub never : (p : ℕ) (blocks : List Block) (first : ℕ) → NoHashClash (IsHashed log blocks)
      → IsGrowing log p blocks first → IsNeverClosed log p
  pub somebody : (p : ℕ) (blocks : List Block) (first : ℕ) → NoHashClash (IsHashed log blocks)
      → IsGrowing log p blocks first → IsConnected log p
  pub exact : (p : ℕ) (blocks : List Block) (first top : ℕ) → NoHashClash (IsHashed log blocks)
      → IsGrowing log p blocks first → IsTold blocks first (trail log p) top
      → OthersShowNone log p (take top blocks) → IsQuiet log → IsHistoryOf watch (take top blocks) height hash entries
