-- statement: the headline, by what is written alone: what an honest peer is and what it is promised. Nothing here knows
-- how bytes are read, what is open, or what a client keeps.
use Rattle.std.specs.Prelude.{◌≡◌, ◌≢◌, ◌⊎◌, ℕ, ◌+◌, ◌≤◌, ◌==◌, pos, Bool, true, false, not, ◌&&◌, ◌||◌, if◌then◌else◌, List, [], ◌∷◌, ◌++◌, map, length}
use Rattle.std.specs.List.{flat_map, AllByRecursion}
use Rattle.cf_block.specs.declared.header.Header.{Header}
use Rattle.cf_block.specs.declared.tx.Block.{Block}
use Rattle.cf_block.specs.Header.{header_spelling, genesis_header}
use Rattle.cf_chain.specs.Good.{IsGoodChain, headers_of}
use Rattle.cf_chain.specs.Serve.{replies}
use Rattle.cf_frame.specs.declared.frame.Frame.{Frame}
use Rattle.cf_frame.specs.Frame.{IsFrame, spelling}
use Rattle.cf_headers.specs.Chain.{Chain, IsIn, NoHashClash, tip_hash}
use Rattle.cf_headers.specs.Shown.{Shows}
use Rattle.cf_msg.specs.declared.msg.Msg.{Msg}
use Rattle.cf_msg.specs.declared.msg.Msg.TheVariants.{Headers}
use Rattle.cf_peer.specs.Acts.{bytes_of, IsSendable}
use Rattle.cf_wires.specs.declared.event.Delivery.TheVariants.{Got, Gone, Tick}
use Rattle.cf_wires.specs.declared.event.Event.TheVariants.{Dialled, NotDialled, Sent, SendFailed, Closed, Took}
use Rattle.cf_wires.specs.Log.{Log}
use Rattle.cf_scan.specs.Scan.{scan_of}
use Rattle.cf_scan.specs.HistoryText.{history_text}
use Rattle.cf_sync.specs.Honesty.{plain, IsPrefixOf, Stays, IsNeverClosed}
use Rattle.cf_sync.specs.Sync.{strings_of, IsOfBlocks}

-- ---- what passed

-- the bytes that came from p since it was dialled, in order
abbrev pub bytes_from : Log → ℕ → List ℕ
bytes_from [] p = []
bytes_from (Dialled q name ∷ log) p = if q.0 == p then [] else bytes_from log p
bytes_from (Took (Got q piece) ∷ log) p = if q.0 == p then bytes_from log p ++ piece else bytes_from log p
bytes_from (_ ∷ log) p = bytes_from log p

-- what was sent to p since it was dialled, in order
abbrev pub sends_to : Log → ℕ → List (List ℕ)
sends_to [] p = []
sends_to (Dialled q name ∷ log) p = if q.0 == p then [] else sends_to log p
sends_to (Sent q bytes ∷ log) p = if q.0 == p then sends_to log p ++ bytes ∷ [] else sends_to log p
sends_to (_ ∷ log) p = sends_to log p

-- p was dialled
abbrev pub was_dialled : Log → ℕ → Bool
was_dialled [] p = false
was_dialled (Dialled q name ∷ log) p = (q.0 == p) || was_dialled log p
was_dialled (_ ∷ log) p = was_dialled log p

-- p was dialled, and isn't lost since
abbrev pub is_there : Log → ℕ → Bool
is_there [] p = false
is_there (Dialled q name ∷ log) p = (q.0 == p) || is_there log p
is_there (NotDialled q name ∷ log) p = not (q.0 == p) && is_there log p
is_there (SendFailed q ∷ log) p = not (q.0 == p) && is_there log p
is_there (Closed q ∷ log) p = not (q.0 == p) && is_there log p
is_there (Took (Gone q) ∷ log) p = not (q.0 == p) && is_there log p
is_there (_ ∷ log) p = is_there log p

-- the seconds that have passed
abbrev pub seconds_in : Log → ℕ
seconds_in [] = 0
seconds_in (Took (Tick s) ∷ log) = seconds_in log + s
seconds_in (_ ∷ log) = seconds_in log

-- ---- what bytes say

-- bytes begin with these messages, as they are written
pub record Says (ms : List Msg) (bytes : List ℕ) : Type 0 where
  pub fit : AllByRecursion IsSendable ms
  pub rest : List ℕ
  pub joined : bytes ≡ flat_map bytes_of ms ++ rest

-- and nothing follows them but a beginning of one more
pub record SaysAll (ms : List Msg) (bytes : List ℕ) : Type 0 where
  pub says : Says ms bytes
  pub next : Msg
  pub fits : IsSendable next
  pub more : List ℕ
  pub some : more ≢ []
  pub begun : says.rest ++ more ≡ bytes_of next

-- bytes are whole frames, as they are written, and then this message and more
pub record StandsIn (m : Msg) (bytes : List ℕ) : Type 0 where
  pub fits : IsSendable m
  pub frames : List Frame
  pub each : AllByRecursion IsFrame frames
  pub rest : List ℕ
  pub joined : bytes ≡ flat_map spelling frames ++ (bytes_of m ++ rest)

-- these messages were sent to p
abbrev pub WasSent : List Msg → Log → ℕ → Type 0
WasSent ms log p = AllByRecursion IsSendable ms × (map bytes_of ms ≡ sends_to log p)

-- ---- an honest peer

-- the machine's answers to messages
abbrev pub machine : List Block → List Msg → List Msg
machine blocks ms = replies (pos 0) 0 blocks false ms

-- what p has said, without chatter, is a beginning of the machine's answers to what it was sent; and all of them to
-- what it was sent 60 seconds ago or more
pub record IsHonestAt (log : Log) (p : ℕ) (blocks : List Block) : Type 0 where
  pub said : List Msg
  pub asked : List Msg
  pub says : SaysAll said (bytes_from log p)
  pub sent : WasSent asked log p
  pub follows : IsPrefixOf (plain said) (machine blocks asked)
  pub in_time : (later older : Log) (before : List Msg) → later ++ older ≡ log → 60 ≤ seconds_in later
      → WasSent before older p
      → length (machine blocks before) ≤ length (plain said)

-- so it was at every moment, and p never went
abbrev pub WasHonest : Log → ℕ → List Block → Type 0
WasHonest [] p blocks = Unit {0}
WasHonest (e ∷ log) p blocks = IsHonestAt (e ∷ log) p blocks × Stays e p × WasHonest log p blocks

-- a string of a message that stands in what had come from somebody by some moment
abbrev pub IsCarried : Log → List ℕ → Type 0
IsCarried [] bytes = ⊥
IsCarried (e ∷ log) bytes =
    ((q : ℕ) × ((m : Msg) × (StandsIn m (bytes_from (e ∷ log) q) × IsIn bytes (strings_of m)))) ⊎ IsCarried log bytes

-- one of those, or of the chain, or genesis's header
abbrev pub IsString : Log → List Block → List ℕ → Type 0
IsString log blocks bytes = (bytes ≡ header_spelling genesis_header) ⊎ (IsCarried log bytes ⊎ IsOfBlocks blocks bytes)

-- a peer that answers as the serving machine of a good chain does, over a log whose strings don't clash
pub record IsServing (log : Log) (p : ℕ) (blocks : List Block) : Type 0 where
  pub good : IsGoodChain blocks
  pub dialled : was_dialled log p ≡ true
  pub honest : WasHonest log p blocks
  pub apart : NoHashClash (IsString log blocks)

-- the lists of headers among messages
abbrev pub lists_of : List Msg → List (List Header)
lists_of [] = []
lists_of (Headers hs ∷ ms) = hs ∷ lists_of ms
lists_of (_ ∷ ms) = lists_of ms

-- nobody who is still there has shown another chain that is at least as long
abbrev pub IsLongest : Log → List Block → Type 0
IsLongest log blocks =
    (q : ℕ) (ms : List Msg) (other : Chain) → is_there log q ≡ true → Says ms (bytes_from log q)
    → Shows (lists_of ms) other
    → length blocks ≤ length other → other ≡ headers_of blocks

-- ---- what is promised

-- the text of a plain scan of every block of a chain
abbrev pub scan_lines : List Block → List (List ℕ) → List ℕ
scan_lines blocks scripts = history_text (scan_of blocks scripts) (length blocks) (tip_hash (headers_of blocks))

-- The headline. done: the run has answered Done; text: what it has written.
pub record Headline (done : Type 0) (scripts : List (List ℕ)) (text : List ℕ) (log : Log) : Type 0 where
  pub exact : (p : ℕ) (blocks : List Block) → IsServing log p blocks → IsLongest log blocks → done
      → text ≡ scan_lines blocks scripts
  pub never : (p : ℕ) (blocks : List Block) → IsServing log p blocks → IsNeverClosed log p
