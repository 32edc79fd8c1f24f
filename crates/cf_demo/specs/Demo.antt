-- statement: a demo: what is played, and what came of it.
use Rattle.std.specs.Prelude.{◌≡◌, ◌≢◌, ◌⊎◌, ℕ, suc, ◌+◌, ◌<◌, Bool, true, false, List, [], ◌∷◌, length, map, slice_get, codes, Option, Some}
use Rattle.std.specs.Str.{bytes_eq}
use Rattle.std.specs.List.{count_by, flat_map}
use Rattle.cf_block.specs.declared.tx.Block.{Block}
use Rattle.cf_block.specs.Commitment.{spelled_txs}
use Rattle.cf_block.specs.Merkle.{NoClash}
use Rattle.cf_bytes.specs.declared.hash.Hash32.{Hash32}
use Rattle.cf_chain.specs.Good.{IsGoodChain, headers_of}
use Rattle.cf_run.specs.declared.outcome.End.{End}
use Rattle.cf_run.specs.declared.outcome.End.TheVariants.{Synced, NoPeers, Tired, Ended}
use Rattle.cf_place.specs.Standing.{EndsTell}
use Rattle.cf_run.specs.declared.outcome.Outcome.{Outcome}
use Rattle.cf_run.specs.Run.{RanTo, IsEnd, names_of}
use Rattle.cf_run.specs.declared.trace.TraceLine.{TraceLine}
use Rattle.cf_run.specs.declared.trace.TraceLine.TheVariants.{Sent as SentLine, Closed as ClosedLine}
use Rattle.cf_demo.specs.declared.demo.Demo.{Demo}
use Rattle.cf_demo.specs.declared.unplayed.Unplayed.{Unplayed}
use Rattle.cf_demo.specs.declared.unplayed.Unplayed.TheVariants.{NoNonce, Clash, NoMemory}
use Rattle.cf_demo.specs.Playing.{Accounts}
use Rattle.cf_demo.specs.Three.{AreThree}
use Rattle.cf_headers.specs.Chain.{NoHashClash, tip_hash}
use Rattle.cf_make.specs.Made.{IsExtension, StopsAt, script_of}
use Rattle.cf_msg.specs.Command.{getdata_command}
use Rattle.cf_msg.specs.declared.msg.Msg.{Msg}
use Rattle.cf_msg.specs.declared.msg.Msg.TheVariants.{GetData}
use Rattle.cf_wires.specs.declared.event.Event.{Event}
use Rattle.cf_wires.specs.declared.event.Event.TheVariants.{Sent, Closed}
use Rattle.cf_wires.specs.Log.{Log, tally_of}
use Rattle.cf_peer.specs.Trail.{spelled}
use Rattle.cf_played.specs.declared.kind.Manner.TheVariants.{Honest as HonestKind}
use Rattle.cf_played.specs.declared.kind.Way.{Way}
use Rattle.cf_played.specs.declared.kind.Way.TheVariants.{Honest, Omits, Silent}
use Rattle.cf_played.specs.Peers.{Peer, still}
use Rattle.cf_played.specs.Told.{HasAdded}
use Rattle.cf_scan.specs.declared.history.Entry.{Entry}
use Rattle.cf_scan.specs.Scan.{balance_of, scan_of}
use Rattle.cf_sync.specs.Fetching.{IsConnected, IsQuiet, once}
use Rattle.cf_sync.specs.Honesty.{IsHonest}
use Rattle.cf_sync.specs.Sync.{IsHashed, SyncTheorem}

-- ---- what is played

-- the scripts that are watched, which the first peer's filters leave out
abbrev pub demo_watch : List (List ℕ)
demo_watch = script_of 0 ∷ script_of 1 ∷ []

-- the names of a demo's three peers
abbrev pub demo_names : List (List ℕ)
demo_names = codes "peer1" ∷ codes "peer2" ∷ codes "peer3" ∷ []

-- the name of a session's one peer
abbrev pub session_names : List (List ℕ)
session_names = codes "peer1" ∷ []

-- the most deliveries that are taken
abbrev pub most_deliveries : ℕ
most_deliveries = 10000000

-- a peer that answers in this way, on this chain, with nothing waiting
abbrev pub peer_on : Way → List Block → Peer
peer_on way blocks = record { blocks = blocks; way = way; waiting = [] }

-- one leaves scripts out of its filters, one is silent, and one is honest
abbrev pub three_peers : List Block → List Block → List Block → List Peer
three_peers first second third = peer_on Omits first ∷ peer_on Silent second ∷ peer_on Honest third ∷ []

-- these are the peers, where the chains are good
abbrev pub ArePlayed : ℕ → ℕ → List Peer → Type 0
ArePlayed seed blocks peers =
    (chain longer : List Block) → IsExtension [] seed blocks chain → IsExtension [] (seed + 1) (blocks + 2) longer → IsGoodChain chain → IsGoodChain longer
    → map still peers ≡ three_peers chain longer chain

-- ---- why nothing was played

-- the seed makes a chain of so many blocks
abbrev pub IsMade : ℕ → ℕ → Type 0
IsMade seed blocks = (chain : List Block) × IsExtension [] seed blocks chain

-- it makes one of which two different transactions have one hash
abbrev pub IsClashing : ℕ → ℕ → Type 0
IsClashing seed blocks = (chain : List Block) × IsExtension [] seed blocks chain × (NoClash (flat_map spelled_txs chain) → ⊥)

-- it makes none, and this is the lowest height at which no nonce serves; or two of its transactions have one hash
abbrev pub IsUnmade : ℕ → ℕ → Unplayed → Type 0
IsUnmade seed blocks (NoNonce at) = StopsAt [] seed blocks at.height
IsUnmade seed blocks Clash = IsClashing seed blocks
IsUnmade seed blocks NoMemory = Unit {0}

-- so it is of a demo's chain, or, where that is made, of its longer one
abbrev pub IsUnplayed : ℕ → ℕ → Unplayed → Type 0
IsUnplayed seed blocks why = IsUnmade seed blocks why ⊎ (IsMade seed blocks × IsUnmade (seed + 1) (blocks + 2) why)

-- three peers, on these chains where they are good
pub record AreAdded (chain longer : List Block) (peers : List Peer) : Type 0 where
  pub first : List Block
  pub second : List Block
  pub third : List Block
  pub are : peers ≡ three_peers first second third
  pub same_first : IsGoodChain chain → first ≡ chain
  pub same_second : IsGoodChain longer → second ≡ longer
  pub same_third : IsGoodChain chain → third ≡ chain

-- the peers of a demo, and that of a session
pub record HavePrepared (seed blocks : ℕ) (peers : List Peer) : Type 0 where
  pub chain : List Block
  pub longer : List Block
  pub made : IsExtension [] seed blocks chain
  pub made_longer : IsExtension [] (seed + 1) (blocks + 2) longer
  pub added : AreAdded chain longer peers

-- one honest peer was added, on the chain of so many blocks that a seed makes
pub record HasPrepared (seed blocks : ℕ) (peers : List Peer) : Type 0 where
  pub chain : List Block
  pub made : IsExtension [] seed blocks chain
  pub added : HasAdded chain HonestKind [] peers

-- a peer on a chain was refused for this
abbrev pub IsRefusedFor : List Block → Unplayed → Type 0
IsRefusedFor chain (NoNonce at) = ⊥
IsRefusedFor chain Clash = IsGoodChain chain → ⊥
IsRefusedFor chain NoMemory = Unit {0}

-- ---- counts of a log

-- a message is a `getdata`
abbrev pub is_getdata : Option Msg → Bool
is_getdata (Some (GetData entries)) = true
is_getdata m = false

-- a getdata was sent
abbrev pub is_fetch : Event → Bool
is_fetch (Sent p bytes) = is_getdata (spelled bytes)
is_fetch _ = false

-- a peer was closed
abbrev pub is_close : Event → Bool
is_close (Closed p) = true
is_close _ = false

-- so it is of a line of a trace
abbrev pub is_fetch_line : TraceLine → Bool
is_fetch_line (SentLine p command) = bytes_eq command getdata_command
is_fetch_line (ClosedLine p cause) = false

-- a line of a trace tells of a close
abbrev pub is_close_line : TraceLine → Bool
is_close_line (SentLine p command) = false
is_close_line (ClosedLine p cause) = true

-- ---- what came of it

-- where no strings clash
abbrev pub IsApart : List Block → List Block → Log → Type 0
IsApart chain longer log = NoHashClash (IsHashed log chain) × NoHashClash (IsHashed log longer)

-- the history and the tip are those of this chain
pub record IsDemoOf (chain : List Block) (demo : Demo) : Type 0 where
  pub entries : demo.entries ≡ length (scan_of chain demo_watch)
  pub balance : demo.balance ≡ balance_of (scan_of chain demo_watch)
  pub tip : demo.tip.0 ≡ tip_hash (headers_of chain)

-- a run over these peers, new to it, has come to this
pub record HasRunOver (watch : List (List ℕ)) (peers : List Peer) (names : List (List ℕ)) (outcome : Outcome) (log : Log) : Type 0 where
  pub followed : RanTo (once watch) outcome.end outcome.height outcome.tip outcome.history outcome.trace.items names log
  pub stand : EndsTell outcome.ends.items log
  pub theorem : SyncTheorem watch outcome.height outcome.tip outcome.history log
  pub honest : (i : ℕ) (peer : Peer) → slice_get peers i ≡ Some peer → peer.way ≡ Honest → i < length names → NoHashClash (IsHashed log peer.blocks) → IsHonest log (suc i) peer.blocks
  pub accounts : Accounts log peers
  pub tired : outcome.end ≡ Tired → (tally_of log).taken ≡ most_deliveries
  pub dials : (tally_of log).dials ≡ length names

-- it tells what came of a run
pub record IsToldBy (outcome : Outcome) (demo : Demo) : Type 0 where
  pub end : demo.end ≡ outcome.end
  pub ends : demo.ends.items ≡ outcome.ends.items
  pub entries : demo.entries ≡ length outcome.history
  pub balance : demo.balance ≡ balance_of outcome.history
  pub fetched : demo.fetched ≡ count_by is_fetch_line outcome.trace.items
  pub closed : demo.closed ≡ count_by is_close_line outcome.trace.items
  pub tip : demo.tip ≡ outcome.tip

-- What a demo tells, by its log: over three peers on two made chains, of which the honest one's chain is told once nothing is open. It ends for one of three reasons.
pub record IsDemo (seed blocks : ℕ) (demo : Demo) (log : Log) : Type 0 where
  pub chain : List Block
  pub longer : List Block
  pub made : IsExtension [] seed blocks chain
  pub made_longer : IsExtension [] (seed + 1) (blocks + 2) longer
  pub dials : (tally_of log).dials ≡ 3
  pub names : names_of log ≡ demo_names
  pub three : IsGoodChain chain → IsGoodChain longer → AreThree chain longer log
  pub stand : EndsTell demo.ends.items log
  pub fetched : demo.fetched ≡ count_by is_fetch log
  pub closed : demo.closed ≡ count_by is_close log
  pub why : IsEnd demo.end log
  pub synced : demo.end ≡ Synced → IsApart chain longer log → IsDemoOf chain demo
  pub somebody : demo.end ≡ NoPeers → NoHashClash (IsHashed log chain) → ⊥
  pub tired : demo.end ≡ Tired → (tally_of log).taken ≡ most_deliveries
  pub unended : demo.end ≢ Ended

-- a run has ended so, whatever it tells
pub record HasRun (watch : List (List ℕ)) (names : List (List ℕ)) (log : Log) : Type 0 where
  pub end : End
  pub height : ℕ
  pub tip : Hash32
  pub entries : List Entry
  pub lines : List TraceLine
  pub followed : RanTo (once watch) end height tip entries lines names log

-- A run over one honest peer on a made chain, until nothing is open or so many deliveries were taken.
pub record IsSession (seed blocks : ℕ) (log : Log) : Type 0 where
  pub chain : List Block
  pub made : IsExtension [] seed blocks chain
  pub dials : (tally_of log).dials ≡ 1
  pub run : HasRun demo_watch session_names log
  pub honest : NoHashClash (IsHashed log chain) → IsHonest log 1 chain
  pub connected : NoHashClash (IsHashed log chain) → IsConnected log 1
  pub quiet : IsQuiet log ⊎ ((tally_of log).taken ≡ most_deliveries)
