-- statement: what peers in memory tell.
use Rattle.std.specs.Prelude.{◌≡◌, Bool, List, [], ◌∷◌, ◌++◌, map, reverse, Some, Result, Ok, Err}
use Rattle.cf_block.specs.declared.tx.Block.{Block}
use Rattle.cf_bytes.specs.declared.memory.Refused.{Refused}
use Rattle.cf_bytes.specs.declared.memory.Refused.TheVariants.{No, NoMemory}
use Rattle.cf_walk.specs.declared.cause.BadBlock.{BadBlock}
use Rattle.cf_chain.specs.Good.{IsGoodChain}
use Rattle.cf_played.specs.declared.kind.Manner.{Manner}
use Rattle.cf_played.specs.Ways.{way_of}
use Rattle.cf_played.specs.declared.played.Played.{Played}
use Rattle.cf_played.specs.Peers.{Peer, shown}
use Rattle.cf_wires.specs.Log.{Log, Told, tally_of}

-- the log, the newest entry first
abbrev pub log_of : Played → Log
log_of w = reverse w.log.items

-- what these wires tell: always their log
abbrev pub told_of : Played → Told
told_of w = record { log = Some (log_of w); tally = tally_of (log_of w); finished = w.finished }

-- whether the log is kept for a session
abbrev pub keeps_of : Played → Bool
keeps_of w = w.keeps

-- whether the wires are finished
abbrev pub finished_of : Played → Bool
finished_of w = w.finished

-- the peers, that with number 1 first
abbrev pub peers_of : Played → List Peer
peers_of w = map shown w.players.items

-- a peer was added whose chain is this one, if it is good
pub record HasAdded (chain : List Block) (kind : Manner) (old new : List Peer) : Type 0 where
  pub blocks : List Block
  pub good : IsGoodChain blocks
  pub same : IsGoodChain chain → blocks ≡ chain
  pub added : new ≡ old ++ record { blocks = blocks; way = way_of kind; waiting = [] } ∷ []

-- what is said where a chain is refused
abbrev pub IfRefused : {T : Type 0} → Result T (Refused BadBlock) → Type 0 → Type 0
IfRefused (Ok x) P = Unit {0}
IfRefused (Err (No bad)) P = P
IfRefused (Err NoMemory) P = Unit {0}
