-- statement: a peer in memory as others see it.
use Rattle.std.specs.Prelude.{◌≡◌, ◌≢◌, ℕ, suc, List, [], ◌∷◌, ◌++◌, map, true, slice_get, Option, Some}
use Rattle.cf_block.specs.declared.tx.Block.{Block}
use Rattle.cf_chain.specs.Good.{IsGoodChain}
use Rattle.cf_make.specs.Records.{records_of}
use Rattle.cf_wires.specs.declared.event.Dial.{Dial}
use Rattle.cf_wires.specs.Wires.{Made}
use Rattle.cf_played.specs.declared.kind.Way.{Way}
use Rattle.cf_played.specs.declared.kind.Way.TheVariants.{Honest, Omits, Silent}
use Rattle.cf_played.specs.declared.player.Player.{Player}

-- a peer: its chain's blocks, how it answers, and the bytes of its answers that weren't delivered yet
pub record Peer : Type 0 where
  pub blocks : List Block
  pub way : Way
  pub waiting : List ℕ

-- a peer in memory as contracts see it: its blocks, its way, and the bytes that wait
abbrev pub shown : Player → Peer
shown player = record { blocks = player.index; way = player.way; waiting = player.waiting }

-- a peer of whom nothing waits
abbrev pub still : Peer → Peer
still peer = record peer { waiting = [] }

-- the chains are good
pub record AreGood (peers : List Peer) : Type 0 where
  pub each : (i : ℕ) (peer : Peer) → slice_get peers i ≡ Some peer → IsGoodChain peer.blocks

-- bytes were put behind those that wait of the peer with this number, and nothing else has changed
pub record HasMore (old : List Peer) (p : ℕ) (new : List Peer) : Type 0 where
  pub others : (i : ℕ) → suc i ≢ p → slice_get new i ≡ slice_get old i
  pub own : (i : ℕ) (peer : Peer) → suc i ≡ p → slice_get old i ≡ Some peer → (more : List ℕ) × (slice_get new i ≡ Some (record peer { waiting = peer.waiting ++ more }))

-- ---- what the wires are made to give

abbrev pub way_number : Way → ℕ
way_number Honest = 0
way_number Omits = 1
way_number Silent = 2

-- the dial that reaches a peer: it is answered, and its name tells the peer, by how it answers and the records of its chain
abbrev pub dial_to : Peer → Dial
dial_to peer = record { name = way_number peer.way ∷ records_of peer.blocks; answered = true }

abbrev pub made_with : List Dial → Option Made
made_with dials = Some (record { script = record { dials = dials; deliveries = [] }; failing = [] })

-- each peer's dial, in order; what is delivered depends on what is sent
abbrev pub made_of : List Peer → Option Made
made_of peers = made_with (map dial_to peers)
