-- statement: what is asked of the log of a run over peers in memory.
use Rattle.std.specs.Prelude.{◌≡◌, ℕ, true, List, ◌∷◌, drop, suc, slice_get, Some}
use Rattle.std.specs.List.{list_all}
use Rattle.cf_block.specs.declared.tx.Block.{Block}
use Rattle.cf_run.specs.Run.{AreNumbered, WasOrderly}
use Rattle.cf_sync.specs.Fetching.{AreBytes, Rightly}
use Rattle.cf_wires.specs.declared.event.Delivery.TheVariants.{Tick}
use Rattle.cf_wires.specs.declared.event.Event.TheVariants.{Took}
use Rattle.cf_wires.specs.Log.{Log}
use Rattle.cf_played.specs.declared.kind.Way.{Way}
use Rattle.cf_played.specs.declared.kind.Way.TheVariants.{Honest, Silent}
use Rattle.cf_played.specs.Peers.{Peer}
use Rattle.cf_played.specs.Answers.{is_plain, HasBegun, HasAnswered, HasBegunAlike, is_staying}

-- what is known of the log of a run: bytes came, what was sent might be sent, peers are numbered as they were dialled, and the client was orderly
pub record IsRun (log : Log) : Type 0 where
  pub bytes : AreBytes log
  pub rightly : Rightly log
  pub numbered : AreNumbered log
  pub orderly : WasOrderly log

-- at every moment what came from p was a beginning of its machine's answers, and all of them whenever seconds passed; nobody was lost but by a close
pub record PlaysHonest (blocks : List Block) (log : Log) (p : ℕ) : Type 0 where
  pub past : (k : ℕ) → HasBegun Honest blocks (drop k log) p
  pub ticks : (k s : ℕ) (older : Log) → drop k log ≡ Took (Tick s) ∷ older → HasAnswered Honest blocks older p
  pub stays : list_all is_staying log ≡ true

-- the same of a peer that answers a version and getheaders alone
pub record PlaysSilent (blocks : List Block) (log : Log) (p : ℕ) : Type 0 where
  pub past : (k : ℕ) → HasBegun Silent blocks (drop k log) p
  pub ticks : (k s : ℕ) (older : Log) → drop k log ≡ Took (Tick s) ∷ older → HasAnswered Silent blocks older p
  pub stays : list_all is_staying log ≡ true

-- so it was at every moment
pub record PlaysAlike (way : Way) (blocks : List Block) (log : Log) (p : ℕ) : Type 0 where
  pub past : (k : ℕ) → HasBegunAlike way blocks (drop k log) p

-- what several peers account for, each in the way in which it answers
pub record Accounts (log : Log) (peers : List Peer) : Type 0 where
  pub past : (i k : ℕ) (peer : Peer) → slice_get peers i ≡ Some peer → is_plain peer.way ≡ true → HasBegun peer.way peer.blocks (drop k log) (suc i)
  pub ticks : (i k s : ℕ) (older : Log) (peer : Peer) → slice_get peers i ≡ Some peer → is_plain peer.way ≡ true → drop k log ≡ Took (Tick s) ∷ older → HasAnswered peer.way peer.blocks older (suc i)
  pub alike : ∥ ((i k : ℕ) (peer : Peer) → slice_get peers i ≡ Some peer → HasBegunAlike peer.way peer.blocks (drop k log) (suc i)) ∥₁
  pub stays : list_all is_staying log ≡ true
