-- machine: what is kept of a peer in memory.
use Rattle.std.specs.Prelude.{◌≡◌, ◌⊎◌, ℕ, pos, suc, ◌<◌, true, false, List, ◌∷◌, ◌++◌, slice_get, slice_set, drop, length, Option, Some, option_to_list}
use Rattle.cf_chain.specs.Serve.{replies}
use Rattle.cf_msg.specs.declared.msg.Msg.{Msg}
use Rattle.cf_wires.specs.Log.{Log}
use Rattle.cf_played.specs.declared.player.Player.{Player}
use Rattle.cf_wires.specs.declared.event.Delivery.TheVariants.{Tick}
use Rattle.cf_wires.specs.declared.event.Event.TheVariants.{Took}
use Rattle.cf_played.specs.Waiting.{front_of, behind_front}
use Rattle.cf_played.specs.Answers.{came, told_to, heard_of, seen_after, frames_from, answered_to, is_plain, HasBegun, HasAnswered, HasBegunAlike}
use Rattle.cf_played.specs.Frames.{AreFramesAlike}

-- a send that spells this was answered: the frames stand behind those that wait
pub record IsAnswered (old : Player) (m : Option Msg) (new : Player) : Type 0 where
  pub blocks : new.index ≡ old.index
  pub way : new.way ≡ old.way
  pub seen : new.seen ≡ seen_after old.seen (heard_of old.way (option_to_list m))
  pub more : List ℕ
  pub joined : new.waiting ≡ old.waiting ++ more
  pub alike : AreFramesAlike (replies (pos 0) 0 old.index old.seen (heard_of old.way (option_to_list m))) more
  pub text : is_plain old.way ≡ true → new.waiting ≡ old.waiting ++ frames_from old.seen old.index (heard_of old.way (option_to_list m))

-- The bytes that came from p, and those that wait, are the frames of its answers to what it was told, or of messages that are like them. At every earlier moment
-- those that came were a beginning of them, and whenever seconds passed they were all.
pub record IsAccounted (log : Log) (p : ℕ) (player : Player) : Type 0 where
  pub seen : player.seen ≡ seen_after false (heard_of player.way (told_to log p))
  pub now : is_plain player.way ≡ true → came log p ++ player.waiting ≡ answered_to player.way player.index (told_to log p)
  pub past : is_plain player.way ≡ true → (k : ℕ) → HasBegun player.way player.index (drop k log) p
  pub ticks : is_plain player.way ≡ true → (k s : ℕ) (older : Log) → drop k log ≡ Took (Tick s) ∷ older → HasAnswered player.way player.index older p
  pub alike : AreFramesAlike (replies (pos 0) 0 player.index false (heard_of player.way (told_to log p))) (came log p ++ player.waiting)
  pub alike_past : (k : ℕ) → HasBegunAlike player.way player.index (drop k log) p

-- so it is of each peer
pub record AreAccounted (log : Log) (players : List Player) : Type 0 where
  pub each : (i : ℕ) (player : Player) → slice_get players i ≡ Some player → IsAccounted log (suc i) player

-- the peer with this number has answered what was sent to it, and the others are as they were
pub record HasHeard (old : List Player) (p : ℕ) (m : Option Msg) (new : List Player) : Type 0 where
  pub place : ℕ
  pub number : p ≡ suc place
  pub before : Player
  pub after : Player
  pub at : slice_get old place ≡ Some before
  pub new_is : new ≡ slice_set old place after
  pub answered : IsAnswered before m after

-- there is no peer with this number, or it has answered
pub record HearsAt (old : List Player) (p : ℕ) (m : Option Msg) (new : List Player) : Type 0 where
  pub outcome : (((p ≡ 0) ⊎ (length old < p)) × (new ≡ old)) ⊎ HasHeard old p m new

-- this piece was taken from the front of what waits of the peer at a place
pub record Gives (old : List Player) (place : ℕ) (piece : List ℕ) (new : List Player) : Type 0 where
  pub before : Player
  pub at : slice_get old place ≡ Some before
  pub piece_is : piece ≡ front_of before.waiting
  pub new_is : new ≡ slice_set old place (record before { waiting = behind_front before.waiting })
