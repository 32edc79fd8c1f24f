-- Of the peers in memory that were added, those with an honest way are honest peers of the log.
use Rattle.std.proofs.Common.{◌≡◌, ℕ, zero, suc, ◌<◌, List, [], ◌∷◌, map, drop, slice_get, Some, true, refl, sym, ◌∙◌, ap, subst, arith}
use Rattle.std.proofs.Math.Logic.{∥∥₁_map}
use Rattle.cf_block.specs.declared.tx.Block.{Block}
use Rattle.cf_headers.specs.Chain.{NoHashClash}
use Rattle.cf_wires.specs.Log.{Log, tally_of}
use Rattle.cf_played.specs.declared.kind.Way.{Way}
use Rattle.cf_played.specs.declared.kind.Way.TheVariants.{Honest}
use Rattle.cf_played.specs.Answers.{is_plain, HasBegun, HasAnswered, HasBegunAlike}
use Rattle.cf_played.specs.Peers.{Peer, still, AreGood}
use Rattle.cf_sync.specs.Honesty.{IsHonest}
use Rattle.cf_sync.specs.Sync.{IsHashed}
use Rattle.cf_demo.specs.Playing.{IsRun, PlaysHonest, Accounts}
use Rattle.cf_demo.proofs.Played.{run_honest}

-- the peer at the same place of a list that is the same but for what waits
record SamePeer (news : List Peer) (i : ℕ) (peer : Peer) : Type 0 where
  other : Peer
  at : slice_get news i ≡ Some other
  same : still other ≡ still peer

same_peer : (olds news : List Peer) (i : ℕ) (peer : Peer) → map still olds ≡ map still news → slice_get olds i ≡ Some peer → SamePeer news i peer
same_peer [] news i peer e at = cc
same_peer (x ∷ xs) [] i peer e at = cc
same_peer (x ∷ xs) (y ∷ ys) zero peer e at =
    let here : x ≡ peer = cc in
    let both : still x ≡ still y = cc in
    record { other = y; at = refl; same = sym both ∙ ap still here }
same_peer (x ∷ xs) (y ∷ ys) (suc i) peer e at =
    let more : map still xs ≡ map still ys = cc in
    let w = same_peer xs ys i peer more at in
    record { other = w.other; at = w.at; same = w.same }

-- what is accounted for of one honest peer
plays_so : (log : Log) (peers : List Peer) (i : ℕ) (peer : Peer) → Accounts log peers → slice_get peers i ≡ Some peer → peer.way ≡ Honest → PlaysHonest peer.blocks log (suc i)
plays_so log peers i peer h at way =
    let plain : is_plain peer.way ≡ true = ap is_plain way in
    record {
      past = λ k. subst (λ (w : Way). HasBegun w peer.blocks (drop k log) (suc i)) way (h.past i k peer at plain);
      ticks = λ k s older is. subst (λ (w : Way). HasAnswered w peer.blocks older (suc i)) way (h.ticks i k s older peer at plain is);
      stays = h.stays;
    }

pub honest_among : (olds news : List Peer) (log : Log) → AreGood olds → map still olds ≡ map still news → Accounts log news → IsRun log
    → (i : ℕ) (peer : Peer) → slice_get olds i ≡ Some peer → peer.way ≡ Honest → i < (tally_of log).dials → NoHashClash (IsHashed log peer.blocks) → IsHonest log (suc i) peer.blocks
honest_among olds news log good same accounts run i peer at way few clash =
    let w = same_peer olds news i peer same at in
    let its : peer.blocks ≡ w.other.blocks = sym (ap (λ (x : Peer). x.blocks) w.same) in
    let theirs : w.other.way ≡ Honest = ap (λ (x : Peer). x.way) w.same ∙ way in
    run_honest log (suc i) peer.blocks run (good.each i peer at) clash (omega arith) (omega (arith, few))
    (subst (λ (blocks : List Block). PlaysHonest blocks log (suc i)) (sym its) (plays_so log news i w.other accounts w.at theirs))

-- what the peers account for, those account for that were added
pub accounts_before : (olds news : List Peer) (log : Log) → map still olds ≡ map still news → Accounts log news → Accounts log olds
accounts_before olds news log same h = record {
  past = λ i k peer at plain.
      let w = same_peer olds news i peer same at in
      subst (λ (x : Peer). HasBegun x.way x.blocks (drop k log) (suc i)) w.same (h.past i k w.other w.at (ap (λ (x : Peer). is_plain x.way) w.same ∙ plain));
  ticks = λ i k s older peer at plain is.
      let w = same_peer olds news i peer same at in
      subst (λ (x : Peer). HasAnswered x.way x.blocks older (suc i)) w.same (h.ticks i k s older w.other w.at (ap (λ (x : Peer). is_plain x.way) w.same ∙ plain) is);
  alike = ∥∥₁_map h.alike (λ alike i k peer at.
      let w = same_peer olds news i peer same at in
      subst (λ (x : Peer). HasBegunAlike x.way x.blocks (drop k log) (suc i)) w.same (alike i k w.other w.at));
  stays = h.stays;
}
