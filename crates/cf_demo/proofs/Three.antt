-- Of three played peers, once nothing is open nobody who is connected has shown another chain as long as that of the honest one.
use Rattle.std.proofs.Common.{◌≡◌, inl, inr, ◌==◌, ℕ, zero, suc, pos, ◌≤◌, List, [], ◌∷◌, ◌++◌, length, drop, false, refl, sym, ◌∙◌, ap, subst, arith}
use Rattle.std.proofs.lemmas.Bool.{both_ways, eqb-true}
use Rattle.std.proofs.Math.Logic.{∥∥₁_elim}
use Rattle.std.proofs.Props.{props}
use Rattle.cf_block.specs.declared.tx.Block.{Block}
use Rattle.cf_chain.specs.Good.{IsGoodChain, headers_of}
use Rattle.cf_chain.specs.Serve.{replies}
use Rattle.cf_frame.specs.Stream.{read_stream}
use Rattle.cf_headers.specs.Chain.{Chain}
use Rattle.cf_headers.specs.Shown.{Shows}
use Rattle.cf_msg.specs.declared.msg.Msg.{Msg}
use Rattle.cf_wires.specs.declared.event.Delivery.TheVariants.{Got, Gone, Tick, Ended}
use Rattle.cf_wires.specs.declared.event.Event.TheVariants.{Dialled, NotDialled, Sent, SendFailed, Closed, Took}
use Rattle.cf_wires.specs.declared.event.Mark.TheVariants as mark
use Rattle.cf_wires.specs.Log.{Log}
use Rattle.cf_peer.specs.Trail.{Part, Lost, called_part, with_item, heard_part, spelled, asks, part_of, trail, is_connected, own}
use Rattle.cf_peer.specs.Asking.{lists, MayAsk}
use Rattle.cf_played.specs.declared.kind.Way.TheVariants.{Honest, Omits}
use Rattle.cf_played.specs.Answers.{told_to, AreAlike}
use Rattle.cf_run.specs.Run.{AreNumbered}
use Rattle.cf_scan.specs.declared.history.Entry.{Entry}
use Rattle.cf_sync.specs.Fetching.{Rightly, IsConnected, IsQuiet, counted_part}
use Rattle.cf_sync.specs.Honesty.{ShowsNoOther}
use Rattle.cf_bytes.specs.declared.hash.Hash32.{Hash32}
use Rattle.cf_sync.specs.Sync.{Followed, IsHistoryOf, SyncTheorem}
use Rattle.cf_sync.proofs.Chains.{up_to, up_length, up_all, headers_length, Setting}
use Rattle.cf_sync.proofs.Counted.{own_shown}
use Rattle.cf_sync.proofs.Entries.{at_either}
use Rattle.cf_demo.specs.Playing.{IsRun, PlaysHonest, PlaysAlike}
use Rattle.cf_demo.proofs.Orderly.{WereGreeted, were_greeted}
use Rattle.cf_demo.specs.Three.{AreTwoChains, AreThree}
use Rattle.cf_demo.proofs.Fits.{sendable_of}
use Rattle.cf_demo.proofs.Parts.{away, asked_there, off_read}
use Rattle.cf_sync.proofs.HonestLemmas.{rightly_before}
use Rattle.cf_demo.proofs.Played.{answers_good, chain_setting, run_honest}
use Rattle.cf_demo.proofs.Shown.{IsUpTo, shows_part}
use Rattle.cf_demo.proofs.Silent.{silent_apart}

-- ---- who is connected was dialled

abbrev IsOff : Part → Type 0
IsOff part = is_connected part.trail ≡ false

zero_off : (log : Log) → Rightly log → AreNumbered log → is_connected (trail log 0) ≡ false
zero_off [] right numbered = refl
zero_off (Dialled q name ∷ log) right numbered =
    at_either IsOff (q.0 == 0) (called_part (part_of log 0)) (part_of log 0)
    (λ is. (let here = eqb-true q.0 0 is in let n = numbered.0 in absurd (omega (arith, here, n)))) (λ off. zero_off log right numbered.1)
zero_off (NotDialled q name ∷ log) right numbered = at_either IsOff (q.0 == 0) (with_item (Lost mark.NotDialled) (part_of log 0)) (part_of log 0) (λ is. refl) (λ off. zero_off log right numbered.1)
zero_off (Sent q bytes ∷ log) right numbered =
    let before = zero_off log right.1 numbered in
    at_either IsOff (q.0 == 0) (record (part_of log 0) { trail = asks (spelled bytes) (trail log 0) }) (part_of log 0)
    (λ is. absurd (both_ways (is_connected (trail log 0)) before (asked_there (trail log 0) right.0.0 (subst (λ (k : ℕ). MayAsk (trail log k) right.0.0) (eqb-true q.0 0 is) right.0.2.of_its_part)))) (λ off. before)
zero_off (SendFailed q ∷ log) right numbered = at_either IsOff (q.0 == 0) (with_item (Lost mark.SendFailed) (part_of log 0)) (part_of log 0) (λ is. refl) (λ off. zero_off log right numbered)
zero_off (Closed q ∷ log) right numbered = at_either IsOff (q.0 == 0) (with_item (Lost mark.Closed) (part_of log 0)) (part_of log 0) (λ is. refl) (λ off. zero_off log right.1 numbered)
zero_off (Took (Got q piece) ∷ log) right numbered =
    let before = zero_off log right.1 numbered in
    at_either IsOff (q.0 == 0) (heard_part piece (part_of log 0)) (part_of log 0) (λ is. off_read (read_stream ((part_of log 0).waits ++ piece)) (trail log 0) ∙ before) (λ off. before)
zero_off (Took (Gone q) ∷ log) right numbered = at_either IsOff (q.0 == 0) (with_item (Lost mark.Gone) (part_of log 0)) (part_of log 0) (λ is. refl) (λ off. zero_off log right.1 numbered)
zero_off (Took (Tick s) ∷ log) right numbered = zero_off log right.1 numbered
zero_off (Took Ended ∷ log) right numbered = zero_off log right.1 numbered

-- ---- an honest one is alike

same_alike : (ms : List Msg) → AreAlike ms ms
same_alike [] = tt
same_alike (m ∷ ms) = (inl refl, same_alike ms)

rightly_at : (log : Log) → Rightly log → (k : ℕ) → Rightly (drop k log)
rightly_at log right zero = right
rightly_at [] right (suc k) = tt
rightly_at (e ∷ log) right (suc k) = rightly_at log (rightly_before e log right) k

pub honest_alike : (blocks : List Block) → IsGoodChain blocks → (log : Log) (p : ℕ) → Rightly log → PlaysHonest blocks log p → PlaysAlike Honest blocks log p
honest_alike blocks good log p right h = record {
  past = λ k.
      let ms : List Msg = replies (pos 0) 0 blocks false (told_to (drop k log) p) in
      record { messages = ms; alike = same_alike ms; fit = sendable_of ms (answers_good blocks good (drop k log) p (rightly_at log right k)); begun = h.past k };
}

-- ---- parts

short : (blocks : List Block) (c : Chain) → IsUpTo blocks c → length c ≤ length blocks
short blocks c u = (let n = ap (λ (x : Chain). length x) u.is in let l = up_length u.height blocks u.low in let low = u.low in omega (arith, n, l, low))

whole : (blocks : List Block) (c : Chain) → IsUpTo blocks c → length (headers_of blocks) ≤ length c → c ≡ headers_of blocks
whole blocks c u long =
    let n = ap (λ (x : Chain). length x) u.is in
    let l = up_length u.height blocks u.low in
    let low = u.low in
    let all = headers_length blocks in
    let top : u.height ≡ length blocks = omega (arith, n, l, low, all, long) in
    u.is ∙ ap (λ k. up_to k blocks) top ∙ up_all blocks

-- ---- the three

record Scene (chain longer : List Block) (log : Log) : Type 0 where
  setting : Setting chain
  right : Rightly log
  numbered : AreNumbered log
  chains : AreTwoChains chain longer log
  three : AreThree chain longer log
  first : PlaysAlike Omits chain log 1
  honest : PlaysAlike Honest chain log 3

first_part : (chain longer : List Block) (log : Log) → Scene chain longer log → (other : Chain) → Shows (lists (counted_part log 1)) other → IsUpTo chain other
first_part chain longer log s other shows = shows_part Omits chain s.setting log 1 s.right s.numbered s.first other shows

third_part : (chain longer : List Block) (log : Log) → Scene chain longer log → (other : Chain) → Shows (lists (counted_part log 3)) other → IsUpTo chain other
third_part chain longer log s other shows = shows_part Honest chain s.setting log 3 s.right s.numbered s.honest other shows

beyond : (chain longer : List Block) (log : Log) (k : ℕ) → Scene chain longer log → IsConnected log (suc (suc (suc (suc k)))) → ⊥
beyond chain longer log k s on =
    let d = s.three.dials in
    both_ways (is_connected (trail log (suc (suc (suc (suc k)))))) (away log (suc (suc (suc (suc k)))) s.right s.numbered (omega (arith, d))).off on

-- the best chain can't be shown by anybody, if the second is there
nobody_best : (chain longer : List Block) (log : Log) → Scene chain longer log → (best : Chain) → length longer ≤ length best → own (counted_part log 2) ≡ headers_of longer → (best ≡ headers_of longer → ⊥)
    → (p : ℕ) → IsConnected log p → own (counted_part log p) ≡ best → ⊥
nobody_best chain longer log s best long mine apart zero on is = both_ways (is_connected (trail log 0)) (zero_off log s.right s.numbered) on
nobody_best chain longer log s best long mine apart (suc zero) on is =
    let few = short chain (own (counted_part log 1)) (first_part chain longer log s (own (counted_part log 1)) (own_shown (trail log 1))) in
    let n = ap (λ (x : Chain). length x) is in
    let more = s.chains.more in
    absurd (omega (arith, few, n, more, long))
nobody_best chain longer log s best long mine apart (suc (suc zero)) on is = apart (sym is ∙ mine)
nobody_best chain longer log s best long mine apart (suc (suc (suc zero))) on is =
    let few = short chain (own (counted_part log 3)) (third_part chain longer log s (own (counted_part log 3)) (own_shown (trail log 3))) in
    let n = ap (λ (x : Chain). length x) is in
    let more = s.chains.more in
    absurd (omega (arith, few, n, more, long))
nobody_best chain longer log s best long mine apart (suc (suc (suc (suc k)))) on is = beyond chain longer log k s on

second_off : (watch : List (List ℕ)) (height : ℕ) (hash : Hash32) (entries : List Entry) (chain longer : List Block) (log : Log) → Scene chain longer log → (f : Followed watch height hash entries log) → WereGreeted log
    → IsQuiet log → IsConnected log 2 → ⊥
second_off watch height hash entries chain longer log s f greets quiet on =
    let d = s.three.dials in
    let more = s.chains.more in
    let apart = silent_apart watch height hash entries log 2 longer s.chains.good_longer s.chains.clash_longer f s.numbered greets (omega arith) (omega (arith, d)) s.three.second (omega (arith, more)) on (quiet 2) in
    let n = ap (λ (x : Chain). length x) apart.0 in
    let all = headers_length longer in
    let most = f.told.best.longest 2 on in
    elim f.told.best.shown [
      | inl by ↦ nobody_best chain longer log s f.told.chain (omega (arith, n, all, most)) apart.0 apart.1 by.0 by.1.0 by.1.1
      | inr none ↦ both_ways (is_connected (trail log 2)) (none.0 2) on
    ]

pub no_other : (watch : List (List ℕ)) (height : ℕ) (hash : Hash32) (entries : List Entry) (chain longer : List Block) (log : Log) → AreTwoChains chain longer log → AreThree chain longer log
    → PlaysAlike Omits chain log 1 → (f : Followed watch height hash entries log) → AreNumbered log → WereGreeted log → IsQuiet log → ShowsNoOther log chain
no_other watch height hash entries chain longer log chains three first f numbered greets quiet =
    let s : Scene chain longer log = record {
      setting = chain_setting log chain chains.clash chains.good;
      right = f.rightly;
      numbered = numbered;
      chains = chains;
      three = three;
      first = first;
      honest = honest_alike chain chains.good log 3 f.rightly three.third;
    } in
    by_number s where
      by_number : Scene chain longer log → ShowsNoOther log chain
      by_number s zero other on shows long = absurd (both_ways (is_connected (trail log 0)) (zero_off log s.right s.numbered) on)
      by_number s (suc zero) other on shows long = whole chain other (first_part chain longer log s other shows) long
      by_number s (suc (suc zero)) other on shows long = absurd (second_off watch height hash entries chain longer log s f greets quiet on)
      by_number s (suc (suc (suc zero))) other on shows long = whole chain other (third_part chain longer log s other shows) long
      by_number s (suc (suc (suc (suc k)))) other on shows long = absurd (beyond chain longer log k s on)

same_prop : (a b : Chain) → IsProp (a ≡ b)
same_prop a b = hlevel props

pub run_three : (watch : List (List ℕ)) (height : ℕ) (hash : Hash32) (entries : List Entry) (log : Log) (chain longer : List Block) → IsRun log → AreTwoChains chain longer log → AreThree chain longer log
    → Followed watch height hash entries log → IsQuiet log → ShowsNoOther log chain
run_three watch height hash entries log chain longer run chains three f quiet = λ q other on shows long.
    ∥∥₁_elim three.first (same_prop other (headers_of chain))
    (λ first. no_other watch height hash entries chain longer log chains three first f run.numbered (were_greeted log run.orderly) quiet q other on shows long)

-- so with nothing open the tip and the history are those of the honest one's chain
pub run_tells : (watch : List (List ℕ)) (height : ℕ) (hash : Hash32) (entries : List Entry) (log : Log) (chain longer : List Block) → IsRun log → AreTwoChains chain longer log → AreThree chain longer log
    → SyncTheorem watch height hash entries log → Followed watch height hash entries log → IsQuiet log → IsHistoryOf watch chain height hash entries
run_tells watch height hash entries log chain longer run chains three theorem f quiet =
    let d = three.dials in
    theorem.exact 3 chain chains.clash (run_honest log 3 chain run chains.good chains.clash (omega arith) (omega (arith, d)) three.third)
    (run_three watch height hash entries log chain longer run chains three f quiet) quiet
