-- What comes of a run over the peers of a demo, or over that of a session.
use Rattle.std.proofs.Common.{◌≡◌, inl, inr, ◌⊎◌, ℕ, suc, ◌+◌, ◌^◌, ◌≤◌, ◌<◌, ◌&&◌, ◌||◌, not, Bool, true, false, List, [], ◌∷◌, length, map, slice_get, Some, refl, sym, ◌∙◌, ap, subst, arith}
use Rattle.std.specs.declared.alloc.Global.{Global}
use Rattle.std.specs.Prelude.{String, string_bytes, Result, Ok, Err, IfOk, OnOk}
use Rattle.std.specs.List.{list_all}
use Rattle.std.proofs.lemmas.List.{length-map}
use Rattle.std.proofs.lemmas.Bool.{both_ways}
use Rattle.std.proofs.Math.Logic.{∥∥₁_map}
use Rattle.cf_block.specs.declared.tx.Block.{Block}
use Rattle.cf_bytes.specs.declared.hash.Hash32.{Hash32}
use Rattle.cf_bytes.specs.declared.memory.NoMemory.{NoMemory}
use Rattle.cf_chain.specs.Good.{IsGoodChain}
use Rattle.cf_headers.specs.Chain.{height_limit, NoHashClash}
use Rattle.cf_run.specs.declared.outcome.End.{End}
use Rattle.cf_run.specs.declared.outcome.End.TheVariants.{Synced, NoPeers, Tired, Ended}
use Rattle.cf_run.specs.declared.outcome.Outcome.{Outcome}
use Rattle.cf_place.specs.declared.place.PeerEnd.{PeerEnd}
use Rattle.cf_place.specs.Standing.{EndsTell}
use Rattle.cf_run.specs.Names.{names_in}
use Rattle.cf_run.specs.Run.{RanTo, IsEnd}
use Rattle.cf_run.specs.Whole.{EndsWithin, IsOutcome}
use Rattle.cf_run.specs.declared.trace.TraceLine.{TraceLine}
use Rattle.cf_headers.specs.Store.{Chains}
use Rattle.cf_make.proofs.MadeLaws.{extension_one}
use Rattle.cf_wires.specs.declared.event.Delivery.TheVariants.{Ended as EndedFirst}
use Rattle.cf_wires.specs.declared.event.Event.TheVariants.{Took}
use Rattle.cf_wires.specs.Log.{Log, tally_of}
use Rattle.cf_peer.specs.Trail.{trail, is_connected, ready}
use Rattle.cf_peer.specs.Asking.{is_idle, request}
use Rattle.cf_played.specs.declared.kind.Way.TheVariants.{Honest, Omits, Silent}
use Rattle.cf_played.specs.Answers.{is_staying}
use Rattle.cf_played.specs.Peers.{Peer, still}
use Rattle.cf_scan.specs.declared.history.Entry.{Entry}
use Rattle.cf_scan.specs.Scan.{balance_of}
use Rattle.cf_sync.specs.Fetching.{IsQuiet, once}
use Rattle.cf_sync.specs.Honesty.{IsHonest}
use Rattle.cf_sync.specs.Sync.{IsHashed, IsHistoryOf, SyncTheorem}
use Rattle.cf_demo.specs.declared.demo.Demo.{Demo}
use Rattle.cf_demo.specs.Demo.{demo_watch, demo_names, session_names, most_deliveries, peer_on, three_peers, ArePlayed, HavePrepared, HasPrepared, HasRunOver, IsToldBy, IsDemoOf, IsDemo, IsSession}
use Rattle.cf_demo.specs.Playing.{IsRun, PlaysHonest, PlaysAlike, PlaysSilent, Accounts}
use Rattle.cf_demo.specs.Three.{AreThree}
use Rattle.cf_demo.proofs.Clashes.{made_good, two_made}
use Rattle.cf_demo.proofs.Counts.{fetches_are, closes_are}
use Rattle.cf_demo.proofs.Three.{run_tells}

-- ---- ends

-- played peers tell no end
never_ended : (log before : Log) → list_all is_staying log ≡ true → log ≡ Took EndedFirst ∷ before → ⊥
never_ended log before stays is = (let told : list_all is_staying (Took EndedFirst ∷ before) ≡ true = subst (λ (l : Log). list_all is_staying l ≡ true) is stays in cc)

goes_on : (end : End) (log : Log) → IsEnd end log → list_all is_staying log ≡ true → end ≡ Ended → ⊥
goes_on Synced log why stays is = cc
goes_on NoPeers log why stays is = cc
goes_on Tired log why stays is = cc
goes_on Ended log why stays is = never_ended log why.0 stays why.1.0

left : (end : End) (log : Log) → IsEnd end log → end ≡ NoPeers → (p : ℕ) → is_connected (trail log p) ≡ false
left Synced log why is = cc
left NoPeers log why is = why
left Tired log why is = cc
left Ended log why is = cc

off_shut : (c r : Bool) → c ≡ false → (c && r) ≡ false
off_shut true r off = cc
off_shut false r off = refl

at_rest : (end : End) (log : Log) → IsEnd end log → list_all is_staying log ≡ true → (end ≡ Tired → (tally_of log).taken ≡ most_deliveries) → IsQuiet log ⊎ ((tally_of log).taken ≡ most_deliveries)
at_rest Synced log why stays tired = inl why.0
at_rest NoPeers log why stays tired = inl (λ p. off_shut (is_connected (trail log p)) (not (ready (trail log p)) || not (is_idle (request (trail log p)))) (why p))
at_rest Tired log why stays tired = inr (tired refl)
at_rest Ended log why stays tired = absurd (never_ended log why.0 stays why.1.0)

quiet_so : (end : End) (log : Log) → IsEnd end log → end ≡ Synced → IsQuiet log
quiet_so Synced log why is = why.0
quiet_so NoPeers log why is = cc
quiet_so Tired log why is = cc
quiet_so Ended log why is = cc

-- the log of a run is one of a run
pub run_in : {watch : List (List ℕ)} {end : End} {height : ℕ} {hash : Hash32} {entries : List Entry} {lines : List TraceLine} {called : List (List ℕ)} {log : Log}
    → RanTo (once watch) end height hash entries lines called log → IsRun log
run_in f = record { bytes = f.asked.bytes; rightly = f.asked.rightly; numbered = f.run.numbered; orderly = f.run.was_orderly }

-- what is said of a run that was answered
pub has_run : (r : Result Outcome NoMemory) (counts : Chains → ℕ → Type 0) (watch : List (List ℕ)) (peers : List Peer) (names : List (String Global)) (log : Log)
    → IfOk r (λ o. IsOutcome counts (once watch) true (names_in names) o log) → IfOk r (λ o. SyncTheorem watch o.height o.tip o.history log)
    → OnOk r ((i : ℕ) (peer : Peer) → slice_get peers i ≡ Some peer → peer.way ≡ Honest → i < length names → NoHashClash (IsHashed log peer.blocks) → IsHonest log (suc i) peer.blocks)
    → Accounts log peers → IfOk r (λ o. EndsWithin o.end (length names) most_deliveries (tally_of log)) → IfOk r (λ o. HasRunOver watch peers (names_in names) o log)
has_run (Ok o) counts watch peers names log is theorem honest accounts within =
    let count : length (names_in names) ≡ length names = length-map names string_bytes in
    record {
      followed = subst (λ (lines : List TraceLine). RanTo (once watch) o.end o.height o.tip o.history lines (names_in names) log) (sym is.kept) is.followed;
      stand = is.ends;
      theorem = theorem;
      honest = λ i peer at way few clash. honest i peer at way (omega (arith, few, count)) clash;
      accounts = accounts;
      tired = within.tired;
      dials = within.dialled ∙ sym count;
    }
has_run (Err e) counts watch peers names log is theorem honest accounts within = tt

-- ---- the three of a demo

are_three : (first second third chain longer : List Block) (log : Log) → Accounts log (three_peers first second third) → (tally_of log).dials ≡ 3 → first ≡ chain → second ≡ longer → third ≡ chain → AreThree chain longer log
are_three first second third chain longer log h dials one two three = record {
  dials = dials;
  first = ∥∥₁_map h.alike (λ alike. subst (λ (b : List Block). PlaysAlike Omits b log 1) one (record { past = λ k. alike 0 k (peer_on Omits first) refl }));
  second = subst (λ (b : List Block). PlaysSilent b log 2) two (record {
    past = λ k. h.past 1 k (peer_on Silent second) refl refl;
    ticks = λ k s older is. h.ticks 1 k s older (peer_on Silent second) refl refl is;
    stays = h.stays;
  });
  third = subst (λ (b : List Block). PlaysHonest b log 3) three (record {
    past = λ k. h.past 2 k (peer_on Honest third) refl refl;
    ticks = λ k s older is. h.ticks 2 k s older (peer_on Honest third) refl refl is;
    stays = h.stays;
  });
}

same_three : (a b c x y : List Block) → a ≡ x → b ≡ y → c ≡ x → three_peers a b c ≡ three_peers x y x
same_three a b c x y one two three =
    ap (λ (l : List Block). three_peers l b c) one ∙ ap (λ (l : List Block). three_peers x l c) two ∙ ap (λ (l : List Block). three_peers x y l) three

-- the peers are those of the chains that the seeds make
pub peers_played : (seed blocks : ℕ) (olds news : List Peer) → HavePrepared seed blocks olds → map still news ≡ map still olds → ArePlayed seed blocks news
peers_played seed blocks olds news h same = λ chain longer made made_longer good good_longer.
    let one : h.chain ≡ chain = extension_one [] h.chain chain seed blocks h.made made in
    let two : h.longer ≡ longer = extension_one [] h.longer longer (seed + 1) (blocks + 2) h.made_longer made_longer in
    let mine : IsGoodChain h.chain = subst IsGoodChain (sym one) good in
    let others : IsGoodChain h.longer = subst IsGoodChain (sym two) good_longer in
    same ∙ ap (map still) h.added.are ∙ same_three h.added.first h.added.second h.added.third chain longer (h.added.same_first mine ∙ one) (h.added.same_second others ∙ two) (h.added.same_third mine ∙ one)

-- ---- a demo

-- its chain's history, told of a run that has it
history_told : (chain : List Block) (height : ℕ) (o : Outcome) (demo : Demo) → IsToldBy o demo → IsHistoryOf demo_watch chain height o.tip o.history → IsDemoOf chain demo
history_told chain height o demo told h = record {
  entries = told.entries ∙ ap (λ (es : List Entry). length es) h.history;
  balance = told.balance ∙ ap balance_of h.history;
  tip = ap (λ (t : Hash32). t.0) told.tip ∙ h.tip_is;
}

demo_on : (seed blocks : ℕ) (peers : List Peer) (o : Outcome) (demo : Demo) (log : Log) → seed < 2 ^ 32 → blocks + 2 ≤ height_limit → HavePrepared seed blocks peers
    → HasRunOver demo_watch peers demo_names o log → IsToldBy o demo → IsDemo seed blocks demo log
demo_on seed blocks peers o demo log small low h ran told =
    let accounts : Accounts log (three_peers h.added.first h.added.second h.added.third) = subst (Accounts log) h.added.are ran.accounts in
    let three : IsGoodChain h.chain → IsGoodChain h.longer → AreThree h.chain h.longer log = λ good good_longer.
    are_three h.added.first h.added.second h.added.third h.chain h.longer log accounts ran.dials (h.added.same_first good) (h.added.same_second good_longer) (h.added.same_third good) in
    record {
      chain = h.chain;
      longer = h.longer;
      made = h.made;
      made_longer = h.made_longer;
      dials = ran.dials;
      names = ran.followed.run.named;
      three = three;
      stand = subst (λ (es : List PeerEnd). EndsTell es log) (sym told.ends) ran.stand;
      fetched = told.fetched ∙ fetches_are o.trace.items log ran.followed.asked.rightly ran.followed.traced;
      closed = told.closed ∙ closes_are o.trace.items log ran.followed.traced;
      why = subst (λ (end : End). IsEnd end log) (sym told.end) ran.followed.why;
      synced = λ is apart.
          let end : o.end ≡ Synced = sym told.end ∙ is in
          let chains = two_made seed blocks h.chain h.longer log small low h.made h.made_longer apart in
          history_told h.chain o.height o demo told
          (run_tells demo_watch o.height o.tip o.history log h.chain h.longer (run_in ran.followed) chains (three chains.good chains.good_longer) ran.theorem
          (ran.followed.settled end) (quiet_so o.end log ran.followed.why end));
      somebody = λ is clash.
          let good = made_good seed blocks h.chain log (omega (arith, small)) (omega (arith, low)) h.made clash in
          let same = h.added.same_third good in
          let at : slice_get peers 2 ≡ Some (peer_on Honest h.added.third) = ap (λ (ps : List Peer). slice_get ps 2) h.added.are in
          let honest : IsHonest log 3 h.added.third = ran.honest 2 (peer_on Honest h.added.third) at refl (omega arith) (subst (λ (b : List Block). NoHashClash (IsHashed log b)) (sym same) clash) in
          let here = ran.theorem.somebody 3 h.chain clash (subst (λ (b : List Block). IsHonest log 3 b) same honest) in
          both_ways (is_connected (trail log 3)) (left o.end log ran.followed.why (sym told.end ∙ is) 3) here;
      tired = λ is. ran.tired (sym told.end ∙ is);
      unended = λ is. goes_on o.end log ran.followed.why ran.accounts.stays (sym told.end ∙ is);
    }

pub demo_so : (seed blocks : ℕ) (watch : List (List ℕ)) (peers : List Peer) (names : List (List ℕ)) (o : Outcome) (demo : Demo) (log : Log) → seed < 2 ^ 32 → blocks + 2 ≤ height_limit → HavePrepared seed blocks peers
    → watch ≡ demo_watch → names ≡ demo_names → HasRunOver watch peers names o log → IsToldBy o demo → IsDemo seed blocks demo log
demo_so seed blocks watch peers names o demo log small low h watched named ran told =
    demo_on seed blocks peers o demo log small low h (subst (λ (w : List (List ℕ)). HasRunOver w peers demo_names o log) watched (subst (λ (n : List (List ℕ)). HasRunOver watch peers n o log) named ran)) told

-- ---- a session

session_on : (seed blocks : ℕ) (peers : List Peer) (o : Outcome) (log : Log) → seed < 2 ^ 32 → blocks ≤ height_limit → HasPrepared seed blocks peers → HasRunOver demo_watch peers session_names o log
    → IsSession seed blocks log
session_on seed blocks peers o log small low h ran =
    let honest : NoHashClash (IsHashed log h.chain) → IsHonest log 1 h.chain = λ clash.
    let good = made_good seed blocks h.chain log (omega (arith, small)) low h.made clash in
    let same : h.added.blocks ≡ h.chain = h.added.same good in
    let at : slice_get peers 0 ≡ Some (peer_on Honest h.added.blocks) = ap (λ (ps : List Peer). slice_get ps 0) h.added.added in
    subst (λ (b : List Block). IsHonest log 1 b) same
    (ran.honest 0 (peer_on Honest h.added.blocks) at refl (omega arith) (subst (λ (b : List Block). NoHashClash (IsHashed log b)) (sym same) clash)) in
    record {
      chain = h.chain;
      made = h.made;
      dials = ran.dials;
      run = record { end = o.end; height = o.height; tip = o.tip; entries = o.history; lines = o.trace.items; followed = ran.followed };
      honest = honest;
      connected = λ clash. ran.theorem.somebody 1 h.chain clash (honest clash);
      quiet = at_rest o.end log ran.followed.why ran.accounts.stays ran.tired;
    }

pub session_so : (seed blocks : ℕ) (watch : List (List ℕ)) (peers : List Peer) (names : List (List ℕ)) (o : Outcome) (log : Log) → seed < 2 ^ 32 → blocks ≤ height_limit → HasPrepared seed blocks peers
    → watch ≡ demo_watch → names ≡ session_names → HasRunOver watch peers names o log → IsSession seed blocks log
session_so seed blocks watch peers names o log small low h watched named ran =
    session_on seed blocks peers o log small low h (subst (λ (w : List (List ℕ)). HasRunOver w peers session_names o log) watched (subst (λ (n : List (List ℕ)). HasRunOver watch peers n o log) named ran))
