-- How what holds of a client and its wires goes on from turn to turn.
use Rattle.std.proofs.Common.{◌≡◌, ◌≢◌, ◌⊎◌, inl, inr, ℕ, zero, suc, ◌+◌, ◌<◌, ◌≤◌, List, [], ◌∷◌, ◌++◌, length, map, take, get_or, String, string_bytes, set, replicate, Option, Some, None, Bool, true, false, refl, sym, ◌∙◌, ap, subst, arith, if◌then◌else◌}
use Rattle.std.specs.Prelude.{◌↔◌, ◌==◌, ◌&&◌, ◌||◌, not, IfSome}
use Rattle.std.proofs.lemmas.Grind.{common_steps}
use Rattle.std.proofs.lemmas.Bool.{cases_eq, cases_Bool, cases_lt, both_ways, false≢true}
use Rattle.std.proofs.lemmas.List.{map-append, take_more, get_or-set_same, get_or-set_other}
use Rattle.std.specs.declared.alloc.Global.{Global}
use Rattle.cf_bytes.specs.declared.hash.Hash32.{Hash32}
use Rattle.cf_bytes.specs.declared.peer.PeerNo.{PeerNo}
use Rattle.cf_headers.specs.declared.store.HeaderStore.{Ghosts}
use Rattle.cf_match.specs.declared.matcher.Matcher.{Ghosts as Judges}
use Rattle.cf_wires.specs.declared.event.Delivery.{Delivery}
use Rattle.cf_wires.specs.declared.event.Delivery.TheVariants.{Got, Gone, Tick, Ended}
use Rattle.cf_wires.specs.declared.event.Dial.{Dial}
use Rattle.cf_wires.specs.declared.event.Event.{Event}
use Rattle.cf_wires.specs.declared.event.Event.TheVariants.{Dialled, NotDialled, Sent, SendFailed, Closed, Took}
use Rattle.cf_wires.specs.declared.event.Mark.{Mark}
use Rattle.cf_wires.specs.declared.event.Mark.TheVariants as mark
use Rattle.cf_wires.specs.Log.{Log, Told, Tally, Tells, tally_of, tell, dials}
use Rattle.cf_peer.specs.Trail.{Trail, Part, Lost, heard_part, called_part, with_item, part_of, trail, went_on, is_connected, ready}
use Rattle.cf_peer.specs.Asking.{is_open, is_idle, request}
use Rattle.cf_scan.specs.declared.history.Entry.{Entry}
use Rattle.cf_peer.specs.declared.mode.Mode.{Mode}
use Rattle.cf_peer.specs.declared.mode.Mode.TheVariants.{Once, Following}
use Rattle.cf_sync.specs.Fetching.{IsBusy, AreBytes, MayTake, RightlyIn, Rule}
use Rattle.cf_client.specs.declared.client.Client.{Client}
use Rattle.cf_run.specs.declared.outcome.End.{End}
use Rattle.cf_run.specs.declared.outcome.End.TheVariants.{Synced, NoPeers, Tired, Ended as EndedFirst}
use Rattle.cf_run.specs.declared.progress.Progress.{Progress}
use Rattle.cf_run.specs.declared.progress.SendState.{SendState}
use Rattle.cf_run.specs.declared.progress.SendState.TheVariants.{Fine}
use Rattle.cf_run.specs.Names.{names_in}
use Rattle.cf_hear.proofs.Tracking.{tracks_ended}
use Rattle.cf_client.specs.Stands.{Reflects, IsReportOf, seen_by, rule_by, greeting_by}
use Rattle.cf_run.specs.Run.{IsOrderly, WasOrderly, AreNumbered, IsUntaken, IsTicked, WereAskedOut, WerePinged, WasRun, RanTo, AreBytesOf, IsEnd, kept_lines, names_of, is_lost, NobodyLeft}
use Rattle.cf_run.specs.States.{IsUnused, Notes, Doing, HoldsOver, Stopped, state_at, is_pending, is_fine}
use Rattle.cf_client.specs.Blameless.{AreAskedOut}
use Rattle.cf_peer.specs.declared.act.Act.{Act}
use Rattle.cf_holds.specs.Due.{ArePlanned}
use Rattle.cf_sync.specs.Planned.{is_untold}
use Rattle.cf_sync.specs.Sync.{HasAskedIn}
use Rattle.cf_sync.proofs.Planning.{own_plan}
use Rattle.cf_sync.proofs.Deaf.{heard_on}
use Rattle.cf_sync.proofs.Modes.{rightly_following}
use Rattle.cf_sync.proofs.Settles.{followed_in}
use Rattle.cf_client.proofs.Innocent.{innocent, answered}
use Rattle.cf_client.proofs.Blaming.{asked_out_now, blameless, has_blamed}
use Rattle.cf_place.specs.declared.state.State.{State}
use Rattle.cf_place.specs.declared.state.State.TheVariants.{Working, Synced as IsSynced, NoPeers as HasNoPeers}
use Rattle.cf_place.specs.Standing.{IsState}
use Rattle.cf_run.proofs.Ticked.{ticked_ended, ticked_first, ticked_missed}
use Rattle.cf_run.proofs.Performs.{tells_more}
use Rattle.cf_run.proofs.Entries.{lost_off, sent_connected, untold_failing_here, untold_failing_others, untold_closed_others}

-- what a piece says connects nobody, and cuts nobody off
got_connected : (b : Bool) (piece : List ℕ) (part : Part) → is_connected (if b then heard_part piece part else part).trail ≡ is_connected part.trail
got_connected true piece part = heard_on piece part
got_connected false piece part = refl

dialled_others : (p : PeerNo) (name : List ℕ) (q : ℕ) (part : Part) → q ≢ p.0 → went_on (Dialled p name) q part ≡ part
dialled_others p name q part ne = grind (arith, common_steps)

more_names : (log : Log) (d : Dial) (called : List (List ℕ)) → names_of log ≡ called → map (λ (x : Dial). x.name) (dials log ++ d ∷ []) ≡ called ++ d.name ∷ []
more_names log d called is = map-append (λ (x : Dial). x.name) (dials log) (d ∷ []) ∙ ap (λ (xs : List (List ℕ)). xs ++ d.name ∷ []) is

-- by the same rule
pub doing_rule : {rule now : Rule} {acts : List Act} {progress : Progress} {called : List (List ℕ)} {planned : Log} {t : Told} → now ≡ rule → Doing rule acts progress called planned t → Doing now acts progress called planned t
doing_rule {acts = acts} {progress = progress} {called = called} {planned = planned} {t = t} same doing = subst (λ (r : Rule). Doing r acts progress called planned t) (sym same) doing

-- with every failed send told, the client's log is as it is, whatever is to be done
same_doing : {H M : Type 0} {g : Ghosts H} {j : Judges M} (c : Client H M g j) (acts : List Act) (progress : Progress) (called : List (List ℕ)) (names : List (List ℕ)) (t u : Told) (holds : HoldsOver c progress called t) (e : Event)
    → Notes (rule_by c) progress names (e ∷ holds.actual) u → ((q : ℕ) → is_untold (e ∷ holds.actual) q ≡ false) → Doing (rule_by c) acts progress names (e ∷ holds.actual) u
same_doing c acts progress called names t u holds e notes told = record {
  actual = e ∷ holds.actual;
  notes = notes;
  plan = own_plan (e ∷ holds.actual) told;
  brought = λ q. refl;
  came = λ q. refl;
  omitted = λ q fine omitted. omitted;
  unomitted = λ q fine omitted. omitted;
  rightly = rightly_following (rule_by c).mode (e ∷ holds.actual) notes.rightly;
  pending = λ q it. absurd (both_ways (is_pending (state_at progress.sends q)) (holds.none q) it);
  due = λ q untold. absurd (both_ways (is_untold (e ∷ holds.actual) q) (told q) untold);
  broken = λ q untold. absurd (both_ways (is_untold (e ∷ holds.actual) q) (told q) untold);
  known = λ q untold free. absurd (both_ways (is_untold (e ∷ holds.actual) q) (told q) untold);
}

-- between two calls of the client its log is in order
pub orderly : {H M : Type 0} {g : Ghosts H} {j : Judges M} (c : Client H M g j) (progress : Progress) (called : List (List ℕ)) (t : Told) (holds : HoldsOver c progress called t) → IsOrderly holds.actual
orderly c progress called t holds = record {
  innocent = innocent c holds.actual holds.reflects;
  blameless = blameless c holds.actual holds.reflects (rightly_following (rule_by c).mode holds.actual holds.notes.rightly);
  answered = answered c holds.actual holds.reflects;
  told = holds.told_all;
}

-- wires from which nothing was taken
untaken_so : (log : Log) (t : Told) → Tells log t → t.tally.taken ≡ 0 → t.tally.ended ≡ 0 → IsUntaken log
untaken_so log t tells untaken unended = (sym (ap (λ (x : Tally). x.taken) tells.counts) ∙ untaken, sym (ap (λ (x : Tally). x.ended) tells.counts) ∙ unended)

-- a peer is dialled
pub dial_doing : {H M : Type 0} {g : Ghosts H} {j : Judges M} (c : Client H M g j) (acts : List Act) (progress : Progress) (called : List (List ℕ)) (t : Told) (p : PeerNo) (name : List ℕ) (holds : HoldsOver c progress called t)
    → p.0 ≡ t.tally.dials + 1 → t.tally.dials < 8 → t.tally.taken ≡ 0 → t.tally.ended ≡ 0
    → Doing (rule_by c) acts progress (called ++ name ∷ []) (Dialled p name ∷ holds.actual) (tell (Dialled p name) t)
dial_doing c acts progress called t p name holds is room untaken unended =
    let count : t.tally.dials ≡ (tally_of holds.actual).dials = ap (λ (x : Tally). x.dials) holds.notes.tells.counts in
    let past : (tally_of holds.actual).dials < p.0 = omega (arith, count, is) in
    same_doing c acts progress called (called ++ name ∷ []) t (tell (Dialled p name) t) holds (Dialled p name)
    (record {
      tells = tells_more holds.actual t (Dialled p name) holds.notes.tells;
      bytes = holds.notes.bytes;
      rightly = holds.notes.rightly;
      planned = holds.notes.planned;
      order = holds.notes.order;
      pinged = holds.notes.pinged;
      asked_out = holds.notes.asked_out;
      numbered = (is ∙ ap (λ (n : ℕ). n + 1) count, holds.notes.numbered);
      first = (untaken_so holds.actual t holds.notes.tells untaken unended, holds.notes.first);
      traced = holds.notes.traced;
      named = more_names holds.actual (record { name = name; answered = true }) called holds.notes.named;
      off = λ q not_it. let ne : q ≢ p.0 = λ e. both_ways (is_fine (state_at progress.sends q)) not_it (holds.notes.new q (omega (arith, past, e))).0 in
          ap (λ (x : Part). is_connected x.trail) (dialled_others p name q (part_of holds.actual q) ne) ∙ holds.notes.off q not_it;
      shut = λ q it. let ne : q ≢ p.0 = λ e. both_ways (get_or progress.closed q false) (holds.notes.new q (omega (arith, past, e))).1 it in
          (ap (λ (x : Part). is_connected x.trail) (dialled_others p name q (part_of holds.actual q) ne) ∙ (holds.notes.shut q it).0, holds.told_all q);
      new = λ q le. holds.notes.new q (omega (arith, le));
      few = omega (arith, count, room);
    })
    holds.told_all

-- a dial fails
pub not_dialled_holds : {H M : Type 0} {g : Ghosts H} {j : Judges M} (c d : Client H M g j) (progress : Progress) (called : List (List ℕ)) (t : Told) (p : PeerNo) (name : List ℕ) (holds : HoldsOver c progress called t)
    → p.0 ≡ t.tally.dials + 1 → t.tally.dials < 8 → t.tally.taken ≡ 0 → t.tally.ended ≡ 0
    → rule_by d ≡ rule_by c → Reflects d (NotDialled p name ∷ holds.actual)
    → HoldsOver d progress (called ++ name ∷ []) (tell (NotDialled p name) t)
not_dialled_holds c d progress called t p name holds is room untaken unended same reflects =
    let count : t.tally.dials ≡ (tally_of holds.actual).dials = ap (λ (x : Tally). x.dials) holds.notes.tells.counts in
    record {
      actual = NotDialled p name ∷ holds.actual;
      notes = record {
        tells = tells_more holds.actual t (NotDialled p name) holds.notes.tells;
        bytes = holds.notes.bytes;
        rightly = subst (λ (r : Rule). RightlyIn r.mode holds.actual) (sym same) holds.notes.rightly;
        planned = subst (λ (r : Rule). ArePlanned r holds.actual) (sym same) holds.notes.planned;
        order = holds.notes.order;
        pinged = subst (λ (r : Rule). WerePinged r.mode holds.actual) (sym same) holds.notes.pinged;
        asked_out = subst (λ (r : Rule). WereAskedOut r holds.actual) (sym same) holds.notes.asked_out;
        numbered = (is ∙ ap (λ (n : ℕ). n + 1) count, holds.notes.numbered);
        first = (untaken_so holds.actual t holds.notes.tells untaken unended, holds.notes.first);
        traced = holds.notes.traced;
        named = more_names holds.actual (record { name = name; answered = false }) called holds.notes.named;
        off = λ q not_it. lost_off (p.0 == q) mark.NotDialled (part_of holds.actual q) (holds.notes.off q not_it);
        shut = λ q it. (lost_off (p.0 == q) mark.NotDialled (part_of holds.actual q) (holds.notes.shut q it).0, holds.told_all q);
        new = λ q le. holds.notes.new q (omega (arith, le));
        few = omega (arith, count, room);
      };
      reflects = reflects;
      ticked = ticked_missed p name holds.actual same holds.ticked;
      told_all = holds.told_all;
      none = holds.none;
    }

off_took : (d : Delivery) (q : ℕ) (part : Part) → is_connected part.trail ≡ false → is_connected (went_on (Took d) q part).trail ≡ false
off_took (Got p piece) q part off = got_connected (p.0 == q) piece part ∙ off
off_took (Gone p) q part off = lost_off (p.0 == q) mark.Gone part off
off_took (Tick s) q part off = off
off_took Ended q part off = off

took_dials : (d : Delivery) (log : Log) → (tally_of (Took d ∷ log)).dials ≡ (tally_of log).dials
took_dials (Got p piece) log = refl
took_dials (Gone p) log = refl
took_dials (Tick s) log = refl
took_dials Ended log = refl

took_bytes : (d : Delivery) (log : Log) → AreBytesOf d → AreBytes log → AreBytes (Took d ∷ log)
took_bytes (Got p piece) log is h = (is, h)
took_bytes (Gone p) log is h = h
took_bytes (Tick s) log is h = h
took_bytes Ended log is h = h

took_notes : {rule : Rule} (progress : Progress) (called : List (List ℕ)) (log : Log) (t : Told) (d : Delivery) → AreBytesOf d → Notes rule progress called log t → MayTake rule.mode log → IsOrderly log → IsTicked rule.mode log
    → AreAskedOut rule log → Notes rule progress called (Took d ∷ log) (tell (Took d) t)
took_notes progress called log t d is notes may in_order ticked asked_out = record {
  tells = tells_more log t (Took d) notes.tells;
  bytes = took_bytes d log is notes.bytes;
  rightly = (may, notes.rightly);
  planned = notes.planned;
  order = (in_order, notes.order);
  pinged = (ticked, notes.pinged);
  asked_out = (asked_out, notes.asked_out);
  numbered = notes.numbered;
  first = notes.first;
  traced = notes.traced;
  named = notes.named;
  off = λ q not_it. off_took d q (part_of log q) (notes.off q not_it);
  shut = λ q it. (off_took d q (part_of log q) (notes.shut q it).0, refl);
  new = λ q le. notes.new q (omega (arith, took_dials d log, le));
  few = omega (arith, took_dials d log, notes.few);
}

-- what is open is open to a peer that is connected
and_left : (a b : Bool) → (a && b) ≡ true → a ≡ true
and_left true b h = refl
and_left false b h = absurd (false≢true h)

open_on : (t : Trail) → is_open t ≡ true → is_connected t ≡ true
open_on t h = and_left (is_connected t) (not (ready t) || not (is_idle (request t))) h

-- while something is open a delivery may be taken by a client of either mode
pub may_take : (mode : Mode) (log : Log) → IsBusy log → MayTake mode log
may_take Once log busy = busy
may_take Following log busy = (busy.0, open_on (trail log busy.0) busy.1)

-- a delivery is taken
pub took_doing : {H M : Type 0} {g : Ghosts H} {j : Judges M} (c : Client H M g j) (acts : List Act) (progress : Progress) (called : List (List ℕ)) (t : Told) (d : Delivery) → AreBytesOf d → (holds : HoldsOver c progress called t) → MayTake (rule_by c).mode holds.actual
    → Doing (rule_by c) acts progress called (Took d ∷ holds.actual) (tell (Took d) t)
took_doing c acts progress called t d is holds may =
    same_doing c acts progress called called t (tell (Took d) t) holds (Took d) (took_notes progress called holds.actual t d is holds.notes may (orderly c progress called t holds) holds.ticked (asked_out_now c holds.actual holds.reflects)) (λ q. refl)

-- a client that follows may take a delivery while a peer is connected
there_so : (s : State) (log : Log) → IsState s log → (s ≡ HasNoPeers → ⊥) → MayTake Following log
there_so Working log busy ne = (busy.0, open_on (trail log busy.0) busy.1)
there_so IsSynced log rest ne = rest.1
there_so HasNoPeers log none ne = absurd (ne refl)

pub may_follow : (mode : Mode) (s : State) (log : Log) → mode ≡ Following → (s ≡ HasNoPeers → ⊥) → IsState s log → MayTake mode log
may_follow mode s log follows ne state = subst (λ (m : Mode). MayTake m log) (sym follows) (there_so s log state ne)

-- a client that is the same holds the same
pub holds_same : {H M : Type 0} {g : Ghosts H} {j : Judges M} {c d : Client H M g j} {progress : Progress} {called : List (List ℕ)} {t : Told} → d ≡ c → HoldsOver c progress called t → HoldsOver d progress called t
holds_same {H = H} {M = M} {g = g} {j = j} {progress = progress} {called = called} {t = t} same holds = subst (λ (x : Client H M g j). HoldsOver x progress called t) (sym same) holds

pub reflects_same : {H M : Type 0} {g : Ghosts H} {j : Judges M} {c d : Client H M g j} {log : Log} → d ≡ c → Reflects d log → Reflects c log
reflects_same {H = H} {M = M} {g = g} {j = j} {log = log} same reflects = subst (λ (x : Client H M g j). Reflects x log) same reflects

pub rule_same : {H M : Type 0} {g : Ghosts H} {j : Judges M} {c d : Client H M g j} → d ≡ c → rule_by d ≡ rule_by c
rule_same {H = H} {M = M} {g = g} {j = j} same = ap (λ (x : Client H M g j). rule_by x) same

pub greeting_same : {H M : Type 0} {g : Ghosts H} {j : Judges M} {c d : Client H M g j} → d ≡ c → greeting_by d ≡ greeting_by c
greeting_same {H = H} {M = M} {g = g} {j = j} same = ap (λ (x : Client H M g j). greeting_by x) same

pub mode_same : {H M : Type 0} {g : Ghosts H} {j : Judges M} {c d : Client H M g j} {mode : Mode} → d ≡ c → (rule_by c).mode ≡ mode → (rule_by d).mode ≡ mode
mode_same same is = ap (λ (r : Rule). r.mode) (rule_same same) ∙ is

-- of a client whose state was asked by one that is the same
pub may_held : {H M : Type 0} {g : Ghosts H} {j : Judges M} {c d : Client H M g j} {progress : Progress}
    {called : List (List ℕ)} {t : Told} (s : State) → d ≡ c → (holds : HoldsOver d progress called t)
    → (rule_by c).mode ≡ Following → (s ≡ HasNoPeers → ⊥) → ((log : Log) → Reflects d log → IsState s log)
    → MayTake (rule_by d).mode holds.actual
may_held {c = c} {d = d} s same holds follows ne state =
    may_follow (rule_by d).mode s holds.actual (mode_same {c = c} {d = d} same follows) ne
    (state holds.actual holds.reflects)

pub may_rest : {H M : Type 0} {g : Ghosts H} {j : Judges M} {c d : Client H M g j} {progress : Progress}
    {called : List (List ℕ)} {t : Told} (s : State) → d ≡ c → (holds : HoldsOver c progress called t)
    → (rule_by c).mode ≡ Following → (s ≡ HasNoPeers → ⊥) → ((log : Log) → Reflects d log → IsState s log)
    → MayTake (rule_by c).mode holds.actual
may_rest {c = c} {d = d} s same holds follows ne state =
    may_follow (rule_by c).mode s holds.actual follows ne
    (state holds.actual (reflects_same {c = d} {d = c} (sym same) holds.reflects))

-- a client that isn't told of the end reflects the log with it
reflects_ended : {H M : Type 0} {g : Ghosts H} {j : Judges M} (c : Client H M g j) (log : Log) → Reflects c log → Reflects c (Took Ended ∷ log)
reflects_ended c log reflects = record {
  alive = reflects.alive;
  places = record {
    count = reflects.places.count;
    omitted = reflects.places.omitted;
    named = λ right. reflects.places.named right.1;
    each = reflects.places.each;
  };
  tracks = tracks_ended (seen_by c) log reflects.tracks;
  unexposed = reflects.unexposed;
}

-- the wires have no more to give, of which the client isn't told
pub ended_here : {H M : Type 0} {g : Ghosts H} {j : Judges M} (c : Client H M g j) (progress : Progress)
    (called : List (List ℕ)) (t : Told) (holds : HoldsOver c progress called t)
    → MayTake (rule_by c).mode holds.actual → HoldsOver c progress called (tell (Took Ended) t)
ended_here c progress called t holds may = record {
  actual = Took Ended ∷ holds.actual;
  notes = took_notes progress called holds.actual t Ended tt holds.notes may
      (orderly c progress called t holds) holds.ticked (asked_out_now c holds.actual holds.reflects);
  reflects = reflects_ended c holds.actual holds.reflects;
  ticked = ticked_ended (rule_by c).mode holds.actual;
  told_all = λ q. refl;
  none = holds.none;
}

-- and the run ends
pub ended_stops : {H M : Type 0} {g : Ghosts H} {j : Judges M} (end : End) (c : Client H M g j) (progress : Progress) (called : List (List ℕ)) (t : Told) (holds : HoldsOver c progress called t)
    → MayTake (rule_by c).mode holds.actual → IsEnd end (Took Ended ∷ holds.actual) → Stopped end c progress called (tell (Took Ended) t)
unfolding ended_here
ended_stops end c progress called t holds may why =
    record { holds = ended_here c progress called t holds may; why = why }

-- the same, of what its client and its notes are then
pub ended_holds : {H M : Type 0} {g : Ghosts H} {j : Judges M} {c d : Client H M g j} {progress next : Progress} {called : List (List ℕ)} {t u : Told}
    → d ≡ c → next ≡ progress → u ≡ tell (Took Ended) t → (holds : HoldsOver c progress called t) → MayTake (rule_by c).mode holds.actual → HoldsOver d next called u
ended_holds {c = c} {d = d} {progress = progress} {next = next} {called = called} {t = t} {u = u} same noted told holds may =
    holds_same {c = c} {d = d} same
    (subst (λ (p : Progress). HoldsOver c p called u) (sym noted)
    (subst (λ (x : Told). HoldsOver c progress called x) (sym told) (ended_here c progress called t holds may)))

pub took_counts : (d : Delivery) (t : Told) → (d ≡ Ended → ⊥) → (tell (Took d) t).tally.taken ≡ t.tally.taken + 1
took_counts (Got p piece) t ne = refl
took_counts (Gone p) t ne = refl
took_counts (Tick s) t ne = refl
took_counts Ended t ne = absurd (ne refl)

pub took_closed : (d : Delivery) (t : Told) → (tell (Took d) t).tally.closed ≡ t.tally.closed
took_closed (Got p piece) t = refl
took_closed (Gone p) t = refl
took_closed (Tick s) t = refl
took_closed Ended t = refl

-- the tally says who is connected
abbrev is_called : Mark → Bool
is_called mark.Dialled = true
is_called _ = false

lost_by : (m : Mark) → m ≢ mark.NotYet → is_called m ≡ false → m ≢ mark.SendFailed → is_lost m ≡ true
lost_by mark.NotYet n c b = absurd (n refl)
lost_by mark.Dialled n c b = absurd (false≢true (sym c))
lost_by mark.NotDialled n c b = refl
lost_by mark.Gone n c b = refl
lost_by mark.Closed n c b = refl
lost_by mark.SendFailed n c b = absurd (b refl)

called_not : (m : Mark) → is_lost m ≡ true → is_called m ≡ false
called_not mark.NotYet h = refl
called_not mark.Dialled h = absurd (false≢true h)
called_not mark.NotDialled h = refl
called_not mark.Gone h = refl
called_not mark.Closed h = refl
called_not mark.SendFailed h = refl

fresh_mark : (k p : ℕ) → get_or (replicate k mark.NotYet) p mark.NotYet ≡ mark.NotYet
fresh_mark zero p = refl
fresh_mark (suc k) zero = refl
fresh_mark (suc k) (suc p) = fresh_mark k p

mark_set : (marks : List Mark) (i p : ℕ) (m : Mark) (y : Bool) → p < 9 → length marks ≡ 9 → is_called (get_or marks p mark.NotYet) ≡ y
    → is_called (get_or (set marks i m) p mark.NotYet) ≡ (if i == p then is_called m else y)
mark_set marks i p m y lt size is = elim (cases_eq p i) [
  | inl e ↦ grind (arith, common_steps)
  | inr ne ↦ grind (arith, common_steps)
]

push_if : (b : Bool) (a part : Part) → (if b then is_connected a.trail else is_connected part.trail) ≡ is_connected (if b then a else part).trail
push_if true a part = refl
push_if false a part = refl

kept_size : (marks : List Mark) (i : ℕ) (m : Mark) → length marks ≡ 9 → length (set marks i m) ≡ 9
kept_size marks i m size = grind (arith, common_steps)

-- the tally has as many marks, and this peer's says whether it is connected
record Marks (log : Log) (p : ℕ) : Type 0 where
  pub size : length (tally_of log).marks ≡ 9
  pub says : is_called (get_or (tally_of log).marks p mark.NotYet) ≡ is_connected (trail log p)

mark_step : (e : Event) (log : Log) (p : ℕ) → p < 9 → Marks log p → Marks (e ∷ log) p
mark_step (Dialled q name) log p lt before = record {
  size = kept_size (tally_of log).marks q.0 mark.Dialled before.size;
  says = mark_set (tally_of log).marks q.0 p mark.Dialled (is_connected (trail log p)) lt before.size before.says ∙ push_if (q.0 == p) (called_part (part_of log p)) (part_of log p);
}
mark_step (NotDialled q name) log p lt before = record {
  size = kept_size (tally_of log).marks q.0 mark.NotDialled before.size;
  says = mark_set (tally_of log).marks q.0 p mark.NotDialled (is_connected (trail log p)) lt before.size before.says ∙ push_if (q.0 == p) (with_item (Lost mark.NotDialled) (part_of log p)) (part_of log p);
}
mark_step (Sent q bytes) log p lt before = record { size = before.size; says = before.says ∙ sym (sent_connected q bytes p (part_of log p)) }
mark_step (SendFailed q) log p lt before = record {
  size = kept_size (tally_of log).marks q.0 mark.SendFailed before.size;
  says = mark_set (tally_of log).marks q.0 p mark.SendFailed (is_connected (trail log p)) lt before.size before.says ∙ push_if (q.0 == p) (with_item (Lost mark.SendFailed) (part_of log p)) (part_of log p);
}
mark_step (Closed q) log p lt before = record {
  size = kept_size (tally_of log).marks q.0 mark.Closed before.size;
  says = mark_set (tally_of log).marks q.0 p mark.Closed (is_connected (trail log p)) lt before.size before.says ∙ push_if (q.0 == p) (with_item (Lost mark.Closed) (part_of log p)) (part_of log p);
}
mark_step (Took (Got q piece)) log p lt before = record { size = before.size; says = before.says ∙ sym (got_connected (q.0 == p) piece (part_of log p)) }
mark_step (Took (Gone q)) log p lt before = record {
  size = kept_size (tally_of log).marks q.0 mark.Gone before.size;
  says = mark_set (tally_of log).marks q.0 p mark.Gone (is_connected (trail log p)) lt before.size before.says ∙ push_if (q.0 == p) (with_item (Lost mark.Gone) (part_of log p)) (part_of log p);
}
mark_step (Took (Tick s)) log p lt before = record { size = before.size; says = before.says }
mark_step (Took Ended) log p lt before = record { size = before.size; says = before.says }

marks_of : (log : Log) (p : ℕ) → p < 9 → Marks log p
marks_of [] p lt = record { size = refl; says = ap is_called (fresh_mark 9 p) }
marks_of (e ∷ log) p lt = mark_step e log p lt (marks_of log p lt)

-- a client that is the same tells the same
pub report_same : {H M : Type 0} {g : Ghosts H} {j : Judges M} (c d : Client H M g j) (height : ℕ) (hash : Hash32) (entries : List Entry) → d ≡ c → ((log : Log) → Reflects d log → IsReportOf (rule_by d) height hash entries log)
    → (log : Log) → Reflects c log → IsReportOf (rule_by c) height hash entries log
report_same {H = H} {M = M} {g = g} {j = j} c d height hash entries same told =
    subst (λ (x : Client H M g j). (log : Log) → Reflects x log → IsReportOf (rule_by x) height hash entries log) same told

-- what a run has done whose client holds its log
pub was_run : {H M : Type 0} {g : Ghosts H} {j : Judges M} (c : Client H M g j) (progress : Progress)
    (called : List (List ℕ)) (t : Told) (holds : HoldsOver c progress called t)
    → WasRun (rule_by c) called holds.actual
was_run c progress called t holds = record {
  planned = holds.notes.planned;
  was_orderly = holds.notes.order;
  orderly = orderly c progress called t holds;
  numbered = holds.notes.numbered;
  first = holds.notes.first;
  named = holds.notes.named;
  pinged = holds.notes.pinged;
  ticked = holds.ticked;
  asked_out = holds.notes.asked_out;
}

-- what a run that stopped has done
pub finishes : {H M : Type 0} {g : Ghosts H} {j : Judges M} (end : End) (c : Client H M g j) (progress : Progress) (called : List (List ℕ)) (t : Told) (height : ℕ) (hash : Hash32) (entries : List Entry)
    (stopped : Stopped end c progress called t) → IsReportOf (rule_by c) height hash entries stopped.holds.actual
    → RanTo (rule_by c) end height hash entries stopped.holds.notes.traced.0 called stopped.holds.actual
finishes end c progress called t height hash entries stopped report =
    let holds = stopped.holds in
    let asked : HasAskedIn (rule_by c).mode (rule_by c).watch height hash entries holds.actual = record {
      watchable = report.watchable;
      bytes = holds.notes.bytes;
      rightly = holds.notes.rightly;
      told = report.told;
      asked_out = report.asked_out;
    } in
    record {
      asked = asked;
      settled = λ is. let why = subst (λ (e : End). IsEnd e holds.actual) is stopped.why in
          followed_in (rule_by c).mode (rule_by c).watch height hash entries holds.actual asked why.0 why.1;
      blames = λ clash quiet. has_blamed c holds.actual report.told.chain holds.reflects holds.notes.bytes
          (rightly_following (rule_by c).mode holds.actual holds.notes.rightly) clash report.told.best
          (λ p on. (report.asked_out p on (quiet p)).tested);
      run = was_run c progress called t holds;
      traced = holds.notes.traced.1.0;
      why = stopped.why;
    }

-- a run that ended so, by its client
pub stops : {H M : Type 0} {g : Ghosts H} {j : Judges M} (end : End) (c : Client H M g j) (progress : Progress) (called : List (List ℕ)) (t : Told) → HoldsOver c progress called t
    → ((log : Log) → Reflects c log → IsEnd end log) → Stopped end c progress called t
stops end c progress called t holds why = record { holds = holds; why = why holds.actual holds.reflects }

-- whoever is connected was dialled, and so has a number
lost_on : (b : Bool) (m : Mark) (part : Part) → is_connected (if b then with_item (Lost m) part else part).trail ≡ true → is_connected part.trail ≡ true
lost_on true m part on = absurd (false≢true on)
lost_on false m part on = on

numbered_on : (log : Log) (p : ℕ) → AreNumbered log → is_connected (trail log p) ≡ true → (1 ≤ p) × (p ≤ (tally_of log).dials)
numbered_on [] p n on = absurd (false≢true on)
numbered_on (Dialled q name ∷ log) p n on = elim (cases_eq p q.0) [
  | inl e ↦ (omega (arith, e, n.0), omega (arith, e, n.0))
  | inr ne ↦
      let old = numbered_on log p n.1 (sym (ap (λ (x : Part). is_connected x.trail) (dialled_others q name p (part_of log p) ne)) ∙ on) in
      (old.0, omega (arith, old.1))
]
numbered_on (NotDialled q name ∷ log) p n on = let old = numbered_on log p n.1 (lost_on (q.0 == p) mark.NotDialled (part_of log p) on) in (old.0, omega (arith, old.1))
numbered_on (Sent q bytes ∷ log) p n on = numbered_on log p n (sym (sent_connected q bytes p (part_of log p)) ∙ on)
numbered_on (SendFailed q ∷ log) p n on = numbered_on log p n (lost_on (q.0 == p) mark.SendFailed (part_of log p) on)
numbered_on (Closed q ∷ log) p n on = numbered_on log p n (lost_on (q.0 == p) mark.Closed (part_of log p) on)
numbered_on (Took (Got q piece) ∷ log) p n on = numbered_on log p n (sym (got_connected (q.0 == p) piece (part_of log p)) ∙ on)
numbered_on (Took (Gone q) ∷ log) p n on = numbered_on log p n (lost_on (q.0 == p) mark.Gone (part_of log p) on)
numbered_on (Took (Tick s) ∷ log) p n on = numbered_on log p n on
numbered_on (Took Ended ∷ log) p n on = numbered_on log p n on

-- whoever was dialled has a mark of his own
set_same : (marks : List Mark) (i p : ℕ) (m : Mark) → p < 9 → length marks ≡ 9 → p ≡ i → get_or (set marks i m) p mark.NotYet ≡ m
set_same marks i p m lt size e =
    ap (λ (k : ℕ). get_or (set marks i m) k mark.NotYet) e ∙ get_or-set_same marks i m mark.NotYet (omega (arith, e, size, lt))

not_yet_set : (marks : List Mark) (i p : ℕ) (m : Mark) → p < 9 → length marks ≡ 9 → m ≢ mark.NotYet
    → (p ≢ i → get_or marks p mark.NotYet ≢ mark.NotYet) → get_or (set marks i m) p mark.NotYet ≢ mark.NotYet
not_yet_set marks i p m lt size is old = elim (cases_eq p i) [
  | inl e ↦ λ not_yet. is (sym (set_same marks i p m lt size e) ∙ not_yet)
  | inr ne ↦ λ not_yet. old ne (sym (get_or-set_other marks i p m mark.NotYet ne) ∙ not_yet)
]

below : (p n k : ℕ) → p ≤ n + 1 → k ≡ n + 1 → p ≢ k → p ≤ n
below p n k le is ne = elim (cases_lt p (n + 1)) [ inl lt ↦ omega (arith, lt) | inr ge ↦ absurd (ne (omega (arith, ge, le, is))) ]

dialled_mark : (log : Log) (p : ℕ) → AreNumbered log → 1 ≤ p → p ≤ (tally_of log).dials → p < 9
    → get_or (tally_of log).marks p mark.NotYet ≢ mark.NotYet
dialled_mark [] p n one le lt = absurd (omega (arith, one, le))
dialled_mark (Dialled q name ∷ log) p n one le lt =
    not_yet_set (tally_of log).marks q.0 p mark.Dialled lt (marks_of log p lt).size (λ e. cc e) (λ ne. dialled_mark log p n.1 one (below p (tally_of log).dials q.0 le n.0 ne) lt)
dialled_mark (NotDialled q name ∷ log) p n one le lt =
    not_yet_set (tally_of log).marks q.0 p mark.NotDialled lt (marks_of log p lt).size (λ e. cc e) (λ ne. dialled_mark log p n.1 one (below p (tally_of log).dials q.0 le n.0 ne) lt)
dialled_mark (Sent q bytes ∷ log) p n one le lt = dialled_mark log p n one le lt
dialled_mark (SendFailed q ∷ log) p n one le lt = not_yet_set (tally_of log).marks q.0 p mark.SendFailed lt (marks_of log p lt).size (λ e. cc e) (λ ne. dialled_mark log p n one le lt)
dialled_mark (Closed q ∷ log) p n one le lt = not_yet_set (tally_of log).marks q.0 p mark.Closed lt (marks_of log p lt).size (λ e. cc e) (λ ne. dialled_mark log p n one le lt)
dialled_mark (Took (Got q piece) ∷ log) p n one le lt = dialled_mark log p n one le lt
dialled_mark (Took (Gone q) ∷ log) p n one le lt = not_yet_set (tally_of log).marks q.0 p mark.Gone lt (marks_of log p lt).size (λ e. cc e) (λ ne. dialled_mark log p n one le lt)
dialled_mark (Took (Tick s) ∷ log) p n one le lt = dialled_mark log p n one le lt
dialled_mark (Took Ended ∷ log) p n one le lt = dialled_mark log p n one le lt

-- whose mark is that of a failed send, of him it isn't told yet
broken_set : (marks : List Mark) (i p : ℕ) (m : Mark) → p < 9 → length marks ≡ 9 → get_or (set marks i m) p mark.NotYet ≡ mark.SendFailed
    → ((p ≡ i) × (m ≡ mark.SendFailed)) ⊎ ((p ≢ i) × (get_or marks p mark.NotYet ≡ mark.SendFailed))
broken_set marks i p m lt size is = elim (cases_eq p i) [
  | inl e ↦ inl (e, sym (set_same marks i p m lt size e) ∙ is)
  | inr ne ↦ inr (ne, sym (get_or-set_other marks i p m mark.NotYet ne) ∙ is)
]

broken_mark : (log : Log) (p : ℕ) → p < 9 → WasOrderly log → get_or (tally_of log).marks p mark.NotYet ≡ mark.SendFailed → is_untold log p ≡ true
broken_mark [] p lt w is = let e : mark.NotYet ≡ mark.SendFailed = sym (fresh_mark 9 p) ∙ is in cc e
broken_mark (Dialled q name ∷ log) p lt w is = elim (broken_set (tally_of log).marks q.0 p mark.Dialled lt (marks_of log p lt).size is) [
  | inl x ↦ cc x.1
  | inr x ↦ broken_mark log p lt w x.1
]
broken_mark (NotDialled q name ∷ log) p lt w is = elim (broken_set (tally_of log).marks q.0 p mark.NotDialled lt (marks_of log p lt).size is) [
  | inl x ↦ cc x.1
  | inr x ↦ broken_mark log p lt w x.1
]
broken_mark (Sent q bytes ∷ log) p lt w is = broken_mark log p lt w is
broken_mark (SendFailed q ∷ log) p lt w is = elim (broken_set (tally_of log).marks q.0 p mark.SendFailed lt (marks_of log p lt).size is) [
  | inl x ↦ untold_failing_here q log p x.0
  | inr x ↦ untold_failing_others q log p x.0 ∙ broken_mark log p lt w.1 x.1
]
broken_mark (Closed q ∷ log) p lt w is = elim (broken_set (tally_of log).marks q.0 p mark.Closed lt (marks_of log p lt).size is) [
  | inl x ↦ cc x.1
  | inr x ↦ untold_closed_others q log p x.0 ∙ broken_mark log p lt w.1 x.1
]
broken_mark (Took (Got q piece) ∷ log) p lt w is = absurd (both_ways (is_untold log p) (w.0.told p) (broken_mark log p lt w.1 is))
broken_mark (Took (Gone q) ∷ log) p lt w is = elim (broken_set (tally_of log).marks q.0 p mark.Gone lt (marks_of log p lt).size is) [
  | inl x ↦ cc x.1
  | inr x ↦ absurd (both_ways (is_untold log p) (w.0.told p) (broken_mark log p lt w.1 x.1))
]
broken_mark (Took (Tick s) ∷ log) p lt w is = absurd (both_ways (is_untold log p) (w.0.told p) (broken_mark log p lt w.1 is))
broken_mark (Took Ended ∷ log) p lt w is = absurd (both_ways (is_untold log p) (w.0.told p) (broken_mark log p lt w.1 is))

lost_mark : (log : Log) (p : ℕ) → AreNumbered log → WasOrderly log → IsOrderly log → is_connected (trail log p) ≡ false → 1 ≤ p → p ≤ (tally_of log).dials → p < 9
    → is_lost (get_or (tally_of log).marks p mark.NotYet) ≡ true
lost_mark log p n was now off one le lt = lost_by (get_or (tally_of log).marks p mark.NotYet) (dialled_mark log p n one le lt) ((marks_of log p lt).says ∙ off)
    (λ broken. both_ways (is_untold log p) (now.told p) (broken_mark log p lt was broken))

nobody_left : (log : Log) → NobodyLeft (tally_of log) → AreNumbered log → (tally_of log).dials ≤ 8 → (p : ℕ) → is_connected (trail log p) ≡ false
nobody_left log none numbered few p = elim (cases_Bool (is_connected (trail log p))) [
  | inl on ↦
      let r = numbered_on log p numbered on in
      let lt : p < 9 = omega (arith, r.1, few) in
      absurd (both_ways (is_connected (trail log p)) (sym (marks_of log p lt).says ∙ called_not (get_or (tally_of log).marks p mark.NotYet) (none p r.0 r.1)) on)
  | inr off ↦ off
]

not_open : (t : Trail) → is_connected t ≡ false → is_open t ≡ true → ⊥
not_open t off is = both_ways (is_connected t) off (open_on t is)

ends_so : (end : End) (log : Log) → IsEnd end log → ((p : ℕ) → is_connected (trail log p) ≡ false) → end ≡ NoPeers
ends_so Synced log why off = absurd (both_ways (is_connected (trail log why.1.0)) (off why.1.0) why.1.1)
ends_so NoPeers log why off = refl
ends_so Tired log why off = absurd (not_open (trail log why.0) (off why.0) why.1)
ends_so EndedFirst log why off =
    let busy = why.1.1 in
    absurd (not_open (trail why.0 busy.0) (subst (λ (l : Log). is_connected (trail l busy.0) ≡ false) why.1.0 (off busy.0)) busy.1)

-- a run ends for want of peers exactly where the tally has nobody left
pub no_peers : {H M : Type 0} {g : Ghosts H} {j : Judges M} (end : End) (c : Client H M g j) (progress : Progress)
    (called : List (List ℕ)) (t : Told) → Stopped end c progress called t
    → (end ≡ NoPeers) ↔ NobodyLeft t.tally
no_peers end c progress called t stopped =
    let log = stopped.holds.actual in
    let notes = stopped.holds.notes in (
      (λ is. let off = subst (λ (e : End). IsEnd e log) is stopped.why in
          subst NobodyLeft (sym notes.tells.counts)
          (λ p one le. lost_mark log p notes.numbered notes.order (orderly c progress called t stopped.holds)
          (off p) one le (omega (arith, le, notes.few)))),
      (λ none. ends_so end log stopped.why (nobody_left log
          (subst NobodyLeft notes.tells.counts none) notes.numbered notes.few)),
    )

-- what holds of the log, holds of it where it is told
pub told_so : (o : Option Log) (actual : Log) (P : Log → Type 0) → IfSome o (λ l. l ≡ actual) → P actual → IfSome o P
told_so None actual P is h = tt
told_so (Some l) actual P is h = subst P (sym is) h

fine_all : (k q : ℕ) → get_or (replicate k Fine) q Fine ≡ Fine
fine_all zero q = refl
fine_all (suc k) zero = refl
fine_all (suc k) (suc q) = fine_all k q

open_all : (k q : ℕ) → get_or (replicate k false) q false ≡ false
open_all zero q = refl
open_all (suc k) zero = refl
open_all (suc k) (suc q) = open_all k q

-- of no line none is kept
none_kept : (wanted : Bool) → kept_lines wanted [] ≡ []
none_kept true = refl
none_kept false = refl

-- nothing has passed
pub starts : {H M : Type 0} {g : Ghosts H} {j : Judges M} (c : Client H M g j) (progress : Progress) (t : Told) → Reflects c [] → IsUnused progress
    → Tells [] t → HoldsOver c progress [] t
starts c progress t reflects unused tells =
    let fine : (q : ℕ) → state_at progress.sends q ≡ Fine = λ q. ap (λ (xs : List SendState). get_or xs q Fine) unused.sends ∙ fine_all 9 q in
    let unshut : (q : ℕ) → get_or progress.closed q false ≡ false = λ q. ap (λ (xs : List Bool). get_or xs q false) unused.closed ∙ open_all 9 q in
    record {
      actual = [];
      notes = record {
        tells = tells;
        bytes = tt;
        rightly = tt;
        planned = tt;
        order = tt;
        pinged = tt;
        asked_out = tt;
        numbered = tt;
        first = tt;
        traced = ([], (tt, unused.trace ∙ sym (none_kept progress.trace.wanted)));
        named = refl;
        off = λ q not_it. refl;
        shut = λ q it. (refl, refl);
        new = λ q le. (ap is_fine (fine q), unshut q);
        few = omega arith;
      };
      reflects = reflects;
      ticked = ticked_first (rule_by c).mode;
      told_all = λ q. refl;
      none = λ q. ap is_pending (fine q);
    }

-- one more name
pub names_more : (names : List (String Global)) (i : ℕ) (name : String Global) → i < length names → name ≡ get_or names i name
    → names_in (take i names) ++ string_bytes name ∷ [] ≡ names_in (take (i + 1) names)
names_more names i name lt is =
    let cut : take (i + 1) names ≡ take i names ++ name ∷ [] = take_more names i name lt ∙ ap (λ (x : String Global). take i names ++ x ∷ []) (sym is) in
    sym (ap names_in cut ∙ map-append string_bytes (take i names) (name ∷ []))
