-- What a dial leaves of the client, and what a whole run leaves of its wires, put together.
use Rattle.std.proofs.Common.{◌≡◌, inl, ℕ, ℤ, ◌+◌, ◌<◌, ◌≤◌, Bool, List, [], ◌∷◌, ◌++◌, Option, refl, sym, ◌∙◌, ap, subst, arith}
use Rattle.std.specs.List.{All}
use Rattle.std.specs.Prelude.{IfSome, IsSome}
use Rattle.cf_bytes.specs.Outside.{HasRisen}
use Rattle.cf_bytes.specs.declared.peer.PeerNo.{PeerNo}
use Rattle.cf_headers.specs.Store.{Chains}
use Rattle.cf_headers.specs.declared.store.HeaderStore.{Ghosts}
use Rattle.cf_match.specs.declared.matcher.Matcher.{Ghosts as Judges}
use Rattle.cf_peer.specs.declared.act.Act.{Act}
use Rattle.cf_place.specs.Places.{ActTells}
use Rattle.cf_wires.specs.declared.event.Delivery.{Delivery}
use Rattle.cf_wires.specs.declared.event.Event.TheVariants.{Dialled, NotDialled, Took}
use Rattle.cf_wires.specs.Log.{Log, Told, Tally, Tells, tell, told_finished}
use Rattle.cf_wires.specs.Wires.{Made}
use Rattle.cf_client.specs.declared.client.Client.{Client}
use Rattle.cf_run.specs.declared.outcome.End.{End}
use Rattle.cf_run.specs.declared.outcome.Outcome.{Outcome}
use Rattle.cf_run.specs.declared.progress.Progress.{Progress}
use Rattle.cf_run.specs.Passing.{Passes}
use Rattle.cf_place.specs.Standing.{Greeting}
use Rattle.cf_client.specs.Stands.{Answers, Reflects, rule_by, greeting_by}
use Rattle.cf_sync.specs.Fetching.{MayTake, Rule}
use Rattle.cf_run.specs.Run.{AreBytesOf, Course, HasDialled, HasNames, NoFailure}
use Rattle.cf_run.specs.States.{Doing, HoldsOver, IsUnused, RunState, Runs, Performs, Dials, IsInStep, Stopped, EndsTurns, TakesTurns, run_at}
use Rattle.cf_run.specs.Versions.{HasGreeting, KeepsGreeting}
use Rattle.cf_run.specs.Whole.{AreNewWires, EndsWithin, IsOutcome, LeavesWires}
use Rattle.cf_run.proofs.Courses.{course_on, told_runs, failed_runs, failures_blamed, dialled_one, missed_one, dials_then, dials_alone}
use Rattle.cf_run.proofs.Dialling.{none_dialled, none_named, dialled_on}
use Rattle.cf_run.proofs.Turns.{dial_doing, doing_rule, no_peers, starts, took_doing}
use Rattle.cf_run.proofs.Versions.{acts_tell_so, entry_keeps, has_so, new_greeting, greeting_so, greeting_then}

-- ---- one dial

-- a peer was dialled, and acts were done
pub dialled_then : {b c : RunState} (p : PeerNo) (name : List ℕ) (a : RunState) → b.told ≡ tell (Dialled p name) a.told → a.faults ≤ b.faults → b.script ≡ a.script
    → b.keeps ≡ a.keeps → b.progress ≡ a.progress → IsInStep a.told a.progress → Performs b c → Dials name a c
dialled_then {b = b} {c = c} p name a told later script keeps same step performs =
    dials_then {a = a} {b = b} {c = c} name (told_runs (Dialled p name) a b refl told later script keeps refl same step) (dialled_one p name a.told b.told told)
    (ap (λ (t : Told). t.tally.taken) told) (ap (λ (t : Told). t.tally.ended) told) performs

-- a peer could not be dialled
pub missed_alone : (p : PeerNo) (name : List ℕ) (a b : RunState) → HasRisen a.faults b.faults → b.told ≡ tell (NotDialled p name) a.told → a.faults ≤ b.faults
    → b.script ≡ a.script → b.keeps ≡ a.keeps → b.progress ≡ a.progress → IsInStep a.told a.progress → Dials name a b
missed_alone p name a b risen told later script keeps same step =
    dials_alone name a b (failed_runs (NotDialled p name) a b risen told later script keeps refl same step) (missed_one p name a.told b.told told)
    (ap (λ (t : Told). t.tally.taken) told) (ap (λ (t : Told). t.tally.ended) told)

pub keeps_after : (greeting : Greeting) (t u x : Told) → KeepsGreeting greeting t u → KeepsGreeting greeting u x → KeepsGreeting greeting t x
keeps_after greeting t u x one two = λ has. two (one has)

-- the same greeting, of another client
pub keeps_so : (v w : Greeting) (t u : Told) → v ≡ w → KeepsGreeting v t u → KeepsGreeting w t u
keeps_so v w t u greeting keeps = subst (λ (x : Greeting). KeepsGreeting x t u) greeting keeps

-- of acts, each of which tells the client's greeting
pub acts_keep : {H M : Type 0} {g : Ghosts H} {j : Judges M} (c d : Client H M g j) {acts more : List Act}
    {progress : Progress} {called : List (List ℕ)} {log : Log} {u : Told} (x : Told) → rule_by d ≡ rule_by c
    → greeting_by d ≡ greeting_by c → more ≡ acts → Answers d acts log → All (ActTells (greeting_by c)) acts
    → Doing (rule_by c) more progress called log u
    → ((called : List (List ℕ)) (log : Log) → Answers d more log → Doing (rule_by d) more progress called log u
    → All (ActTells (greeting_by d)) more → KeepsGreeting (greeting_by d) u x)
    → KeepsGreeting (greeting_by c) u x
acts_keep c d {acts = acts} {more = more} {called = called} {log = log} {u = u} x rule greeting same answers tells
    doing keeps = keeps_so (greeting_by d) (greeting_by c) u x greeting
    (keeps called log (subst (λ (a : List Act). Answers d a log) (sym same) answers) (doing_rule rule doing)
    (acts_tell_so (greeting_by c) (greeting_by d) acts more (sym greeting) same tells))

-- of a peer that was dialled
pub dial_keeps : {H M : Type 0} {g : Ghosts H} {j : Judges M} (c : Client H M g j) {progress : Progress}
    {called : List (List ℕ)} {t u : Told} (x : Told) (p : PeerNo) (name : List ℕ) (holds : HoldsOver c progress called t)
    → p.0 ≡ t.tally.dials + 1 → t.tally.dials < 8 → t.tally.taken ≡ 0 → t.tally.ended ≡ 0 → u ≡ tell (Dialled p name) t
    → ((called : List (List ℕ)) (log : Log) → Reflects c log
    → ((acts : List Act) → Doing (rule_by c) acts progress called (Dialled p name ∷ log) u)
    → KeepsGreeting (greeting_by c) u x)
    → KeepsGreeting (greeting_by c) t x
dial_keeps c {progress = progress} {called = called} {t = t} {u = u} x p name holds is room untaken unended told
    keeps = keeps_after (greeting_by c) t u x (entry_keeps (greeting_by c) (Dialled p name) t u told tt)
    (keeps (called ++ name ∷ []) holds.actual holds.reflects (λ acts.
    rw told (dial_doing c acts progress called t p name holds is room untaken unended)))

-- of a delivery that was taken, and of the acts that answer it
pub take_keeps : {H M : Type 0} {g : Ghosts H} {j : Judges M} (c d : Client H M g j) {acts more : List Act}
    {progress : Progress} {called : List (List ℕ)} {t u : Told} (x : Told) (e : Delivery) (holds : HoldsOver c progress called t)
    → MayTake (rule_by c).mode holds.actual → AreBytesOf e → u ≡ tell (Took e) t → rule_by d ≡ rule_by c
    → greeting_by d ≡ greeting_by c → more ≡ acts → Answers d acts (Took e ∷ holds.actual)
    → All (ActTells (greeting_by c)) acts
    → ((called : List (List ℕ)) (log : Log) → Answers d more log → Doing (rule_by d) more progress called log u
    → All (ActTells (greeting_by d)) more → KeepsGreeting (greeting_by d) u x)
    → KeepsGreeting (greeting_by c) t x
take_keeps c d {more = more} {progress = progress} {called = called} {t = t} {u = u} x e holds may bytes took rule
    greeting same answers tells keeps =
    let doing : Doing (rule_by c) more progress called (Took e ∷ holds.actual) u =
    rw took (took_doing c more progress called t e bytes holds may) in
    keeps_after (greeting_by c) t u x (entry_keeps (greeting_by c) (Took e) t u took tt)
    (acts_keep c d x rule greeting same answers tells doing keeps)

-- ---- the whole run

-- nothing has passed
pub passes_none : {W : Type 0} (told : W → Told) (faults : W → ℕ) (script : W → Option Made) (keeps : W → Bool)
    (greeting : Greeting) (names : List (List ℕ)) (turns : ℕ) (now : W) → Tells [] (told now)
    → Passes told faults script keeps greeting names turns now now
passes_none told faults script keeps greeting names turns now tells = record {
  versions = new_greeting greeting (told now) tells;
  first = none_dialled names (told now) tells;
  most = omega (arith, ap (λ (x : Tally). x.taken) tells.counts);
  once = omega (arith, ap (λ (x : Tally). x.ended) tells.counts);
  finished = refl;
  kept = refl;
  course = record { later = omega arith; blamed = λ clean. inl clean; logged = λ is. is; script = refl };
}

-- the dials were begun
pub passes_dials : {W H M : Type 0} {g : Ghosts H} {j : Judges M} {told : W → Told} {faults : W → ℕ}
    {script : W → Option Made} {keeps : W → Bool} {before after : W} {p q : Progress} {names : List (List ℕ)}
    (c : Client H M g j) → Reflects c [] → IsUnused p → Tells [] (told before)
    → (HoldsOver c p [] (told before) → KeepsGreeting (greeting_by c) (told before) (told after))
    → (HasNames [] (told before) → HasDialled names (told after)) → (told after).tally.taken ≡ 0
    → (told after).tally.ended ≡ 0
    → Runs (run_at told faults script keeps before p) (run_at told faults script keeps after q)
    → Passes told faults script keeps (greeting_by c) names 0 before after
passes_dials {told = told} {before = before} {p = p} c reflects unused new versions first taken ended runs = record {
  versions = versions (starts c p (told before) reflects unused new) (new_greeting (greeting_by c) (told before) new);
  first = first (none_named (told before) new);
  most = omega (arith, taken);
  once = omega (arith, ended);
  finished = runs.finished;
  kept = runs.keeps;
  course = runs.course;
}

-- and no turn was taken, by a client of this greeting
pub passes_untaken : {W : Type 0} {told : W → Told} {faults : W → ℕ} {script : W → Option Made} {keeps : W → Bool}
    {names : List (List ℕ)} {before after : W} {v : Greeting} {x y : ℤ} {n : ℕ} (turns : ℕ)
    → v ≡ record { moment = x; number = n } → x ≡ y → Passes told faults script keeps v names 0 before after
    → Passes told faults script keeps (record { moment = y; number = n }) names turns before after
passes_untaken {told = told} {after = after} {v = v} {x = x} {y = y} {n = n} turns is same dials = record {
  versions = has_so v (record { moment = y; number = n }) (told after) (greeting_so v x y n is same) dials.versions;
  first = dials.first;
  most = omega (arith, dials.most);
  once = dials.once;
  finished = dials.finished;
  kept = dials.kept;
  course = dials.course;
}

-- or turns were
pub passes_turns : {W : Type 0} {told : W → Told} {faults : W → ℕ} {script : W → Option Made} {keeps : W → Bool}
    {names : List (List ℕ)} {before now after : W} {p q : Progress} {v w : Greeting} {x y : ℤ} {n : ℕ} (turns : ℕ)
    → v ≡ record { moment = x; number = n } → x ≡ y → w ≡ v → Passes told faults script keeps v names 0 before now
    → KeepsGreeting w (told now) (told after)
    → TakesTurns turns (run_at told faults script keeps now p) (run_at told faults script keeps after q)
    → Passes told faults script keeps (record { moment = y; number = n }) names turns before after
passes_turns {told = told} {faults = faults} {script = script} {names = names} {before = before} {now = now}
    {after = after} {v = v} {w = w} {x = x} {y = y} {n = n} turns is first same dials keeps takes = record {
      versions = greeting_then v w (record { moment = y; number = n }) (told now) (told after) (greeting_so v x y n is first) same
          dials.versions keeps;
      first = dialled_on names (told now) (told after) dials.first takes.same;
      most = takes.most;
      once = takes.once;
      finished = takes.runs.finished ∙ dials.finished;
      kept = takes.runs.keeps ∙ dials.kept;
      course = course_on (told before) (told now) (told after) (faults before) (faults now) (faults after) (script before)
          (script now) (script after) dials.course takes.runs.course;
    }

-- and the wires are finished
pub leaves_wires : {W : Type 0} {told : W → Told} {faults : W → ℕ} {script : W → Option Made} {keeps : W → Bool}
    {names : List (List ℕ)} {turns : ℕ} {before now after : W} (v greeting : Greeting)
    → v ≡ greeting → AreNewWires (told before) → Passes told faults script keeps v names turns before now
    → told after ≡ told_finished (told now) → faults now ≤ faults after → script after ≡ script now
    → keeps after ≡ keeps now
    → LeavesWires told faults script keeps greeting names turns before after
leaves_wires {told = told} {faults = faults} {script = script} {names = names} {turns = turns} {before = before}
    {now = now} {after = after} v greeting same new passes is later scripts kept =
    let end : Course (told now) (told after) (faults now) (faults after) (script now) (script after) = record {
      later = later;
      blamed = λ clean. inl (subst NoFailure (sym is) clean);
      logged = λ has. subst (λ (t : Told). IsSome t.log) (sym is) has;
      script = scripts;
    } in
    let course = course_on (told before) (told now) (told after) (faults before) (faults now) (faults after)
    (script before) (script now) (script after) passes.course end in
    record {
      versions = subst (HasGreeting greeting) (sym is) (has_so v greeting (told now) same passes.versions);
      dialled = subst (HasDialled names) (sym is) (record { most = passes.first.most; first = passes.first.first });
      most = subst (λ (t : Told). t.tally.taken ≤ turns) (sym is) passes.most;
      once = subst (λ (t : Told). t.tally.ended ≤ 1) (sym is) passes.once;
      finished = ap (λ (t : Told). t.finished) is;
      kept = kept ∙ passes.kept;
      course = course;
      failures = failures_blamed (told before) (told after) (faults before) (faults after) (script before)
          (script after) new.log course;
    }

-- how a run ended that stopped so
pub ends_within : {H M : Type 0} {g : Ghosts H} {j : Judges M} {end : End} {c : Client H M g j} {progress : Progress}
    {called : List (List ℕ)} {t : Told} {names turns : ℕ} (now : End)
    → now ≡ end → Stopped end c progress called t → t.tally.dials ≡ names → EndsTurns end turns t.tally
    → EndsWithin now names turns t.tally
ends_within {end = end} {c = c} {progress = progress} {called = called} {t = t} {names = names}
    {turns = turns} now same stopped dials ends =
    subst (λ (e : End). EndsWithin e names turns t.tally) (sym same)
    (record {
      dialled = dials;
      no_peers = no_peers end c progress called t stopped;
      tired = ends.tired;
      ended = ends.ended;
      early = ends.early;
    })

-- what came of a run, by the rule that its client goes by, and by what is wanted of its trace
pub outcome_by : (counts : Chains → ℕ → Type 0) (called : List (List ℕ)) (o : Outcome) (log : Option Log) {r s : Rule} {a b : Bool} → r ≡ s → a ≡ b
    → IfSome log (IsOutcome counts r a called o) → IfSome log (IsOutcome counts s b called o)
outcome_by counts called o log {r = r} {b = b} rule wanted is =
    subst (λ (x : Rule). IfSome log (IsOutcome counts x b called o)) rule
    (subst (λ (x : Bool). IfSome log (IsOutcome counts r x called o)) wanted is)
