-- What holds from one state of a run to a later one, put together.
use Rattle.std.proofs.Common.{◌≡◌, ◌⊎◌, inl, inr, ℕ, ◌+◌, ◌<◌, ◌≤◌, Bool, true, false, List, [], ◌∷◌, ◌++◌, map, Option, Some, None, refl, sym, ◌∙◌, ap, subst, arith}
use Rattle.std.specs.Prelude.{IfSome, IsSome}
use Rattle.std.specs.List.{list_any}
use Rattle.std.proofs.lemmas.Bool.{false≢true}
use Rattle.std.proofs.lemmas.List.{map-append}
use Rattle.std.proofs.lemmas.Option.{none-some}
use Rattle.cf_bytes.specs.Outside.{HasRisen}
use Rattle.cf_bytes.specs.declared.peer.PeerNo.{PeerNo}
use Rattle.cf_peer.specs.declared.mode.Mode.{Mode}
use Rattle.cf_peer.specs.declared.mode.Mode.TheVariants.{Once, Following}
use Rattle.cf_wires.specs.declared.event.Delivery.{Delivery}
use Rattle.cf_wires.specs.declared.event.Delivery.TheVariants.{Got, Gone, Tick, Ended}
use Rattle.cf_wires.specs.declared.event.Dial.{Dial}
use Rattle.cf_wires.specs.declared.event.Event.{Event}
use Rattle.cf_wires.specs.declared.event.Event.TheVariants.{Dialled, NotDialled, Took}
use Rattle.cf_run.specs.declared.progress.Progress.{Progress}
use Rattle.cf_run.specs.declared.trace.Trace.{Trace}
use Rattle.cf_wires.specs.Log.{Log, Told, Tally, Tells, tell, longer, dials}
use Rattle.cf_wires.specs.Wires.{Made}
use Rattle.cf_run.specs.Run.{Course, NoFailure, HasFailed, is_failure, HasNames, names_of}
use Rattle.cf_run.specs.States.{SameCounts, trouble, RunState, run_state, Runs, Performs, IsOneMore, IsNoMore, Dials, Turns, IsInStep, EndsTurns, TakesTurns, TookTurns, CountsTurn, IsEndTold}
use Rattle.cf_run.specs.declared.outcome.End.{End}
use Rattle.cf_run.specs.declared.outcome.End.TheVariants.{Synced, NoPeers, Tired, Ended as EndedFirst}
use Rattle.cf_run.specs.Texts.{PutBefore, PutBy}
use Rattle.cf_sync.specs.Putting.{WerePut, ArePut}

rises_then : (f g h : ℕ) → HasRisen f g → g ≤ h → HasRisen f h
rises_then f g h risen le = omega (arith, risen, le)

rises_later : (f g h : ℕ) → f ≤ g → HasRisen g h → HasRisen f h
rises_later f g h le risen = omega (arith, le, risen)

blame_then : {V : Type 0} (f g h : ℕ) → f ≤ g → V ⊎ HasRisen g h → V ⊎ HasRisen f h
blame_then f g h le (inl v) = inl v
blame_then f g h le (inr risen) = inr (rises_later f g h le risen)

blame_on : {U V : Type 0} (f g h : ℕ) → f ≤ g → g ≤ h → (U → V ⊎ HasRisen g h) → U ⊎ HasRisen f g → V ⊎ HasRisen f h
blame_on f g h one two next (inl u) = blame_then f g h one (next u)
blame_on f g h one two next (inr risen) = inr (rises_then f g h risen two)

pub course_on : (t u v : Told) (f g h : ℕ) (s r q : Option Made) → Course t u f g s r → Course u v g h r q → Course t v f h s q
course_on t u v f g h s r q one two = record {
  later = omega (arith, one.later, two.later);
  blamed = λ clean. blame_on f g h one.later two.later two.blamed (one.blamed clean);
  logged = λ is. two.logged (one.logged is);
  script = two.script ∙ one.script;
}

-- an entry that is no failure
clean_more : (e : Event) (o : Option Log) → is_failure e ≡ false → IfSome o (λ log. list_any is_failure log ≡ false) → IfSome (longer e o) (λ log. list_any is_failure log ≡ false)
clean_more e None is clean = clean
clean_more e (Some log) is clean = rw (is, clean) refl

-- a log that is told goes on to be
logged_more : (e : Event) (o : Option Log) → IsSome o → IsSome (longer e o)
logged_more e None is = is
logged_more e (Some log) is = is

pub course_told : (e : Event) (t u : Told) (f g : ℕ) (s r : Option Made) → is_failure e ≡ false → u ≡ tell e t → f ≤ g → r ≡ s → Course t u f g s r
course_told e t u f g s r is told later script = record {
  later = later;
  blamed = λ clean. inl (subst NoFailure (sym told) (clean_more e t.log is clean));
  logged = λ told_before. subst (λ (x : Told). IsSome x.log) (sym told) (logged_more e t.log told_before);
  script = script;
}

-- a failure
pub course_failed : (e : Event) (t u : Told) (f g : ℕ) (s r : Option Made) → HasRisen f g → u ≡ tell e t → f ≤ g → r ≡ s → Course t u f g s r
course_failed e t u f g s r risen told later script = record {
  later = later;
  blamed = λ clean. inr risen;
  logged = λ told_before. subst (λ (x : Told). IsSome x.log) (sym told) (logged_more e t.log told_before);
  script = script;
}

clean_start : (o : Option Log) → IfSome o (λ log. log ≡ []) → IfSome o (λ log. list_any is_failure log ≡ false)
clean_start None start = start
clean_start (Some log) start = rw start refl

blamed_in : (o : Option Log) (f g : ℕ) → IfSome o (λ log. list_any is_failure log ≡ false) ⊎ HasRisen f g → IfSome o (λ log. HasFailed log → HasRisen f g)
blamed_in None f g why = tt
blamed_in (Some log) f g (inl clean) = λ failed. absurd (false≢true (sym clean ∙ failed))
blamed_in (Some log) f g (inr risen) = λ failed. risen

-- a failure in a run over new wires has raised the count
pub failures_blamed : (t u : Told) (f g : ℕ) (s r : Option Made) → Tells [] t → Course t u f g s r → IfSome u.log (λ log. HasFailed log → HasRisen f g)
failures_blamed t u f g s r start course = blamed_in u.log f g (course.blamed (clean_start t.log start.content))

-- ---- from one state to a later one

pub runs_self : (a : RunState) → IsInStep a.told a.progress → Runs a a
runs_self a step = record {
  course = record { later = omega arith; blamed = λ clean. inl clean; logged = λ is. is; script = refl };
  keeps = refl;
  finished = refl;
  step = step;
  wanted = refl;
}

pub runs_then : {a b c : RunState} → Runs a b → Runs b c → Runs a c
runs_then {a = a} {b = b} {c = c} one two = record {
  course = course_on a.told b.told c.told a.faults b.faults c.faults a.script b.script c.script one.course two.course;
  keeps = two.keeps ∙ one.keeps;
  finished = two.finished ∙ one.finished;
  step = two.step;
  wanted = two.wanted ∙ one.wanted;
}

pub counts_self : (t : Told) → SameCounts t t
counts_self t = record { dials = refl; taken = refl; ended = refl; named = λ called h. h; puts = λ watch texts h. h }

pub counts_on : (t u v : Told) → SameCounts t u → SameCounts u v → SameCounts t v
counts_on t u v one two = record {
  dials = two.dials ∙ one.dials;
  taken = two.taken ∙ one.taken;
  ended = two.ended ∙ one.ended;
  named = λ called h. two.named called (one.named called h);
  puts = λ watch texts h. two.puts watch texts (one.puts watch texts h);
}

pub performs_self : (a : RunState) → IsInStep a.told a.progress → Performs a a
performs_self a step = record { runs = runs_self a step; counts = counts_self a.told; fewer = omega arith }

pub performs_then : {a b c : RunState} → Performs a b → Performs b c → Performs a c
performs_then {a = a} {b = b} {c = c} one two = record {
  runs = runs_then {a = a} {b = b} {c = c} one.runs two.runs;
  counts = counts_on a.told b.told c.told one.counts two.counts;
  fewer = omega (arith, one.fewer, two.fewer);
}

-- the run's notes change alone
pub noted_performs : (told : Told) (faults : ℕ) (script : Option Made) (keeps : Bool) (before after : Progress) → after.closed ≡ before.closed → after.trace ≡ before.trace → trouble after < trouble before → IsInStep told before
    → Performs (run_state told faults script keeps before) (run_state told faults script keeps after)
noted_performs told faults script keeps before after closed trace fewer step = record {
  runs = record {
    course = record { later = omega arith; blamed = λ clean. inl clean; logged = λ is. is; script = refl };
    keeps = refl;
    finished = refl;
    step = step ∙ sym closed;
    wanted = ap (λ (x : Trace). x.wanted) trace;
  };
  counts = counts_self told;
  fewer = omega (arith, fewer);
}

-- an entry was made, by this course
runs_by : (e : Event) (a b : RunState) → Course a.told b.told a.faults b.faults a.script b.script → b.told ≡ tell e a.told
    → b.keeps ≡ a.keeps → (tell e a.told).tally.closed ≡ a.told.tally.closed → b.progress ≡ a.progress
    → IsInStep a.told a.progress → Runs a b
runs_by e a b course told keeps closed same step = record {
  course = course;
  keeps = keeps;
  finished = ap (λ (t : Told). t.finished) told;
  step = ap (λ (t : Told). t.tally.closed) told ∙ closed ∙ step ∙ sym (ap (λ (x : Progress). x.closed) same);
  wanted = ap (λ (x : Progress). x.trace.wanted) same;
}

pub told_runs : (e : Event) (a b : RunState) → is_failure e ≡ false → b.told ≡ tell e a.told → a.faults ≤ b.faults → b.script ≡ a.script → b.keeps ≡ a.keeps
    → (tell e a.told).tally.closed ≡ a.told.tally.closed → b.progress ≡ a.progress → IsInStep a.told a.progress → Runs a b
told_runs e a b is told later script =
    runs_by e a b (course_told e a.told b.told a.faults b.faults a.script b.script is told later script) told

-- a failure was
pub failed_runs : (e : Event) (a b : RunState) → HasRisen a.faults b.faults → b.told ≡ tell e a.told → a.faults ≤ b.faults → b.script ≡ a.script → b.keeps ≡ a.keeps
    → (tell e a.told).tally.closed ≡ a.told.tally.closed → b.progress ≡ a.progress → IsInStep a.told a.progress → Runs a b
failed_runs e a b risen told later script =
    runs_by e a b (course_failed e a.told b.told a.faults b.faults a.script b.script risen told later script) told

-- nothing passed
pub quiet_runs : (a b : RunState) → b.told ≡ a.told → a.faults ≤ b.faults → b.script ≡ a.script → b.keeps ≡ a.keeps → b.progress ≡ a.progress → IsInStep a.told a.progress → Runs a b
quiet_runs a b told later script keeps same step = record {
  course = record { later = later; blamed = λ clean. inl (subst NoFailure (sym told) clean); logged = λ is. subst (λ (t : Told). IsSome t.log) (sym told) is; script = script };
  keeps = keeps;
  finished = ap (λ (t : Told). t.finished) told;
  step = ap (λ (t : Told). t.tally.closed) told ∙ step ∙ sym (ap (λ (x : Progress). x.closed) same);
  wanted = ap (λ (x : Progress). x.trace.wanted) same;
}

-- an entry that dials nobody
pub names_kept : (e : Event) (t : Told) → ((log : Log) → names_of (e ∷ log) ≡ names_of log) → (called : List (List ℕ)) → HasNames called t → HasNames called (tell e t)
names_kept e t same called has = kept t.log has where
  kept : (o : Option Log) → IfSome o (λ log. names_of log ≡ called) → IfSome (longer e o) (λ log. names_of log ≡ called)
  kept None h = h
  kept (Some log) h = same log ∙ h

-- an entry that dials one
pub names_more_in : (e : Event) (t : Told) (name : List ℕ) → ((log : Log) → names_of (e ∷ log) ≡ names_of log ++ name ∷ []) → (called : List (List ℕ)) → HasNames called t → HasNames (called ++ name ∷ []) (tell e t)
names_more_in e t name more called has = kept t.log has where
  kept : (o : Option Log) → IfSome o (λ log. names_of log ≡ called) → IfSome (longer e o) (λ log. names_of log ≡ called ++ name ∷ [])
  kept None h = h
  kept (Some log) h = more log ∙ ap (λ (names : List (List ℕ)). names ++ name ∷ []) h

-- an entry that is no delivery
pub puts_kept : (e : Event) (t : Told) → ((watch : List (List ℕ)) (log : Log) (texts : List (List ℕ)) → WerePut watch log texts → WerePut watch (e ∷ log) texts)
    → (watch texts : List (List ℕ)) → PutBefore watch texts t → PutBefore watch texts (tell e t)
puts_kept e t same watch texts has = kept t.log has where
  kept : (o : Option Log) → IfSome o (λ log. WerePut watch log texts) → IfSome (longer e o) (λ log. WerePut watch log texts)
  kept None h = tt
  kept (Some log) h = same watch log texts h

-- one that is
pub puts_taken : (d : Delivery) (t u : Told) → u ≡ tell (Took d) t → (watch texts : List (List ℕ)) → PutBy watch texts t → PutBefore watch texts u
puts_taken d t u told watch texts has = subst (PutBefore watch texts) (sym told) (taken t.log has) where
  taken : (o : Option Log) → IfSome o (λ log. ArePut watch log texts) → IfSome (longer (Took d) o) (λ log. WerePut watch log texts)
  taken None h = tt
  taken (Some log) h = h

-- a dial that was answered so
one_more : (e : Event) (name : List ℕ) (answered : Bool) (t u : Told)
    → (tell e t).tally.dials ≡ t.tally.dials + 1
    → ((log : Log) → dials (e ∷ log) ≡ dials log ++ record { name = name; answered = answered } ∷ [])
    → ((watch texts : List (List ℕ)) → PutBefore watch texts t → PutBefore watch texts (tell e t))
    → u ≡ tell e t → IsOneMore name t u
one_more e name answered t u counted dialled puts told = subst (IsOneMore name t) (sym told) (record {
  dials = counted;
  named = names_more_in e t name (λ log. ap (map (λ (d : Dial). d.name)) (dialled log)
      ∙ map-append (λ (d : Dial). d.name) (dials log) (record { name = name; answered = answered } ∷ []));
  puts = puts;
})

pub dialled_one : (p : PeerNo) (name : List ℕ) (t u : Told) → u ≡ tell (Dialled p name) t → IsOneMore name t u
dialled_one p name t u = one_more (Dialled p name) name true t u refl (λ log. refl)
    (puts_kept (Dialled p name) t (λ watch log texts h. h))

pub missed_one : (p : PeerNo) (name : List ℕ) (t u : Told) → u ≡ tell (NotDialled p name) t → IsOneMore name t u
missed_one p name t u = one_more (NotDialled p name) name false t u refl (λ log. refl)
    (puts_kept (NotDialled p name) t (λ watch log texts h. h))

pub one_more_then : (t u v : Told) (name : List ℕ) → IsOneMore name t u → SameCounts u v → IsOneMore name t v
one_more_then t u v name more counts = record {
  dials = counts.dials ∙ more.dials;
  named = λ called h. counts.named (called ++ name ∷ []) (more.named called h);
  puts = λ watch texts h. counts.puts watch texts (more.puts watch texts h);
}

-- after a dial acts are done
pub dials_then : {a b c : RunState} (name : List ℕ) → Runs a b → IsOneMore name a.told b.told → b.told.tally.taken ≡ a.told.tally.taken → b.told.tally.ended ≡ a.told.tally.ended
    → Performs b c → Dials name a c
dials_then {a = a} {b = b} {c = c} name runs more taken ended performs = record {
  runs = runs_then {a = a} {b = b} {c = c} runs performs.runs;
  taken = performs.counts.taken ∙ taken;
  ended = performs.counts.ended ∙ ended;
  most = inl (one_more_then a.told b.told c.told name more performs.counts);
  puts = (one_more_then a.told b.told c.told name more performs.counts).puts;
}

-- a dial was made, and then nothing
pub dials_alone : (name : List ℕ) (a b : RunState) → Runs a b → IsOneMore name a.told b.told → b.told.tally.taken ≡ a.told.tally.taken → b.told.tally.ended ≡ a.told.tally.ended → Dials name a b
dials_alone name a b runs more taken ended = record { runs = runs; taken = taken; ended = ended; most = inl more; puts = more.puts }

-- nothing was dialled
pub dials_none : (name : List ℕ) (a b : RunState) → Runs a b → b.told ≡ a.told → Dials name a b
dials_none name a b runs same = record {
  runs = runs;
  taken = ap (λ (t : Told). t.tally.taken) same;
  ended = ap (λ (t : Told). t.tally.ended) same;
  most = inr (record { dials = ap (λ (t : Told). t.tally.dials) same; named = λ called h. subst (HasNames called) (sym same) h });
  puts = λ watch texts h. subst (PutBefore watch texts) (sym same) h;
}

-- ---- turns

pub turns_none : (a b : RunState) → Runs a b → b.told ≡ a.told → Turns a b
turns_none a b runs same = record {
  runs = runs;
  same = record { dials = ap (λ (t : Told). t.tally.dials) same; named = λ called h. subst (HasNames called) (sym same) h };
  taken = omega (arith, ap (λ (t : Told). t.tally.taken) same);
  ended = omega (arith, ap (λ (t : Told). t.tally.ended) same);
  puts = λ watch texts h. inr (subst (PutBy watch texts) (sym same) h);
}

took_no_more : (d : Delivery) (t : Told) → IsNoMore t (tell (Took d) t)
took_no_more (Got p piece) t = record { dials = refl; named = names_kept (Took (Got p piece)) t (λ log. refl) }
took_no_more (Gone p) t = record { dials = refl; named = names_kept (Took (Gone p)) t (λ log. refl) }
took_no_more (Tick s) t = record { dials = refl; named = names_kept (Took (Tick s)) t (λ log. refl) }
took_no_more Ended t = record { dials = refl; named = names_kept (Took Ended) t (λ log. refl) }

took_most : (d : Delivery) (t : Told) → ((tell (Took d) t).tally.taken ≤ t.tally.taken + 1) × ((tell (Took d) t).tally.ended ≤ t.tally.ended + 1)
took_most (Got p piece) t = (omega arith, omega arith)
took_most (Gone p) t = (omega arith, omega arith)
took_most (Tick s) t = (omega arith, omega arith)
took_most Ended t = (omega arith, omega arith)

-- a delivery was taken, and then nothing
pub turns_took : (d : Delivery) (a b : RunState) → Runs a b → b.told ≡ tell (Took d) a.told → Turns a b
turns_took d a b runs told =
    let n = took_no_more d a.told in
    let m = took_most d a.told in
    record {
      runs = runs;
      same = subst (IsNoMore a.told) (sym told) n;
      taken = omega (arith, ap (λ (t : Told). t.tally.taken) told, m.0);
      ended = omega (arith, ap (λ (t : Told). t.tally.ended) told, m.1);
      puts = λ watch texts h. inl (puts_taken d a.told b.told told watch texts h);
    }

-- and then acts were done
pub turns_then : {b c : RunState} (d : Delivery) (a : RunState) → Runs a b → b.told ≡ tell (Took d) a.told → Performs b c → Turns a c
turns_then {b = b} {c = c} d a runs told performs = let turns = turns_took d a b runs told in record {
  runs = runs_then {a = a} {b = b} {c = c} turns.runs performs.runs;
  same = record { dials = performs.counts.dials ∙ turns.same.dials; named = λ called h. performs.counts.named called (turns.same.named called h) };
  taken = omega (arith, turns.taken, performs.counts.taken);
  ended = omega (arith, turns.ended, performs.counts.ended);
  puts = λ watch texts h. inl (performs.counts.puts watch texts (puts_taken d a.told b.told told watch texts h));
}

pub no_more_self : (t : Told) → IsNoMore t t
no_more_self t = record { dials = refl; named = λ called h. h }

pub no_more_then : (t u v : Told) → IsNoMore t u → IsNoMore u v → IsNoMore t v
no_more_then t u v one two = record { dials = two.dials ∙ one.dials; named = λ called h. two.named called (one.named called h) }

-- no turn was taken yet
pub took_none : (a : RunState) → a.told.tally.taken ≡ 0 → a.told.tally.ended ≡ 0 → IsInStep a.told a.progress
    → TookTurns 0 a a
took_none a fresh unended step =
    record { taken = fresh; unended = unended; same = no_more_self a.told; runs = runs_self a step }

-- one more was
pub took_more : {a b c : RunState} {mode : Mode} {o : Option End} (turns : ℕ) → TookTurns turns a b → Turns b c → o ≡ None
    → CountsTurn mode o b.told.tally c.told.tally → TookTurns (turns + 1) a c
took_more {a = a} {b = b} {c = c} turns took turn is counts = record {
  taken = counts.taken is ∙ ap (λ (n : ℕ). n + 1) took.taken;
  unended = counts.unended is ∙ took.unended;
  same = no_more_then a.told b.told c.told took.same turn.same;
  runs = runs_then {a = a} {b = b} {c = c} took.runs turn.runs;
}

-- no more are
pub turns_over : {a b : RunState} (turns i : ℕ) → TookTurns i a b → i ≤ turns → TakesTurns turns a b
turns_over turns i took le = record {
  most = omega (arith, took.taken, le);
  once = omega (arith, took.unended);
  same = took.same;
  runs = took.runs;
}

-- one turn more, of those that are left
pub turns_more : {a b c : RunState} (turns i : ℕ) → TookTurns i a b → i < turns → Turns b c → TakesTurns turns a c
turns_more {a = a} {b = b} {c = c} turns i took lt turn = record {
  most = omega (arith, took.taken, lt, turn.taken);
  once = omega (arith, took.unended, turn.ended);
  same = no_more_then a.told b.told c.told took.same turn.same;
  runs = runs_then {a = a} {b = b} {c = c} took.runs turn.runs;
}

-- a turn after which the run goes on
pub counted_on : (mode : Mode) (before after : Tally) → after.taken ≡ before.taken + 1 → after.ended ≡ before.ended → CountsTurn mode None before after
counted_on mode before after taken unended = record {
  taken = λ is. taken;
  unended = λ is. unended;
  untaken = λ e is. absurd (none-some e is);
  untired = λ is. absurd (none-some Tired is);
  ended = λ e is. absurd (none-some e is);
}

-- one with which it ends
pub counted_end : (mode : Mode) (end : End) (before after : Tally) → (end ≡ Tired → ⊥) → after.taken ≡ before.taken
    → IsEndTold mode end before after → CountsTurn mode (Some end) before after
counted_end mode end before after untired taken told = record {
  taken = λ is. absurd (none-some end (sym is));
  unended = λ is. absurd (none-some end (sym is));
  untaken = λ e is. taken;
  untired = λ is. untired (cc is);
  ended = λ e is. subst (λ (x : End). IsEndTold mode x before after) (cc is) told;
}

-- and the wires had no more to give
pub counted_over : (mode : Mode) (end : End) (t u : Told) → (end ≡ Tired → ⊥) → u ≡ tell (Took Ended) t
    → IsEndTold mode end t.tally (tell (Took Ended) t).tally → CountsTurn mode (Some end) t.tally u.tally
counted_over mode end t u untired is told =
    subst (λ (x : Told). CountsTurn mode (Some end) t.tally x.tally) (sym is) (counted_end mode end t.tally (tell (Took Ended) t).tally untired refl told)

pub told_following : (end : End) (before after : Tally) → after.ended ≡ before.ended + 1 → IsEndTold Following end before after
told_following Synced before after told = told
told_following NoPeers before after told = tt
told_following Tired before after told = told
told_following EndedFirst before after told = told

told_first : (mode : Mode) (before after : Tally) → IsEndTold mode EndedFirst before after → after.ended ≡ before.ended + 1
told_first Once before after told = told
told_first Following before after told = told

-- with which the run ends
pub turn_ends : {o : Option End} (mode : Mode) (end : End) (turns i : ℕ) (before after : Tally) → o ≡ Some end
    → CountsTurn mode o before after → before.taken ≡ i → i < turns → before.ended ≡ 0
    → EndsTurns end turns after
turn_ends mode end turns i before after is counts taken lt unended = record {
  tired = λ tired. absurd (counts.untired (is ∙ ap Some tired));
  ended = λ first.
      let told = told_first mode before after (subst (λ (x : End). IsEndTold mode x before after) first (counts.ended end is)) in
      omega (arith, told, unended);
  early = λ first. omega (arith, counts.untaken end is, taken, lt);
}

-- all turns are taken
pub turns_used : (end : End) (turns : ℕ) (tally : Tally) → (end ≡ EndedFirst → ⊥) → tally.taken ≡ turns
    → EndsTurns end turns tally
turns_used end turns tally unended taken = record {
  tired = λ is. taken;
  ended = λ is. absurd (unended is);
  early = λ is. absurd (unended is);
}
