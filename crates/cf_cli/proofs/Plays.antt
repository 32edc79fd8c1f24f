-- How a session is played, and what is said where no run is made.
use Rattle.std.proofs.Common.{◌≡◌, inl, inr, ℕ, zero, suc, ◌<◌, Bool, true, false, List, [], ◌∷◌, map, length, take, Option, Some, None, Result, Ok, Err, refl, sym, ◌∙◌, ap, subst, arith}
use Rattle.std.specs.Prelude.{IfSome, IsSomeAnd, vec_len}
use Rattle.std.proofs.lemmas.Bool.{false≢true}
use Rattle.std.proofs.lemmas.List.{take_all, length-map}
use Rattle.cf_bytes.specs.Files.{Named}
use Rattle.cf_place.specs.Standing.{Greeting}
use Rattle.cf_run.specs.Versions.{IsOfGreeting}
use Rattle.cf_run.specs.Run.{HasDialled}
use Rattle.cf_run.specs.Texts.{IsOver}
use Rattle.cf_sync.specs.Fetching.{IsBusy}
use Rattle.cf_wires.specs.declared.event.Dial.{Dial}
use Rattle.cf_wires.specs.declared.memory.MemoryWires.{MemoryWires}
use Rattle.cf_wires.specs.Dials.{answered_at, goes_as_made}
use Rattle.cf_wires.specs.Log.{Log, Told, Tells, tally_of, dials}
use Rattle.cf_wires.specs.Memory.{script_of, log_of, failing_of, finished_of, told_of}
use Rattle.cf_wires.specs.Wires.{WireScript, Made}
use Rattle.cf_input.specs.declared.session.SessionFault.{SessionFault}
use Rattle.cf_answers.specs.declared.status.Status.{Status}
use Rattle.cf_answers.specs.declared.status.Status.TheVariants.{Done, NoMemory, Usage, BadFile, FileFault, OutFault, NoPeers, Tired, Ended, LinkFault, NoNonce, NoHeight, NotThere, NotInChain, NotAddress}
use Rattle.cf_input.specs.declared.words.Command.{Command}
use Rattle.cf_input.specs.declared.words.Command.TheVariants.{Replay}
use Rattle.cf_input.specs.SessionFile.{session_of}
use Rattle.cf_input.specs.WatchFile.{watch_of}
use Rattle.cf_answers.specs.Statuses.{has_run}
use Rattle.cf_cli.specs.Statuses.{verdict_of}
use Rattle.cf_loading.specs.Verdicts.{IsJudged, Missing, Good, and_then, IsOfFile, watch_verdict, session_verdict}
use Rattle.cf_cli_client.specs.Theorem.{IsWhole, IsWatchFile, KeptOnce, KeptOver, KeptOverWatch, IsOfRun, IsReplayed, Plays, PlaysSession, Tallied, WasOver}
use Rattle.std.specs.FinMap as finite
use Rattle.cf_cli_client.proofs.Tallies.{new_within, tallied_early}

-- an answer to a file: no run is made, and it is among those of `sync` and `replay`
record IsEarly (status : Status) : Type 0 where
  off : has_run status ≡ false
  answers : IsOfRun status

of_file : (status : Status) → IsOfFile status → IsEarly status
of_file NoMemory is = record { off = refl; answers = tt }
of_file FileFault is = record { off = refl; answers = tt }
of_file (BadFile which place cause) is = record { off = refl; answers = tt }
of_file Done is = absurd is
of_file Usage is = absurd is
of_file OutFault is = absurd is
of_file (NoPeers ends) is = absurd is
of_file Tired is = absurd is
of_file Ended is = absurd is
of_file LinkFault is = absurd is
of_file (NoNonce height) is = absurd is
of_file (NoHeight tip) is = absurd is
of_file (NotThere txid) is = absurd is
of_file (NotInChain block) is = absurd is
of_file (NotAddress cause) is = absurd is

pub no_run : (status : Status) → IsOfFile status → has_run status ≡ false
no_run status is = (of_file status is).off

dial_same : (x y : Dial) → x.name ≡ y.name → x.answered ≡ y.answered → x ≡ y
dial_same x y name answered = λ i. record { name = name i; answered = answered i }

-- the dials that were made are the first of a list, in order: their names are its first, and each went as it says
first_dials : (went made : List Dial) (n : ℕ) → map (λ (d : Dial). d.name) went ≡ take n (map (λ (d : Dial). d.name) made) → ((i : ℕ) → i < length went → answered_at went i ≡ answered_at made i)
    → went ≡ take n made
first_dials [] made zero names alike = refl
first_dials (x ∷ xs) made zero names alike = absurd (let e : x.name ∷ map (λ (d : Dial). d.name) xs ≡ [] = names in cc)
first_dials [] [] (suc n) names alike = refl
first_dials [] (y ∷ ys) (suc n) names alike = absurd (let e : [] ≡ y.name ∷ take n (map (λ (d : Dial). d.name) ys) = names in cc)
first_dials (x ∷ xs) [] (suc n) names alike = absurd (let e : x.name ∷ map (λ (d : Dial). d.name) xs ≡ [] = names in cc)
first_dials (x ∷ xs) (y ∷ ys) (suc n) names alike =
    let heads : x.name ≡ y.name = cc in
    let tails : map (λ (d : Dial). d.name) xs ≡ take n (map (λ (d : Dial). d.name) ys) = cc in
    let here : x.answered ≡ y.answered = alike 0 (omega arith) in
    let more : xs ≡ take n ys = first_dials xs ys n tails (λ i lt. alike (suc i) (omega arith)) in
    let one : x ≡ y = dial_same x y heads here in
    λ i. one i ∷ more i

abbrev pub made : WireScript → List ℕ → Made
made script failing = record { script = script; failing = failing }

some_same : (a b : Made) → Some a ≡ Some b → a ≡ b
some_same a b e = cc

-- the log of a tape that plays this script
plays_of : (status : Status) (names : List (List ℕ)) (script : WireScript) (tape : MemoryWires)
    → Some (made (script_of tape) (failing_of tape)) ≡ Some (made script []) → names ≡ map (λ (d : Dial). d.name) script.dials → HasDialled names (told_of tape)
    → (has_run status ≡ true → IsWhole (length names) (told_of tape)) → Plays status script (log_of tape)
plays_of status names script tape is_made named dialled whole =
    let same = some_same (made (script_of tape) (failing_of tape)) (made script []) is_made in
    let mine : script_of tape ≡ script = ap (λ (m : Made). m.script) same in
    let unfailing : failing_of tape ≡ [] = ap (λ (m : Made). m.failing) same in
    let n = (tally_of (log_of tape)).dials in
    let went : (i : ℕ) → i < length (dials (log_of tape)) → answered_at (dials (log_of tape)) i ≡ answered_at script.dials i =
    λ i lt. tape.went unfailing i lt ∙ ap (λ (s : WireScript). answered_at s.dials i) mine in
    let first : dials (log_of tape) ≡ take n script.dials = first_dials (dials (log_of tape)) script.dials n (dialled.first ∙ ap (take n) named) went in
    record {
      dialled = (n, first);
      given = (tape.at, tape.played ∙ ap (λ (s : WireScript). take tape.at s.deliveries) mine);
      all = λ is. first ∙ ap (λ (k : ℕ). take k script.dials) ((whole is).dialled ∙ ap length named ∙ length-map script.dials (λ (d : Dial). d.name)) ∙ take_all (length script.dials) script.dials (omega arith);
      whole = λ over.
          let all = tape.spent over in
          tape.played ∙ ap (λ (k : ℕ). take k tape.script.items) all ∙ whole_of tape ∙ ap (λ (s : WireScript). s.deliveries) mine;
      went = subst (λ (m : Made). goes_as_made m (log_of tape) ≡ true) same tape.made;
    } where
      whole_of : (tape : MemoryWires) → take (vec_len tape.script) tape.script.items ≡ tape.script.items
      whole_of tape = let ok = tape.script.ok.0 in take_all (vec_len tape.script) tape.script.items (omega (arith, ok))

-- where nothing has passed, nothing is amiss
nothing_plays : (status : Status) (script : WireScript) → has_run status ≡ false → Plays status script []
nothing_plays status script off = record {
  dialled = (0, refl);
  given = (0, refl);
  all = λ is. absurd (false≢true (sym off ∙ is));
  whole = λ over. absurd (let e : 0 < 0 = over in omega (arith, e));
  went = refl;
}

early_session : (status : Status) (r : Result WireScript SessionFault) (log : Log) → has_run status ≡ false → log ≡ [] → PlaysSession status r log
early_session status (Ok script) log off none = subst (λ (l : Log). Plays status script l) (sym none) (nothing_plays status script off)
early_session status (Err fault) log off none = none

pub early_plays : (o : Option Named) (name : List ℕ) (status : Status) (log : Log) → IsOfFile status → log ≡ []
    → IfSome o (λ m. IfSome (finite.get m name) (λ bytes. PlaysSession status (session_of bytes) log))
early_plays None name status log is none = tt
early_plays (Some m) name status log is none = by (finite.get m name) where
  by : (held : Option (List ℕ)) → IfSome held (λ bytes. PlaysSession status (session_of bytes) log)
  by None = tt
  by (Some bytes) = early_session status (session_of bytes) log (no_run status is) none

plays_by : (status : Status) (r : Result WireScript SessionFault) (script : WireScript) (log : Log) → r ≡ Ok script → Plays status script log → PlaysSession status r log
plays_by status r script log e plays = subst (λ (x : Result WireScript SessionFault). PlaysSession status x log) (sym e) plays

-- what is told stays the same file
pub told_so : (o p : Option Named) (name : List ℕ) (script : WireScript) → o ≡ p → IfSome o (λ m. IfSome (finite.get m name) (λ bytes. session_of bytes ≡ Ok script))
    → IfSome p (λ m. IfSome (finite.get m name) (λ bytes. session_of bytes ≡ Ok script))
told_so o p name script same h = subst (λ (x : Option Named). IfSome x (λ m. IfSome (finite.get m name) (λ bytes. session_of bytes ≡ Ok script))) same h

told_plays : (o : Option Named) (name : List ℕ) (status : Status) (script : WireScript) (log : Log)
    → IfSome o (λ m. IfSome (finite.get m name) (λ bytes. session_of bytes ≡ Ok script)) → Plays status script log
    → IfSome o (λ m. IfSome (finite.get m name) (λ bytes. PlaysSession status (session_of bytes) log))
told_plays None name status script log read plays = tt
told_plays (Some m) name status script log read plays = held_plays (finite.get m name) read where
  held_plays : (held : Option (List ℕ)) → IfSome held (λ bytes. session_of bytes ≡ Ok script) → IfSome held (λ bytes. PlaysSession status (session_of bytes) log)
  held_plays None h = tt
  held_plays (Some bytes) h = plays_by status (session_of bytes) script log h plays

-- a run over a tape that was loaded with the session of this file
pub loaded_plays : (o p : Option Named) (name : List ℕ) (status : Status) (names : List (List ℕ)) (script : WireScript) (loaded tape : MemoryWires)
    → IfSome o (λ m. IfSome (finite.get m name) (λ bytes. session_of bytes ≡ Ok script)) → o ≡ p
    → Some (made (script_of tape) (failing_of tape)) ≡ Some (made (script_of loaded) (failing_of loaded)) → script_of loaded ≡ script → failing_of loaded ≡ []
    → names ≡ map (λ (d : Dial). d.name) script.dials → HasDialled names (told_of tape) → (has_run status ≡ true → IsWhole (length names) (told_of tape))
    → IfSome p (λ m. IfSome (finite.get m name) (λ bytes. PlaysSession status (session_of bytes) (log_of tape)))
loaded_plays o p name status names script loaded tape read same stays is none named dialled whole =
    told_plays p name status script (log_of tape) (told_so o p name script same read)
    (plays_of status names script tape (stays ∙ ap Some (ap (λ (x : WireScript). made x (failing_of loaded)) is ∙ ap (made script) none)) named dialled whole)

-- where no run is made nothing has passed, and nobody is honest
early_kept : (status : Status) (recorded trace : Bool) (scripts names : List (List ℕ)) (b : Option (List ℕ)) (log : Log) → has_run status ≡ false → log ≡ [] → KeptOnce status recorded trace scripts names b b log
early_kept status recorded trace scripts names b log off none = subst (λ (l : Log). KeptOnce status recorded trace scripts names b b l) (sym none) (record {
  writes = λ p blocks serves other is untraced. absurd (false≢true serves.honest.dialled);
  answers = λ p blocks serves quiet. absurd (false≢true serves.honest.dialled);
  complete = λ p blocks serves. absurd (false≢true serves.honest.dialled);
  never = λ p blocks serves. tt;
  right = (tt, tt);
  ran = λ is. absurd (false≢true (sym off ∙ is));
  unrecorded = λ is. inl refl;
})

pub early_watch : (Kept : List (List ℕ) → Type 0) (status : Status) (files : Option Named) (watch : List ℕ) (log : Log)
    → IsOfFile status → log ≡ [] → Kept [] → KeptOverWatch status files watch log Kept
early_watch Kept status files watch log is none kept = record {
  scripts = [];
  watched = λ made. absurd (false≢true (sym (no_run status is) ∙ made));
  unwatched = inl none;
  kept = kept;
}

pub early_over : (status : Status) (recorded trace : Bool) (files : Option Named) (watch : List ℕ) (names : List (List ℕ)) (b : Option (List ℕ)) (log : Log) → IsOfFile status → log ≡ []
    → KeptOver status recorded trace files watch names b b log
early_over status recorded trace files watch names b log is none =
    early_watch (λ scripts. KeptOnce status recorded trace scripts names b b log) status files watch log is none
    (early_kept status recorded trace [] names b log (no_run status is) none)

-- the same for wires that are new, which may tell no log
pub early_told : (t : Told) (status : Status) (recorded trace : Bool) (files : Option Named) (watch : List ℕ) (names : List (List ℕ)) (b : Option (List ℕ)) → IsOfFile status → Tells [] t
    → IfSome t.log (λ log. KeptOver status recorded trace files watch names b b log)
early_told t status recorded trace files watch names b is fresh = told_over t.log fresh.content where
  told_over : (o : Option Log) → IfSome o (λ l. l ≡ []) → IfSome o (λ log. KeptOver status recorded trace files watch names b b log)
  told_over None none = tt
  told_over (Some log) none = early_over status recorded trace files watch names b log is none

-- what was judged good is there
pub watch_there : (files : Option Named) (watch : List ℕ) (scripts : List (List ℕ)) → IfSome files (λ m. watch_verdict (finite.get m watch) ≡ Good)
    → IfSome files (λ m. IfSome (finite.get m watch) (λ bytes. watch_of bytes ≡ Ok scripts)) → IsWatchFile files watch scripts
watch_there None watch scripts good read = tt
watch_there (Some m) watch scripts good read = held_there (finite.get m watch) good read where
  held_there : (held : Option (List ℕ)) → watch_verdict held ≡ Good → IfSome held (λ bytes. watch_of bytes ≡ Ok scripts) → IsSomeAnd held (λ bytes. watch_of bytes ≡ Ok scripts)
  held_there None good read = let none : Missing ≡ Good = good in cc
  held_there (Some bytes) good read = read

-- with the scripts of the watch file
pub over_watch : (status : Status) (recorded trace : Bool) (files : Option Named) (watch : List ℕ) (scripts names : List (List ℕ)) (before after : Option (List ℕ)) (log : Log)
    → IsWatchFile files watch scripts → KeptOnce status recorded trace scripts names before after log
    → KeptOver status recorded trace files watch names before after log
over_watch status recorded trace files watch scripts names before after log read kept = record { scripts = scripts; watched = λ made. read; unwatched = inr read; kept = kept }

pub told_over_watch : (o : Option Log) (status : Status) (recorded trace : Bool) (files : Option Named) (watch : List ℕ) (scripts names : List (List ℕ)) (before after : Option (List ℕ))
    → IsWatchFile files watch scripts → IfSome o (λ log. KeptOnce status recorded trace scripts names before after log)
    → IfSome o (λ log. KeptOver status recorded trace files watch names before after log)
told_over_watch None status recorded trace files watch scripts names before after read kept = tt
told_over_watch (Some log) status recorded trace files watch scripts names before after read kept = over_watch status recorded trace files watch scripts names before after log read kept

-- the wires weren't used
pub early_tallied : (status : Status) (turns names : ℕ) (t : Told) → IsOfFile status → Tells [] t → Tallied status turns names t t
early_tallied status turns names t is fresh = tallied_early status turns names t t (no_run status is) (of_file status is).answers (new_within turns names t fresh) (inl refl)

-- nothing is open where nothing has passed
pub new_over : (turns : ℕ) (t : Told) → Tells [] t → WasOver turns t
new_over turns t fresh = by t.log fresh.content where
  by : (o : Option Log) → IfSome o (λ l. l ≡ []) → IfSome o (λ log. IsBusy log → IsOver turns t.tally)
  by None h = tt
  by (Some log) h = subst (λ (l : Log). IsBusy l → IsOver turns t.tally) (sym h) (λ busy. absurd (false≢true busy.1))

-- what is promised of `replay` where the tape wasn't used
pub early_replayed : (status : Status) (turns : ℕ) (trace : Bool) (files : Option Named) (watch : List ℕ) (b : Option (List ℕ)) (t : Told) (log : Log)
    → IsOfFile status → Tells [] t → log ≡ [] → IsReplayed status turns trace files watch b b t t log
early_replayed status turns trace files watch b t log is fresh none =
    ([], early_over status false trace files watch [] b log is none, early_tallied status turns 0 t is fresh, λ ne. new_over turns t fresh)

-- nothing has passed a new tape
pub new_tape : (tape : MemoryWires) → log_of tape ≡ [] → Tells [] (told_of tape)
new_tape tape none = record { content = none; counts = ap tally_of none }

-- two tapes with one log, both finished or neither, tell the same
pub same_told : (a b : MemoryWires) → log_of a ≡ log_of b → finished_of a ≡ finished_of b → told_of a ≡ told_of b
same_told a b logs ends =
    ap (λ (l : Log). record { log = Some l; tally = tally_of l; finished = finished_of a }) logs ∙ ap (λ (f : Bool). record { log = Some (log_of b); tally = tally_of (log_of b); finished = f }) ends

pub same_command : (found : Option Command) (a b : Command) → found ≡ Some a → found ≡ Some b → a ≡ b
same_command found a b e f = cc

pub judged_for : (o : Option Named) (found : Option Command) (c : Command) (status : Status) → found ≡ Some c → IfSome o (λ m. IsJudged (verdict_of m c) status)
    → IfSome o (λ m. (other : Command) → found ≡ Some other → IsJudged (verdict_of m other) status)
judged_for None found c status e judged = tt
judged_for (Some m) found c status e judged = λ other is. subst (λ (x : Command). IsJudged (verdict_of m x) status) (same_command found c other e is) judged

pub judged_replay : (o : Option Named) (c : Command) (follow trace : Bool) (watch session watch_name session_name : List ℕ) (status : Status) → watch_name ≡ watch → session_name ≡ session
    → c ≡ Replay follow trace watch session
    → IfSome o (λ m. IsJudged (and_then (watch_verdict (finite.get m watch_name)) (session_verdict (finite.get m session_name))) status)
    → IfSome o (λ m. IsJudged (verdict_of m c) status)
judged_replay o c follow trace watch session watch_name session_name status a b is judged =
    let one = subst (λ (w : List ℕ). IfSome o (λ m. IsJudged (and_then (watch_verdict (finite.get m w)) (session_verdict (finite.get m session_name))) status)) a judged in
    let two = subst (λ (w : List ℕ). IfSome o (λ m. IsJudged (and_then (watch_verdict (finite.get m watch)) (session_verdict (finite.get m w))) status)) b one in
    subst (λ (x : Command). IfSome o (λ m. IsJudged (verdict_of m x) status)) (sym is) two

pub judged_watch : (o : Option Named) (c command : Command) (watch watch_name : List ℕ) (status : Status)
    → ((m : Named) → verdict_of m command ≡ watch_verdict (finite.get m watch)) → watch_name ≡ watch → c ≡ command
    → IfSome o (λ m. IsJudged (watch_verdict (finite.get m watch_name)) status) → IfSome o (λ m. IsJudged (verdict_of m c) status)
judged_watch None c command watch watch_name status by same is judged = tt
judged_watch (Some m) c command watch watch_name status by same is judged = rw (is, by m) (rw same at judged)

-- no version was sent over an empty log
pub unplayed_greeting : (greeting : Greeting) (log : Log) → log ≡ [] → IsOfGreeting greeting log
unplayed_greeting greeting log none = subst (IsOfGreeting greeting) (sym none) tt
