-- What is said of a run that follows where none is made, and over a watch file.
use Rattle.std.proofs.Common.{◌≡◌, inl, inr, ℕ, Bool, true, false, List, [], Option, Some, None, refl, sym, ◌∙◌, ap, subst}
use Rattle.std.specs.Prelude.{IfSome}
use Rattle.std.proofs.lemmas.Bool.{both_ways, false≢true}
use Rattle.cf_bytes.specs.Files.{Named}
use Rattle.cf_wires.specs.Log.{Log, Told, Tells}
use Rattle.cf_answers.specs.declared.status.Status.{Status}
use Rattle.cf_answers.specs.declared.status.Status.TheVariants.{Done, OutFault}
use Rattle.cf_loading.specs.Verdicts.{IsOfFile}
use Rattle.cf_cli_client.specs.Following.{CutShort, GivenUp, IsReplayedIn, IsReplayedOn, KeptLive, KeptOn, KeptOnOver, KeptOnTape, TalliedOn, with_trace}
use Rattle.cf_answers.specs.Statuses.{has_run, is_over, was_refused}
use Rattle.cf_cli_client.specs.Theorem.{IsWatchFile}
use Rattle.cf_cli.proofs.Plays.{early_replayed, early_tallied, early_watch, no_run}
use Rattle.cf_cli_client.proofs.Tallies.{not_run}
use Rattle.cf_cli_client.proofs.Stays.{not_over, nothing_begun, new_put, new_all}

early_kept_on : (status : Status) (recorded trace : Bool) (scripts names : List (List ℕ)) (b : Option (List ℕ)) (log : Log) → has_run status ≡ false → log ≡ []
    → KeptOn status recorded trace scripts names b b log
early_kept_on status recorded trace scripts names b log off none = subst (λ (l : Log). KeptOn status recorded trace scripts names b b l) (sym none) (record {
  last = λ p blocks first top grows told alone quiet over. absurd (false≢true grows.growing.dialled);
  complete = λ p blocks first grows. absurd (false≢true grows.growing.dialled);
  never = λ p blocks first grows. tt;
  ran = λ over. absurd (both_ways (is_over status) (not_over status off) over);
  begun = λ is. record { lines = []; traced = inr (inl refl); texts = []; puts = inl refl; begun = nothing_begun (with_trace trace [] []) b };
  right = (tt, tt);
  run = λ ne. inl refl;
})

pub early_over_on : (status : Status) (recorded trace : Bool) (files : Option Named) (watch : List ℕ) (names : List (List ℕ)) (b : Option (List ℕ)) (log : Log) → IsOfFile status → log ≡ []
    → KeptOnOver status recorded trace files watch names b b log
early_over_on status recorded trace files watch names b log is none =
    early_watch (λ scripts. KeptOn status recorded trace scripts names b b log) status files watch log is none
    (early_kept_on status recorded trace [] names b log (no_run status is) none)

-- nor is anything given up
early_given : (status : Status) (scripts names : List (List ℕ)) (b : Option (List ℕ)) (n : ℕ) (log : Log) → IsOfFile status → log ≡ []
    → GivenUp status scripts names b b n n log
early_given status scripts names b n log file none = record {
  some = λ off. new_put scripts log b none;
  tried = λ off enough. inl (new_all scripts log b none);
  refused = λ is. absurd (not_run status OutFault (no_run status file) refl is);
  unrecorded = λ is. inl none;
  tells = inl refl;
}

-- the same of what `follow` puts, for wires that are new, which may tell no log
pub early_told_on : (t : Told) (status : Status) (recorded : Bool) (files : Option Named) (watch : List ℕ) (names : List (List ℕ)) (b : Option (List ℕ)) (n : ℕ)
    → IsOfFile status → Tells [] t → IfSome t.log (λ log. KeptLive status recorded files watch names b b n n log)
early_told_on t status recorded files watch names b n is fresh = told_over t.log fresh.content where
  told_over : (o : Option Log) → IfSome o (λ l. l ≡ []) → IfSome o (λ log. KeptLive status recorded files watch names b b n n log)
  told_over None none = tt
  told_over (Some log) none = record {
    kept = early_over_on status recorded false files watch names b log is none;
    given_up = early_given status _ names b n log is none;
  }

-- with the scripts of the watch file
pub tape_watch_on : (status : Status) (trace : Bool) (files : Option Named) (watch : List ℕ) (scripts names : List (List ℕ)) (before after : Option (List ℕ)) (log : Log)
    → IsWatchFile files watch scripts → was_refused status ≡ false → KeptOn status false trace scripts names before after log
    → (status ≡ OutFault → CutShort trace scripts names before after log) → KeptOnTape status trace files watch names before after log
tape_watch_on status trace files watch scripts names before after log read begun kept refused = record {
  kept = record { scripts = scripts; watched = λ made. read; unwatched = inr read; kept = kept };
  refused = refused;
  unrecorded = λ is. absurd (false≢true (sym begun ∙ ap was_refused is));
}

pub told_over_watch_on : (o : Option Log) (status : Status) (recorded : Bool) (files : Option Named) (watch : List ℕ) (scripts names : List (List ℕ))
    (before after : Option (List ℕ)) (old new : ℕ) → IsWatchFile files watch scripts
    → IfSome o (λ log. KeptOn status recorded false scripts names before after log)
    → IfSome o (λ log. GivenUp status scripts names before after old new log)
    → IfSome o (λ log. KeptLive status recorded files watch names before after old new log)
told_over_watch_on None status recorded files watch scripts names before after old new read kept given = tt
told_over_watch_on (Some log) status recorded files watch scripts names before after old new read kept given = record {
  kept = record { scripts = scripts; watched = λ made. read; unwatched = inr read; kept = kept };
  given_up = given;
}

pub early_tallied_on : (status : Status) (turns names : ℕ) (t : Told) → IsOfFile status → Tells [] t → TalliedOn status turns names t t
early_tallied_on status turns names t is fresh = record {
  tallied = early_tallied status turns names t is fresh;
  done = λ same. absurd (not_run status Done (no_run status is) refl same);
}

early_on_tape : (status : Status) (trace : Bool) (files : Option Named) (watch : List ℕ) (names : List (List ℕ)) (b : Option (List ℕ)) (log : Log) → IsOfFile status → log ≡ []
    → KeptOnTape status trace files watch names b b log
early_on_tape status trace files watch names b log file none = record {
  kept = early_over_on status false trace files watch names b log file none;
  refused = λ is. absurd (not_run status OutFault (no_run status file) refl is);
  unrecorded = λ is. none;
}

-- what is promised of `replay --follow` where the tape wasn't used
pub early_replayed_on : (status : Status) (turns : ℕ) (trace : Bool) (files : Option Named) (watch : List ℕ) (b : Option (List ℕ)) (t : Told) (log : Log)
    → IsOfFile status → Tells [] t → log ≡ [] → IsReplayedOn status turns trace files watch b b t t log
early_replayed_on status turns trace files watch b t log is fresh none =
    ([], early_on_tape status trace files watch [] b log is none, early_tallied_on status turns 0 t is fresh, λ same. absurd (not_run status OutFault (no_run status is) refl same))

-- the same in either mode
pub early_replayed_in : (follow : Bool) (status : Status) (turns : ℕ) (trace : Bool) (files : Option Named) (watch : List ℕ) (b : Option (List ℕ)) (t : Told) (log : Log)
    → IsOfFile status → Tells [] t → log ≡ [] → IsReplayedIn follow status turns trace files watch b b t t log
early_replayed_in true = early_replayed_on
early_replayed_in false = early_replayed
