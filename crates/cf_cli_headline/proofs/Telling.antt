-- What is promised of a run has the headline.
use Rattle.std.proofs.Common.{◌≡◌, ◌⊎◌, inl, inr, ℕ, List, [], Option, Bool, false, refl, sym, ap, ◌∙◌, subst}
use Rattle.std.proofs.lemmas.Bool.{both_ways, cases_Bool, false≢true}
use Rattle.cf_bytes.specs.Files.{Named}
use Rattle.cf_bytes.specs.Outside.{with_more}
use Rattle.std.specs.FinMap.{get}
use Rattle.std.specs.Prelude.{IsSomeAnd, Some, Ok}
use Rattle.cf_answers.specs.declared.status.Status.{Status}
use Rattle.cf_answers.specs.declared.status.Status.TheVariants.{BadFile, Done, FileFault, NoMemory, Usage}
use Rattle.cf_answers.specs.Statuses.{has_run}
use Rattle.cf_cli_client.specs.Theorem.{IsAnswerOf, IsWatchFile, KeptOnce, KeptOver, Ran, RanBy}
use Rattle.cf_input.specs.WatchFile.{watch_of}
use Rattle.cf_run.specs.declared.outcome.End.{End}
use Rattle.cf_run.specs.declared.outcome.End.TheVariants.{Synced}
use Rattle.cf_run.specs.Run.{IsEnd}
use Rattle.cf_run_text.specs.Texts.{end_text}
use Rattle.cf_sync.specs.Fetching.{AreBytes, Rightly, once}
use Rattle.cf_wires.specs.Log.{Log}
use Rattle.cf_headline.specs.Grounds.{WereGreeted}
use Rattle.cf_headline.proofs.Serving.{headline_of}
use Rattle.cf_cli_headline.specs.Kept.{GreetsUnrun, HasScripts, HeadlineOver}
use Rattle.cf_cli_headline.proofs.Greeted.{orderly_greeted}
use Rattle.cf_plain.proofs.Watching.{watch_again}
use Rattle.cf_plain.specs.Plain.{watch_lines}

-- what Done says of the end and of what was written
synced : (end : End) (status : Status) (before after : Option (List ℕ)) (text : List ℕ) → status ≡ Done
    → IsAnswerOf end status before after text
    → (end ≡ Synced) × (after ≡ with_more before text)
synced end status before after text is answered = subst (λ (s : Status). IsAnswerOf end s before after text) is answered

-- a run that was made
made : (status : Status) (scripts names : List (List ℕ)) (before after : Option (List ℕ)) (log : Log) (recorded : Bool)
    → KeptOnce status recorded false scripts names before after log → Ran status false scripts names before after log
    → HeadlineOver status scripts before after log
made status scripts names before after log recorded kept ran =
    let by = ran.run in
    let text : List ℕ = end_text by.end by.entries by.height by.tip in
    record {
      text = text;
      written = λ is. (synced by.end status before after text is ran.answered).1;
      headline =
          headline_of (status ≡ Done) scripts text log kept.right.0 kept.right.1
          (orderly_greeted log by.followed.run.was_orderly)
          (λ is. let end : by.end ≡ Synced = (synced by.end status before after text is ran.answered).0 in
          record {
            height = by.height;
            hash = by.tip;
            entries = by.entries;
            asked = by.followed.asked;
            quiet = (subst (λ e. IsEnd e log) end by.followed.why).0;
            written = ap (λ e. end_text e by.entries by.height by.tip) end;
          });
    }

none_greeted : (log : Log) → log ≡ [] → WereGreeted log
none_greeted log none = subst WereGreeted (sym none) tt

-- a record that couldn't be written, or no run
unrun_greeted : (status : Status) (scripts names : List (List ℕ)) (log : Log) → has_run status ≡ false
    → (status ≡ FileFault → (log ≡ []) ⊎ RanBy (once scripts) names log) → GreetsUnrun status log → WereGreeted log
unrun_greeted NoMemory scripts names log none recorded others = others.greeted refl
unrun_greeted Usage scripts names log none recorded others =
    none_greeted log (others.refused refl (λ is. (let clash = is in cc)))
unrun_greeted (BadFile which place cause) scripts names log none recorded others =
    none_greeted log (others.refused refl (λ is. (let clash = is in cc)))
unrun_greeted FileFault scripts names log none recorded others = elim (recorded refl) [
  | inl empty ↦ none_greeted log empty
  | inr by ↦ orderly_greeted log by.followed.run.was_orderly
]
unrun_greeted status scripts names log none recorded others = absurd (false≢true (sym none))

-- where no run came, the scripts are none's
unrun_headline : (status : Status) (scripts : List (List ℕ)) (before after : Option (List ℕ)) (log : Log)
    → has_run status ≡ false
    → AreBytes log → Rightly log → WereGreeted log → HeadlineOver status scripts before after log
unrun_headline status scripts before after log none are right were =
    let other : (status ≡ Done) → ⊥ = λ is. both_ways (has_run status) none (ap has_run is) in
    record {
      text = [];
      written = λ is. absurd (other is);
      headline = headline_of (status ≡ Done) scripts [] log are right were (λ is. absurd (other is));
    }

pub kept_headline : (status : Status) (recorded : Bool) (scripts names : List (List ℕ)) (before after : Option (List ℕ))
    (log : Log)
    → KeptOnce status recorded false scripts names before after log → GreetsUnrun status log
    → HeadlineOver status scripts before after log
kept_headline status recorded scripts names before after log kept others = elim (cases_Bool (has_run status)) [
  | inl run ↦ made status scripts names before after log recorded kept (kept.ran run)
  | inr none ↦ unrun_headline status scripts before after log none kept.right.0 kept.right.1
      (unrun_greeted status scripts names log none kept.unrecorded others)
]

-- ---- over a watch file

scripts_there : (files : Option Named) (watch : List ℕ) (scripts found : List (List ℕ)) (named : Named)
    (has : Option (List ℕ)) → files ≡ Some named
    → get named watch ≡ has → has ≡ Some (watch_lines scripts) → IsWatchFile files watch found
    → watch_of (watch_lines scripts) ≡ Ok found
scripts_there files watch scripts found named has told at there is =
    subst (λ (o : Option (List ℕ)). IsSomeAnd o (λ bytes. watch_of bytes ≡ Ok found)) (at ∙ there)
    (subst (λ (o : Option Named). IsWatchFile o watch found) told is)

pub watched_headline : (status : Status) (recorded : Bool) (files : Option Named) (watch : List ℕ)
    (scripts names : List (List ℕ)) (before after : Option (List ℕ))
    (log : Log) → KeptOver status recorded false files watch names before after log → GreetsUnrun status log
    → HasScripts files watch scripts
    → HeadlineOver status scripts before after log
watched_headline status recorded files watch scripts names before after log over others has =
    elim (cases_Bool (has_run status)) [
      | inl run ↦ (
          let found = over.scripts in
          let same : found ≡ scripts =
          watch_again scripts found has.bytes
          (scripts_there files watch scripts found has.named (get has.named watch) has.told refl has.there
          (over.watched run)) in
          subst (λ s. HeadlineOver status s before after log) same
          (kept_headline status recorded found names before after log over.kept others))
      | inr none ↦ unrun_headline status scripts before after log none over.kept.right.0 over.kept.right.1
          (unrun_greeted status over.scripts names log none over.kept.unrecorded others)
    ]
