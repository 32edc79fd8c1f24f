-- What is said of a run by how it was told, and by what is answered for its record.
use Rattle.std.proofs.Common.{◌≡◌, ◌≢◌, inl, inr, ℕ, ℤ, ◌≤◌, Bool, true, false, List, [], length, take, Option, Some, None, refl, sym, ◌∙◌, ap, subst, arith}
use Rattle.std.specs.Prelude.{◌⊎◌, not, IfSome, String}
use Rattle.std.specs.Global.{Global}
use Rattle.std.proofs.lemmas.Bool.{both_ways, false≢true}
use Rattle.cf_bytes.specs.Files.{Named, WritesFile}
use Rattle.cf_bytes.specs.Outside.{HasRisen, with_more}
use Rattle.cf_headers.specs.Store.{Chains}
use Rattle.cf_place.specs.Standing.{Greeting}
use Rattle.cf_place.specs.declared.place.PeerEnd.{PeerEnd}
use Rattle.cf_run.specs.declared.outcome.End.{End}
use Rattle.cf_run.specs.declared.outcome.End.TheVariants.{Synced as IsSynced, NoPeers as HasNoPeers, Tired as IsTired, Ended as HasEnded}
use Rattle.cf_run.specs.declared.outcome.Outcome.{Outcome}
use Rattle.cf_run.specs.Names.{names_in}
use Rattle.cf_run.specs.Run.{HasFailed}
use Rattle.cf_run.specs.Texts.{HasPut, HasPutSome, IsOver, joined}
use Rattle.cf_run.specs.Whole.{EndsWithin, IsOutcome, LeavesWires}
use Rattle.cf_peer.specs.declared.mode.Mode.TheVariants.{Following, Once}
use Rattle.cf_sync.specs.Fetching.{AreBytes, RightlyIn, Rule, following, once}
use Rattle.cf_sync.specs.Growing.{FollowTheorem}
use Rattle.cf_sync.specs.Sync.{SyncTheorem}
use Rattle.cf_wires.specs.Log.{Log, Tells, Told}
use Rattle.cf_wires.specs.Wires.{Made}
use Rattle.cf_answers.specs.Statuses.{has_run, is_over, was_refused, was_unbegun}
use Rattle.cf_run_text.specs.Texts.{run_text}
use Rattle.cf_answers.specs.Writing.{CountsOut}
use Rattle.cf_answers.specs.declared.status.Status.{Status}
use Rattle.cf_answers.specs.declared.status.Status.TheVariants.{NoMemory, FileFault, OutFault}
use Rattle.cf_cli_client.specs.Ends.{AreEndsAfter, AreEndsBy, AreEndsOver}
use Rattle.cf_cli_client.specs.Following.{CutShort, GivenUp, KeptOn, TalliedOn, WasOverOn, with_trace}
use Rattle.cf_cli_client.specs.Leaving.{CountsOn, LeavesFiles, RunsOn, RunsOnce, RunsOnTape, RunsWires}
use Rattle.cf_cli_client.specs.Recording.{HasRecord, Records}
use Rattle.cf_cli_client.specs.Telling.{IsAnswered, IsSaid, IsStopped, IsTold}
use Rattle.cf_cli_client.specs.Theorem.{AnswersTo, IsOfRun, KeptOnce, Tallied}
use Rattle.cf_cli_client.proofs.Asking.{unwritten}
use Rattle.cf_cli_client.proofs.Ends.{copied, ends_put, ends_stay, over_failed, over_recorded}
use Rattle.cf_cli_client.proofs.Runs.{answered, kept_told, kept_without, stands_by, stands_unsaid, unrecorded_told, was_over}
use Rattle.cf_cli_client.proofs.Stays.{begun_by, counts_behind, counts_on, cut_told, fresh_told, new_put_told, over_by, run_begun, run_tallied_on, silent_told, spent_behind, spent_given, spent_on, spent_tallied_on, stayed_told, tallied_from, tape_begun, tape_written, unrecorded_given, unrecorded_on, unwritten_tallied_on, unwritten_told, was_over_on}
use Rattle.cf_cli_client.proofs.Tallies.{all_dialled, new_within, run_tallied, spent_tallied, tallied_early, unwritten_tallied, versions_so}

-- ---- its answer

-- an answer that tells how a run ended
of_run_by : (end : End) (ends : List PeerEnd) (status : Status) → AnswersTo end ends status → IsOfRun status
of_run_by IsSynced ends status is = subst IsOfRun (sym is) tt
of_run_by HasNoPeers ends status is = subst IsOfRun (sym is.1) tt
of_run_by IsTired ends status is = subst IsOfRun (sym is) tt
of_run_by HasEnded ends status is = subst IsOfRun (sym is) tt

run_by : (end : End) (ends : List PeerEnd) (status : Status) → AnswersTo end ends status → has_run status ≡ true
run_by IsSynced ends status is = ap has_run is
run_by HasNoPeers ends status is = ap has_run is.1
run_by IsTired ends status is = ap has_run is
run_by HasEnded ends status is = ap has_run is

-- what holds of each answer of a run that was told holds of this one
told_as : (P : Status → Option (List ℕ) → Type 0) (end : End) (ends : List PeerEnd) (text : List ℕ) (before : Option (List ℕ)) (status : Status) (recorded : Bool) (after : Option (List ℕ))
    → (AnswersTo end ends status → after ≡ with_more before text → P status after)
    → ((n : ℕ) → n ≤ length text → after ≡ with_more before (take n text) → P OutFault after)
    → P NoMemory before → (recorded ≡ true → P FileFault before)
    → IsSaid status end ends text before after ⊎ (IsStopped status recorded × (after ≡ before)) → P status after
told_as P end ends text before status recorded after whole part spent unrecorded (inl (inl said)) = whole said.0 said.1
told_as P end ends text before status recorded after whole part spent unrecorded (inl (inr said)) = subst (λ (s : Status). P s after) (sym said.0) (part said.1.0 said.1.1 said.1.2)
told_as P end ends text before status recorded after whole part spent unrecorded (inr (inl is, same)) =
    subst (λ (s : Status). P s after) (sym is) (subst (P NoMemory) (sym same) spent)
told_as P end ends text before status recorded after whole part spent unrecorded (inr (inr is, same)) =
    subst (λ (s : Status). P s after) (sym is.0) (subst (P FileFault) (sym same) (unrecorded is.1))

pub begun_told : {end : End} {ends : List PeerEnd} {text : List ℕ} {before after : Option (List ℕ)} {was now : List PeerEnd} (status : Status) (recorded : Bool)
    → IsTold status recorded end ends text before after was now → was_unbegun status recorded ≡ false
begun_told {end} {ends} {text} {before} {after} status recorded told =
    told_as (λ (s : Status) (o : Option (List ℕ)). was_unbegun s recorded ≡ false) end ends text before status recorded after
    (λ is written. run_begun status recorded (run_by end ends status is)) (λ n low written. refl) refl (λ on. ap not on) told.said

pub unwritten_told_of : {end : End} {ends : List PeerEnd} {text : List ℕ} {before after : Option (List ℕ)} {was now : List PeerEnd} (status : Status) (recorded : Bool)
    → IsTold status recorded end ends text before after was now → has_run status ≡ false → after ≡ before
unwritten_told_of {end} {ends} {text} {before} {after} status recorded told =
    told_as (λ (s : Status) (o : Option (List ℕ)). has_run s ≡ false → o ≡ before) end ends text before status recorded after
    (λ is written off. absurd (both_ways (has_run status) off (run_by end ends status is)))
    (λ n low written off. absurd (false≢true (sym off))) (λ off. refl) (λ on off. refl) told.said

-- without a record no file is to blame
pub unrefused_told : {end : End} {ends : List PeerEnd} {text : List ℕ} {before after : Option (List ℕ)} {was now : List PeerEnd} (status : Status)
    → IsTold status false end ends text before after was now → was_refused status ≡ false
unrefused_told {end} {ends} {text} {before} {after} status told =
    told_as (λ (s : Status) (o : Option (List ℕ)). was_refused s ≡ false) end ends text before status false after
    (λ is written. refused_by_end end is) (λ n low written. refl) refl (λ on. absurd (false≢true on)) told.said where
      refused_by_end : (e : End) → AnswersTo e ends status → was_refused status ≡ false
      refused_by_end IsSynced is = ap was_refused is
      refused_by_end HasNoPeers is = ap was_refused is.1
      refused_by_end IsTired is = ap was_refused is
      refused_by_end HasEnded is = ap was_refused is

-- the record stands where its text was said
pub said_records : (text : List ℕ) (before after : Option (List ℕ)) (end : End) (ends : List PeerEnd) (status : Status) (file : Option (List ℕ)) (log : Option Log) (old new : Option Named)
    → IsSaid status end ends text before after → HasRecord file log old new → Records status file log old new
said_records text before after IsSynced ends status file log old new (inl said) kept = subst (λ (s : Status). Records s file log old new) (sym said.0) kept
said_records text before after HasNoPeers ends status file log old new (inl said) kept = subst (λ (s : Status). Records s file log old new) (sym said.0.1) kept
said_records text before after IsTired ends status file log old new (inl said) kept = subst (λ (s : Status). Records s file log old new) (sym said.0) kept
said_records text before after HasEnded ends status file log old new (inl said) kept = subst (λ (s : Status). Records s file log old new) (sym said.0) kept
said_records text before after end ends status file log old new (inr said) kept = subst (λ (s : Status). Records s file log old new) (sym said.0) kept

-- the same of a text that is equal
pub said_with : (end : End) (ends : List PeerEnd) {bytes text : List ℕ} (before after : Option (List ℕ)) (status : Status) → bytes ≡ text
    → IsSaid status end ends bytes before after → IsSaid status end ends text before after
said_with end ends {bytes} {text} before after status same = subst (λ (t : List ℕ). IsSaid status end ends t before after) same

-- and no file is to blame
pub said_fine : (text : List ℕ) (before after : Option (List ℕ)) (end : End) (ends : List PeerEnd) (status : Status)
    → IsSaid status end ends text before after → status ≢ FileFault
said_fine text before after end ends status (inl said) = λ is. false≢true (sym (ap has_run is) ∙ run_by end ends status said.0)
said_fine text before after end ends status (inr said) = λ is. let both : FileFault ≡ OutFault = sym is ∙ said.0 in cc

-- ---- how its peers stand

pub ends_told : {text : List ℕ} {before after : Option (List ℕ)} {was now : List PeerEnd} (end : End) (ends : List PeerEnd) (status : Status) (recorded : Bool) (names : ℕ) (t : Told)
    → IsTold status recorded end ends text before after was now → AreEndsBy names t ends → AreEndsAfter status recorded names t was now
ends_told {was = was} {now = now} end ends status recorded names t told by = put_so told.put where
  put_so : (now ≡ ends) ⊎ ((status ≡ NoMemory) × (now ≡ was)) → AreEndsAfter status recorded names t was now
  put_so (inl same) = ends_put status recorded (begun_told status recorded told) (subst (AreEndsBy names t) (sym same) by)
  put_so (inr stay) = subst (AreEndsAfter status recorded names t was) (sym stay.1) (ends_stay status recorded names t was (ap has_run stay.0))

-- ---- a run that ends once nothing is open

pub once_told : {W : Type 0} {told : W → Told} {faults : W → ℕ} {script : W → Option Made} {keeps : W → Bool} {greeting : Greeting} {turns : ℕ} {from to : W}
    {before after : Option (List ℕ)} {was now : List PeerEnd}
    → (counts : Chains → ℕ → Type 0) (watch : List (List ℕ)) (names : List (String Global)) (o : Outcome) (status : Status) (recorded trace : Bool) (first : Told)
    → IfSome (told to).log (IsOutcome counts (once watch) trace (names_in names) o) → IfSome (told to).log (λ log. SyncTheorem watch o.height o.tip o.history log)
    → IfSome (told to).log (λ log. AreBytes log × RightlyIn Once log) → EndsWithin o.end (length names) turns (told to).tally
    → LeavesWires told faults script keeps greeting (names_in names) turns from to
    → IsTold status recorded o.end o.ends.items (run_text trace o.trace.items o.end o.history o.height o.tip) before after was now
    → RunsOnce status turns recorded trace watch (names_in names) before after first (told to)
once_told {told = told} {turns = turns} {to = to} {before = before} {after = after} counts watch names o status recorded trace first outcome theorem right within wires so = record {
  kept = told_as (λ (s : Status) (out : Option (List ℕ)). IfSome (told to).log (λ log. KeptOnce s recorded trace watch (names_in names) before out log))
      o.end o.ends.items (run_text trace o.trace.items o.end o.history o.height o.tip) before status recorded after
      (λ is written. kept_told (told to).log counts watch (names_in names) o status recorded trace before after outcome theorem
      (answered o.end o.ends.items status before after _ is written) (λ log. stands_by o.end o.ends.items status log is))
      (λ n low written. kept_told (told to).log counts watch (names_in names) o OutFault recorded trace before after outcome theorem (n, written) (λ log tell. stands_unsaid log))
      (kept_without (told to).log watch (names_in names) recorded trace before before right)
      (λ on. unrecorded_told (told to).log counts watch (names_in names) o recorded trace before before on outcome theorem)
      so.said;
  tallied = told_as (λ (s : Status) (out : Option (List ℕ)). Tallied s turns (length (names_in names)) first (told to))
      o.end o.ends.items (run_text trace o.trace.items o.end o.history o.height o.tip) before status recorded after
      (λ is written. run_tallied names o.end o.ends.items status first is (of_run_by o.end o.ends.items status is) wires within)
      (λ n low written. unwritten_tallied first wires (all_dialled names within))
      (spent_tallied NoMemory first refl tt wires)
      (λ on. spent_tallied FileFault first refl tt wires)
      so.said;
  over = λ enough. was_over counts (once watch) trace (names_in names) o _ turns (told to) outcome within;
}

-- memory was wanting in it
pub once_spent : {W : Type 0} {told : W → Told} {faults : W → ℕ} {script : W → Option Made} {keeps : W → Bool} {greeting : Greeting} {names : List (List ℕ)} {turns : ℕ} {from to : W}
    → (watch : List (List ℕ)) (recorded trace : Bool) (before : Option (List ℕ)) (first : Told) → IfSome (told to).log (λ log. AreBytes log × RightlyIn Once log)
    → LeavesWires told faults script keeps greeting names turns from to → RunsOnce NoMemory turns recorded trace watch names before before first (told to)
once_spent {told = told} {names = names} {to = to} watch recorded trace before first right wires = record {
  kept = kept_without (told to).log watch names recorded trace before before right;
  tallied = spent_tallied NoMemory first refl tt wires;
  over = λ enough. absurd (enough refl);
}

-- over new wires nothing is amiss
new_tallied : (turns names : ℕ) (t : Told) → Tells [] t → Tallied NoMemory turns names t t
new_tallied turns names t fresh = tallied_early NoMemory turns names t t refl tt (new_within turns names t fresh) (inl refl)

new_right : (P : Log → Type 0) (t : Told) → Tells [] t → P [] → IfSome t.log P
new_right P t fresh none = by t.log fresh.content where
  by : (o : Option Log) → IfSome o (λ log. log ≡ []) → IfSome o P
  by None is = tt
  by (Some log) is = subst P (sym is) none

-- or before it
pub once_unbegun : (watch names : List (List ℕ)) (turns : ℕ) (recorded trace : Bool) (before : Option (List ℕ)) (t : Told) → Tells [] t
    → RunsOnce NoMemory turns recorded trace watch names before before t t
once_unbegun watch names turns recorded trace before t fresh = record {
  kept = kept_without t.log watch names recorded trace before before (new_right (λ log. AreBytes log × RightlyIn Once log) t fresh (tt, tt));
  tallied = new_tallied turns (length names) t fresh;
  over = λ enough. absurd (enough refl);
}

-- ---- a run that follows over a tape

pub tape_told : {W : Type 0} {told : W → Told} {faults : W → ℕ} {script : W → Option Made} {keeps : W → Bool} {greeting : Greeting} {turns : ℕ} {from to : W}
    {before after : Option (List ℕ)} {was now : List PeerEnd} {old kept bytes : List ℕ}
    → (counts : Chains → ℕ → Type 0) (watch : List (List ℕ)) (names : List (String Global)) (o : Outcome) (status : Status) (trace : Bool) (first : Told)
    → IfSome (told to).log (IsOutcome counts (following watch) trace (names_in names) o) → IfSome (told to).log (λ log. FollowTheorem watch o.height o.tip o.history log)
    → IfSome (told to).log (λ log. AreBytes log × RightlyIn Following log) → EndsWithin o.end (length names) turns (told to).tally
    → (o.end ≡ IsSynced → IsOver turns (told to).tally) → LeavesWires told faults script keeps greeting (names_in names) turns from to
    → IfSome (told to).log (λ log. HasPut watch log (Some old) (Some kept)) → IfSome (told to).log (λ log. HasPutSome watch log (Some old) (Some kept)) → old ≡ [] → bytes ≡ kept
    → IsTold status false o.end o.ends.items (with_trace trace o.trace.items bytes) before after was now
    → RunsOnTape status turns trace watch (names_in names) before after first (told to)
tape_told {told = told} {turns = turns} {to = to} {before = before} {after = after} {old = old} {kept = kept} {bytes = bytes}
    counts watch names o status trace first outcome theorem right within done wires put some none same so = record {
      kept = told_as (λ (s : Status) (out : Option (List ℕ)). IfSome (told to).log (λ log. KeptOn s false trace watch (names_in names) before out log))
          o.end o.ends.items (with_trace trace o.trace.items bytes) before status false after
          (λ is written. stayed_told (told to).log counts watch (names_in names) o status false trace (Some old) (Some kept) before after outcome theorem is put
          (tape_written trace o.trace.items old kept bytes _ before after none same refl written))
          (λ n low written. unwritten_told (told to).log watch (names_in names) o false trace before after (cut n low written) theorem)
          (silent_told (told to).log watch (names_in names) false trace (Some old) (Some kept) before some right)
          (λ on. absurd (false≢true on))
          so.said;
      refused = told_as (λ (s : Status) (out : Option (List ℕ)). s ≡ OutFault → IfSome (told to).log (λ log. CutShort trace watch (names_in names) before out log))
          o.end o.ends.items (with_trace trace o.trace.items bytes) before status false after
          (λ is written failed. absurd (false≢true (sym (ap is_over failed) ∙ over_by o.end o.ends.items status is)))
          (λ n low written failed. cut n low written)
          (λ failed. cc)
          (λ on. absurd (false≢true on))
          so.said;
      over = λ failed. was_over_on o.end (length names) turns (told to) within done;
      tallied = told_as (λ (s : Status) (out : Option (List ℕ)). TalliedOn s turns (length (names_in names)) first (told to))
          o.end o.ends.items (with_trace trace o.trace.items bytes) before status false after
          (λ is written. run_tallied_on names o.end o.ends.items status first is (of_run_by o.end o.ends.items status is) wires within done)
          (λ n low written. unwritten_tallied_on first wires (all_dialled names within))
          (spent_tallied_on NoMemory first refl tt wires)
          (λ on. absurd (false≢true on))
          so.said;
    } where
      cut : (n : ℕ) → n ≤ length (with_trace trace o.trace.items bytes) → after ≡ with_more before (take n (with_trace trace o.trace.items bytes))
          → IfSome (told to).log (λ log. CutShort trace watch (names_in names) before after log)
      cut n low written = cut_told (told to).log counts watch (names_in names) o trace (Some old) (Some kept) before after outcome put
          (tape_begun trace o.trace.items old kept bytes _ before after none same refl n low written)

pub tape_spent : {W : Type 0} {told : W → Told} {faults : W → ℕ} {script : W → Option Made} {keeps : W → Bool} {greeting : Greeting} {names : List (List ℕ)} {turns : ℕ} {from to : W}
    → (watch : List (List ℕ)) (trace : Bool) (old kept before : Option (List ℕ)) (first : Told) → IfSome (told to).log (λ log. HasPutSome watch log old kept)
    → IfSome (told to).log (λ log. AreBytes log × RightlyIn Following log) → LeavesWires told faults script keeps greeting names turns from to
    → RunsOnTape NoMemory turns trace watch names before before first (told to)
tape_spent {told = told} {names = names} {to = to} watch trace old kept before first some right wires = record {
  kept = silent_told (told to).log watch names false trace old kept before some right;
  refused = λ failed. cc;
  over = λ failed. cc;
  tallied = spent_tallied_on NoMemory first refl tt wires;
}

new_tallied_on : (turns names : ℕ) (t : Told) → Tells [] t → TalliedOn NoMemory turns names t t
new_tallied_on turns names t fresh = record { tallied = new_tallied turns names t fresh; done = λ same. cc }

pub tape_unbegun : (watch names : List (List ℕ)) (turns : ℕ) (trace : Bool) (before : Option (List ℕ)) (t : Told) → Tells [] t
    → RunsOnTape NoMemory turns trace watch names before before t t
tape_unbegun watch names turns trace before t fresh = record {
  kept = fresh_told t.log watch names false trace before fresh.content;
  refused = λ failed. cc;
  over = λ failed. cc;
  tallied = new_tallied_on turns (length names) t fresh;
}

-- ---- a run that follows and is recorded

-- what holds of each answer for a record holds of this one
answered_as : (P : Status → Type 0) (status : Status) (recorded : Bool) (run : Status) → (run ≢ NoMemory → P run) → ((run ≡ NoMemory) ⊎ (recorded ≡ true) → P NoMemory)
    → (recorded ≡ true → run ≢ NoMemory → P FileFault) → IsAnswered status recorded run → P status
answered_as P status recorded run same spent unrecorded (inl is) = subst P (sym is.0) (same is.1)
answered_as P status recorded run same spent unrecorded (inr (inl is)) = subst P (sym is.0) (spent is.1)
answered_as P status recorded run same spent unrecorded (inr (inr is)) = subst P (sym is.0) (unrecorded is.1 is.2)

pub begun_answered : (status : Status) (recorded : Bool) (run : Status) → was_refused run ≡ false → IsAnswered status recorded run → was_unbegun status recorded ≡ false
begun_answered status recorded run begun =
    answered_as (λ (s : Status). was_unbegun s recorded ≡ false) status recorded run (λ enough. begun_by run recorded begun) (λ why. refl) (λ on enough. ap not on)

pub counts_answered : (status : Status) (recorded : Bool) (run : Status) (old new : ℕ) → CountsOut run old new → IsAnswered status recorded run → CountsOn recorded status old new
counts_answered status recorded run old new counts =
    answered_as (λ (s : Status). CountsOn recorded s old new) status recorded run (λ enough. counts_on recorded run old new counts) spent
    (λ on enough. counts_behind recorded FileFault old new on (λ is. cc) (λ fine. fine.0 refl)) where
      spent : (run ≡ NoMemory) ⊎ (recorded ≡ true) → CountsOn recorded NoMemory old new
      spent (inl is) = counts_on recorded NoMemory old new (subst (λ (s : Status). CountsOut s old new) is counts)
      spent (inr on) = counts_behind recorded NoMemory old new on (λ is. cc) (λ fine. fine.1 refl)

pub over_answered : (status : Status) (recorded : Bool) (run : Status) (names : ℕ) (t : Told) (was now : List PeerEnd) → was_refused run ≡ false
    → AreEndsOver run false names t was now → IsAnswered status recorded run → AreEndsOver status recorded names t was now
over_answered status recorded run names t was now begun ends =
    answered_as (λ (s : Status). AreEndsOver s recorded names t was now) status recorded run
    (λ enough. over_recorded run recorded names t was now (begun_by run recorded begun) ends)
    (λ why. over_failed run NoMemory recorded names t was now refl refl ends)
    (λ on enough. over_failed run FileFault recorded names t was now refl (ap not on) ends)

pub on_answered : {W : Type 0} {told : W → Told} {faults : W → ℕ} {script : W → Option Made} {keeps : W → Bool} {greeting : Greeting} {names : List (List ℕ)} {turns : ℕ} {from to : W}
    {before after : Option (List ℕ)} {old new : ℕ}
    → (watch : List (List ℕ)) (status : Status) (recorded : Bool) (run : Status) (first : Told) → was_refused run ≡ false
    → LeavesWires told faults script keeps greeting names turns from to
    → ((b : Bool) → RunsOn run turns b watch names before after old new (told from) (told to)) → IsAnswered status recorded run
    → RunsOn status turns recorded watch names before after old new first (told to)
on_answered {told = told} {names = names} {turns = turns} {from = from} {to = to} {before = before} {after = after} {old = old} {new = new} watch status recorded run first begun wires runs =
    answered_as (λ (s : Status). RunsOn s turns recorded watch names before after old new first (told to)) status recorded run
    (λ enough. record {
      kept = (runs recorded).kept;
      given_up = (runs recorded).given_up;
      tallied = tallied_from run turns (length names) first (told from) (told to) wires.finished (runs recorded).tallied;
    })
    (λ why. record {
      kept = spent_on (told to).log run recorded watch names before after (λ b. (runs b).kept);
      given_up = spent_behind (told to).log run recorded watch names before after old new (λ b. (runs b).kept) (runs recorded).given_up;
      tallied = spent_tallied_on NoMemory first refl tt wires;
    })
    (λ on enough. record {
      kept = unrecorded_on (told to).log run recorded watch names before after enough on (λ b. (runs b).kept);
      given_up = unrecorded_given (told to).log run recorded watch names before after old new (runs recorded).tallied.tallied.answers begun enough (λ b. (runs b).kept) (runs recorded).given_up;
      tallied = spent_tallied_on FileFault first refl tt wires;
    })

pub on_unbegun : (watch names : List (List ℕ)) (turns : ℕ) (recorded : Bool) (before : Option (List ℕ)) (n : ℕ) (t : Told) → Tells [] t
    → RunsOn NoMemory turns recorded watch names before before n n t t
on_unbegun watch names turns recorded before n t fresh = record {
  kept = fresh_told t.log watch names recorded false before fresh.content;
  given_up = spent_given t.log watch names before before n n refl (new_put_told t.log watch before fresh.content);
  tallied = new_tallied_on turns (length names) t fresh;
}

-- ---- its wires

risen_from : (f g h : ℕ) → f ≤ g → HasRisen g h → HasRisen f h
risen_from f g h le risen = omega (arith, le, risen)

risen_told : (o : Option Log) (f g h : ℕ) → f ≤ g → IfSome o (λ log. HasFailed log → HasRisen g h) → IfSome o (λ log. HasFailed log → HasRisen f h)
risen_told None f g h le risen = tt
risen_told (Some log) f g h le risen = λ failed. risen_from f g h le (risen failed)

-- wires that were used are left so, also where they keep their log since then
pub wires_left : {W : Type 0} {told : W → Told} {faults : W → ℕ} {script : W → Option Made} {keeps : W → Bool} {z y : ℤ} {nonce : ℕ} {names : List (List ℕ)} {turns : ℕ} {start from to : W}
    {recorded : Bool} {status : Status}
    → z ≡ y → faults start ≤ faults from → (recorded ≡ false → keeps from ≡ keeps start)
    → LeavesWires told faults script keeps (record { moment = z; number = nonce }) names turns from to → was_unbegun status recorded ≡ false
    → RunsWires told keeps faults (record { moment = y; number = nonce }) names recorded status start to
wires_left {told = told} {faults = faults} {z = z} {y = y} {nonce = nonce} {start = start} {from = from} {to = to} {recorded = recorded} {status = status} same later unkept wires begun = record {
  dialled = wires.dialled;
  versions = versions_so z y nonce (told to) same wires.versions;
  failures = risen_told (told to).log (faults start) (faults from) (faults to) later wires.failures;
  unkept = λ off. wires.kept ∙ unkept off;
  undialled = λ is. absurd (both_ways (was_unbegun status recorded) begun is);
}

-- ---- where memory is wanting and nothing was done

pub files_spared : {F : Type 0} {files : F → Option Named} {faults : F → ℕ} (writes : WritesFile F) (file : Option (List ℕ)) {log : Option Log} (f : F)
    → LeavesFiles files faults writes file log NoMemory f f
files_spared writes file f = record { records = refl; written = unwritten writes file f; fault = λ is. cc; fine = λ ne. refl }

pub sink_spared : (n : ℕ) → CountsOut NoMemory n n
sink_spared n = record { fault = λ is. cc; fine = λ ne. refl }

pub sink_spared_on : (recorded : Bool) (n : ℕ) → CountsOn recorded NoMemory n n
sink_spared_on recorded n = record { fault = λ is. cc; fine = λ ne on. refl }
