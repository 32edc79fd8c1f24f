-- What a run over wires leaves of their tally, and of what they tell.
use Rattle.std.proofs.Common.{◌≡◌, inr, ℕ, ℤ, ◌≤◌, Bool, true, false, List, [], map, length, take, Option, Some, None, refl, sym, ◌∙◌, ap, subst, arith}
use Rattle.std.specs.Prelude.{IfSome, String, string_bytes}
use Rattle.std.specs.Global.{Global}
use Rattle.std.proofs.lemmas.Bool.{both_ways, false≢true}
use Rattle.std.proofs.lemmas.List.{length-map}
use Rattle.cf_bytes.specs.Outside.{HasRisen}
use Rattle.cf_run.specs.declared.outcome.End.{End}
use Rattle.cf_run.specs.declared.outcome.End.TheVariants.{Synced as IsSynced, NoPeers as HasNoPeers, Tired as IsTired, Ended as HasEnded}
use Rattle.cf_place.specs.declared.place.PeerEnd.{PeerEnd}
use Rattle.cf_place.specs.Standing.{Greeting}
use Rattle.cf_run.specs.Versions.{HasGreeting}
use Rattle.cf_run.specs.Names.{names_in}
use Rattle.cf_run.specs.Run.{HasDialled, HasFailed, names_of}
use Rattle.cf_run.specs.Whole.{EndsWithin, LeavesWires}
use Rattle.cf_wires.specs.Log.{Log, Told, Tells, Tally}
use Rattle.cf_wires.specs.Wires.{Made}
use Rattle.cf_answers.specs.declared.status.Status.{Status}
use Rattle.cf_answers.specs.declared.status.Status.TheVariants.{Done, NoMemory, Usage, BadFile, FileFault, OutFault, NoPeers, Tired, Ended, LinkFault, NoNonce, NoHeight, NotThere, NotInChain, NotAddress}
use Rattle.cf_answers.specs.Statuses.{has_run}
use Rattle.cf_cli_client.specs.Theorem.{AnswersTo, AreLeft, IsWithin, IsOfRun, Tallied, has_somebody}

-- where no run was made the tally tells nothing
has_nobody : (status : Status) → has_run status ≡ false → has_somebody status ≡ false
has_nobody Done off = absurd (false≢true (sym off))
has_nobody Tired off = absurd (false≢true (sym off))
has_nobody Ended off = absurd (false≢true (sym off))
has_nobody NoMemory off = refl
has_nobody Usage off = refl
has_nobody (BadFile which place cause) off = refl
has_nobody FileFault off = refl
has_nobody OutFault off = refl
has_nobody (NoPeers ends) off = refl
has_nobody LinkFault off = refl
has_nobody (NoNonce height) off = refl
has_nobody (NoHeight tip) off = refl
has_nobody (NotThere txid) off = refl
has_nobody (NotInChain block) off = refl
has_nobody (NotAddress cause) off = refl

pub not_run : (status other : Status) → has_run status ≡ false → has_run other ≡ true → status ≡ other → ⊥
not_run status other off on is = false≢true (sym off ∙ ap has_run is ∙ on)

-- new wires are within any bounds
pub new_within : (turns names : ℕ) (t : Told) → Tells [] t → IsWithin turns names t.tally
new_within turns names t fresh = subst (λ (tally : Tally). IsWithin turns names tally) (sym fresh.counts) (record { taken = omega arith; dialled = omega arith; ended = omega arith })

-- nothing more is told where no run is made
pub tallied_early : (status : Status) (turns names : ℕ) (was now : Told) → has_run status ≡ false → IsOfRun status → IsWithin turns names now.tally → AreLeft was now → Tallied status turns names was now
tallied_early status turns names was now off answers within left = record {
  answers = answers;
  within = within;
  whole = λ is. absurd (false≢true (sym off ∙ is));
  left = left;
  no_peers = λ ends same. absurd (not_run status (NoPeers ends) off refl same);
  somebody = λ here. absurd (false≢true (sym (has_nobody status off) ∙ here));
  tired = λ same. absurd (not_run status Tired off refl same);
  ended = λ same. absurd (not_run status Ended off refl same);
  early = λ same. absurd (not_run status Ended off refl same);
}

-- a run over them took and dialled no more than it may
left_within : {W : Type 0} {told : W → Told} {faults : W → ℕ} {script : W → Option Made} {keeps : W → Bool} {greeting : Greeting} {names : List (List ℕ)} {turns : ℕ} {before after : W}
    → LeavesWires told faults script keeps greeting names turns before after → IsWithin turns (length names) (told after).tally
left_within wires = record { taken = wires.most; dialled = wires.dialled.most; ended = wires.once }

-- once they were used memory was wanting, or the record could not be written
pub spent_tallied : {W : Type 0} {told : W → Told} {faults : W → ℕ} {script : W → Option Made} {keeps : W → Bool} {greeting : Greeting} {names : List (List ℕ)} {turns : ℕ} {before after : W}
    → (status : Status) (was : Told) → has_run status ≡ false → IsOfRun status → LeavesWires told faults script keeps greeting names turns before after
    → Tallied status turns (length names) was (told after)
spent_tallied status was off answers wires = tallied_early status _ _ was _ off answers (left_within wires) (inr wires.finished)

-- the sink has failed, once all were dialled
pub unwritten_tallied : {W : Type 0} {told : W → Told} {faults : W → ℕ} {script : W → Option Made} {keeps : W → Bool} {greeting : Greeting} {names : List (List ℕ)} {turns : ℕ} {before after : W}
    → (was : Told) → LeavesWires told faults script keeps greeting names turns before after → (told after).tally.dials ≡ length names
    → Tallied OutFault turns (length names) was (told after)
unwritten_tallied was wires all = record {
  answers = tt;
  within = left_within wires;
  whole = λ is. record { dialled = all; finished = wires.finished };
  left = inr wires.finished;
  no_peers = λ ends same. cc;
  somebody = λ here. absurd (false≢true here);
  tired = λ same. cc;
  ended = λ same. cc;
  early = λ same. cc;
}

-- the end that an answer tells of
abbrev end_of : Status → Option End
end_of Done = Some IsSynced
end_of (NoPeers ends) = Some HasNoPeers
end_of Tired = Some IsTired
end_of Ended = Some HasEnded
end_of status = None

ended_by : (end : End) (ends : List PeerEnd) (status : Status) → AnswersTo end ends status → end_of status ≡ Some end
ended_by IsSynced ends status is = ap end_of is
ended_by HasNoPeers ends status is = ap end_of is.1
ended_by IsTired ends status is = ap end_of is
ended_by HasEnded ends status is = ap end_of is

-- where this is answered, it ended so
pub ended_as : (end other : End) (ends : List PeerEnd) (status like : Status) → AnswersTo end ends status → end_of like ≡ Some other → status ≡ like → end ≡ other
ended_as end other ends status like is tells same = let told = ended_by end ends status is in let alike : end_of status ≡ end_of like = ap end_of same in cc

-- an answer that comes only where a peer is connected is none of a run that has none
nobody_off : (end : End) (ends : List PeerEnd) (status : Status) → AnswersTo end ends status → end ≡ HasNoPeers → has_somebody status ≡ false
nobody_off end ends status is none = let told : AnswersTo HasNoPeers ends status = subst (λ (e : End). AnswersTo e ends status) none is in ap has_somebody told.1

-- a run that ended so has dialled all names
pub all_dialled : (names : List (String Global)) {end : End} {turns : ℕ} {tally : Tally} → EndsWithin end (length names) turns tally → tally.dials ≡ length (names_in names)
all_dialled names within = within.dialled ∙ sym (length-map names string_bytes)

-- the run was made, and ended so
pub run_tallied : {W : Type 0} {told : W → Told} {faults : W → ℕ} {script : W → Option Made} {keeps : W → Bool} {greeting : Greeting} {turns : ℕ} {before after : W}
    → (names : List (String Global)) (end : End) (ends : List PeerEnd) (status : Status) (was : Told) → AnswersTo end ends status → IsOfRun status
    → LeavesWires told faults script keeps greeting (names_in names) turns before after → EndsWithin end (length names) turns (told after).tally
    → Tallied status turns (length (names_in names)) was (told after)
run_tallied names end ends status was is answers wires within = record {
  answers = answers;
  within = left_within wires;
  whole = λ made. record { dialled = all_dialled names within; finished = wires.finished };
  left = inr wires.finished;
  no_peers = λ told same. within.no_peers.0 (ended_as end HasNoPeers ends status (NoPeers told) is refl same);
  somebody = λ here nobody. both_ways (has_somebody status) (nobody_off end ends status is (within.no_peers.1 nobody)) here;
  tired = λ same. within.tired (ended_as end IsTired ends status Tired is refl same);
  ended = λ same. within.ended (ended_as end HasEnded ends status Ended is refl same);
  early = λ same. within.early (ended_as end HasEnded ends status Ended is refl same);
}

-- nobody was dialled
pub new_dialled : (names : List (List ℕ)) (t : Told) → Tells [] t → HasDialled names t
new_dialled names t fresh = record { most = most_of; first = first_by t.log fresh.content } where
  none : t.tally.dials ≡ 0
  none = ap (λ (y : Tally). y.dials) fresh.counts

  most_of : t.tally.dials ≤ length names
  most_of = let n = none in omega (arith, n)

  first_by : (o : Option Log) → IfSome o (λ l. l ≡ []) → IfSome o (λ log. names_of log ≡ take t.tally.dials names)
  first_by None h = tt
  first_by (Some log) h = subst (λ (l : Log). names_of l ≡ take t.tally.dials names) (sym h) (subst (λ (n : ℕ). [] ≡ take n names) (sym none) refl)

-- and no call has failed
pub new_unfailed : (t : Told) (f g : ℕ) → Tells [] t → IfSome t.log (λ log. HasFailed log → HasRisen f g)
new_unfailed t f g fresh = by t.log fresh.content where
  by : (o : Option Log) → IfSome o (λ l. l ≡ []) → IfSome o (λ log. HasFailed log → HasRisen f g)
  by None h = tt
  by (Some log) h = subst (λ (l : Log). HasFailed l → HasRisen f g) (sym h) (λ failed. absurd (false≢true failed))

-- the same moment
pub versions_so : (z y : ℤ) (n : ℕ) (t : Told) → z ≡ y → HasGreeting (record { moment = z; number = n }) t → HasGreeting (record { moment = y; number = n }) t
versions_so z y n t same has = subst (λ (x : ℤ). HasGreeting (record { moment = x; number = n }) t) same has

pub leaves_so : {W : Type 0} {told : W → Told} {faults : W → ℕ} {script : W → Option Made} {keeps : W → Bool} {names : List (List ℕ)} {turns : ℕ} {before after : W}
    → (z y : ℤ) (n : ℕ) → z ≡ y → LeavesWires told faults script keeps (record { moment = z; number = n }) names turns before after
    → LeavesWires told faults script keeps (record { moment = y; number = n }) names turns before after
leaves_so {told = told} {after = after} z y n same wires = record {
  versions = versions_so z y n (told after) same wires.versions;
  dialled = wires.dialled;
  most = wires.most;
  once = wires.once;
  finished = wires.finished;
  kept = wires.kept;
  course = wires.course;
  failures = wires.failures;
}
