-- statement: what a whole run over wires leaves of them, and what came of it.
use Rattle.std.specs.Prelude.{◌≡◌, ◌↔◌, ℕ, ◌≤◌, ◌<◌, Bool, true, false, List, [], length, Option, IfSome}
use Rattle.cf_bytes.specs.Outside.{HasRisen}
use Rattle.cf_client.specs.Holding.{HoldsNoMore}
use Rattle.cf_headers.specs.Store.{Chains}
use Rattle.cf_place.specs.Standing.{EndsTell, Greeting}
use Rattle.cf_run.specs.Run.{Course, RanTo, kept_lines, HasDialled, HasFailed, NobodyLeft, WasRun}
use Rattle.cf_run.specs.Texts.{HasPut, HasPutBut, HasPutSo}
use Rattle.cf_run.specs.Versions.{HasGreeting}
use Rattle.cf_run.specs.declared.outcome.End.{End}
use Rattle.cf_run.specs.declared.outcome.End.TheVariants.{NoPeers, Tired, Ended}
use Rattle.cf_run.specs.declared.outcome.Outcome.{Outcome}
use Rattle.cf_run.specs.declared.texts.TextFail.{TextFail}
use Rattle.cf_run.specs.declared.trace.TraceLine.{TraceLine}
use Rattle.cf_run.specs.declared.texts.TextFail.TheVariants.{NoMemory, Failed}
use Rattle.cf_sync.specs.Fetching.{Rule, following}
use Rattle.cf_wires.specs.Log.{Log, Tally, Tells, Told}
use Rattle.cf_wires.specs.Wires.{Made}

-- nothing has passed the wires, and they aren't finished
pub record AreNewWires (told : Told) : Type 0 where
  pub log : Tells [] told
  pub finished : told.finished ≡ false

-- The wires after a run over new ones, whatever it answers. Each version that was sent tells this greeting; the names were dialled in order, as far as it came;
-- it took no more deliveries than it has turns, and the end once at most; the wires are finished; and where a dial or a send has failed their count of faults
-- has risen.
pub record LeavesWires {W : Type 0} (told : W → Told) (faults : W → ℕ) (script : W → Option Made) (keeps : W → Bool) (greeting : Greeting) (names : List (List ℕ))
    (turns : ℕ) (before after : W) : Type 0 where
  pub versions : HasGreeting greeting (told after)
  pub dialled : HasDialled names (told after)
  pub most : (told after).tally.taken ≤ turns
  pub once : (told after).tally.ended ≤ 1
  pub finished : (told after).finished ≡ true
  pub kept : keeps after ≡ keeps before
  pub course : Course (told before) (told after) (faults before) (faults after) (script before) (script after)
  pub failures : IfSome (told after).log (λ log. HasFailed log → HasRisen (faults before) (faults after))

-- a run that ended so has dialled all names; it has no peers exactly where nobody is left, its turns are used up where it is tired, and not where the wires had no
-- more to give
pub record EndsWithin (end : End) (names turns : ℕ) (tally : Tally) : Type 0 where
  pub dialled : tally.dials ≡ names
  pub no_peers : (end ≡ NoPeers) ↔ NobodyLeft tally
  pub tired : end ≡ Tired → tally.taken ≡ turns
  pub ended : end ≡ Ended → tally.ended ≡ 1
  pub early : end ≡ Ended → tally.taken < turns

-- what a run puts together when it ends: the chain, its history and what was done, of which the lines are kept where they are wanted, and else none; how each
-- peer stands, and how much is kept of them
pub record IsOutcome (counts : Chains → ℕ → Type 0) (rule : Rule) (wanted : Bool) (called : List (List ℕ)) (o : Outcome) (log : Log) : Type 0 where
  pub lines : List TraceLine
  pub followed : RanTo rule o.end o.height o.tip o.history lines called log
  pub kept : o.trace.items ≡ kept_lines wanted lines
  pub ends : EndsTell o.ends.items log
  pub held : HoldsNoMore counts o.held log

-- what takes the texts has taken those of all moments at rest, and hasn't failed
pub record PutsAll {T : Type 0} (told : T → Option (List ℕ)) (faults : T → ℕ) (watch : List (List ℕ)) (log : Option Log) (before after : T) : Type 0 where
  pub put : IfSome log (λ l. HasPut watch l (told before) (told after))
  pub fine : faults after ≡ faults before

-- the run ended early for want of memory: each text was put whole or not at all, and what takes the texts hasn't failed
pub record IsShort {T : Type 0} (told : T → Option (List ℕ)) (faults : T → ℕ) (watch : List (List ℕ))
    (log : Option Log) (before after : T) : Type 0 where
  pub put : IfSome log (λ l. HasPutSo watch l (told before) (told after))
  pub fine : faults after ≡ faults before

-- The run ended early over a text: of that, which was due, a beginning was put, or nothing, and the run went by the rules
-- until then. Since the run began the count of faults has risen.
pub record IsCut {T : Type 0} (told : T → Option (List ℕ)) (faults : T → ℕ) (watch names : List (List ℕ)) (wires : Told) (before after : T) : Type 0 where
  pub put : IfSome wires.log (λ log. HasPutBut watch log (told before) (told after))
  pub run : IfSome wires.log (WasRun (following watch) names)
  pub dialled : wires.tally.dials ≡ length names
  pub risen : HasRisen (faults before) (faults after)

-- what was put of a run that was given up so
abbrev pub GivesUp : {T : Type 0} → TextFail → (told : T → Option (List ℕ)) → (faults : T → ℕ) → (watch names : List (List ℕ)) → Told → (before after : T) → Type 0
GivesUp NoMemory told faults watch names wires before after = IsShort told faults watch wires.log before after
GivesUp Failed told faults watch names wires before after = IsCut told faults watch names wires before after
