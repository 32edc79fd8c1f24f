use Rattle.std.proofs.Common.{◌≡◌, ℕ, ◌<◌, false}
use Rattle.cf_run.specs.States.{state_at, is_pending}
use Rattle.cf_run.proofs.progress.Progress.next_pending.Given as goal

abbrev pub invariant-loop-i : goal.invariant-loop-i
invariant-loop-i l = record { below : (q : ℕ) → q < l.i → is_pending (state_at l.self.sends q) ≡ false }
