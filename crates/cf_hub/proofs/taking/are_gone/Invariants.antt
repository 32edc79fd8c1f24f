use Rattle.std.proofs.Common.{◌≡◌, ◌<◌, ℕ, true, false, slice_index_or}
use Rattle.cf_hub.specs.Over.{connections}
use Rattle.cf_hub.proofs.taking.are_gone.Given as goal

abbrev pub invariant-loop-p : goal.invariant-loop-p
invariant-loop-p g l = (q : ℕ) → q < l.p → slice_index_or (connections l.writers) q false ≡ true → slice_index_or l.gone q false ≡ true
