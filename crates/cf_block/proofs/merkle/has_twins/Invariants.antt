use Rattle.std.proofs.Common.{◌≡◌, length}
use Rattle.cf_block.specs.Merkle.{has_twins}
use Rattle.cf_block.specs.Views.{bytes_of}
use Rattle.cf_block.proofs.merkle.has_twins.Given as goal

abbrev pub invariant-loop-rest : goal.invariant-loop-rest
invariant-loop-rest l = has_twins (bytes_of l.level) ≡ has_twins (bytes_of l.rest)

abbrev pub decreases-loop-rest : goal.decreases-loop-rest
decreases-loop-rest l = length l.rest
