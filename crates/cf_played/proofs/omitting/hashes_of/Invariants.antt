use Rattle.std.proofs.Common.{◌≡◌, length}
use Rattle.std.specs.List.{AllByRecursion}
use Rattle.cf_block.specs.Header.{IsHash}
use Rattle.cf_played.proofs.omitting.hashes_of.Given as goal

abbrev pub invariant-loop-filter : goal.invariant-loop-filter
invariant-loop-filter l = record { each : AllByRecursion IsHash l.hashes; len : length l.hashes ≡ l.filter-index }
