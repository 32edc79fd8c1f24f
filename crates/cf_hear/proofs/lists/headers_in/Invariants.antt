use Rattle.std.proofs.Common.{◌≡◌, ◌++◌, length}
use Rattle.cf_hear.proofs.lists.headers_in.Given as goal

abbrev pub invariant-loop-header : goal.invariant-loop-header
invariant-loop-header l = record { all : l.list ++ l.headers ≡ l.fn.headers }

abbrev pub decreases-loop-header : goal.decreases-loop-header
decreases-loop-header l = length l.headers
