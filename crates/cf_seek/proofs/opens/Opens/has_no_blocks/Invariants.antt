use Rattle.std.proofs.Common.{◌≡◌, ℕ, ◌<◌, false, List}
use Rattle.cf_seek.specs.OpensAll.{opens_in}
use Rattle.cf_seek.proofs.opens.Opens.has_no_blocks.Given as goal

abbrev pub invariant-loop-q : goal.invariant-loop-q
invariant-loop-q l = (q : ℕ) → q < l.q → (block : List ℕ) → (opens_in l.self).blocks q block ≡ false
