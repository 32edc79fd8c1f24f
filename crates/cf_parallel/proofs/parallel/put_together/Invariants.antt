use Rattle.std.proofs.Common.{◌≡◌, ◌++◌, map, drop}
use Rattle.cf_parallel.specs.Parts.{joined}
use Rattle.cf_parallel.proofs.parallel.put_together.Given as goal

-- the verdicts so far, and those of the parts that are left
abbrev pub invariant-loop-part : goal.invariant-loop-part
invariant-loop-part l = l.all.items ++ joined (map (λ part. part.items) (drop l.part-index l.parts)) ≡ joined (map (λ part. part.items) l.parts)
