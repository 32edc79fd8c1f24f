use Rattle.std.proofs.Common.{◌≡◌, ◌≤◌, map}
use Rattle.cf_match.specs.Verdicts.{verdict_of}
use Rattle.cf_parallel.specs.Parts.{first_parts}
use Rattle.cf_parallel.proofs.parallel.Parallel.judge_in_parts.Given as goal

-- the verdicts on the parts so far
abbrev pub invariant-loop-k : goal.invariant-loop-k
invariant-loop-k g l = record {
  so_far : map (λ v. v.items) l.parts.items ≡ map (map (verdict_of l.watch)) (first_parts l.initial.self.parts l.jobs l.k);
  same : l.self ≡ l.initial.self;
  within : l.k ≤ l.initial.self.parts;
}
