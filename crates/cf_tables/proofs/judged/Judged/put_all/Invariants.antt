use Rattle.std.proofs.Common.{◌≡◌, ℕ, List, drop, map}
use Rattle.cf_match.specs.Verdicts.{AreSameVerdicts, verdict_of, with_verdicts}
use Rattle.cf_tables.specs.Judged.{MoreVerdicts, verdicts_in}
use Rattle.cf_tables.proofs.judged.Judged.put_all.Given as goal

-- the verdicts that are left lead to the same, and each that stood stands
abbrev pub invariant-loop-i : goal.invariant-loop-i
invariant-loop-i l = record {
  ok : (watch : List (List ℕ)) → l.verdicts ≡ map (verdict_of watch) l.jobs → AreSameVerdicts (with_verdicts watch (drop l.i l.jobs) (verdicts_in l.self)) (with_verdicts watch l.jobs (verdicts_in l.fn.self));
  more : MoreVerdicts (verdicts_in l.fn.self) (verdicts_in l.self);
}
