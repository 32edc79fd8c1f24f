use Rattle.std.proofs.Common.{ap}
use Rattle.cf_walk.specs.Files.{in_coins}
use Rattle.cf_walk.proofs.checks.judge_by.Goals as goal

pub returns-in-Ok : goal.returns-in-Ok
returns-in-Ok c = ap in_coins c.in-Ok.ensures.1
