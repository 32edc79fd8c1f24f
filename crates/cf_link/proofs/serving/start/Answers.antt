use Rattle.std.proofs.Common.{inl}
use Rattle.cf_link.proofs.Sweeps.{stay_same}
use Rattle.cf_link.proofs.serving.start.Goals as goal

pub returns-in-Ok-clause-runs : goal.returns-in-Ok-clause-runs
returns-in-Ok-clause-runs g c = (c.args.line.now.flags, stay_same g.F.Flag.tells c.args.line.now.flags, inl c.push.ensures.flags)
