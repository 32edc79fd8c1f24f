use Rattle.std.proofs.Common.{arith}
use Rattle.cf_seek.proofs.Aiming.{put_at, put_off}
use Rattle.cf_seek.proofs.aims.Aims.set.Goals as goal

pub returns-clause-here : goal.returns-clause-here
returns-clause-here c = put_at c.args.self.now.places.items c.args.p.0 c.args.aim (omega arith)

pub returns-clause-others : goal.returns-clause-others
returns-clause-others c = λ q ne. put_off c.args.self.now.places.items c.args.p.0 c.args.aim q ne
