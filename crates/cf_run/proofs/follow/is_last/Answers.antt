use Rattle.std.proofs.Common.{ap}
use Rattle.cf_run.specs.Texts.{last_text}
use Rattle.cf_run.proofs.Puts.{last_none}
use Rattle.cf_run.proofs.follow.is_last.Goals as goal

pub returns-in-None : goal.returns-in-None
returns-in-None c = λ before is. last_none c.args.text.now before (last_text c.args.last.now) (ap last_text c.in-None.is) is
