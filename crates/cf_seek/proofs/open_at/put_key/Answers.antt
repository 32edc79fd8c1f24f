use Rattle.std.proofs.Common.{sym, ◌∙◌, ap}
use Rattle.std.specs.Prelude.{is_some}
use Rattle.cf_seek.proofs.Openings.{put_here, put_stays, put_only}
use Rattle.cf_seek.proofs.open_at.put_key.Goals as goal

pub returns-clause-there : goal.returns-clause-there
returns-clause-there c = ap is_some (c.in_ok-insert.ensures.updates.0 c.args.block) ∙ put_here c.args.block.0 _

pub returns-clause-stays : goal.returns-clause-stays
returns-clause-stays c = λ hash was. ap is_some (c.in_ok-insert.ensures.updates.0 (record { 0 = hash })) ∙ put_stays c.args.block.0 hash _ was

pub returns-clause-only : goal.returns-clause-only
returns-clause-only c = λ hash is. put_only c.args.block.0 hash _ (sym (ap is_some (c.in_ok-insert.ensures.updates.0 (record { 0 = hash }))) ∙ is)
