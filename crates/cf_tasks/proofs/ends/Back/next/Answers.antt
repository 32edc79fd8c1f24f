use Rattle.std.proofs.Common.{rules, ap, ◌∙◌}
use Rattle.cf_tasks.proofs.Moves.{gets, accounts}
use Rattle.cf_tasks.proofs.ends.Back.next.Goals as goal

pub recv_as-requires-clause-rule : goal.recv_as-requires-clause-rule
recv_as-requires-clause-rule g c = (gets _ _ c.loop.self.gets, λ items views h at. tt)

pub learn_as-requires-clause-rule : goal.learn_as-requires-clause-rule
learn_as-requires-clause-rule g c = accounts _ _ (ap (λ v. v.gets) c.in-Ok.ensures.rule ∙ c.loop.self.gets)
