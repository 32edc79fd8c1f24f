use Rattle.std.proofs.Common.{◌≡◌, true, sym, ap, ◌∙◌}
use Rattle.cf_tasks.specs.declared.entry.View.{View}
use Rattle.cf_tasks.proofs.Moves.{merges, accounts}
use Rattle.cf_tasks.proofs.ends.Taker.back.Goals as goal

pub absorb-requires-clause-rule : goal.absorb-requires-clause-rule
absorb-requires-clause-rule g c = merges _ _ _ _ c.args.self.gets c.args.sender.sends

pub learn_as-requires-clause-rule : goal.learn_as-requires-clause-rule
learn_as-requires-clause-rule g c = accounts _ _ (ap (λ v. v.gets) c.absorb.ensures.rule ∙ c.args.self.gets)
