use Rattle.std.proofs.Common.{refl, ◌∙◌, ap, Bool, [], ◌∷◌, Some}
use Rattle.std.specs.Prelude.{if◌then◌else◌}
use Rattle.cf_played.proofs.Hears.{passed_over}
use Rattle.cf_played.proofs.player.Player.take.Goals as goal

pub put_answer-requires : goal.put_answer-requires
put_answer-requires c = c.hears.ensures ∙ ap (λ (b : Bool). if b then c.args.msg.now ∷ [] else []) c.if-hears.true

pub returns-clause-ok : goal.returns-clause-ok
returns-clause-ok c =
    passed_over c.args.self.now c.args.self.now (Some c.args.msg.now) c.args.msg.now refl (c.hears.ensures ∙ ap (λ (b : Bool). if b then c.args.msg.now ∷ [] else []) c.if-hears.false) refl
