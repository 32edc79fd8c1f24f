use Rattle.std.proofs.Common.{◌≡◌, ◌++◌, ◌∷◌, [], Option, None, Result, Ok, Err, ◌∙◌, ap, subst}
use Rattle.cf_bytes.specs.declared.memory.Refused.{Refused}
use Rattle.cf_bytes.specs.declared.memory.Refused.TheVariants.{No}
use Rattle.cf_block.specs.declared.tx.Block.{Block}
use Rattle.cf_block.specs.Tx.{IsBlock}
use Rattle.cf_conn.specs.Window.{Pane}
use Rattle.cf_walk.specs.declared.cause.RecordCause.{RecordCause}
use Rattle.cf_walk.specs.declared.judge.Judge.{Judge}
use Rattle.cf_walk.specs.Judging.{StandsOn, Walks, after_by, next_by}
use Rattle.cf_walk.proofs.WalkSource.{bad_over, cut_over, cut_whole, given_over, none_over, none_then, over_here}
use Rattle.cf_walk.proofs.walk.walk_ready.Goals as goal

-- what a walk over the bytes that are held has answered
abbrev Walked : Judge → Pane → Pane → Result (Option Block) (Refused RecordCause) → Type 0
Walked j old new = Walks (next_by j old.held) old.held new.held

pub returns-in-Ok-Some-clause-exact : goal.returns-in-Ok-Some-clause-exact
returns-in-Ok-Some-clause-exact g c = λ bytes others is behind.
    given_over c.args.judge.now c.args.window.now c.walk_held.new.window (g.S.Source.left c.args.source.now) bytes others c.in-Ok-Some.block c.requires c.in-Ok-Some.ensures.room
    (subst (Walked c.args.judge.now c.args.window.now c.walk_held.new.window) (ap Ok c.in-Ok-Some.field-0-is) c.in-Ok-Some.ensures.exact) is behind

pub returns-in-Ok-None-clause-exact : goal.returns-in-Ok-None-clause-exact
returns-in-Ok-None-clause-exact g c = λ bytes others is behind.
    none_over c.args.judge.now c.args.window.now c.walk_held.new.window (g.S.Source.left c.args.source.now) _ _ bytes others c.ends.result c.requires c.in-Ok-None.ensures.room
    (subst (Walked c.args.judge.now c.args.window.now c.walk_held.new.window) (ap Ok c.in-Ok-None.field-0-is) c.in-Ok-None.ensures.exact) c.ends.ensures.exact is behind

pub returns-in-Ok-None-clause-after : goal.returns-in-Ok-None-clause-after
returns-in-Ok-None-clause-after g c = none_then c.ends.result (λ (b : Block). c.walk_held.new.judge ≡ after_by c.args.judge.now b) c.ends.ensures.none

pub returns-in-Ok-None-clause-stands : goal.returns-in-Ok-None-clause-stands
returns-in-Ok-None-clause-stands g c = λ blocks s. none_then c.ends.result (λ (b : Block). StandsOn c.walk_held.new.judge (blocks ++ b ∷ [])) c.ends.ensures.none

pub returns-in-Ok-None-clause-fits : goal.returns-in-Ok-None-clause-fits
returns-in-Ok-None-clause-fits g c = none_then c.ends.result IsBlock c.ends.ensures.none

pub ends-requires-in-Cut : goal.ends-requires-in-Cut
ends-requires-in-Cut g c =
    let w = subst (Walked c.args.judge.now c.args.window.now c.walk_held.new.window) (ap Err c.in-Err-No.field-0-is) c.in-Err-No.ensures.exact in
    over_here c.args.window.now c.walk_held.new.window (g.S.Source.left c.args.source.now) c.requires c.in-Err-No.ensures.room (cut_whole c.args.judge.now c.args.window.now.held (w.1 ∙ ap Err c.in-Cut.is))

pub returns-in-Cut-clause-exact : goal.returns-in-Cut-clause-exact
returns-in-Cut-clause-exact g c = λ bytes others is behind.
    cut_over c.args.judge.now c.args.window.now c.walk_held.new.window (g.S.Source.left c.args.source.now) _ _ bytes others c.ends-in-Cut.result c.requires c.in-Err-No.ensures.room
    (subst (Walked c.args.judge.now c.args.window.now c.walk_held.new.window) (ap Err (c.in-Err-No.field-0-is ∙ ap No c.in-Cut.is)) c.in-Err-No.ensures.exact) c.ends-in-Cut.ensures.exact is behind

pub returns-in-Cut-clause-after : goal.returns-in-Cut-clause-after
returns-in-Cut-clause-after g c = none_then c.ends-in-Cut.result (λ (b : Block). c.walk_held.new.judge ≡ after_by c.args.judge.now b) c.ends-in-Cut.ensures.none

pub returns-in-Cut-clause-stands : goal.returns-in-Cut-clause-stands
returns-in-Cut-clause-stands g c = λ blocks s. none_then c.ends-in-Cut.result (λ (b : Block). StandsOn c.walk_held.new.judge (blocks ++ b ∷ [])) c.ends-in-Cut.ensures.none

pub returns-in-Cut-clause-fits : goal.returns-in-Cut-clause-fits
returns-in-Cut-clause-fits g c = none_then c.ends-in-Cut.result IsBlock c.ends-in-Cut.ensures.none

pub returns-in_default-clause-exact : goal.returns-in_default-clause-exact
returns-in_default-clause-exact g c = λ bytes others is behind.
    bad_over c.args.judge.now c.args.window.now c.walk_held.new.window (g.S.Source.left c.args.source.now) None None bytes others c.in-Err-No.cause c.requires
    (subst (Walked c.args.judge.now c.args.window.now c.walk_held.new.window) (ap Err c.in-Err-No.field-0-is) c.in-Err-No.ensures.exact) c.in_default.not-Cut is behind
