use Rattle.std.proofs.Common.{◌≡◌, ◌++◌, ◌∷◌, [], List, ℕ, ◌∙◌, subst}
use Rattle.std.specs.Prelude.{IfSome}
use Rattle.cf_block.specs.declared.tx.Block.{Block}
use Rattle.cf_block.specs.Tx.{IsBlock}
use Rattle.cf_conn.specs.Window.{seen}
use Rattle.cf_walk.specs.Judging.{BeginsWith, IsBlank, StandsOn, after_by}
use Rattle.cf_walk.proofs.WalkSource.{beyond_same, none_then, ready_so, seen_same}
use Rattle.cf_walk.proofs.walk.walk_source.Goals as goal

pub walk_zeros-requires : goal.walk_zeros-requires
walk_zeros-requires g c = subst IsBlank c.held.ensures (c.is_blank.ensures.yes c.if-is_blank.true)

pub walk_ready-requires : goal.walk_ready-requires
walk_ready-requires g c =
    let never = subst (λ (l : List ℕ). IsBlank l → ⊥) c.held.ensures (c.is_blank.ensures.no c.if-is_blank.false) in
    ready_so c.prepare.new.window (g.S.Source.left c.prepare.new.source) c.in-Ok.ensures.ready never

pub returns-then-is_blank-clause-exact : goal.returns-then-is_blank-clause-exact
returns-then-is_blank-clause-exact g c = λ bytes others is behind.
    let e = c.in-Ok.ensures in
    let old = g.S.Source.left c.args.source.now in
    let new = g.S.Source.left c.prepare.new.source in
    c.walk_zeros.ensures.exact c.args.judge.now bytes others (seen_same c.args.window.now c.prepare.new.window old new e.same e.bound ∙ is) (beyond_same c.args.window.now c.prepare.new.window old new e.same e.bound ∙ behind)

pub returns-then-is_blank-clause-after : goal.returns-then-is_blank-clause-after
returns-then-is_blank-clause-after g c = none_then c.walk_zeros.result (λ (b : Block). c.args.judge.now ≡ after_by c.args.judge.now b) c.walk_zeros.ensures.none

pub returns-then-is_blank-clause-stands : goal.returns-then-is_blank-clause-stands
returns-then-is_blank-clause-stands g c = λ blocks s. none_then c.walk_zeros.result (λ (b : Block). StandsOn c.args.judge.now (blocks ++ b ∷ [])) c.walk_zeros.ensures.none

pub returns-then-is_blank-clause-found : goal.returns-then-is_blank-clause-found
returns-then-is_blank-clause-found g c = λ bytes is.
    none_then c.walk_zeros.result (λ (b : Block). IfSome (seen c.walk_zeros.new.window (g.S.Source.left c.walk_zeros.new.source)) (λ rest. BeginsWith b bytes rest)) c.walk_zeros.ensures.none

pub returns-then-is_blank-clause-fits : goal.returns-then-is_blank-clause-fits
returns-then-is_blank-clause-fits g c = none_then c.walk_zeros.result IsBlock c.walk_zeros.ensures.none

pub returns-else-is_blank-clause-exact : goal.returns-else-is_blank-clause-exact
returns-else-is_blank-clause-exact g c = λ bytes others is behind.
    let e = c.in-Ok.ensures in
    let old = g.S.Source.left c.args.source.now in
    let new = g.S.Source.left c.prepare.new.source in
    c.walk_ready.ensures.exact bytes others (seen_same c.args.window.now c.prepare.new.window old new e.same e.bound ∙ is) (beyond_same c.args.window.now c.prepare.new.window old new e.same e.bound ∙ behind)

pub returns-else-is_blank-clause-found : goal.returns-else-is_blank-clause-found
returns-else-is_blank-clause-found g c = λ bytes is.
    let e = c.in-Ok.ensures in
    c.walk_ready.ensures.found bytes (seen_same c.args.window.now c.prepare.new.window (g.S.Source.left c.args.source.now) (g.S.Source.left c.prepare.new.source) e.same e.bound ∙ is)
