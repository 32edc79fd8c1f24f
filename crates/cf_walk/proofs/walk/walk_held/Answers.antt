use Rattle.std.proofs.Common.{◌≡◌, ◌-◌, List, ℕ, Option, Some, Ok, length, drop, sym, ◌∙◌, ap, subst}
use Rattle.std.specs.Prelude.{IfSome}
use Rattle.cf_block.specs.declared.tx.Block.{Block}
use Rattle.cf_conn.specs.Window.{Pane}
use Rattle.cf_walk.specs.Judging.{BeginsWith, Walks, next_by}
use Rattle.cf_walk.proofs.WalkSource.{drop_end}
use Rattle.cf_walk.proofs.walk.walk_held.Goals as goal

pub returns-in-Ok-Some-clause-exact : goal.returns-in-Ok-Some-clause-exact
returns-in-Ok-Some-clause-exact c =
    let j = c.args.judge.now in
    let held = c.args.window.now.held in
    let rest = c.walk_on.new.cut in
    let b = c.in-Ok-Some.block in
    let at : c.new-cut.result ≡ held = c.new-cut.ensures ∙ c.held-held.ensures in
    let w = subst (λ (o : Option Block). Walks (next_by j c.new-cut.result) c.new-cut.result rest (Ok o)) c.in-Ok-Some.field-0-is c.in-Ok-Some.ensures.exact in
    let found = subst (λ (o : Option Block). IfSome o (λ b. BeginsWith b c.new-cut.result rest)) c.in-Ok-Some.field-0-is c.in-Ok-Some.ensures.found in
    let v = subst (λ (l : List ℕ). Walks (next_by j l) l rest (Ok (Some b))) at w in
    let n : c.saturating_sub-n.result ≡ length held - length rest = c.saturating_sub-n.ensures ∙ (λ i. length (c.held-held.ensures i) - length (c.rest.ensures i)) in
    let gone : drop c.saturating_sub-n.result held ≡ rest = drop_end held found.front rest c.saturating_sub-n.result (sym at ∙ found.spelled) n in
    subst (λ (l : List ℕ). Walks (next_by j held) held l (Ok (Some b))) (sym (ap (λ (p : Pane). p.held) c.take.ensures ∙ gone)) v

pub returns-in-Ok-Some-clause-found : goal.returns-in-Ok-Some-clause-found
returns-in-Ok-Some-clause-found c =
    let held = c.args.window.now.held in
    let rest = c.walk_on.new.cut in
    let b = c.in-Ok-Some.block in
    let at : c.new-cut.result ≡ held = c.new-cut.ensures ∙ c.held-held.ensures in
    let found = subst (λ (o : Option Block). IfSome o (λ b. BeginsWith b c.new-cut.result rest)) c.in-Ok-Some.field-0-is c.in-Ok-Some.ensures.found in
    let n : c.saturating_sub-n.result ≡ length held - length rest = c.saturating_sub-n.ensures ∙ (λ i. length (c.held-held.ensures i) - length (c.rest.ensures i)) in
    let gone : drop c.saturating_sub-n.result held ≡ rest = drop_end held found.front rest c.saturating_sub-n.result (sym at ∙ found.spelled) n in
    subst (λ (l : List ℕ). BeginsWith b held l) (sym (ap (λ (p : Pane). p.held) c.take.ensures ∙ gone)) (subst (λ (l : List ℕ). BeginsWith b l rest) at found)
