use Rattle.std.proofs.Common.{ℕ, List, Option, Err, refl, sym, subst}
use Rattle.cf_conn.specs.Window.{Pane, beyond, seen}
use Rattle.cf_walk.specs.declared.walk.WalkStop.{WalkStop}
use Rattle.cf_walk.specs.declared.judge.Judge.{Judge}
use Rattle.cf_walk.specs.Judging.{StandsOn, WalksOver, next_by}
use Rattle.cf_walk.specs.Striding.{behind_them}
use Rattle.cf_walk.proofs.WalkSteps.{hashed_so}
use Rattle.cf_walk.proofs.Strides.{gives_bad, gives_more, gives_ok}
use Rattle.cf_walk.proofs.walk.Walk.next_block.Goals as goal

pub returns-in-Ok-walk_source-clause-walks : goal.returns-in-Ok-walk_source-clause-walks
returns-in-Ok-walk_source-clause-walks g c = λ bytes blocks way.
    let e = c.in-Ok.ensures in
    let mid = c.begin.new.self in
    let on = e.walks bytes blocks way in
    let step = c.in-Ok-walk_source.ensures in
    gives_ok bytes mid _ (g.S.Source.left c.begin.new.source) (g.S.Source.left c.walk_source.new.source) blocks c.in-Ok-walk_source.block on e.begun
    (step.exact on.rest (behind_them bytes) on.told on.others) (step.found on.rest on.told) step.after step.fits refl refl

-- what a walk has answered, of the bytes that are left
abbrev WalkedOver : (j : Judge) (rest bytes : List ℕ) (new : Pane) (later : Option (List ℕ)) → WalkStop → Type 0
WalkedOver j rest bytes new later s = WalksOver (next_by j rest) rest (behind_them bytes) (seen new later) (beyond new later) (Err s)

pub returns-in-Err-Cause-clause-walks : goal.returns-in-Err-Cause-clause-walks
returns-in-Err-Cause-clause-walks g c = λ bytes blocks way.
    let on = c.in-Ok.ensures.walks bytes blocks way in
    let w = subst (WalkedOver c.begin.new.self.judge on.rest bytes c.walk_source.new.window (g.S.Source.left c.walk_source.new.source)) c.in-Err-Cause.field-0-is
    (c.in-Err-Cause.ensures.exact on.rest (behind_them bytes) on.told on.others) in
    gives_bad bytes c.begin.new.self (g.S.Source.left c.begin.new.source) blocks c.in-Err-Cause.cause c.number_at-number.result on c.in-Ok.ensures.begun w.0 w.1 w.2 c.number_at-number.ensures

pub returns-in-Err-TooBig-clause-walks : goal.returns-in-Err-TooBig-clause-walks
returns-in-Err-TooBig-clause-walks g c = λ bytes blocks way.
    let on = c.in-Ok.ensures.walks bytes blocks way in
    let w = subst (WalkedOver c.begin.new.self.judge on.rest bytes c.walk_source.new.window (g.S.Source.left c.walk_source.new.source)) c.in-Err-TooBig.field-0-is
    (c.in-Err-TooBig.ensures.exact on.rest (behind_them bytes) on.told on.others) in
    gives_more bytes c.begin.new.self (g.S.Source.left c.begin.new.source) blocks on c.in-Ok.ensures.begun w.0 w.1

pub returns-in-Ok-walk_source-clause-stands : goal.returns-in-Ok-walk_source-clause-stands
returns-in-Ok-walk_source-clause-stands g c = λ blocks s.
    c.in-Ok-walk_source.ensures.stands blocks (subst (λ (j : Judge). StandsOn j blocks) (sym c.begin.ensures.judge) s)

pub returns-in-Ok-walk_source-clause-hashed : goal.returns-in-Ok-walk_source-clause-hashed
returns-in-Ok-walk_source-clause-hashed g c = hashed_so c.in-Ok-walk_source.block c.begin.new.self.judge c.walk_source.new.judge c.in-Ok-walk_source.ensures.after
