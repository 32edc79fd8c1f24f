use Rattle.std.proofs.Common.{refl, rules}
use Rattle.std.proofs.Math.Facts.{to_z-of_z}
use Rattle.std.proofs.lemmas.Option.{IfSome_then}
use Rattle.std.proofs.lemmas.Result.{IfOk-weaker}
use Rattle.std.specs.Int.{w64}
use Rattle.cf_sync.proofs.Settles.{sync_theorem_of}
use Rattle.cf_run.proofs.Passing.{leaves_wires}
use Rattle.cf_run.proofs.Versions.{greeting_so}
use Rattle.cf_run.proofs.over.sync_traced.Goals as goal

pub returns-clause-outcome : goal.returns-clause-outcome
returns-clause-outcome g c = rw c.finish.ensures.told c.sync_all-outcome.ensures.outcome

pub returns-clause-theorem : goal.returns-clause-theorem
returns-clause-theorem g c =
    rw c.finish.ensures.told
    (IfOk-weaker c.sync_all-outcome.result _ _
    (λ o is. IfSome_then _ is (λ log came. sync_theorem_of c.args.watch o.height o.tip o.history log
    came.followed.asked)) c.sync_all-outcome.ensures.outcome)

pub returns-clause-within : goal.returns-clause-within
returns-clause-within g c = rw c.finish.ensures.told c.sync_all-outcome.ensures.within

pub returns-clause-wires : goal.returns-clause-wires
returns-clause-wires g c =
    let greeting = greeting_so _ _ c.args.moment c.args.nonce refl (to_z-of_z {w = w64} {z = c.args.moment} (search rules)) in
    let end = c.finish.ensures in
    leaves_wires _ _ greeting c.requires.wires c.sync_all-outcome.ensures.passes end.told end.later end.same end.keeps

pub returns-clause-right : goal.returns-clause-right
returns-clause-right g c = rw c.finish.ensures.told c.sync_all-outcome.ensures.right
