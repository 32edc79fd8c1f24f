use Rattle.std.proofs.Common.{◌≡◌, sym, ap, ◌∙◌, subst}
use Rattle.cf_tasks.proofs.Tied.{came, waits}
use Rattle.cf_tasks.proofs.workers.Busy.wait.Goals as goal

pub returns-in-Some : goal.returns-in-Some
returns-in-Some g c =
    let acc = c.back-back.ensures.accounts in
    let h = rw c.in-Some.is at c.joined-waited.ensures.1.1 in
    rw (← c.self.view_is) (came g.J.Task.gives _ _ _ _ _ c.in-Some.field-0 acc.0 c.self.inside.running.fresh h c.self.invariant.1 c.back-back.ensures.ended acc.1)

pub returns : goal.returns
returns g c =
    let acc = c.next-kind.ensures.accounts in
    let h = rw c.in-None.is at c.joined-waited.ensures.1.1 in
    let is = waits _ _ _ _ _ _ c.next-kind.result acc.0 c.self.inside.running.fresh h c.self.invariant.1 c.back-back.ensures.ended c.next-kind.ensures.got acc.1 in
    rw (← c.self.view_is) (rw (← is) c.run.ensures)
