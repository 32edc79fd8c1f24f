use Rattle.std.proofs.Common.{◌∙◌, ap, inr, map}
use Rattle.cf_hub.specs.Finish.{begun}
use Rattle.cf_hub.proofs.Begins.{same_dial}
use Rattle.cf_hub.proofs.hub.HubWires.dial.Goals as goal

pub returns-in-Err-begin-clause-opened : goal.returns-in-Err-begin-clause-opened
returns-in-Err-begin-clause-opened g c =
    let before = c.starts_ticker.ensures.stays.own.1 ∙ c.make_room.ensures.stays.own.1 in
    let tasks = c.in-Err-begin.ensures.no_task ∙ c.open.ensures.stays.threads.4 ∙ c.starts_ticker.ensures.stays.reading ∙ c.make_room.ensures.stays.threads.4 in (
      ap (λ v. map begun v.items) tasks,
      inr (c.open.result, same_dial (λ d x e. g.D.Dialer.dials d c.args.name.now x e) _ _ _ _ _ before c.begin.ensures.stays.dialer c.open.ensures.exact),
    )

pub returns-in-Err-clause-opened : goal.returns-in-Err-clause-opened
returns-in-Err-clause-opened g c =
    let before = c.starts_ticker.ensures.stays.own.1 ∙ c.make_room.ensures.stays.own.1 in
    let tasks = c.skip.ensures.over.threads.4 ∙ c.open.ensures.stays.threads.4 ∙ c.starts_ticker.ensures.stays.reading ∙ c.make_room.ensures.stays.threads.4 in (
      ap (λ v. map begun v.items) tasks,
      inr (c.open.result, same_dial (λ d x e. g.D.Dialer.dials d c.args.name.now x e) _ _ _ _ _ before c.skip.ensures.over.dialer c.open.ensures.exact),
    )
