use Rattle.std.proofs.Common.{◌∙◌, ap, map}
use Rattle.cf_hub.specs.Finish.{begun}
use Rattle.cf_wires.specs.Log.{Tally}
use Rattle.cf_hub_cases.proofs.Comes.{first_dialled}
use Rattle.cf_hub_cases.proofs.hearing.begin.Goals as goal

pub returns-in-Ok-clause-reads : goal.returns-in-Ok-clause-reads
returns-in-Ok-clause-reads g c =
    let o = c.in-Ok.ensures.opened in
    let none = ap (λ v. map begun v.items) c.keep_log.ensures.threads.4 ∙ ap (map begun) c.requires.idle in
    let zero = ap (λ (t : Tally). t.dials) c.keep_log.ensures.told.counts in (
      o.0,
      first_dialled _ _ _ o.0 _ o.3 none c.in-Ok.ensures.dialled.0 zero,
      o.2.0 ∙ ap (λ d. d.peer.bytes.items) c.keep_log.ensures.own.1,
    )
