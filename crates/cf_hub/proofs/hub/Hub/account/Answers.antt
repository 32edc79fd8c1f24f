use Rattle.cf_hub.proofs.Shown.{all_show, shows_ticks}
use Rattle.crossbeam_channel.specs.Claims.{view}
use Rattle.cf_hub.proofs.hub.Hub.account.Goals as goal

pub returns-clause-sources : goal.returns-clause-sources
returns-clause-sources g c =
    let s = g.D.Read.Source in
    all_show s.left s.faults s.ended _ _ _ (rw (← c.deref.ensures.value) c.each_reads.ensures) c.args.self.now.fronts

pub returns-clause-ticks : goal.returns-clause-ticks
returns-clause-ticks g c = shows_ticks g.P.Pulse.answers c.args.self.now.rested (view c.args.self.now.queue.seat).got c.args.self.now.book.taken c.it_ticks.ensures c.args.self.now.beats
