use Rattle.std.proofs.Common.{arith, ◌≤◌, ◌∙◌, length}
use Rattle.cf_hub.proofs.Opened.{one_shut, all_shut}
use Rattle.cf_hub.proofs.hub.Hub.shut_all.Goals as goal

pub loop-p-preserved : goal.loop-p-preserved
loop-p-preserved g c =
    let i = c.loop-p.invariant in
    record {
      stays = record {
        book = c.shut.ensures.stays.book ∙ i.stays.book;
        seat = c.shut.ensures.stays.seat ∙ i.stays.seat;
        own = (cc, cc);
        threads = (cc, cc, cc, cc, cc);
        ends = (cc, cc, cc);
        written = c.shut.ensures.stays.written ∙ i.stays.written;
        faults = c.shut.ensures.stays.faults ∙ i.stays.faults;
      };
      shut = one_shut g.D.Write.Sink.written g.D.Write.Writer.was_shut c.loop-p.p c.loop-p.self.writers.items c.shut.new.self.writers.items c.shut.ensures.shut i.shut;
    }

pub returns-clause-shut : goal.returns-clause-shut
returns-clause-shut g c =
    let few : length c.loop-p.self.writers.items ≤ c.loop-p.p = omega (arith, c.loop-p-test.false, c.loop-p.self.places, c.loop-p.self.numbers, c.loop-p.self.writers.ok.0) in
    all_shut g.D.Write.Writer.was_shut c.loop-p.p c.loop-p.self.writers.items few c.loop-p.invariant.shut
