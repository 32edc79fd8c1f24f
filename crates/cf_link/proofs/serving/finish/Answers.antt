use Rattle.std.proofs.Common.{◌∙◌, refl}
use Rattle.cf_conn.specs.Told.{ConnTold}
use Rattle.cf_link.specs.Links.{told_now}
use Rattle.cf_link.proofs.Steps.{gives_more}
use Rattle.cf_link.proofs.serving.finish.Goals as goal

pub loop-line-preserved : goal.loop-line-preserved
loop-line-preserved g c =
    let told : g.row.L-Conn.Denot → ConnTold = told_now g.L.Conn.Source.left g.L.Conn.Sink.written g.L.Conn.Source.ended g.L.Conn.Source.faults g.L.Conn.Sink.faults in
    let link = g.L.Link in
    let was = c.args.link.now in
    let mid = c.loop-line.link in
    let now = c.give_back-in-loop-line.new.link in
    let i = c.loop-line.invariant in
    let e = c.give_back-in-loop-line.ensures in
    let after = c.give_back-in-loop-line.new.line.tasks in
    record {
      gives = gives_more told g.S.Service.serves c.args.line.now.tasks c.loop-line.line.tasks c.join_at.new.self.tasks after after (link.given was) (link.given mid) (link.given now) (link.given now) (link.owed was) (link.owed mid) (link.owed now) (link.owed now)
          i.gives c.join_at.ensures.tasks e.given refl refl refl;
      all = e.all;
      faults = e.faults ∙ i.faults;
      addresses = e.addresses ∙ i.addresses;
      conns = e.conns ∙ i.conns;
      accepted = e.accepted ∙ i.accepted;
    }
