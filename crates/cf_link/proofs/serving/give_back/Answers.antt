use Rattle.std.proofs.Common.{refl, ◌∙◌}
use Rattle.cf_conn.specs.Told.{ConnTold}
use Rattle.cf_link.specs.Links.{Given, told_now}
use Rattle.cf_link.proofs.Steps.{gives_none, gives_one, two_steps}
use Rattle.cf_link.proofs.serving.give_back.Goals as goal

pub loop-ended-init : goal.loop-ended-init
loop-ended-init g c =
    let told : g.row.L-Conn.Denot → ConnTold = told_now g.L.Conn.Source.left g.L.Conn.Sink.written g.L.Conn.Source.ended g.L.Conn.Source.faults g.L.Conn.Sink.faults in
    record {
      gives = gives_none told g.S.Service.serves c.args.line.now.tasks (g.L.Link.given c.args.link.now) (g.L.Link.owed c.args.link.now);
      faults = refl;
      addresses = refl;
      conns = refl;
      accepted = refl;
      flags = refl;
    }

pub loop-ended-preserved : goal.loop-ended-preserved
loop-ended-preserved g c =
    let told : g.row.L-Conn.Denot → ConnTold = told_now g.L.Conn.Source.left g.L.Conn.Sink.written g.L.Conn.Source.ended g.L.Conn.Source.faults g.L.Conn.Sink.faults in
    let link = g.L.Link in
    let i = c.loop-ended.invariant in
    let out = c.out-end.result in
    let back : Given = record { end = g.L.Conn.Duplex.tells out.end; how = out.how } in
    let e = c.give_back.ensures in
    record {
      gives = gives_one told g.S.Service.serves c.args.line.now.tasks c.loop-ended.line.tasks c.next.new.self.tasks (link.given c.args.link.now) (link.given c.loop-ended.link) (link.given c.give_back.new.self)
          (link.owed c.args.link.now) (link.owed c.loop-ended.link) (link.owed c.give_back.new.self) c.in-Some.ended back i.gives c.in-Some.ensures.tasks c.out-end.ensures e.given e.owed;
      faults = two_steps (link.faults c.give_back.new.self) (link.faults c.loop-ended.link) (link.faults c.args.link.now) e.faults i.faults;
      addresses = two_steps (link.addresses c.give_back.new.self) (link.addresses c.loop-ended.link) (link.addresses c.args.link.now) e.addresses i.addresses;
      conns = two_steps (link.conns c.give_back.new.self) (link.conns c.loop-ended.link) (link.conns c.args.link.now) e.conns i.conns;
      accepted = two_steps (link.accepted c.give_back.new.self) (link.accepted c.loop-ended.link) (link.accepted c.args.link.now) e.accepted i.accepted;
      flags = c.in-Some.ensures.flags ∙ i.flags;
    }
