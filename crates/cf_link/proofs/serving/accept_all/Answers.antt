use Rattle.std.proofs.Common.{◌∙◌, refl, arith}
use Rattle.cf_conn.specs.Told.{ConnTold}
use Rattle.cf_link.specs.Links.{told_now}
use Rattle.cf_link.proofs.Steps.{halfway_none, halfway_owed, halfway_from, halfway_step, three_steps}
use Rattle.cf_link.proofs.serving.accept_all.Goals as goal

pub loop-init : goal.loop-init
loop-init g c =
    let told : g.row.L-Conn.Denot → ConnTold = told_now g.L.Conn.Source.left g.L.Conn.Sink.written g.L.Conn.Source.ended g.L.Conn.Source.faults g.L.Conn.Sink.faults in
    let link = g.L.Link in
    let at = c.args.link.now in
    record {
      halfway = halfway_none told g.S.Service.serves c.args.service.now c.args.line.now.tasks (link.conns at) (link.given at) (link.accepted at) (link.owed at) c.requires;
      count = omega arith;
      faults = refl;
      addresses = refl;
    }

pub make_ready-requires : goal.make_ready-requires
make_ready-requires g c =
    let told : g.row.L-Conn.Denot → ConnTold = told_now g.L.Conn.Source.left g.L.Conn.Sink.written g.L.Conn.Source.ended g.L.Conn.Source.faults g.L.Conn.Sink.faults in
    let link = g.L.Link in
    let was = c.args.link.now in
    let now = c.loop.link in
    halfway_owed told g.S.Service.serves c.args.service.now c.loop.line.tasks (link.conns was) (link.conns now) (link.given was) (link.given now) (link.accepted was) (link.accepted now) (link.owed was) (link.owed now) c.loop.invariant.halfway

pub returns-in_err-accept_one-clause-halfway : goal.returns-in_err-accept_one-clause-halfway
returns-in_err-accept_one-clause-halfway g c =
    let told : g.row.L-Conn.Denot → ConnTold = told_now g.L.Conn.Source.left g.L.Conn.Sink.written g.L.Conn.Source.ended g.L.Conn.Source.faults g.L.Conn.Sink.faults in
    let link = g.L.Link in
    let was = c.args.link.now in
    let mid = c.make_ready.new.link in
    let now = c.accept_one.new.link in
    let e = c.in_err-accept_one.ensures in
    halfway_from told g.S.Service.serves c.args.service.now c.loop.line.tasks c.make_ready.new.line.tasks c.accept_one.new.line.tasks (link.conns was) (link.conns c.loop.link) (link.conns mid) (link.conns now) (link.given was) (link.given c.loop.link) (link.given mid) (link.given now)
    (link.accepted was) (link.accepted c.loop.link) (link.accepted mid) (link.accepted now) (link.owed was) (link.owed c.loop.link) (link.owed mid) (link.owed now) c.loop.invariant.halfway c.in_ok-share.ensures.given c.in_ok-share.ensures.conns c.in_ok-share.ensures.accepted
    e.err.0 e.err.1 e.given e.err.2 e.err.3

pub loop-preserved : goal.loop-preserved
loop-preserved g c =
    let told : g.row.L-Conn.Denot → ConnTold = told_now g.L.Conn.Source.left g.L.Conn.Sink.written g.L.Conn.Source.ended g.L.Conn.Source.faults g.L.Conn.Sink.faults in
    let link = g.L.Link in
    let was = c.args.link.now in
    let mid = c.make_ready.new.link in
    let now = c.accept_one.new.link in
    let i = c.loop.invariant in
    let b = c.in_ok-share.ensures in
    let e = c.in_ok-accept_one.ensures in
    record {
      halfway = halfway_step told g.S.Service.serves c.args.service.now c.loop.line.tasks c.make_ready.new.line.tasks c.accept_one.new.line.tasks (link.conns was) (link.conns c.loop.link) (link.conns mid) (link.conns now) (link.given was) (link.given c.loop.link) (link.given mid) (link.given now)
          (link.accepted was) (link.accepted c.loop.link) (link.accepted mid) (link.accepted now) (link.owed was) (link.owed c.loop.link) (link.owed mid) (link.owed now) i.halfway b.given b.conns b.accepted
          e.ok.0 (e.ok.1 ∙ c.in_ok-share.ensures.service) e.ok.2 e.ok.3 e.given e.count.0 e.count.1;
      count = (let n = i.count in let m = b.accepted in let k = e.count.0 in omega (arith, n, m, k));
      faults = three_steps (link.faults now) (link.faults mid) (link.faults c.loop.link) (link.faults was) e.kept b.faults i.faults;
      addresses = three_steps (link.addresses now) (link.addresses mid) (link.addresses c.loop.link) (link.addresses was) e.addresses b.addresses i.addresses;
    }

pub returns-in_err-share-clause-halfway : goal.returns-in_err-share-clause-halfway
returns-in_err-share-clause-halfway g c =
    let told : g.row.L-Conn.Denot → ConnTold = told_now g.L.Conn.Source.left g.L.Conn.Sink.written g.L.Conn.Source.ended g.L.Conn.Source.faults g.L.Conn.Sink.faults in
    let link = g.L.Link in
    let was = c.args.link.now in
    let now = c.make_ready.new.link in
    let e = c.in_err-share.ensures in
    halfway_from told g.S.Service.serves c.args.service.now c.loop.line.tasks c.make_ready.new.line.tasks c.make_ready.new.line.tasks (link.conns was) (link.conns c.loop.link) (link.conns now) (link.conns now) (link.given was) (link.given c.loop.link) (link.given now) (link.given now)
    (link.accepted was) (link.accepted c.loop.link) (link.accepted now) (link.accepted now) (link.owed was) (link.owed c.loop.link) (link.owed now) (link.owed now) c.loop.invariant.halfway e.given e.conns e.accepted
    refl refl refl refl refl
