use Rattle.cf_conn.specs.Told.{ConnTold}
use Rattle.cf_link.specs.Links.{LinkTold, link_now, told_now}
use Rattle.cf_link.proofs.Steps.{halfway_owed, halfway_end, two_steps}
use Rattle.cf_link.proofs.serving.serve.Goals as goal

pub finish-requires : goal.finish-requires
finish-requires g c =
    let told : g.row.L-Conn.Denot → ConnTold = told_now g.L.Conn.Source.left g.L.Conn.Sink.written g.L.Conn.Source.ended g.L.Conn.Source.faults g.L.Conn.Sink.faults in
    let link = g.L.Link in
    let was = c.args.link.now in
    let now = c.accept_all-answer.new.link in
    halfway_owed told g.S.Service.serves c.args.service.now c.accept_all-answer.new.line.tasks (link.conns was) (link.conns now) (link.given was) (link.given now) (link.accepted was) (link.accepted now) (link.owed was) (link.owed now) c.accept_all-answer.ensures.halfway

pub returns-clause-serves : goal.returns-clause-serves
returns-clause-serves g c =
    let told : g.row.L-Conn.Denot → ConnTold = told_now g.L.Conn.Source.left g.L.Conn.Sink.written g.L.Conn.Source.ended g.L.Conn.Source.faults g.L.Conn.Sink.faults in
    let link = g.L.Link in
    let tell : g.row.L.Denot → LinkTold = link_now link.addresses link.accepted link.owed link.conns link.given in
    let a = c.accept_all-answer.ensures in
    let b = c.finish.ensures in
    halfway_end told g.S.Service.serves c.args.service.now c.accept_all-answer.new.line.tasks c.finish.new.line.tasks (tell c.args.link.now) (tell c.accept_all-answer.new.link) (tell c.finish.new.link)
    a.halfway b.given b.conns b.accepted b.tasks (two_steps (link.addresses c.finish.new.link) (link.addresses c.accept_all-answer.new.link) (link.addresses c.args.link.now) b.addresses a.addresses)
