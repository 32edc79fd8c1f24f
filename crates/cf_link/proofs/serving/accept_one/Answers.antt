use Rattle.std.proofs.Common.{◌∷◌, [], refl}
use Rattle.cf_conn.specs.Told.{ConnTold}
use Rattle.cf_link.specs.Links.{longer_by, told_now}
use Rattle.cf_link.specs.declared.task.ServeTask.{ServeTask}
use Rattle.cf_link.proofs.Steps.{two_steps}
use Rattle.cf_link.proofs.serving.accept_one.Goals as goal

pub returns-clause-ok : goal.returns-clause-ok
returns-clause-ok g c =
    let told : g.row.L-Conn.Denot → ConnTold = told_now g.L.Conn.Source.left g.L.Conn.Sink.written g.L.Conn.Source.ended g.L.Conn.Source.faults g.L.Conn.Sink.faults in
    let link = g.L.Link in
    let task : ServeTask g.row.L-Conn.Denot g.row.S.Denot = record { conn = c.in_ok-conn.conn; service = c.args.share.service; over = c.args.share.over } in
    (task, refl, c.start.ensures.tasks, two_steps (link.conns c.start.new.link) (link.conns c.accept.new.self) (longer_by (link.conns c.args.link.now) (told c.in_ok-conn.conn ∷ [])) c.start.ensures.conns c.in_ok-conn.ensures.ok)
