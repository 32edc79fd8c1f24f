use Rattle.std.proofs.Common.{◌≡◌, ◌∙◌, refl}
use Rattle.cf_conn.specs.Told.{ConnTold}
use Rattle.cf_link.specs.Links.{told_now}
use Rattle.cf_link.proofs.Steps.{gives_none, gives_more}
use Rattle.cf_link.proofs.Sweeps.{stay_same, stay_twice}
use Rattle.cf_link.proofs.serving.make_ready.Goals as goal

pub loop-init : goal.loop-init
loop-init g c =
    let told : g.row.L-Conn.Denot → ConnTold = told_now g.L.Conn.Source.left g.L.Conn.Sink.written g.L.Conn.Source.ended g.L.Conn.Source.faults g.L.Conn.Sink.faults in
    let link = g.L.Link in
    record {
      gives = gives_none told g.S.Service.serves c.args.line.now.tasks (link.given c.args.link.now) (link.owed c.args.link.now);
      stay = stay_same g.F.Flag.tells c.args.line.now.flags;
      faults = refl;
      addresses = refl;
      conns = refl;
      accepted = refl;
    }

pub returns-in-Ok-clause-given : goal.returns-in-Ok-clause-given
returns-in-Ok-clause-given g c =
    let told : g.row.L-Conn.Denot → ConnTold = told_now g.L.Conn.Source.left g.L.Conn.Sink.written g.L.Conn.Source.ended g.L.Conn.Source.faults g.L.Conn.Sink.faults in
    let link = g.L.Link in
    let was = c.args.link.now in
    let mid = c.loop.link in
    let to = c.give_back.new.link in
    gives_more told g.S.Service.serves c.args.line.now.tasks c.loop.line.tasks c.sweep.new.self.tasks c.give_back.new.line.tasks c.share_of.new.line.tasks (link.given was) (link.given mid) (link.given to) (link.given to) (link.owed was) (link.owed mid) (link.owed to) (link.owed to)
    c.loop.invariant.gives c.sweep.ensures.tasks c.give_back.ensures.given c.share_of.ensures.tasks refl refl

pub returns-in-Ok-clause-stay : goal.returns-in-Ok-clause-stay
returns-in-Ok-clause-stay g c =
    let same : c.share_of.new.line.flags ≡ c.sweep.new.self.flags = c.share_of.ensures.flags ∙ c.give_back.ensures.flags in
    rw same (stay_twice g.F.Flag.tells c.args.line.now.flags c.loop.line.flags c.sweep.new.self.flags c.loop.invariant.stay c.sweep.ensures.stay)

pub returns-then-is_idle-clause-given : goal.returns-then-is_idle-clause-given
returns-then-is_idle-clause-given g c =
    let told : g.row.L-Conn.Denot → ConnTold = told_now g.L.Conn.Source.left g.L.Conn.Sink.written g.L.Conn.Source.ended g.L.Conn.Source.faults g.L.Conn.Sink.faults in
    let link = g.L.Link in
    let was = c.args.link.now in
    let mid = c.loop.link in
    let to = c.give_back.new.link in
    gives_more told g.S.Service.serves c.args.line.now.tasks c.loop.line.tasks c.sweep.new.self.tasks c.give_back.new.line.tasks c.share_of.new.line.tasks (link.given was) (link.given mid) (link.given to) (link.given to) (link.owed was) (link.owed mid) (link.owed to) (link.owed to)
    c.loop.invariant.gives c.sweep.ensures.tasks c.give_back.ensures.given c.share_of.ensures.tasks refl refl

pub loop-preserved : goal.loop-preserved
loop-preserved g c =
    let told : g.row.L-Conn.Denot → ConnTold = told_now g.L.Conn.Source.left g.L.Conn.Sink.written g.L.Conn.Source.ended g.L.Conn.Source.faults g.L.Conn.Sink.faults in
    let link = g.L.Link in
    let was = c.args.link.now in
    let mid = c.loop.link in
    let to = c.give_back.new.link in
    let now = c.pause.new.self in
    let i = c.loop.invariant in
    let b = c.give_back.ensures in
    let p = c.pause.ensures in
    let same : c.share_of.new.line.flags ≡ c.sweep.new.self.flags = c.share_of.ensures.flags ∙ b.flags in
    record {
      gives = gives_more told g.S.Service.serves c.args.line.now.tasks c.loop.line.tasks c.sweep.new.self.tasks c.give_back.new.line.tasks c.share_of.new.line.tasks (link.given was) (link.given mid) (link.given to) (link.given now) (link.owed was) (link.owed mid) (link.owed to) (link.owed now)
          c.loop.invariant.gives c.sweep.ensures.tasks c.give_back.ensures.given c.share_of.ensures.tasks p.given p.owed;
      stay = rw same (stay_twice g.F.Flag.tells c.args.line.now.flags c.loop.line.flags c.sweep.new.self.flags i.stay c.sweep.ensures.stay);
      faults = p.faults ∙ b.faults ∙ i.faults;
      addresses = p.addresses ∙ b.addresses ∙ i.addresses;
      conns = p.conns ∙ b.conns ∙ i.conns;
      accepted = p.accepted ∙ b.accepted ∙ i.accepted;
    }

pub returns-clause-given : goal.returns-clause-given
returns-clause-given g c =
    let told : g.row.L-Conn.Denot → ConnTold = told_now g.L.Conn.Source.left g.L.Conn.Sink.written g.L.Conn.Source.ended g.L.Conn.Source.faults g.L.Conn.Sink.faults in
    let link = g.L.Link in
    let was = c.args.link.now in
    let mid = c.loop.link in
    let now = c.finish.new.link in
    gives_more told g.S.Service.serves c.args.line.now.tasks c.loop.line.tasks c.loop.line.tasks c.finish.new.line.tasks c.finish.new.line.tasks (link.given was) (link.given mid) (link.given now) (link.given now) (link.owed was) (link.owed mid) (link.owed now) (link.owed now)
    c.loop.invariant.gives refl c.finish.ensures.given refl refl refl
