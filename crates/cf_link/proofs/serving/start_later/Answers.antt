use Rattle.std.proofs.Common.{◌∙◌, inl, inr, refl, arith}
use Rattle.cf_link.proofs.Sweeps.{stay_same, stay_twice}
use Rattle.cf_link.proofs.serving.start_later.Goals as goal

pub loop-init : goal.loop-init
loop-init g c = record {
  tasks = refl;
  next = refl;
  room = c.requires;
  stay = stay_same g.F.Flag.tells c.args.line.now.flags;
  refusals = omega arith;
  count = omega arith;
  faults = refl;
  addresses = refl;
  conns = refl;
  accepted = refl;
  owed = refl;
  given = refl;
}

pub returns-then-is_idle-clause-runs : goal.returns-then-is_idle-clause-runs
returns-then-is_idle-clause-runs g c =
    let left = c.sweep.new.self.flags in (
      left,
      stay_twice g.F.Flag.tells c.args.line.now.flags c.loop.line.flags left c.loop.invariant.stay c.sweep.ensures.stay,
      inr (c.run_alone.ensures.flags, inl (c.if-is_idle.ensures.idle refl)),
    )

pub returns-in-Ok-clause-runs : goal.returns-in-Ok-clause-runs
returns-in-Ok-clause-runs g c =
    let left = c.sweep.new.self.flags in
    (left, stay_twice g.F.Flag.tells c.args.line.now.flags c.loop.line.flags left c.loop.invariant.stay c.sweep.ensures.stay, inl c.push.ensures.flags)

pub loop-preserved : goal.loop-preserved
loop-preserved g c =
    let i = c.loop.invariant in
    let s = c.sweep.ensures in
    let p = c.pause.ensures in
    let e = c.in-Err.ensures.err in
    let same = s.refusals in
    let risen = e.1 in
    record {
      tasks = s.tasks ∙ i.tasks;
      next = e.0 ∙ i.next;
      room = s.room i.room;
      stay = stay_twice g.F.Flag.tells c.args.line.now.flags c.loop.line.flags c.sweep.new.self.flags i.stay s.stay;
      refusals = (let n = i.refusals in omega (arith, n, same, risen));
      count = (let n = i.count in let t = c.loop-test.true in omega (arith, n, t, same, risen));
      faults = p.faults ∙ i.faults;
      addresses = p.addresses ∙ i.addresses;
      conns = p.conns ∙ i.conns;
      accepted = p.accepted ∙ i.accepted;
      owed = p.owed ∙ i.owed;
      given = p.given ∙ i.given;
    }
