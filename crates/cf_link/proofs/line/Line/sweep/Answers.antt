use Rattle.std.proofs.Common.{◌≤◌, ◌∙◌, length, ap, arith}
use Rattle.std.proofs.lemmas.List.{length-map}
use Rattle.cf_link.proofs.Sweeps.{looked_over, looked_runs, looked_all}
use Rattle.cf_link.proofs.line.Line.sweep.Goals as goal

pub loop-i-preserved-then-is_over : goal.loop-i-preserved-then-is_over
loop-i-preserved-then-is_over g c =
    let i = c.loop-i.invariant in
    let e = c.if-is_over.ensures in
    let j = c.join_at.ensures in
    record {
      tasks = j.tasks ∙ i.tasks;
      looked = looked_over g.F.Flag.tells c.args.self.now.flags c.loop-i.self.flags c.join_at.new.self.flags c.loop-i.i e.0 e.2 e.1 i.looked e.3 e.4 e.5 j.flags;
      room = λ had. j.room (i.room had);
      refusals = j.refusals ∙ i.refusals;
    }

pub loop-i-preserved : goal.loop-i-preserved
loop-i-preserved g c =
    let i = c.loop-i.invariant in
    let e = c.if-is_over.ensures in
    record {
      tasks = i.tasks;
      looked = looked_runs g.F.Flag.tells c.args.self.now.flags c.loop-i.self.flags c.loop-i.i e.0 e.2 e.1 i.looked e.3 e.4 e.5;
      room = i.room;
      refusals = i.refusals;
    }

pub returns-clause-run : goal.returns-clause-run
returns-clause-run g c =
    let few : length c.loop-i.self.flags ≤ c.loop-i.i = (let v = ap (λ l. length l.flags) c.self.view_is in let m = length-map c.self.inside.live.items (λ x. x.flag) in let n = c.loop-i-test.false in let l = c.len.ensures in let ok = c.self.inside.live.ok in omega (arith, v, m, n, l, ok)) in
    (looked_all g.F.Flag.tells c.args.self.now.flags c.loop-i.self.flags c.loop-i.i c.loop-i.invariant.looked few).1

pub returns-clause-stay : goal.returns-clause-stay
returns-clause-stay g c =
    let few : length c.loop-i.self.flags ≤ c.loop-i.i = (let v = ap (λ l. length l.flags) c.self.view_is in let m = length-map c.self.inside.live.items (λ x. x.flag) in let n = c.loop-i-test.false in let l = c.len.ensures in let ok = c.self.inside.live.ok in omega (arith, v, m, n, l, ok)) in
    (looked_all g.F.Flag.tells c.args.self.now.flags c.loop-i.self.flags c.loop-i.i c.loop-i.invariant.looked few).0
