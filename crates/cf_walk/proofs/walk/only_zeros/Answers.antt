use Rattle.std.proofs.Common.{◌≡◌, ℕ, Bool, List, length, true, sym, ◌∙◌, ap, arith}
use Rattle.cf_conn.specs.Window.{beyond, seen}
use Rattle.cf_conn.proofs.Stepping.{more_steps}
use Rattle.cf_walk.specs.Files.{all_zeros}
use Rattle.cf_walk.proofs.Holding.{few_taken, few_wanted}
use Rattle.cf_walk.proofs.WalkSource.{strips_more, behind_more}
use Rattle.cf_walk.proofs.walk.only_zeros.Goals as goal

-- what is held is zeros, where the test on it has said so
zeros_ended : {held bytes : List ℕ} {r : Bool} → bytes ≡ held → r ≡ all_zeros bytes → r ≡ true → all_zeros held ≡ true
zeros_ended is ended found = sym (ap all_zeros is) ∙ sym ended ∙ found

pub returns-in_err-want-clause-strips : goal.returns-in_err-want-clause-strips
returns-in_err-want-clause-strips g c =
    strips_more (seen c.args.window.now (g.S.Source.left c.args.source.now)) c.loop-window.window c.take.new.self c.want.new.self (g.S.Source.left c.loop-window.source) (g.S.Source.left c.want.new.source)
    (length c.held-n.result.now) c.loop-window.invariant.strips (zeros_ended c.held.ensures c.is_end.ensures c.loop-window-test.true) (ap length c.held-n.ensures) c.take.ensures c.in_err-want.ensures.same c.in_err-want.ensures.bound

pub returns-in_err-want-clause-beyond : goal.returns-in_err-want-clause-beyond
returns-in_err-want-clause-beyond g c =
    behind_more (beyond c.args.window.now (g.S.Source.left c.args.source.now)) c.loop-window.window c.take.new.self c.want.new.self (g.S.Source.left c.loop-window.source) (g.S.Source.left c.want.new.source)
    (length c.held-n.result.now) c.loop-window.invariant.beyond c.take.ensures c.in_err-want.ensures.same c.in_err-want.ensures.bound

pub returns-then-is_empty-clause-strips : goal.returns-then-is_empty-clause-strips
returns-then-is_empty-clause-strips g c =
    strips_more (seen c.args.window.now (g.S.Source.left c.args.source.now)) c.loop-window.window c.take.new.self c.want.new.self (g.S.Source.left c.loop-window.source) (g.S.Source.left c.want.new.source)
    (length c.held-n.result.now) c.loop-window.invariant.strips (zeros_ended c.held.ensures c.is_end.ensures c.loop-window-test.true) (ap length c.held-n.ensures) c.take.ensures c.in_ok-want.ensures.same c.in_ok-want.ensures.bound

pub loop-window-preserved : goal.loop-window-preserved
loop-window-preserved g c =
    let e = c.in_ok-want.ensures in
    record {
      strips = strips_more (seen c.args.window.now (g.S.Source.left c.args.source.now)) c.loop-window.window c.take.new.self c.want.new.self (g.S.Source.left c.loop-window.source) (g.S.Source.left c.want.new.source)
          (length c.held-n.result.now) c.loop-window.invariant.strips (zeros_ended c.held.ensures c.is_end.ensures c.loop-window-test.true) (ap length c.held-n.ensures) c.take.ensures e.same e.bound;
      beyond = behind_more (beyond c.args.window.now (g.S.Source.left c.args.source.now)) c.loop-window.window c.take.new.self c.want.new.self (g.S.Source.left c.loop-window.source) (g.S.Source.left c.want.new.source)
          (length c.held-n.result.now) c.loop-window.invariant.beyond c.take.ensures e.same e.bound;
      count = e.count ∙ c.loop-window.invariant.count;
      steps = more_steps g.S.Source.reads c.args.source.now c.loop-window.source c.want.new.source c.loop-window.invariant.steps e.steps;
      few = λ few. few_wanted c.take.new.self c.want.new.self 1 (omega arith) e.few
          (few_taken c.loop-window.window c.take.new.self (length c.held-n.result.now) c.take.ensures (c.loop-window.invariant.few few));
    }
