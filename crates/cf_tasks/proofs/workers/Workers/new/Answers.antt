use Rattle.std.proofs.Common.{rules, ℕ, subst, ◌≡◌, ◌∙◌, inl, inr, arith}
use Rattle.cf_bytes.specs.Outside.{HasRisen}
use Rattle.cf_tasks.specs.Starting.{ArePut}
use Rattle.cf_tasks.proofs.Starting.{one_put}
use Rattle.cf_tasks.proofs.Counting.{one_refused, one_started}
use Rattle.cf_tasks.proofs.workers.Workers.new.Goals.{in-Some, in_default}
use Rattle.cf_tasks.proofs.workers.Workers.new.Goals as goal

pub loop-preserved : goal.loop-preserved
loop-preserved g c = let i = c.loop.invariant in elim c.match-branch-3.branch [
  | in-Some w ↦ (
      let same = rw w.in-Some.is at c.in_ok-one.ensures.some in
      rw w.ready-is record {
        few = omega (arith, i.few, w.push_reserved.ensures.len);
        within = omega (arith, c.loop-test.true);
        room = omega (arith, i.room, w.push_reserved.ensures.capacity);
        cause = one_started _ _ _ _ _ _ i.cause w.push_reserved.ensures.len same;
        puts = one_put g.K.Spawner.moves c.loop.counter _ c.loop.spawner c.one_more.new.spawner i.puts c.in_ok-one.ensures.put;
      })
  | in_default w ↦ (
      let risen : HasRisen (g.K.Spawner.refusals c.loop.spawner) (g.K.Spawner.refusals c.one_more.new.spawner) = search rules in
      rw w.ready-is record {
        few = omega (arith, i.few);
        within = omega (arith, c.loop-test.true);
        room = i.room;
        cause = one_refused _ _ _ _ _ i.cause risen;
        puts = one_put g.K.Spawner.moves c.loop.counter _ c.loop.spawner c.one_more.new.spawner i.puts c.in_ok-one.ensures.put;
      })
]

pub returns-clause-cause : goal.returns-clause-cause
returns-clause-cause g c = let i = c.loop.invariant in let f = c.loop-test.false in let e : c.loop.counter ≡ c.args.count = omega (arith, i.within, f) in
    elim i.cause [ inl x ↦ inl (x.0 ∙ e, x.1) | inr x ↦ inr x ]

pub returns-clause-put : goal.returns-clause-put
returns-clause-put g c =
    let i = c.loop.invariant in
    let f = c.loop-test.false in
    let e : c.loop.counter ≡ c.args.count = omega (arith, i.within, f) in
    subst (λ (n : ℕ). ArePut g.K.Spawner.moves n c.args.spawner.now c.loop.spawner) e i.puts
