use Rattle.std.proofs.Common.{rules, ◌≡◌, ℕ, ◌+◌, ◌-◌, subst, ◌∙◌, inl, inr, arith}
use Rattle.cf_bytes.specs.Outside.{HasRisen}
use Rattle.cf_tasks.specs.Starting.{ArePut}
use Rattle.cf_tasks.proofs.Starting.{one_put}
use Rattle.cf_parallel.proofs.parallel.Parallel.with_gate.Goals.{in-Some, in_default}
use Rattle.cf_parallel.proofs.parallel.Parallel.with_gate.Goals as goal

pub loop-preserved : goal.loop-preserved
loop-preserved g c = let i = c.loop.invariant in
    let some = i.few in
    let next : (c.loop.counter - 1) + 1 ≡ (c.loop.counter + 1) - 1 = omega (arith, some) in
    let puts = one_put g.K.Spawner.moves (c.loop.counter - 1) _ c.loop.spawner c.start.new.spawner i.puts c.in_ok-hand.ensures.put in
    elim c.match-branch-4.branch [
      | in-Some w ↦ (
          let same = rw w.in-Some.is at c.in_ok-hand.ensures.some in
          rw w.hands-is record {
            few = omega (arith, i.few, w.push_reserved.ensures.len);
            within = omega (arith, c.loop-test.true);
            room = omega (arith, i.room, w.push_reserved.ensures.capacity);
            cause = elim i.cause [ inl x ↦ (let p = x.0 in let q = x.1 in inl (omega (arith, p, w.push_reserved.ensures.len), same ∙ q)) | inr x ↦ inr (omega (arith, x, same)) ];
            puts = subst (λ (n : ℕ). ArePut g.K.Spawner.moves n c.args.spawner.now c.start.new.spawner) next puts;
          })
      | in_default w ↦ (
          let risen : HasRisen (g.K.Spawner.refusals c.loop.spawner) (g.K.Spawner.refusals c.start.new.spawner) = search rules in
          rw w.hands-is record {
            few = omega (arith, i.few);
            within = omega (arith, c.loop-test.true);
            room = i.room;
            cause = elim i.cause [ inl x ↦ (let e = x.1 in inr (omega (arith, e, risen))) | inr x ↦ inr (omega (arith, x, risen)) ];
            puts = subst (λ (n : ℕ). ArePut g.K.Spawner.moves n c.args.spawner.now c.start.new.spawner) next puts;
          })
    ]
