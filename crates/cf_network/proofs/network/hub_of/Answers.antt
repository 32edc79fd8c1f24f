use Rattle.std.proofs.Common.{arith, ◌≡◌, inl, inr, ap}
use Rattle.std.proofs.lemmas.Result.{IfOk-weaker}
use Rattle.cf_tasks.specs.Waiting.{Waiting}
use Rattle.cf_network.proofs.network.hub_of.Goals as goal

-- where there are peers, one thread is started for the ticker
pub returns-then-peers-gt0-clause-threads : goal.returns-then-peers-gt0-clause-threads
returns-then-peers-gt0-clause-threads g c =
    IfOk-weaker c.started.result _ _
    (λ h started. elim started [
      | inl x ↦ (let one = x.1 in inl (x.0, omega (arith, c.if-peers-gt0.true, one)))
      | inr x ↦ inr x
    ])
    c.started.ensures.threads

-- where there are no peers, no thread is started
pub returns-clause-threads : goal.returns-clause-threads
returns-clause-threads g c =
    let none : c.args.peers ≡ 0 = omega (arith, c.if-peers-gt0.false) in
    IfOk-weaker c.new-3.result _ _
    (λ h same. inl (
      omega (arith, none, ap (λ (w : Waiting). w.count) same.0, c.in_ok-readers.ensures.few),
      omega (arith, none, ap (λ (w : Waiting). w.count) same.1, c.in_ok-tickers.ensures.few),
    ))
    c.new-3.ensures.threads
