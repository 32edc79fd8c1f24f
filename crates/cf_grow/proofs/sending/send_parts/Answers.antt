use Rattle.std.proofs.Common.{ℕ, ◌+◌, ◌++◌, List, [], take, Option, Err, Result, refl, sym, ◌∙◌, ap, subst, arith}
use Rattle.std.proofs.lemmas.List.{take_all}
use Rattle.cf_grow.specs.declared.held.Held.TheVariants.{Bytes}
use Rattle.cf_grow.specs.declared.held.Held.{Held}
use Rattle.cf_grow.specs.Held.{text_all, texts_in}
use Rattle.cf_server.specs.declared.outcome.ServeEnd.{ServeEnd}
use Rattle.cf_server.specs.Taking.{Sends}
use Rattle.cf_server.proofs.Steps.{by_err, Waiting, waiting_written, waiting_sent}
use Rattle.cf_grow.proofs.PartTexts.{told_waits, parts_more, parts_kept, parts_front}
use Rattle.cf_grow.proofs.sending.send_parts.Goals.{then-len-ge-TOGETHER+in_ok-flush, else-len-ge-TOGETHER}
use Rattle.cf_grow.proofs.sending.send_parts.Goals as goal

pub loop-place-init : goal.loop-place-init
loop-place-init g c =
    let none = told_waits c.args.parts.told c.into_vec-waiting.result.items c.args.parts.rest (g.C.Sink.written c.args.conn.now) c.into_vec-waiting.ensures in
    record { written = none; count = refl; left = refl; ended = refl; read_faults = refl }

pub returns-in_err-put-clause-sends : goal.returns-in_err-put-clause-sends
returns-in_err-put-clause-sends g c =
    let before = g.C.Sink.written c.args.conn.now in
    let after = g.C.Sink.written c.loop-place.conn in
    by_err (λ (r : Result (Unit {0}) ServeEnd). Sends r before after (text_all c.args.parts)) _ _ c.from_residual.ensures.1
    (parts_kept c.args.parts.told c.args.parts.rest c.loop-place.place c.loop-place.waiting.items before after c.loop-place.invariant.written)

pub returns-in_err-flush-clause-sends : goal.returns-in_err-flush-clause-sends
returns-in_err-flush-clause-sends g c =
    let told = c.args.parts.told in
    let parts = c.args.parts.rest in
    let i = c.loop-place.place in
    let waiting = c.put.new.waiting.items in
    let before = g.C.Sink.written c.args.conn.now in
    let between = g.C.Sink.written c.loop-place.conn in
    let after = g.C.Sink.written c.flush.new.conn in
    let outcome = c.in_err-flush.field-0.0 in
    let put = parts_more told parts i (Bytes []) c.loop-place.waiting.items waiting before between (omega (arith, c.loop-place-test.true, c.args.parts.whole)) c.loop-place.invariant.written (c.in_ok-put.ensures (Bytes [])) in
    by_err (λ (r : Result (Unit {0}) ServeEnd). Sends r before after (told ++ texts_in parts)) _ _ c.from_residual-in_err-flush.ensures.1
    (parts_front told parts (i + 1) outcome before after
    (waiting_sent (Err outcome) before between after waiting (told ++ texts_in (take (i + 1) parts)) put c.in_err-flush.ensures.sends))

pub loop-place-preserved : goal.loop-place-preserved
loop-place-preserved g c =
    let told = c.args.parts.told in
    let parts = c.args.parts.rest in
    let i = c.loop-place.place in
    let waiting = c.put.new.waiting.items in
    let text = told ++ texts_in (take (i + 1) parts) in
    let before = g.C.Sink.written c.args.conn.now in
    let between = g.C.Sink.written c.loop-place.conn in
    let put = parts_more told parts i (Bytes []) c.loop-place.waiting.items waiting before between (omega (arith, c.loop-place-test.true, c.args.parts.whole)) c.loop-place.invariant.written (c.in_ok-put.ensures (Bytes [])) in
    elim c.if-len-ge-TOGETHER.branch [
      | then-len-ge-TOGETHER+in_ok-flush w ↦
          let sent = w.in_ok-flush.ensures in
          record {
            written = subst (λ (p : Option (List ℕ)). Waiting before p c.if-len-ge-TOGETHER.waiting.items text) (sym (ap g.C.Sink.written w.conn-is))
                (waiting_written before between (g.C.Sink.written w.flush.new.conn) waiting c.if-len-ge-TOGETHER.waiting.items text put sent.sends (ap (λ v. v.items) w.waiting-is ∙ sent.none));
            count = ap g.C.Sink.faults w.conn-is ∙ sent.count ∙ c.loop-place.invariant.count;
            left = ap g.C.Source.left w.conn-is ∙ sent.left ∙ c.loop-place.invariant.left;
            ended = ap g.C.Source.ended w.conn-is ∙ sent.ended ∙ c.loop-place.invariant.ended;
            read_faults = ap g.C.Source.faults w.conn-is ∙ sent.read_faults ∙ c.loop-place.invariant.read_faults;
          }
      | else-len-ge-TOGETHER w ↦ record {
        written = subst (λ (p : Option (List ℕ)). Waiting before p c.if-len-ge-TOGETHER.waiting.items text) (sym (ap g.C.Sink.written w.conn-is)) (subst (λ (w : List ℕ). Waiting before between w text) (sym (ap (λ v. v.items) w.waiting-is)) put);
        count = ap g.C.Sink.faults w.conn-is ∙ c.loop-place.invariant.count;
        left = ap g.C.Source.left w.conn-is ∙ c.loop-place.invariant.left;
        ended = ap g.C.Source.ended w.conn-is ∙ c.loop-place.invariant.ended;
        read_faults = ap g.C.Source.faults w.conn-is ∙ c.loop-place.invariant.read_faults;
      }
    ]

pub returns-clause-sends : goal.returns-clause-sends
returns-clause-sends g c =
    let told = c.args.parts.told in
    let parts = c.args.parts.rest in
    let before = g.C.Sink.written c.args.conn.now in
    let between = g.C.Sink.written c.loop-place.conn in
    let after = g.C.Sink.written c.flush-2.new.conn in
    let all = ap (λ (ps : List Held). told ++ texts_in ps) (take_all c.loop-place.place parts (omega (arith, c.loop-place-test.false, c.args.parts.whole))) in
    waiting_sent c.flush-2.result before between after c.loop-place.waiting.items (told ++ texts_in parts)
    (subst (Waiting before between c.loop-place.waiting.items) all c.loop-place.invariant.written) c.flush-2.ensures.sends
