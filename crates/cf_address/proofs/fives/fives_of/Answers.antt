use Rattle.std.proofs.Common.{ap, arith, ◌∙◌}
use Rattle.cf_address.proofs.BitLemmas.{filled, none_filled}
use Rattle.cf_address.proofs.fives.fives_of.Goals as goal
use Rattle.cf_address.proofs.fives.fives_of.Goals.{then-n-gt0+in_ok-push, else-n-gt0}

pub returns : goal.returns
returns c =
    let whole = c.in_ok-whole.field-0.whole.items in
    let n = c.in_ok-whole.field-0.n in
    let word = c.in_ok-whole.field-0.word in
    elim c.if-n-gt0.branch [
      | then-n-gt0+in_ok-push w ↦ filled c.args.bytes.now whole _ n word w.filled_up.result c.in_ok-whole.ensures.bits (omega (arith, w.if-n-gt0.true)) c.in_ok-whole.ensures.few w.filled_up.ensures.value w.filled_up.ensures.small c.in_ok-whole.ensures.whole (ap (λ v. v.items) w.fives-is ∙ w.in_ok-push.ensures.items)
      | else-n-gt0 w ↦ none_filled c.args.bytes.now whole _ n word c.in_ok-whole.ensures.bits (omega arith) c.in_ok-whole.ensures.whole (ap (λ v. v.items) w.fives-is)
    ]
