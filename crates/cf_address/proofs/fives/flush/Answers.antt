use Rattle.std.proofs.Common.{◌<◌, ◌^◌, ◌-◌, ◌%◌, ap, arith, ◌∙◌}
use Rattle.std.proofs.Math.Nat.{mod-lt}
use Rattle.std.proofs.lemmas.Nat.{pow_pos}
use Rattle.std.proofs.lemmas.List.Elements.{All-push}
use Rattle.cf_address.proofs.BitLemmas.{one_shl, flushed}
use Rattle.cf_address.proofs.fives.flush.Goals as goal

pub loop-n-preserved : goal.loop-n-preserved
loop-n-preserved c = record {
  bits = c.loop-n.invariant.bits ∙ flushed c.args.to c.loop-n.out.items _ c.loop-n.n (c.loop-n.n - c.args.to) c.loop-n.word c.upper.result _ c.in_ok-push.ensures.items (omega arith) c.upper.ensures.value (ap (λ m. c.loop-n.word % m) (one_shl (c.loop-n.n - c.args.to) (omega arith)));
  fits = omega arith;
  left = rw (one_shl (c.loop-n.n - c.args.to) (omega arith)) (mod-lt c.loop-n.word (pow_pos (c.loop-n.n - c.args.to)));
  whole = λ below. rw c.in_ok-push.ensures.items (All-push (λ v. v < 2 ^ c.args.to) c.loop-n.out.items c.upper.result (c.loop-n.invariant.whole below) c.upper.ensures.small);
}
