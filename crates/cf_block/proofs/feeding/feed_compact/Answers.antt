use Rattle.std.proofs.Common.{◌∷◌, ℕ, List, ap, ◌∙◌, arith}
use Rattle.cf_block.proofs.FedLemmas.{fed_then, fed_same, compact_1, compact_3, compact_5, compact_9}
use Rattle.cf_block.proofs.feeding.feed_compact.Goals as goal

pub returns-then-n-lt253 : goal.returns-then-n-lt253
returns-then-n-lt253 c = fed_same _ _ _ _ (compact_1 c.args.n c.if-n-lt253.true) c.feed.ensures

pub returns-then-n : goal.returns-then-n
returns-then-n c =
    fed_same _ _ _ _ (ap (λ (t : List ℕ). 253 ∷ t) c.to_le_bytes.ensures ∙ compact_3 c.args.n c.if-n-lt253.false (omega arith))
    (fed_then _ _ _ _ _ c.feed-then-n.ensures c.feed-then-n-2.ensures)

pub returns-then-n-2 : goal.returns-then-n-2
returns-then-n-2 c =
    fed_same _ _ _ _ (ap (λ (t : List ℕ). 254 ∷ t) c.to_le_bytes-then-n-2.ensures ∙ compact_5 c.args.n (omega arith) (omega arith))
    (fed_then _ _ _ _ _ c.feed-then-n-2-2.ensures c.feed-then-n-2-3.ensures)

pub returns : goal.returns
returns c =
    fed_same _ _ _ _ (ap (λ (t : List ℕ). 255 ∷ t) c.to_le_bytes-2.ensures ∙ compact_9 c.args.n (omega arith))
    (fed_then _ _ _ _ _ c.feed-2.ensures c.feed-3.ensures)
