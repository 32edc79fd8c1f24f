use Rattle.std.proofs.Common.{◌≡◌, inl, inr, ℕ, true, List, subst}
use Rattle.cf_dispute.specs.Of.{tables_of}
use Rattle.cf_tables.specs.Extracts.{table_in}
use Rattle.cf_tables.specs.Judged.{verdicts_in}
use Rattle.cf_tables.specs.Wanting.{IsUnjudged}
use Rattle.cf_seek.specs.OpensOf.{filter_at}
use Rattle.cf_tables.proofs.Blocks.{in_more}
use Rattle.cf_seek.proofs.seek.is_one_left.Goals as goal

pub loop-block-preserved : goal.loop-block-preserved
loop-block-preserved c = λ block i held un. elim (in_more c.args.blocks.now c.loop-block.block-index _ block c.loop-block-test.true i) [
  | inl before ↦ c.loop-block.invariant block before held un
  | inr this ↦ c.is_left.ensures.no c.if-is_left.false (subst (λ (x : List ℕ). filter_at c.args.at.now x ≡ true) this held)
      (subst (IsUnjudged (table_in c.args.extracts.now) (tables_of c.args.claims.now) (verdicts_in c.args.judged.now)) this un)
]
