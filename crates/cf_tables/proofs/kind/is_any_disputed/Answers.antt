use Rattle.std.proofs.Common.{◌≡◌, inl, inr, ◌+◌, None, subst}
use Rattle.cf_dispute.specs.declared.claim.At.TheVariants.{Differ}
use Rattle.cf_dispute.specs.Claims.{IsAt}
use Rattle.cf_dispute.specs.Of.{tables_of}
use Rattle.cf_headers.specs.Chain.{Hash}
use Rattle.cf_tables.specs.Extracts.{table_in}
use Rattle.cf_tables.proofs.Blocks.{in_more, in_last, in_taken}
use Rattle.cf_tables.proofs.kind.is_any_disputed.Goals as goal

pub loop-block-preserved : goal.loop-block-preserved
loop-block-preserved c = λ block i none differ. elim (in_more c.args.blocks.now c.loop-block.block-index _ block c.loop-block-test.true i) [
  | inl before ↦ c.loop-block.invariant block before none differ
  | inr this ↦ c.is_disputed.ensures.no c.if-is_disputed.false (subst (λ (x : Hash). table_in c.args.extracts.now x ≡ None) this none) (subst (λ (x : Hash). IsAt (tables_of c.args.claims.now) x Differ) this differ)
]

pub returns-then-is_disputed-clause-yes : goal.returns-then-is_disputed-clause-yes
returns-then-is_disputed-clause-yes c = λ e.
    let here = in_last c.args.blocks.now c.loop-block.block-index _ c.loop-block-test.true in
    let both = c.is_disputed.ensures.yes c.if-is_disputed.true in
    (_, (in_taken c.args.blocks.now (c.loop-block.block-index + 1) _ here, both.0, both.1))
