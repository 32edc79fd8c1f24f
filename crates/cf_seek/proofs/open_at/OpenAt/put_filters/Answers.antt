use Rattle.std.proofs.Common.{◌≡◌, inl, inr, ℕ, ◌+◌, List, take, true, sym, ◌∙◌, subst}
use Rattle.cf_dispute.specs.Tables.{blocks_of}
use Rattle.cf_headers.specs.Chain.{IsIn}
use Rattle.cf_seek.specs.OpensOf.{filter_at}
use Rattle.cf_tables.proofs.Blocks.{in_more, in_longer, in_last, in_taken}
use Rattle.cf_seek.proofs.open_at.OpenAt.put_filters.Goals as goal

pub loop-block-preserved : goal.loop-block-preserved
loop-block-preserved c = record {
  there = λ hash i. elim (in_more c.args.blocks.now c.loop-block.block-index _ hash c.loop-block-test.true i) [
    | inl before ↦ c.put_filter.ensures.stays hash (c.loop-block.invariant.there hash before)
    | inr this ↦ subst (λ (x : List ℕ). filter_at c.put_filter.new.self x ≡ true) (sym this) c.in_ok-put_filter.ensures.there
  ];
  stays = λ hash was. c.put_filter.ensures.stays hash (c.loop-block.invariant.stays hash was);
  only = λ hash is. elim (c.put_filter.ensures.only hash is) [
    | inl this ↦ inl (subst (λ (x : List ℕ). IsIn x (blocks_of (take (c.loop-block.block-index + 1) c.args.blocks.now))) (sym this) (in_last c.args.blocks.now c.loop-block.block-index _ c.loop-block-test.true))
    | inr was ↦ elim (c.loop-block.invariant.only hash was) [ inl i ↦ inl (in_longer c.args.blocks.now c.loop-block.block-index hash i) | inr held ↦ inr held ]
  ];
  block = λ hash. c.put_filter.ensures.block hash ∙ c.loop-block.invariant.block hash;
}

pub returns-in_err-put_filter-clause-only : goal.returns-in_err-put_filter-clause-only
returns-in_err-put_filter-clause-only c = λ hash is. elim (c.put_filter.ensures.only hash is) [
  | inl this ↦ inl (subst (λ (x : List ℕ). IsIn x (blocks_of c.args.blocks.now)) (sym this)
      (in_taken c.args.blocks.now (c.loop-block.block-index + 1) _ (in_last c.args.blocks.now c.loop-block.block-index _ c.loop-block-test.true)))
  | inr was ↦ elim (c.loop-block.invariant.only hash was) [
    | inl i ↦ inl (in_taken c.args.blocks.now c.loop-block.block-index hash i)
    | inr held ↦ inr held
  ]
]
