use Rattle.std.proofs.Common.{ℕ, List, ◌+◌, ◌∙◌, sym, take, subst}
use Rattle.std.specs.Prelude.{IsSome}
use Rattle.cf_dispute.specs.declared.claim.At.TheVariants.{Differ}
use Rattle.cf_dispute.specs.Claims.{IsAt}
use Rattle.cf_dispute.specs.Of.{tables_of}
use Rattle.cf_dispute.specs.Tables.{blocks_of}
use Rattle.cf_headers.specs.Chain.{Hash}
use Rattle.cf_tables.specs.Extracts.{table_in}
use Rattle.cf_seek.specs.Tried.{IsTriedBelow, tried_at}
use Rattle.cf_seek.proofs.Below.{past_below, then_below, unset_below}
use Rattle.cf_seek.proofs.tried.fall_below_disputes.Goals as goal
use Rattle.cf_seek.proofs.tried.fall_below_disputes.Goals.{then-has, else-has}

pub returns-then-is_unset : goal.returns-then-is_unset
returns-then-is_unset g c = λ q.
    unset_below (g.H.HeaderStore.chain c.args.store.now q)
    (λ (b : Hash). IsSome (table_in c.args.extracts.now b) × IsAt (tables_of c.args.claims.now) b Differ)
    (blocks_of c.args.blocks.now) (tried_at c.args.tried.now q) (c.is_unset.ensures c.if-is_unset.true q)

pub loop-block-preserved : goal.loop-block-preserved
loop-block-preserved g c = λ q.
    let chain = g.H.HeaderStore.chain c.args.store.now q in
    let holds : Hash → Type 0 =
    λ (b : Hash). IsSome (table_in c.args.extracts.now b) × IsAt (tables_of c.args.claims.now) b Differ in
    let before = tried_at c.args.tried.now q in
    let blocks = blocks_of (take (c.loop-block.block-index + 1) c.args.blocks.now) in
    elim c.if-has.branch [
      | then-has w ↦
          subst (λ (marks : List ℕ). IsTriedBelow chain holds blocks before (tried_at marks q)) (sym w.tried-is)
          (then_below chain holds (λ (b : Hash). IsAt (tables_of c.args.claims.now) b Differ)
          c.args.blocks.now c.loop-block.block-index _ before
          (tried_at c.loop-block.tried q) (tried_at w.fall_below_dispute.new.tried q) c.loop-block-test.true
          (λ both. both.1) (λ differ. (sym c.has.ensures ∙ w.if-has.true, differ))
          (c.loop-block.invariant q) (w.fall_below_dispute.ensures q))
      | else-has w ↦
          subst (λ (marks : List ℕ). IsTriedBelow chain holds blocks before (tried_at marks q)) (sym w.tried-is)
          (past_below chain holds c.args.blocks.now c.loop-block.block-index _ before
          (tried_at c.loop-block.tried q) c.loop-block-test.true
          (λ both. (let no = sym both.0 ∙ sym c.has.ensures ∙ w.if-has.false in cc no)) (c.loop-block.invariant q))
    ]
