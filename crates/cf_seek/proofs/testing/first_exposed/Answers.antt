use Rattle.std.proofs.Common.{◌≡◌, ◌+◌, Bool, true, Option, Some, None, inl, inr, sym, subst}
use Rattle.cf_bytes.specs.declared.hash.Hash32.{Hash32}
use Rattle.cf_dispute.specs.Of.{tables_of}
use Rattle.cf_dispute.specs.Tables.{blocks_of}
use Rattle.cf_headers.specs.Chain.{Hash, IsIn}
use Rattle.cf_seek.specs.Testing.{IsExposed}
use Rattle.cf_tables.specs.Tests.{told_in}
use Rattle.cf_tables.proofs.Blocks.{in_more, in_last, in_taken}
use Rattle.cf_seek.proofs.testing.first_exposed.Goals as goal

none_told : (o : Option Bool) → o ≡ None → o ≡ Some true → ⊥
none_told None none some = cc some
none_told (Some x) none some = cc none

pub returns-then-is_empty-clause-none : goal.returns-then-is_empty-clause-none
returns-then-is_empty-clause-none c = λ e block i filter exposed.
    none_told _ (c.is_empty.ensures c.if-is_empty.true block filter) exposed.found

pub loop-block-preserved : goal.loop-block-preserved
loop-block-preserved c = λ block i filter exposed. elim (in_more c.args.blocks.now c.loop-block.block-index _ block c.loop-block-test.true i) [
  | inl before ↦ c.loop-block.invariant block before filter exposed
  | inr this ↦ c.exposed_at.ensures.none c.in_default.is filter (subst (λ (x : Hash). IsExposed (tables_of c.args.claims.now) (told_in c.args.tests.now) c.args.p.0 x filter) this exposed)
]

pub returns-in-Some-clause-among : goal.returns-in-Some-clause-among
returns-in-Some-clause-among c =
    let here = in_last c.args.blocks.now c.loop-block.block-index _ c.loop-block-test.true in
    let there = in_taken c.args.blocks.now (c.loop-block.block-index + 1) _ here in
    subst (λ (x : Hash32). IsIn x.0 (blocks_of c.args.blocks.now)) (sym c.in-Some.ensures.block) there
