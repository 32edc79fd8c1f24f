use Rattle.std.proofs.Common.{◌≡◌, List, ℕ, subst, refl, arith}
use Rattle.std.proofs.lemmas.Grind.{common_steps}
use Rattle.slab.specs.Slab.{get}
use Rattle.cf_bytes.specs.declared.hash.Hash32.{Hash32}
use Rattle.cf_dispute.specs.declared.claim.At.TheVariants.{Nobody}
use Rattle.cf_dispute.specs.Rows.{IsAtRows}
use Rattle.cf_dispute.proofs.RowLaws.{at_start}
use Rattle.cf_dispute.proofs.rows.Rows.at_named.Goals as goal

pub loop-name-init : goal.loop-name-init
loop-name-init c =
    let e : c.named-name-items.result ≡ c.into_iter-name-iterator.result = grind (arith, common_steps) in
    subst (λ (xs : List (Hash32 × ℕ)). IsAtRows (get c.args.self.now.rows) c.args.block.now.0 Nobody xs) e
    (at_start (get c.args.self.now.rows) c.args.self.now.names c.args.block.now c.named-name-items.result c.requires c.named-name-items.ensures)

pub loop-name-preserved : goal.loop-name-preserved
loop-name-preserved c =
    c.joined-at.ensures c.in-Some.name.now c.next.new.self refl
    (subst (λ (xs : List (Hash32 × ℕ)). IsAtRows (get c.args.self.now.rows) c.args.block.now.0 c.loop-name.at xs) c.in-Some.ensures.steps c.loop-name.invariant)

pub returns : goal.returns
returns c = subst (λ (xs : List (Hash32 × ℕ)). IsAtRows (get c.args.self.now.rows) c.args.block.now.0 c.loop-name.at xs) c.in-None.ensures.steps.0 c.loop-name.invariant
