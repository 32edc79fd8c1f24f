use Rattle.std.proofs.Common.{◌≡◌, List, ℕ, subst, sym, ◌∙◌, arith}
use Rattle.std.proofs.lemmas.Grind.{common_steps}
use Rattle.slab.specs.Slab.{get}
use Rattle.cf_bytes.specs.declared.hash.Hash32.{Hash32}
use Rattle.cf_dispute.specs.Rows.{IsLookedFor}
use Rattle.cf_dispute.proofs.RowLaws.{looked_start, looked_on, looked_none, not_claimed_here}
use Rattle.cf_dispute.proofs.rows.Rows.row_named.Goals as goal

pub loop-name-init : goal.loop-name-init
loop-name-init c =
    let e : c.named-name-items.result ≡ c.into_iter-name-iterator.result = grind (arith, common_steps) in
    subst (λ (xs : List (Hash32 × ℕ)). IsLookedFor (get c.args.self.now.rows) c.args.p c.args.block.now.0 xs) e
    (looked_start (get c.args.self.now.rows) c.args.self.now.names c.args.p c.args.block.now c.named-name-items.result c.requires.table c.named-name-items.ensures)

pub loop-name-preserved : goal.loop-name-preserved
loop-name-preserved c =
    looked_on (get c.args.self.now.rows) c.args.p c.args.block.now.0 c.in-Some.name.now c.next.new.self
    (subst (λ (xs : List (Hash32 × ℕ)). IsLookedFor (get c.args.self.now.rows) c.args.p c.args.block.now.0 xs) c.in-Some.ensures.steps c.loop-name.invariant)
    (not_claimed_here (get c.args.self.now.rows) c.args.p c.args.block.now.0 c.in-Some.name.now.1 c.claim_at.result c.claim_at.ensures (sym c.is_some.ensures ∙ c.if-is_some.false))

pub returns : goal.returns
returns c =
    looked_none (get c.args.self.now.rows) c.args.p c.args.block.now.0
    (subst (λ (xs : List (Hash32 × ℕ)). IsLookedFor (get c.args.self.now.rows) c.args.p c.args.block.now.0 xs) c.in-None.ensures.steps.0 c.loop-name.invariant)
