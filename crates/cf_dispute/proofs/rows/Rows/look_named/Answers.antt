use Rattle.std.proofs.Common.{◌≡◌, List, ℕ, subst, sym, arith}
use Rattle.std.proofs.lemmas.Grind.{common_steps}
use Rattle.slab.specs.Slab.{get}
use Rattle.cf_bytes.specs.declared.hash.Hash32.{Hash32}
use Rattle.cf_dispute.specs.declared.rows.Look.{Look}
use Rattle.cf_dispute.specs.Claims.{claim_of}
use Rattle.cf_dispute.specs.Rows.{IsLook, no_look}
use Rattle.cf_dispute.proofs.Looks.{look_start, look_on}
use Rattle.cf_dispute.proofs.rows.Rows.look_named.Goals as goal

pub loop-name-init : goal.loop-name-init
loop-name-init c =
    let e : c.named-name-items.result ≡ c.into_iter-name-iterator.result = grind (arith, common_steps) in
    subst (λ (look : Look). IsLook (get c.args.self.now.rows) c.args.p c.args.block.now (claim_of c.args.hash.now c.args.before.now) look c.into_iter-name-iterator.result) (sym c.none-look.ensures)
    (subst (λ (xs : List (Hash32 × ℕ)). IsLook (get c.args.self.now.rows) c.args.p c.args.block.now (claim_of c.args.hash.now c.args.before.now) no_look xs) e
    (look_start (get c.args.self.now.rows) c.args.self.now.names c.args.p c.args.block.now (claim_of c.args.hash.now c.args.before.now) c.named-name-items.result c.requires.table c.named-name-items.ensures))

pub loop-name-preserved : goal.loop-name-preserved
loop-name-preserved c =
    subst (λ (look : Look). IsLook (get c.args.self.now.rows) c.args.p c.args.block.now (claim_of c.args.hash.now c.args.before.now) look c.next.new.self) (sym c.seen-look.ensures)
    (look_on (get c.args.self.now.rows) c.args.self.now.names c.args.p c.args.block.now c.args.before.now c.args.hash.now c.loop-name.look c.in-Some.name.now c.next.new.self c.requires.table
    (subst (λ (xs : List (Hash32 × ℕ)). IsLook (get c.args.self.now.rows) c.args.p c.args.block.now (claim_of c.args.hash.now c.args.before.now) c.loop-name.look xs) c.in-Some.ensures.steps c.loop-name.invariant))

pub returns : goal.returns
returns c =
    subst (λ (xs : List (Hash32 × ℕ)). IsLook (get c.args.self.now.rows) c.args.p c.args.block.now (claim_of c.args.hash.now c.args.before.now) c.loop-name.look xs) c.in-None.ensures.steps.0 c.loop-name.invariant
