use Rattle.cf_dispute.specs.declared.claim.At.TheVariants.{Differ}
use Rattle.cf_dispute.specs.Claims.{IsAt}
use Rattle.cf_dispute.specs.Of.{tables_of}
use Rattle.cf_headers.specs.Chain.{Hash}
use Rattle.cf_seek.specs.Tried.{tried_at}
use Rattle.cf_seek.proofs.Below.{falls_below, stays_below}
use Rattle.cf_seek.proofs.tried.fall_below_dispute.Goals as goal

pub returns-then-is_differing : goal.returns-then-is_differing
returns-then-is_differing g c =
    falls_below (g.H.HeaderStore.chain c.args.store.now)
    (λ (b : Hash). IsAt (tables_of c.args.claims.now) b Differ) c.args.block.now.0 c.args.tried.now
    c.fall_below.new.tried c.requires c.fall_below.ensures (c.is_differing.ensures.yes c.if-is_differing.true)

pub returns-else-is_differing : goal.returns-else-is_differing
returns-else-is_differing g c = λ q.
    stays_below (g.H.HeaderStore.chain c.args.store.now q)
    (λ (b : Hash). IsAt (tables_of c.args.claims.now) b Differ) c.args.block.now.0
    (tried_at c.args.tried.now q) (c.is_differing.ensures.no c.if-is_differing.false)
