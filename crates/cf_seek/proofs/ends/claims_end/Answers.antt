use Rattle.cf_dispute.specs.Of.{tables_of}
use Rattle.cf_headers.specs.Store.{own_of}
use Rattle.cf_seek.proofs.Ending.{unclaimed_ends}
use Rattle.cf_seek.proofs.ends.claims_end.Goals as goal

pub returns-then-not-is_unclaimed-clause-last : goal.returns-then-not-is_unclaimed-clause-last
returns-then-not-is_unclaimed-clause-last g c =
    unclaimed_ends (tables_of c.args.known.claims.now) c.args.p.0 (own_of (g.H.HeaderStore.chain c.args.store.now) c.args.p) c.args.start c.loop-height.height c.args.most c.hash_at.result.0 c.hash_at.ensures
    (c.is_unclaimed.ensures.some c.if-not-is_unclaimed.true)
