use Rattle.cf_dispute.specs.Of.{tables_of}
use Rattle.cf_headers.specs.Store.{own_of}
use Rattle.cf_seek.specs.Ends.{AreUnclaimed}
use Rattle.cf_seek.proofs.ends.claims_end.Given as goal

abbrev pub invariant-loop-height : goal.invariant-loop-height
invariant-loop-height g l = AreUnclaimed (tables_of l.known.claims.now) l.p.0 (own_of (g.H.HeaderStore.chain l.store) l.p) l.start l.height
