use Rattle.cf_dispute.specs.Of.{tables_of}
use Rattle.cf_headers.specs.Store.{own_of}
use Rattle.cf_tables.specs.Wanting.{AreClaimed}
use Rattle.cf_seek.proofs.want.climb_claimed.Given as goal

abbrev pub invariant-loop-height : goal.invariant-loop-height
invariant-loop-height g l = AreClaimed (tables_of l.known.claims.now) l.p.0 (own_of (g.H.HeaderStore.chain l.store) l.p) l.height
