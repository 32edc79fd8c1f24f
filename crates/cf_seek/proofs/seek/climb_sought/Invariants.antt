use Rattle.cf_dispute.specs.Of.{tables_of}
use Rattle.cf_headers.specs.Store.{own_of}
use Rattle.cf_tables.specs.Extracts.{table_in}
use Rattle.cf_tables.specs.Judged.{verdicts_in}
use Rattle.cf_seek.specs.OpensAll.{opens_in}
use Rattle.cf_seek.specs.Seeking.{AreSought}
use Rattle.cf_seek.proofs.seek.climb_sought.Given as goal

abbrev pub invariant-loop-height : goal.invariant-loop-height
invariant-loop-height g l = AreSought (table_in l.known.extracts.now) (tables_of l.known.claims.now) (verdicts_in l.known.judged.now) (opens_in l.known.opens.now) (own_of (g.H.HeaderStore.chain l.store) l.p) l.height
