use Rattle.cf_dispute.specs.Of.{tables_of}
use Rattle.cf_headers.specs.Store.{own_of}
use Rattle.cf_tables.specs.Extracts.{table_in}
use Rattle.cf_seek.specs.Tried.{AreTried}
use Rattle.cf_tables.specs.Tests.{told_in}
use Rattle.cf_seek.proofs.testing.next_trial.Given as goal

abbrev pub invariant-loop-height : goal.invariant-loop-height
invariant-loop-height g l =
    AreTried (table_in l.known.extracts.now) (tables_of l.known.claims.now) (told_in l.tests) l.p.0
    (own_of (g.H.HeaderStore.chain l.store) l.p) l.height
