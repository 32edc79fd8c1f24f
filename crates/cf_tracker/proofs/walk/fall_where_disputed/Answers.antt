use Rattle.cf_dispute.specs.Of.{tables_of}
use Rattle.cf_dispute.specs.Tables.{blocks_of}
use Rattle.cf_seek.specs.Tried.{tried_at}
use Rattle.cf_tables.specs.Extracts.{table_in}
use Rattle.cf_tracker.proofs.Tried.{agreed_below}
use Rattle.cf_tracker.proofs.walk.fall_where_disputed.Goals as goal

pub returns-then-not-may_differ : goal.returns-then-not-may_differ
returns-then-not-may_differ g c = λ q.
    agreed_below (g.H.HeaderStore.chain c.args.store.now q) (table_in c.args.extracts.now) (tables_of c.args.claims.now)
    (blocks_of c.args.blocks.now) (tried_at c.args.tried.now q) (c.requires.agreed c.if-not-may_differ.true)
