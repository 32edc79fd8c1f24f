use Rattle.std.proofs.Common.{arith}
use Rattle.cf_dispute.specs.Of.{tables_of}
use Rattle.cf_headers.specs.Store.{own_of}
use Rattle.cf_tables.specs.Extracts.{table_in}
use Rattle.cf_tables.specs.Tests.{told_in}
use Rattle.cf_seek.proofs.Trials.{next_none, next_some}
use Rattle.cf_seek.proofs.testing.next_trial.Goals as goal

pub returns-then-is_to_try-clause-next : goal.returns-then-is_to_try-clause-next
returns-then-is_to_try-clause-next g c =
    next_some (table_in c.args.known.extracts.now) (tables_of c.args.known.claims.now) (told_in c.args.tests.now) c.args.p.0
    (own_of (g.H.HeaderStore.chain c.args.store.now) c.args.p) c.args.common c.loop-height.height c.hash_at-block.result
    c.loop-height.invariant (omega (arith, c.loop-height-test.true)) c.requires.within c.hash_at-block.ensures
    (c.is_to_try.ensures.yes c.if-is_to_try.true)

pub returns-clause-next : goal.returns-clause-next
returns-clause-next g c =
    next_none (table_in c.args.known.extracts.now) (tables_of c.args.known.claims.now) (told_in c.args.tests.now) c.args.p.0
    (own_of (g.H.HeaderStore.chain c.args.store.now) c.args.p) c.args.common c.loop-height.height
    c.loop-height.invariant (omega (arith, c.loop-height-test.false))
