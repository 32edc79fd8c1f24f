use Rattle.cf_dispute.specs.Of.{tables_of}
use Rattle.cf_tables.specs.Extracts.{table_in}
use Rattle.cf_tables.specs.Tests.{told_in}
use Rattle.cf_tracker.proofs.Tried.{told_tried}
use Rattle.cf_tracker.proofs.tracker.Tracker.test.Goals as goal

pub invariant_of-self-clause-trials : goal.invariant_of-self-clause-trials
invariant_of-self-clause-trials g c =
    let now = c.args.self.now in
    told_tried (g.H.HeaderStore.chain now.store) (table_in now.extracts) (tables_of now.claims) (told_in now.tests) (told_in c.put.new.self)
    now.tried c.args.job.now.block.0 c.filter_hash.result.0 c.in_ok-lacks.lacks c.put.result c.put.ensures.ok c.put.ensures.err now.trials
