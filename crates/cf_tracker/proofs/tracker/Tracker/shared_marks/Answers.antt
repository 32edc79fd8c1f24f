use Rattle.cf_dispute.specs.Of.{tables_of}
use Rattle.cf_tables.specs.Extracts.{table_in}
use Rattle.cf_tables.specs.Judged.{verdicts_in}
use Rattle.cf_seek.specs.OpensAll.{opens_in}
use Rattle.cf_seek.proofs.Opening.{opened}
use Rattle.cf_tracker.proofs.tracker.Tracker.shared_marks.Goals as goal

pub loop-q-init : goal.loop-q-init
loop-q-init g c =
    let now = c.args.self.now in
    let marks = opened (g.H.HeaderStore.chain now.store) (table_in now.extracts) (tables_of now.claims) (verdicts_in now.judged)
    (opens_in now.opens) now.cursors c.args.p c.requires now.marks in
    record { sought = rw c.of-marks.ensures marks.sought; passed = rw c.of-marks.ensures marks.passed }
