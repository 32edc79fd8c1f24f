use Rattle.cf_dispute.specs.Of.{tables_of}
use Rattle.cf_tracker.specs.Account.{written_in}
use Rattle.cf_tables.specs.Extracts.{table_in}
use Rattle.cf_tables.specs.Judged.{verdicts_in}
use Rattle.cf_seek.specs.OpensAll.{opens_in}
use Rattle.cf_seek.proofs.Marked.{none_marked}
use Rattle.cf_tables.specs.Tests.{told_in}
use Rattle.cf_tracker.proofs.Tried.{none_tried}
use Rattle.cf_tracker.proofs.Writings.{up_to_none}
use Rattle.cf_tracker.proofs.tracker.Tracker.new.Goals as goal

pub invariant_of-result-clause-marks : goal.invariant_of-result-clause-marks
invariant_of-result-clause-marks g c =
    none_marked (g.H.HeaderStore.chain c.args.store) (table_in c.new-7.result) (tables_of c.in_ok-claims.claims) (verdicts_in c.new-8.result) (opens_in c.in_ok-opens.opens) c.in_ok-cursors.cursors 9 c.requires.none c.in_ok-claims.ensures.none c.in_ok-cursors.ensures

pub invariant_of-result-clause-book : goal.invariant_of-result-clause-book
invariant_of-result-clause-book g c = ∣ c.new-9.ensures.book (table_in c.new-7.result) ∣₁

pub invariant_of-result-clause-stands : goal.invariant_of-result-clause-stands
invariant_of-result-clause-stands g c =
    up_to_none (table_in c.new-7.result) (g.H.HeaderStore.chain c.args.store c.new-10.result.peer.0) (written_in c.new-9.result) c.new-10.result.stands c.new-10.ensures

pub invariant_of-result-clause-trials : goal.invariant_of-result-clause-trials
invariant_of-result-clause-trials g c =
    none_tried (g.H.HeaderStore.chain c.args.store) (table_in c.new-7.result) (tables_of c.in_ok-claims.claims) (told_in c.new-12.result)
    c.in_ok-tried.tried 9 c.in_ok-tried.ensures
