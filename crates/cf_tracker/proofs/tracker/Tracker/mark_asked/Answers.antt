use Rattle.std.proofs.Common.{arith}
use Rattle.cf_dispute.specs.Of.{tables_of}
use Rattle.cf_tables.specs.Extracts.{table_in}
use Rattle.cf_tables.specs.Judged.{verdicts_in}
use Rattle.cf_seek.specs.OpensAll.{opens_in}
use Rattle.cf_seek.proofs.Asked.{asked_marked}
use Rattle.cf_seek.proofs.Marked.{opened_marked}
use Rattle.cf_tracker.proofs.Asking.{none_asked}
use Rattle.cf_tracker.proofs.tracker.Tracker.mark_asked.Goals as goal

pub invariant_of-self : goal.invariant_of-self
invariant_of-self g c =
    let now = c.args.self.now in
    let more = c.ask.ensures.more (c.has_no_block.ensures.yes c.if-not-has_no_block.false) in
    record { first = now.first; trials = now.trials; book = now.book; stands = now.stands; marks = grind (arith, opened_marked) }

pub invariant_of-self-2 : goal.invariant_of-self-2
invariant_of-self-2 g c =
    let now = c.args.self.now in
    let more = c.ask.ensures.more (c.has_no_block.ensures.yes c.if-not-has_no_block.false) in
    record {
      first = now.first;
      trials = now.trials;
      book = now.book;
      stands = now.stands;
      marks = asked_marked (g.H.HeaderStore.chain now.store) (table_in now.extracts) (tables_of now.claims) (verdicts_in now.judged)
          (opens_in now.opens) (opens_in c.ask.new.self) now.cursors c.raise_asked.new.cursors c.args.p c.args.wish.now c.requires.entered c.requires.wish
          c.in_ok-ask.ensures.ok more c.raise_asked.ensures now.marks;
    }

pub returns-then-not-has_no_block-clause-err : goal.returns-then-not-has_no_block-clause-err
returns-then-not-has_no_block-clause-err g c = none_asked c.args.p.0 c.args.wish.now (opens_in c.args.self.now.opens)
