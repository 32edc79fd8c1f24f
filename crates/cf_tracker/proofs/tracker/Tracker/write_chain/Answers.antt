use Rattle.std.proofs.Common.{subst, sym, arith}
use Rattle.std.proofs.Math.Logic.{∥∥₁_map}
use Rattle.cf_dispute.specs.Of.{tables_of}
use Rattle.cf_headers.specs.Store.{own_of}
use Rattle.cf_tracker.specs.Account.{written_in}
use Rattle.cf_tables.specs.Extracts.{table_in}
use Rattle.cf_tables.specs.Judged.{verdicts_in}
use Rattle.cf_tracker.specs.Written.{IsWrittenTo}
use Rattle.cf_tracker.proofs.Asking.{failed}
use Rattle.cf_tracker.proofs.Settling.{writes_all, writes_not, writes_part}
use Rattle.cf_tracker.proofs.Writings.{up_to_turned}
use Rattle.cf_tracker.proofs.tracker.Tracker.write_chain.Goals as goal

pub turn_to-requires-clause-stands : goal.turn_to-requires-clause-stands
turn_to-requires-clause-stands g c = c.args.self.now.stands

pub settled_to-settled-requires-clause-low : goal.settled_to-settled-requires-clause-low
settled_to-settled-requires-clause-low g c = (let on = c.turn_to.ensures.top.to.on in omega (arith, on, c.height-most.ensures.value))

pub invariant_of-self : goal.invariant_of-self
invariant_of-self g c =
    let now = c.args.self.now in
    let mark = c.turn_to.new.bookmark in
    record {
      first = now.first;
      trials = now.trials;
      book = now.book;
      stands = up_to_turned (g.H.HeaderStore.chain now.store) (table_in now.extracts) (written_in now.account) c.args.p mark.peer mark.stands c.turn_to.ensures.peer c.requires c.turn_to.ensures.top.to;
      marks = now.marks;
    }

pub write_blocks-requires-clause-to : goal.write_blocks-requires-clause-to
write_blocks-requires-clause-to g c = c.turn_to.ensures.top.to

pub invariant_of-self-in-Break-1 : goal.invariant_of-self-in-Break-1
invariant_of-self-in-Break-1 g c =
    let now = c.args.self.now in
    let mark = c.turn_to.new.bookmark in
    record {
      first = now.first;
      trials = now.trials;
      book = ∥∥₁_map now.book c.in_err-write_blocks.ensures.book;
      stands = up_to_turned (g.H.HeaderStore.chain now.store) (table_in now.extracts) (written_in c.write_blocks.new.account) c.args.p mark.peer mark.stands c.turn_to.ensures.peer c.requires c.in_err-write_blocks.ensures.to;
      marks = now.marks;
    }

pub invariant_of-self-2 : goal.invariant_of-self-2
invariant_of-self-2 g c =
    let now = c.args.self.now in
    let mark = c.turn_to.new.bookmark in
    let own = own_of (g.H.HeaderStore.chain now.store) c.args.p in
    let written = written_in c.write_blocks.new.account in
    record {
      first = now.first;
      trials = now.trials;
      book = ∥∥₁_map now.book c.in_ok-write_blocks.ensures.book;
      stands = up_to_turned (g.H.HeaderStore.chain now.store) (table_in now.extracts) written c.args.p mark.peer c.height-most.result c.turn_to.ensures.peer c.requires
          (subst (IsWrittenTo (table_in now.extracts) own written) (sym c.height-most.ensures.value) c.in_ok-write_blocks.ensures.ok.to);
      marks = now.marks;
    }

pub returns-then-settled-most-clause-writes : goal.returns-then-settled-most-clause-writes
returns-then-settled-most-clause-writes g c =
    let now = c.args.self.now in
    writes_not (table_in now.extracts) (tables_of now.claims) (verdicts_in now.judged) (own_of (g.H.HeaderStore.chain now.store) c.args.p) (written_in now.account) c.turn_to.new.bookmark.stands c.height-most.result
    c.height-most.ensures.value c.turn_to.ensures.top (c.settled_to-settled.ensures.no c.if-settled-most.true)

pub returns-clause-writes : goal.returns-clause-writes
returns-clause-writes g c =
    let now = c.args.self.now in
    writes_all (table_in now.extracts) (tables_of now.claims) (verdicts_in now.judged) (own_of (g.H.HeaderStore.chain now.store) c.args.p) (written_in now.account) (written_in c.write_blocks.new.account)
    c.turn_to.new.bookmark.stands c.height-most.result c.height-most.ensures.value c.turn_to.ensures.top (c.settled_to-settled.ensures.yes c.if-settled-most.false) c.in_ok-write_blocks.ensures.ok

pub returns-in_err-write_blocks-clause-part : goal.returns-in_err-write_blocks-clause-part
returns-in_err-write_blocks-clause-part g c =
    let now = c.args.self.now in
    failed c.from_residual.result (writes_part (table_in now.extracts) (tables_of now.claims) (verdicts_in now.judged) (own_of (g.H.HeaderStore.chain now.store) c.args.p) (written_in now.account) (written_in c.write_blocks.new.account)
    c.turn_to.new.bookmark.stands c.height-most.result c.height-most.ensures.value c.turn_to.ensures.top (c.settled_to-settled.ensures.yes c.if-settled-most.false) c.in_err-write_blocks.ensures.to c.in_err-write_blocks.ensures.part)
