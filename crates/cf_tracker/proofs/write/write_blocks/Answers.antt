use Rattle.std.proofs.Common.{◌<◌, List, length, sym, subst, arith}
use Rattle.cf_headers.specs.Store.{own_of}
use Rattle.cf_tracker.specs.declared.account.Written.{Written}
use Rattle.cf_tracker.specs.Account.{written_in}
use Rattle.cf_tables.specs.Extracts.{table_in}
use Rattle.cf_tracker.specs.Written.{IsWrittenTo, written_as}
use Rattle.cf_tracker.proofs.Writings.{pushed_long, take_long, written_low, written_push, written_take, written_whole}
use Rattle.cf_tracker.proofs.write.write_blocks.Goals as goal

pub loop-below-init : goal.loop-below-init
loop-below-init g c =
    let own = own_of (g.H.HeaderStore.chain c.args.store.now) c.args.p in
    let table = table_in c.args.extracts.now in
    record {
      to = written_take table own (written_in c.args.account.now) (written_in c.pop_to.new.self) c.args.from c.pop_to.ensures.written c.requires.to;
      long = take_long (written_in c.args.account.now) (written_in c.pop_to.new.self) c.args.from c.pop_to.ensures.written c.requires.to.long;
      up = omega arith;
      book = c.pop_to.ensures.book table;
    }

pub loop-below-preserved : goal.loop-below-preserved
loop-below-preserved g c =
    let own = own_of (g.H.HeaderStore.chain c.args.store.now) c.args.p in
    let table = table_in c.args.extracts.now in
    let before = c.loop-below.invariant in
    let lt : c.loop-below.below < length own = omega (arith, c.loop-below-test.true, c.requires.most) in
    record {
      to = written_push table own (written_in c.loop-below.account) (written_in c.write.new.self) c.loop-below.below c.hash_at.result.0 c.in_ok-write.ensures.ok before.long lt c.hash_at.ensures before.to;
      long = pushed_long (written_in c.loop-below.account) (written_in c.write.new.self) (written_as table c.hash_at.result.0) c.loop-below.below c.in_ok-write.ensures.ok before.long;
      up = omega (arith, before.up);
      book = λ is. c.in_ok-write.ensures.book (before.book is);
    }

pub returns-in_err-write-clause-to : goal.returns-in_err-write-clause-to
returns-in_err-write-clause-to g c =
    let own = own_of (g.H.HeaderStore.chain c.args.store.now) c.args.p in
    let table = table_in c.args.extracts.now in
    subst (λ (xs : List Written). IsWrittenTo table own xs c.args.from) (sym c.in_err-write.ensures.err)
    (written_low table own (written_in c.loop-below.account) c.loop-below.below c.args.from c.loop-below.invariant.up c.loop-below.invariant.to)

pub returns-in_err-write-clause-book : goal.returns-in_err-write-clause-book
returns-in_err-write-clause-book g c = λ is. c.in_err-write.ensures.book (c.loop-below.invariant.book is)

pub returns-clause-ok : goal.returns-clause-ok
returns-clause-ok g c =
    written_whole (table_in c.args.extracts.now) (own_of (g.H.HeaderStore.chain c.args.store.now) c.args.p) (written_in c.loop-below.account) c.loop-below.below c.args.most c.requires.most c.loop-below-test.false
    c.loop-below.invariant.to c.loop-below.invariant.long

pub returns-clause-to : goal.returns-clause-to
returns-clause-to g c =
    written_low (table_in c.args.extracts.now) (own_of (g.H.HeaderStore.chain c.args.store.now) c.args.p) (written_in c.loop-below.account) c.loop-below.below c.args.from c.loop-below.invariant.up c.loop-below.invariant.to

pub returns-in_err-write-clause-part : goal.returns-in_err-write-clause-part
returns-in_err-write-clause-part g c =
    let own = own_of (g.H.HeaderStore.chain c.args.store.now) c.args.p in
    let table = table_in c.args.extracts.now in
    subst (λ (xs : List Written). IsWrittenTo table own xs (length xs)) (sym c.in_err-write.ensures.err)
    (subst (IsWrittenTo table own (written_in c.loop-below.account)) (sym c.loop-below.invariant.long) c.loop-below.invariant.to)

pub returns-clause-part : goal.returns-clause-part
returns-clause-part g c =
    let own = own_of (g.H.HeaderStore.chain c.args.store.now) c.args.p in
    subst (IsWrittenTo (table_in c.args.extracts.now) own (written_in c.loop-below.account)) (sym c.loop-below.invariant.long) c.loop-below.invariant.to
