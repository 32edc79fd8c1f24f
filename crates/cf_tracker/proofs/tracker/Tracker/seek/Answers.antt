use Rattle.std.proofs.Common.{◌≡◌, ◌≤◌, ℕ, List, length, subst, sym, arith}
use Rattle.cf_dispute.specs.Of.{tables_of}
use Rattle.cf_headers.specs.Chain.{Chain}
use Rattle.cf_headers.specs.Heights.{common_of}
use Rattle.cf_headers.specs.Store.{own_of}
use Rattle.cf_seek.specs.declared.cursors.Marks.{Marks}
use Rattle.cf_tables.specs.Extracts.{table_in}
use Rattle.cf_tables.specs.Judged.{verdicts_in}
use Rattle.cf_seek.specs.OpensAll.{opens_in}
use Rattle.cf_seek.specs.Tracking.{IsMarked, AreMarked}
use Rattle.cf_tables.specs.Tests.{told_in}
use Rattle.cf_headers.proofs.Commons.{common_low}
use Rattle.cf_seek.proofs.Opening.{opened, up_marked}
use Rattle.cf_tracker.proofs.Tried.{tried_to, up_tried}
use Rattle.cf_tracker.proofs.tracker.Tracker.seek.Goals as goal

within : (common : ℕ) (own other : Chain) → common ≡ common_of own other → common ≤ length own
within common own other is = (let low = (common_low own other).0 in omega (arith, is, low))

pub next_sought-want-requires-clause-within : goal.next_sought-want-requires-clause-within
next_sought-want-requires-clause-within g c =
    let own = own_of (g.H.HeaderStore.chain c.args.self.now.store) c.args.p in
    let low : c.common-common.result ≤ length own = omega (arith, c.common-common.ensures, (common_low own (own_of (g.H.HeaderStore.chain c.args.self.now.store) c.args.other)).0) in
    low

pub next_sought-want-requires-clause-marks : goal.next_sought-want-requires-clause-marks
next_sought-want-requires-clause-marks g c =
    let chains = g.H.HeaderStore.chain c.args.self.now.store in
    let extracts = table_in c.args.self.now.extracts in
    let tables = tables_of c.args.self.now.claims in
    let verdicts = verdicts_in c.args.self.now.judged in
    let opens = opens_in c.args.self.now.opens in
    let own = own_of chains c.args.p in
    subst (λ (m : Marks). IsMarked extracts tables verdicts opens c.args.p.0 own m) (sym c.of.ensures)
    (opened chains extracts tables verdicts opens c.args.self.now.cursors c.args.p c.requires.first c.args.self.now.marks)

pub invariant_of-self-2 : goal.invariant_of-self-2
invariant_of-self-2 g c =
    let chains = g.H.HeaderStore.chain c.args.self.now.store in
    let extracts = table_in c.args.self.now.extracts in
    let tables = tables_of c.args.self.now.claims in
    let verdicts = verdicts_in c.args.self.now.judged in
    let opens = opens_in c.args.self.now.opens in
    record {
      first = c.args.self.now.first;
      trials = up_tried chains extracts tables (told_in c.args.self.now.tests) c.args.self.now.tried c.put-2.new.self c.args.p c.of-2.result
          c.in_ok-tried.tried c.common-common.result c.of-2.ensures c.requires.first c.in_ok-tried.ensures.tried c.in_ok-tried.ensures.low
          (within c.common-common.result (own_of chains c.args.p) (own_of chains c.args.other) c.common-common.ensures) c.put-2.ensures
          c.args.self.now.trials;
      book = c.args.self.now.book;
      stands = c.args.self.now.stands;
      marks = subst (λ (xs : List Marks). ∥ AreMarked chains extracts tables verdicts opens xs ∥₁) (sym c.put.ensures)
          (up_marked chains extracts tables verdicts opens c.args.self.now.cursors c.args.p c.next_sought-want.result.0 c.requires.first c.next_sought-want.ensures.marks c.args.self.now.marks);
    }

pub wish_for-requires-clause-within : goal.wish_for-requires-clause-within
wish_for-requires-clause-within g c =
    let own = own_of (g.H.HeaderStore.chain c.args.self.now.store) c.args.p in
    let low : c.common-common.result ≤ length own = omega (arith, c.common-common.ensures, (common_low own (own_of (g.H.HeaderStore.chain c.args.self.now.store) c.args.other)).0) in
    low

pub returns-clause-wish : goal.returns-clause-wish
returns-clause-wish g c = rw c.common-common.ensures at c.in_ok-tried.ensures.wish

pub returns-clause-far : goal.returns-clause-far
returns-clause-far g c = rw c.common-common.ensures at c.in_ok-tried.ensures.far

pub returns-clause-trying : goal.returns-clause-trying
returns-clause-trying g c = rw c.common-common.ensures at c.in_ok-tried.ensures.trying

pub wish_for-requires-clause-tried : goal.wish_for-requires-clause-tried
wish_for-requires-clause-tried g c =
    let now = c.args.self.now in
    tried_to (g.H.HeaderStore.chain now.store) (table_in now.extracts) (tables_of now.claims) (told_in now.tests) now.tried c.args.p
    c.of-2.result c.of-2.ensures c.requires.first now.trials

pub returns-clause-put : goal.returns-clause-put
returns-clause-put g c =
    let own = own_of (g.H.HeaderStore.chain c.args.self.now.store) c.args.p in
    let other = own_of (g.H.HeaderStore.chain c.args.self.now.store) c.args.other in
    record { common = common_of own other; low = (common_low own other).0; asks = rw c.common-common.ensures at c.in_ok-tried.ensures.wish }
