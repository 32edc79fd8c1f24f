use Rattle.std.proofs.Common.{sym, subst, arith}
use Rattle.cf_dispute.specs.Of.{tables_of}
use Rattle.cf_headers.specs.Store.{own_of}
use Rattle.cf_tables.specs.Extracts.{table_in}
use Rattle.cf_tables.specs.Judged.{verdicts_in}
use Rattle.cf_tracker.specs.Writing.{IsDoneAbove}
use Rattle.cf_tracker.proofs.Settling.{done_both, undone_at}
use Rattle.cf_tracker.proofs.write.settled_to.Goals as goal

pub returns-then-not-is_settled-clause-no : goal.returns-then-not-is_settled-clause-no
returns-then-not-is_settled-clause-no g c = λ lt all.
    c.is_settled.ensures.no c.if-not-is_settled.true
    (subst (IsDoneAbove (table_in c.args.known.extracts.now) (tables_of c.args.known.claims.now) (verdicts_in c.args.known.judged.now)) (sym c.hash_at.ensures)
    (all c.args.most (omega (arith, lt, c.min-middle.ensures, c.max.ensures)) (omega arith)))

pub returns-then-high-most-clause-no : goal.returns-then-high-most-clause-no
returns-then-high-most-clause-no g c = λ lt.
    undone_at (table_in c.args.known.extracts.now) (tables_of c.args.known.claims.now) (verdicts_in c.args.known.judged.now) (own_of (g.H.HeaderStore.chain c.args.store.now) c.args.p) c.args.from c.args.most c.climb_settled-high.result (omega (arith, c.climb_settled-high.ensures.up, c.min-middle.ensures, c.max.ensures, c.requires.low)) lt (c.climb_settled-high.ensures.next lt)

pub returns-then-low-middle-clause-no : goal.returns-then-low-middle-clause-no
returns-then-low-middle-clause-no g c = λ lt.
    undone_at (table_in c.args.known.extracts.now) (tables_of c.args.known.claims.now) (verdicts_in c.args.known.judged.now) (own_of (g.H.HeaderStore.chain c.args.store.now) c.args.p) c.args.from c.args.most c.climb_settled-low.result c.climb_settled-low.ensures.up lt (c.climb_settled-low.ensures.next c.if-low-middle.true)

pub returns-clause-yes : goal.returns-clause-yes
returns-clause-yes g c = λ all.
    done_both (table_in c.args.known.extracts.now) (tables_of c.args.known.claims.now) (verdicts_in c.args.known.judged.now) (own_of (g.H.HeaderStore.chain c.args.store.now) c.args.p) c.args.from c.min-middle.result c.args.most c.climb_settled-low.result c.climb_settled-high.result c.if-low-middle.false c.if-high-most.false
    c.climb_settled-low.ensures.done c.climb_settled-high.ensures.done
