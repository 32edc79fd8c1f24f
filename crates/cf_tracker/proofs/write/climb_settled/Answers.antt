use Rattle.std.proofs.Common.{sym, subst, arith}
use Rattle.cf_dispute.specs.Of.{tables_of}
use Rattle.cf_headers.specs.Store.{own_of}
use Rattle.cf_tables.specs.Extracts.{table_in}
use Rattle.cf_tables.specs.Judged.{verdicts_in}
use Rattle.cf_tracker.specs.Writing.{IsDoneAbove}
use Rattle.cf_tracker.proofs.Settling.{done_low, done_next, done_none}
use Rattle.cf_tracker.proofs.write.climb_settled.Goals as goal

pub loop-height-init : goal.loop-height-init
loop-height-init g c = record { done = done_none (table_in c.args.known.extracts.now) (tables_of c.args.known.claims.now) (verdicts_in c.args.known.judged.now) (own_of (g.H.HeaderStore.chain c.args.store.now) c.args.p) c.args.from; up = omega arith }

pub loop-height-preserved : goal.loop-height-preserved
loop-height-preserved g c = record {
  done = done_next (table_in c.args.known.extracts.now) (tables_of c.args.known.claims.now) (verdicts_in c.args.known.judged.now) (own_of (g.H.HeaderStore.chain c.args.store.now) c.args.p) c.args.from c.loop-height.height c.hash_at.result.0 c.loop-height.invariant.done c.hash_at.ensures (c.is_settled.ensures.yes c.if-not-is_settled.false);
  up = omega (arith, c.loop-height.invariant.up);
}

pub returns-clause-done : goal.returns-clause-done
returns-clause-done g c = done_low (table_in c.args.known.extracts.now) (tables_of c.args.known.claims.now) (verdicts_in c.args.known.judged.now) (own_of (g.H.HeaderStore.chain c.args.store.now) c.args.p) c.args.from c.args.most c.loop-height.height c.loop-height-test.false c.loop-height.invariant.done

pub returns-then-not-is_settled-clause-next : goal.returns-then-not-is_settled-clause-next
returns-then-not-is_settled-clause-next g c = λ lt done.
    c.is_settled.ensures.no c.if-not-is_settled.true
    (subst (IsDoneAbove (table_in c.args.known.extracts.now) (tables_of c.args.known.claims.now) (verdicts_in c.args.known.judged.now)) (sym c.hash_at.ensures) done)
