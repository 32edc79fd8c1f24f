use Rattle.std.proofs.Common.{◌≡◌, ◌<◌, length, subst, arith}
use Rattle.cf_headers.specs.Store.{own_of}
use Rattle.cf_tracker.specs.Account.{written_in}
use Rattle.cf_tables.specs.Extracts.{table_in}
use Rattle.cf_tracker.specs.Written.{IsWrittenTo}
use Rattle.cf_tracker.proofs.Writings.{written_next}
use Rattle.cf_tracker.proofs.write.climb_written.Goals as goal

pub loop-height-preserved : goal.loop-height-preserved
loop-height-preserved g c =
    let own = own_of (g.H.HeaderStore.chain c.args.store.now) c.args.p in
    let lt : c.loop-height.height < length own = omega (arith, c.loop-height-test.true, c.requires.most) in
    written_next (table_in c.args.extracts.now) own (written_in c.args.account.now) c.loop-height.height c.hash_at.result.0 lt c.hash_at.ensures (c.is_written.ensures.yes c.if-not-is_written.false) c.loop-height.invariant

pub returns-clause-to : goal.returns-clause-to
returns-clause-to g c =
    let on = c.loop-height.invariant.on in
    let at : c.loop-height.height ≡ c.args.most = omega (arith, on, c.loop-height-test.false, c.requires.most) in
    subst (IsWrittenTo (table_in c.args.extracts.now) (own_of (g.H.HeaderStore.chain c.args.store.now) c.args.p) (written_in c.args.account.now)) at c.loop-height.invariant
