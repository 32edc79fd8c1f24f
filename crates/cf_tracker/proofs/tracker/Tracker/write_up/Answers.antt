use Rattle.std.proofs.Common.{Some, None, refl}
use Rattle.cf_tables.specs.Extracts.{table_in}
use Rattle.cf_seek.proofs.Along.{best_entered}
use Rattle.cf_tracker.proofs.Asking.{failed}
use Rattle.cf_tracker.proofs.Telling.{stands_now}
use Rattle.cf_tracker.proofs.tracker.Tracker.write_up.Goals as goal

pub write_chain-requires : goal.write_chain-requires
write_chain-requires g c = best_entered (g.H.HeaderStore.chain c.args.self.now.store) c.in-Some.p c.in-Some.ensures

pub returns-in_err-write_chain-in-Some-clause-stands : goal.returns-in_err-write_chain-in-Some-clause-stands
returns-in_err-write_chain-in-Some-clause-stands g c =
    let new = c.write_chain.new.self in
    stands_now (table_in new.extracts) new.account new.book

pub returns-in_ok-write_chain-in-Some-clause-writes : goal.returns-in_ok-write_chain-in-Some-clause-writes
returns-in_ok-write_chain-in-Some-clause-writes g c =
    record { best = Some c.in-Some.p; is_best = c.in-Some.ensures; writes = c.in_ok-write_chain-in-Some.ensures.writes }

pub returns-in_ok-write_chain-in-Some-clause-stands : goal.returns-in_ok-write_chain-in-Some-clause-stands
returns-in_ok-write_chain-in-Some-clause-stands g c =
    let new = c.write_chain.new.self in
    stands_now (table_in new.extracts) new.account new.book

pub returns-in-None-clause-writes : goal.returns-in-None-clause-writes
returns-in-None-clause-writes g c = record { best = None; is_best = c.in-None.ensures; writes = refl }

pub returns-in-None-clause-stands : goal.returns-in-None-clause-stands
returns-in-None-clause-stands g c =
    let now = c.args.self.now in
    stands_now (table_in now.extracts) now.account now.book

pub returns-in_err-write_chain-in-Some-clause-part : goal.returns-in_err-write_chain-in-Some-clause-part
returns-in_err-write_chain-in-Some-clause-part g c =
    failed c.from_residual.result (record { best = c.in-Some.p; is_best = c.in-Some.ensures; writes = c.in_err-write_chain-in-Some.ensures.part })
