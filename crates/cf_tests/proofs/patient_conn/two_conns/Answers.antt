use Rattle.cf_rows.proofs.Conns.{one_longer}
use Rattle.cf_tests.proofs.patient_conn.two_conns.Goals as goal

pub loop-waits-preserved : goal.loop-waits-preserved
loop-waits-preserved c = one_longer _ _ _ _ c.reserve.ensures.items c.push_reserved.ensures.items c.loop-waits.invariant c.in_ok-conn.ensures
