use Rattle.cf_rows.proofs.Conns.{one_longer}
use Rattle.cf_cases.proofs.servings.conns_in.Goals as goal

pub loop-asked-preserved : goal.loop-asked-preserved
loop-asked-preserved c = one_longer _ _ _ _ c.reserve.ensures.items c.push_reserved.ensures.items c.loop-asked.invariant c.in_ok-conn.ensures
