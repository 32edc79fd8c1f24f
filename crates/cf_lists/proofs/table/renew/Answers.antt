use Rattle.cf_lists.proofs.Tables.{renew_end}
use Rattle.cf_lists.proofs.table.renew.Goals as goal

pub returns-clause-told : goal.returns-clause-told
returns-clause-told c = renew_end c.args.slots.now c.loop-q.commons.items c.args.p c.args.k c.loop-q.q c.loop-q.invariant c.loop-q-test.false
