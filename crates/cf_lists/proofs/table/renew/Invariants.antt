use Rattle.cf_lists.proofs.Tables.{Renewed}
use Rattle.cf_lists.proofs.table.renew.Given as goal

abbrev pub invariant-loop-q : goal.invariant-loop-q
invariant-loop-q l = Renewed l.slots l.commons.items l.p l.k l.q
