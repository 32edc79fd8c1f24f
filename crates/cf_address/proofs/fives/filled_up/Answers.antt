use Rattle.std.proofs.Common.{arith, ◌-◌}
use Rattle.cf_address.proofs.BitLemmas.{one_shl, fill_fits}
use Rattle.cf_address.proofs.fives.filled_up.Goals as goal

pub overflow_cast-result : goal.overflow_cast-result
overflow_cast-result c = rw (one_shl (5 - c.args.n) (omega arith)) (omega (arith, fill_fits c.args.n c.args.word c.requires.few c.requires.word))

pub returns-clause-small : goal.returns-clause-small
returns-clause-small c = rw (one_shl (5 - c.args.n) (omega arith)) (fill_fits c.args.n c.args.word c.requires.few c.requires.word)
