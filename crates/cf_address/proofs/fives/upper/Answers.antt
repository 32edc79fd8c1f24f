use Rattle.std.proofs.Common.{arith}
use Rattle.cf_address.proofs.BitLemmas.{upper_below, pow_at_most}
use Rattle.cf_address.proofs.fives.upper.Goals as goal

pub overflow_cast-result : goal.overflow_cast-result
overflow_cast-result c = omega (arith, upper_below c.args.word c.args.n c.args.k c.requires.word, pow_at_most c.args.k 8 c.requires.k)

pub returns-clause-small : goal.returns-clause-small
returns-clause-small c = upper_below c.args.word c.args.n c.args.k c.requires.word
