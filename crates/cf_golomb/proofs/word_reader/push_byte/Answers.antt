use Rattle.std.proofs.Common.{arith}
use Rattle.cf_golomb.proofs.BitLemmas.{byte_more, byte_fits, pow_le}
use Rattle.cf_golomb.proofs.word_reader.push_byte.Goals as goal

pub overflow_mul-result : goal.overflow_mul-result
overflow_mul-result c = omega (arith, pow_le c.args.n 56 c.requires.fits)

pub overflow_add-result : goal.overflow_add-result
overflow_add-result c = omega (arith, pow_le c.args.n 56 c.requires.fits, c.from.ensures, c.ranges.b.fits)

pub returns-clause-bits : goal.returns-clause-bits
returns-clause-bits c = rw c.from.ensures (byte_more c.args.n c.args.word c.args.b c.ranges.b.fits)

pub returns-clause-fits : goal.returns-clause-fits
returns-clause-fits c = rw c.from.ensures (byte_fits c.args.n c.args.word c.args.b c.requires.word c.ranges.b.fits)
