use Rattle.std.proofs.Common.{arith}
use Rattle.cf_bytes.proofs.Bits.{bits_cat}
use Rattle.cf_address.proofs.BitLemmas.{one_shl, join_fits}
use Rattle.cf_address.proofs.fives.joined.Goals as goal

pub returns-clause-bits : goal.returns-clause-bits
returns-clause-bits c = rw (one_shl c.args.k (omega arith)) (bits_cat c.args.n c.args.k c.args.word c.args.number c.requires.number)

pub returns-clause-fits : goal.returns-clause-fits
returns-clause-fits c = rw (one_shl c.args.k (omega arith)) (join_fits c.args.n c.args.k c.args.word c.args.number c.requires.word c.requires.number)
