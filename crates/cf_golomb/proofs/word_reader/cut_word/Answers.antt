use Rattle.std.proofs.Common.{arith, ◌-◌}
use Rattle.cf_golomb.proofs.BitLemmas.{bits_parts, upper_small, lower_small, one_shl, pow_pos2}
use Rattle.cf_golomb.proofs.word_reader.cut_word.Goals as goal

pub nonzero_rem-low : goal.nonzero_rem-low
nonzero_rem-low c = rw (one_shl (c.args.n - c.args.k) (omega arith)) (pow_pos2 (c.args.n - c.args.k))

pub returns-clause-bits : goal.returns-clause-bits
returns-clause-bits c = rw (one_shl (c.args.n - c.args.k) (omega arith)) (bits_parts c.args.n c.args.k c.args.word c.requires.within)

pub returns-clause-high : goal.returns-clause-high
returns-clause-high c = upper_small c.args.n c.args.k c.args.word c.requires.within c.requires.word

pub returns-clause-low : goal.returns-clause-low
returns-clause-low c = rw (one_shl (c.args.n - c.args.k) (omega arith)) (lower_small c.args.word (c.args.n - c.args.k))
