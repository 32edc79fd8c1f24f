use Rattle.std.proofs.Common.{sym, arith}
use Rattle.cf_block.proofs.Sizes.{one_byte, three_bytes, five_bytes, nine_bytes}
use Rattle.cf_block.proofs.size.compact_size.Goals as goal

pub returns-then-n-lt253-clause-exact : goal.returns-then-n-lt253-clause-exact
returns-then-n-lt253-clause-exact c = sym (one_byte c.args.n c.if-n-lt253.true)

pub returns-then-n-clause-exact : goal.returns-then-n-clause-exact
returns-then-n-clause-exact c = sym (three_bytes c.args.n c.if-n-lt253.false (omega arith))

pub returns-then-n-2-clause-exact : goal.returns-then-n-2-clause-exact
returns-then-n-2-clause-exact c = sym (five_bytes c.args.n (omega arith) (omega arith))

pub returns-clause-exact : goal.returns-clause-exact
returns-clause-exact c = sym (nine_bytes c.args.n (omega arith))
