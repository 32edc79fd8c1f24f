use Rattle.std.proofs.Common.{arith}
use Rattle.cf_run.proofs.over.are_bytes.Goals as goal

pub returns : goal.returns
returns c = λ i. omega (arith, c.type_inv.piece i)
