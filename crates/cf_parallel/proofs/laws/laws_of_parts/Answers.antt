use Rattle.std.proofs.Common.{arith}
use Rattle.cf_parallel.proofs.Cutting.{joined_parts, parts_count, parts_even}
use Rattle.cf_parallel.proofs.laws.laws_of_parts.Goals as goal

pub returns-clause-whole : goal.returns-clause-whole
returns-clause-whole c = λ parts jobs some. joined_parts parts jobs some

pub returns-clause-count : goal.returns-clause-count
returns-clause-count c = λ parts jobs. parts_count parts parts jobs

pub returns-clause-even : goal.returns-clause-even
returns-clause-even c = λ parts jobs some. parts_even parts parts jobs some (omega arith)
