use Rattle.cf_grow.proofs.Stepping.{spelled_of}
use Rattle.cf_grow.proofs.serve.read_spelled.Goals as goal

pub returns-clause-spelled : goal.returns-clause-spelled
returns-clause-spelled c =
    spelled_of c.args.frame.now c.as_slice.result.now c.read.result c.read.ensures c.requires c.as_slice.ensures c.are_bytes.ensures
