use Rattle.std.proofs.Common.{arith}
use Rattle.cf_address.proofs.AddressLemmas.{nothing_after}
use Rattle.cf_address.proofs.reading.data_after.Goals as goal

pub returns-in-empty : goal.returns-in-empty
returns-in-empty c = nothing_after c.args.prefix.now c.loop-p.rest.now c.loop-p.p-index _ c.loop-p-test.true (omega arith) c.loop-p.invariant
