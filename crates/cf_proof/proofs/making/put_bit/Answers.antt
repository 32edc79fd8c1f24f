use Rattle.std.proofs.Common.{arith}
use Rattle.cf_proof.proofs.MakeLemmas.{byte_full}
use Rattle.cf_proof.proofs.making.put_bit.Goals as goal

pub returns-clause-bits : goal.returns-clause-bits
returns-clause-bits c = byte_full c.args.bytes.now.items _ c.args.n c.args.byte c.with_bit-more.result c.args.bit (omega arith) c.in_ok-push.ensures.items c.with_bit-more.ensures.bits
