use Rattle.std.proofs.Common.{arith}
use Rattle.cf_seek.proofs.Openings.{closes_at, closed_past}
use Rattle.cf_seek.proofs.opens.Opens.close.Goals as goal

pub returns-then-place-len : goal.returns-then-place-len
returns-then-place-len c = closes_at c.args.self.now.peers.items c.args.p.0 c.new.result (omega (arith, c.if-place-len.true, c.len.ensures, c.args.self.now.peers.ok)) c.new.ensures.filters c.new.ensures.block

pub returns-else-place-len : goal.returns-else-place-len
returns-else-place-len c = closed_past c.args.self.now.peers.items c.args.p.0 (omega (arith, c.if-place-len.false, c.len.ensures, c.args.self.now.peers.ok))
