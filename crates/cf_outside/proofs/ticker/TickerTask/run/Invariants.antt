use Rattle.std.proofs.Common.{◌≡◌}
use Rattle.crossbeam_channel.specs.Claims.{view}
use Rattle.crossbeam_channel.specs.Ends.{sends_on}
use Rattle.cf_outside.proofs.Tickers.{SoFar}
use Rattle.cf_outside.proofs.ticker.TickerTask.run.Given as goal

abbrev pub invariant-loop : goal.invariant-loop
invariant-loop g l = let s = g.P.Pulse in record {
  ring : sends_on l.sender.line ≡ sends_on l.fn.self.sender.line;
  number : l.sender.number ≡ l.fn.self.sender.number;
  returned : l.sender.returned ≡ l.fn.self.sender.returned;
  so_far : SoFar s.answers l.fn.self.pulse (view l.sender.seat).sent l.pulse;
}
