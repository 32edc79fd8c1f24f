use Rattle.std.proofs.Common.{◌≡◌, ◌≤◌, ◌*◌, take, length}
use Rattle.std.specs.Prelude.{sum}
use Rattle.cf_scan.specs.Scan.{take_out}
use Rattle.cf_scan.proofs.ledger.take_out.Given as goal

abbrev pub invariant-loop-p : goal.invariant-loop-p
invariant-loop-p l = record {
  coins : l.coins ≡ (take_out l.fn.coins (take l.p-index l.spends)).1;
  count : l.count ≡ length (take_out l.fn.coins (take l.p-index l.spends)).0;
  few : l.count ≤ l.p-index;
  sums : l.sum ≡ sum (take_out l.fn.coins (take l.p-index l.spends)).0;
  small : l.sum ≤ l.p-index * 18446744073709551615;
}
