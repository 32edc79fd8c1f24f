use Rattle.std.proofs.Common.{◌≡◌, ◌≤◌, ◌*◌, map, take}
use Rattle.std.specs.Prelude.{fold, sum_by}
use Rattle.cf_scan.specs.Scan.{put_one}
use Rattle.cf_scan.specs.Extracts.{coin_of}
use Rattle.cf_scan.proofs.ledger.put_in.Given as goal

abbrev pub invariant-loop-paid : goal.invariant-loop-paid
invariant-loop-paid l = record {
  coins : l.coins ≡ fold put_one l.fn.coins (map (coin_of l.txid.0) (take l.paid-index l.pays));
  sums : l.sum ≡ sum_by (λ coin. coin.1) (map (coin_of l.txid.0) (take l.paid-index l.pays));
  small : l.sum ≤ l.paid-index * 18446744073709551615;
}
