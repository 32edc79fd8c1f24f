use Rattle.std.proofs.Common.{◌≡◌, ◌++◌, filter, length}
use Rattle.std.specs.List.{flat_map}
use Rattle.cf_filter.specs.Items.{texts, is_paid_item, paid_scripts}
use Rattle.cf_filter.proofs.lent.view_output_items.Given as goal

abbrev pub invariant-loop-tx : goal.invariant-loop-tx
invariant-loop-tx l = record {
  all : texts l.scripts.items ++ flat_map (λ t. filter is_paid_item (paid_scripts t)) l.txs
      ≡ flat_map (λ t. filter is_paid_item (paid_scripts t)) l.block.txs;
}

abbrev pub decreases-loop-tx : goal.decreases-loop-tx
decreases-loop-tx l = length l.txs
