-- The map of coins, as the code keeps it.
use Rattle.std.proofs.Common.{◌≡◌, List}
use Rattle.std.specs.Ordering.{is_eq}
use Rattle.std.specs.Map.{lookup}
use Rattle.std.specs.FinMap.{get, from_entries}
use Rattle.cf_block.specs.declared.tx.OutPoint.{OutPoint}
use Rattle.cf_block.specs.Outpoint.{outpoint_cmp}
use Rattle.cf_block.proofs.Outpoints.{outpoint_total}
use Rattle.cf_coins.proofs.Maps.{found}

-- what is found at an outpoint
pub got : {X : Type 0} (es : List (OutPoint × X)) (p : OutPoint) → get (from_entries {R = outpoint_cmp} es) p ≡ lookup (λ k. is_eq (outpoint_cmp p k)) es
got = found outpoint_total
