use Rattle.std.proofs.Common.{◌≡◌, ℕ, List, length, take}
use Rattle.std.specs.List.{flat_map}
use Rattle.cf_block.specs.Size.{capped}
use Rattle.cf_block.proofs.size.sizes.Given as goal

abbrev pub invariant-loop-item : goal.invariant-loop-item
invariant-loop-item g l = (spell : g.row.T.Denot → List ℕ)
    → ((x : _) (n : ℕ) → goal.F-post g l.size x n → n ≡ capped (length (spell x.now)))
    → l.sum ≡ capped (length (flat_map spell (take l.item-index l.items)))
