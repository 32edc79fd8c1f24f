-- machine: what a call that passes over items lends.
use Rattle.std.specs.Prelude.{◌≡◌, ℕ, List, Result, Ok, Err}
use Rattle.cf_bytes.specs.Cut.{Read}
use Rattle.cf_bytes.specs.Lists.{list_at}
use Rattle.cf_view.specs.Lent.{AreThere, items_in}
use Rattle.cf_view.specs.declared.items.Items.{Items}

-- the items stand there and reading them gives them, or it refuses one
abbrev pub LendsItems : {X E : Type 0} → (List ℕ → Read X E) → ℕ → List ℕ → Result Items E → List ℕ → Type 0
LendsItems item count bytes (Ok i) new =
    AreThere item i.left i.rest.now × (list_at item count bytes ≡ Ok (items_in item i.left i.rest.now, new))
LendsItems item count bytes (Err e) new = list_at item count bytes ≡ Err (e, new)
