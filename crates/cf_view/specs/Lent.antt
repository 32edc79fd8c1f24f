-- machine: what is read from lent bytes, item after item.
use Rattle.std.specs.Prelude.{◌≡◌, ℕ, List, [], ◌∷◌, Bool, true, false, Option, Some, None, Result, Ok, Err}
use Rattle.cf_bytes.specs.Cut.{Read}
use Rattle.cf_bytes.specs.Lists.{list_at}
use Rattle.cf_block.specs.declared.fault.BlockFault.{BlockFault}

-- the items that were read, where none was refused
abbrev pub items_of : {X E : Type 0} → Read (List X) E → List X
items_of (Ok x) = x.0
items_of (Err e) = []

abbrev pub is_read : {X E : Type 0} → Read X E → Bool
is_read (Ok x) = true
is_read (Err e) = false

abbrev pub items_in : {X E : Type 0} → (List ℕ → Read X E) → ℕ → List ℕ → List X
items_in item count bytes = items_of (list_at item count bytes)

-- so many items stand there
abbrev pub AreThere : {X E : Type 0} → (List ℕ → Read X E) → ℕ → List ℕ → Type 0
AreThere item count bytes = is_read (list_at item count bytes) ≡ true

-- what a call answered that reads all the bytes and lends them
abbrev pub Lends : {X Y : Type 0} → (X → Y) → List ℕ → Read Y BlockFault → Result X BlockFault → Type 0
Lends view bytes read (Ok x) = read ≡ Ok (view x, [])
Lends view bytes read (Err e) = read ≡ Err (e, bytes)

-- the first of those that are left is taken, where there is one
abbrev pub GivesFirst : {X : Type 0} → List X → Option X → List X → Type 0
GivesFirst old (Some x) new = old ≡ x ∷ new
GivesFirst old None new = (old ≡ []) × (new ≡ [])
