-- statement: the items of a block's basic filter (BIP 158, "Contents").
use Rattle.std.specs.Prelude.{◌≢◌, ℕ, ◌==◌, Bool, false, not, ◌⊎◌, List, [], ◌∷◌, ◌++◌, map, filter, length, Contains, flat_map, slice_index, nat_eq, Vec}
use Rattle.std.specs.Global.{Global}
use Rattle.std.specs.List.{list_any}
use Rattle.std.specs.List.Sorted.{IsStrictlySortedBy}
use Rattle.std.specs.Ordering.{nat_cmp}
use Rattle.std.specs.Cmp.Lexicographic.{slice_cmp, pointwise}
use Rattle.std.specs.BTreeSet.{insert_key}
use Rattle.cf_block.specs.declared.tx.Tx.{Tx}
use Rattle.cf_block.specs.declared.tx.Block.{Block}

-- the bytes of some texts
abbrev pub texts : List (Vec ℕ Global) → List (List ℕ)
texts vs = map (λ v. v.items) vs

-- scripts in the order of their bytes, each once
abbrev pub IsSortedSet : List (List ℕ) → Type 0
IsSortedSet scripts = IsStrictlySortedBy (slice_cmp nat_cmp) scripts

-- the set of these scripts
abbrev pub sorted_set : List (List ℕ) → List (List ℕ)
sorted_set [] = []
sorted_set (s ∷ ss) = insert_key (slice_cmp nat_cmp) (sorted_set ss) s

-- an output's script is an item unless it is empty or begins with OP_RETURN
abbrev pub is_paid_item : List ℕ → Bool
is_paid_item [] = false
is_paid_item (first ∷ rest) = not (first == 0x6a)

-- a spent output's script is an item unless it is empty
abbrev pub is_spent_item : List ℕ → Bool
is_spent_item s = not (length s == 0)

-- the scripts of a transaction's outputs
abbrev pub paid_scripts : Tx → List (List ℕ)
paid_scripts t = map (λ o. o.script) t.outputs

-- the items of a block, of whose inputs but the coinbase's these scripts are spent
unfoldable pub items_of : Block → List (List ℕ) → List (List ℕ)
items_of b prevouts = sorted_set (flat_map (λ t. filter is_paid_item (paid_scripts t)) b.txs ++ filter is_spent_item prevouts)

-- the same one by one: what makes a script an item
abbrev pub IsItem : Block → List (List ℕ) → List ℕ → Type 0
IsItem b prevouts s =
    (Contains (flat_map paid_scripts b.txs) s × (s ≢ []) × (slice_index s 0 ≢ 0x6a))
    ⊎ (Contains prevouts s × (s ≢ []))

-- whether a script is among these
abbrev pub is_among : List (List ℕ) → List ℕ → Bool
is_among scripts s = list_any (pointwise nat_eq s) scripts

-- the items that aren't among these scripts
abbrev pub items_without : List (List ℕ) → List (List ℕ) → List (List ℕ)
items_without scripts items = filter (λ s. not (is_among scripts s)) items
