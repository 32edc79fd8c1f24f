-- machine: what is kept of the outputs of fetched blocks.
use Rattle.std.specs.Prelude.{List, ℕ, Bool, false, Option, Some, None, unwrap_or, if◌then◌else◌}
use Rattle.std.specs.Ordering.{is_eq, nat_cmp}
use Rattle.std.specs.Cmp.Lexicographic.{slice_cmp}
use Rattle.std.specs.Map.{lookup}
use Rattle.cf_filter.specs.Lacking.{lacks}
use Rattle.cf_headers.specs.Chain.{Hash}
use Rattle.cf_headers.specs.Rules.{same}
use Rattle.cf_tables.specs.declared.outputs.Outputs.{Outputs}

-- the items of the outputs of blocks, by the blocks' hashes
abbrev pub Paid : Type 0
Paid = Hash → Option (List (List ℕ))

-- those that are kept
unfoldable pub outputs_in : Outputs → Paid
outputs_in outputs hash = lookup (λ k. is_eq (slice_cmp nat_cmp hash k.0)) outputs.map.entries

-- with those of one block more, in the place of what stands
abbrev pub set_outputs : Hash → List (List ℕ) → Paid → Paid
set_outputs at items paid hash = if same at hash then Some items else paid hash

-- with those of one block more, where none stand
abbrev pub put_outputs : Hash → List (List ℕ) → Paid → Paid
put_outputs at items paid hash = if same at hash then Some (unwrap_or (paid hash) items) else paid hash

-- a filter of this block is none, or lacks one of the items that are kept of it
abbrev pub lacks_kept : Hash → List ℕ → Option (List (List ℕ)) → Bool
lacks_kept block filter None = false
lacks_kept block filter (Some items) = lacks block items filter
