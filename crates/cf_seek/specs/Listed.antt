-- machine: the filters that are open to one peer, by what the code keeps.
use Rattle.std.specs.Prelude.{◌≡◌, Bool, false, List, is_some}
use Rattle.std.specs.Ordering.{is_eq, nat_cmp}
use Rattle.std.specs.Cmp.Lexicographic.{slice_cmp}
use Rattle.std.specs.Map.{lookup}
use Rattle.cf_bytes.specs.declared.hash.Hash32.{Hash32}
use Rattle.cf_dispute.specs.Tables.{blocks_of}
use Rattle.cf_headers.specs.Chain.{Hash, IsIn}

-- whether a block is among the keys of a map
abbrev pub is_key : List (Hash32 × Unit {0}) → Hash → Bool
is_key entries block = is_some (lookup (λ k. is_eq (slice_cmp nat_cmp block k.0)) entries)

-- what doesn't stand in a list is no key of a map
abbrev pub AreListed : List (Hash32 × Unit {0}) → List Hash32 → Type 0
AreListed entries blocks = (block : Hash) → (IsIn block (blocks_of blocks) → ⊥) → is_key entries block ≡ false
