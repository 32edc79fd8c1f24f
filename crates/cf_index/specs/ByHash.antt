-- machine: maps by hashes, in which the first value of a hash stands.
use Rattle.std.specs.Prelude.{ℕ, List, refl, if◌then◌else◌}
use Rattle.std.specs.declared.cmp.Ordering.{Ordering}
use Rattle.std.specs.Ordering.{nat_cmp}
use Rattle.std.specs.Cmp.Lexicographic.{slice_cmp}
use Rattle.std.specs.Coded.{Coded, code_by, coded_ℕ, coded_list}
use Rattle.std.specs.FinMap.{FinMap, insert, contains_key}
use Rattle.cf_bytes.specs.declared.hash.Hash32.{Hash32}

-- hashes, byte by byte
abbrev pub hash_cmp : Hash32 → Hash32 → Ordering
hash_cmp a b = slice_cmp nat_cmp a.0 b.0

abbrev pub hash_code : Coded Hash32
hash_code = code_by (List ℕ) (coded_list coded_ℕ) (λ h. h.0) (λ e. record { 0 = e }) (λ _. refl)

-- a map from hashes, byte by byte, to values
abbrev pub ByHash : Type 0 → Type 0
ByHash V = FinMap hash_cmp V

-- with this value for a hash that has none yet
abbrev pub with_first : {V : Type 0} → ByHash V → Hash32 → V → ByHash V
with_first m hash v = if contains_key m hash then m else insert m hash v
