-- How long basic filters are: a filter of a million items has fewer than four million bytes.
use Rattle.std.proofs.Common.{◌≡◌, ℕ, suc, ◌+◌, ◌-◌, ◌*◌, ◌/◌, ◌≤◌, Bool, true, false, List, [], ◌∷◌, ◌++◌, length, replicate, ◌∙◌, arith, inl, inr, length-append}
use Rattle.std.specs.Prelude.{◌==◌, if◌then◌else◌}
use Rattle.std.proofs.lemmas.Bool.{cases_Bool, eqb-true, eqb-false}
use Rattle.std.proofs.lemmas.List.{length-replicate, length-map}
use Rattle.cf_bytes.specs.Compact.{compact}
use Rattle.cf_bytes.specs.Bits.{bits_of}
use Rattle.cf_golomb.specs.Bits.{pack_from, pack}
use Rattle.cf_golomb.specs.Code.{code, codes, spelling, IsSet, HasSpelling}
use Rattle.cf_bytes.proofs.Bits.{length-bits_of}
use Rattle.cf_msg.proofs.Sizes.{length-compact}
use Rattle.cf_filter.specs.Filter.{values_of, value_of, ascending, basic_filter_of}
use Rattle.cf_filter.proofs.Ordered.{length-ascending}
use Rattle.cf_filter.proofs.Values.{has_spelling}

-- bits cut in eights, where some of a byte stand already
packed : (n number : ℕ) (bits : List Bool) → n ≤ 7 → 8 * length (pack_from n number bits) ≤ length bits + n + 7
unfolding pack_from
packed n number [] few = elim (cases_Bool (n == 0)) [
  | inl is ↦ rw is (omega arith)
  | inr off ↦ let some : n ≡ 0 → ⊥ = eqb-false n 0 off in rw off (omega (arith, some))
]
packed n number (b ∷ bits) few = elim (cases_Bool (n == 7)) [
  | inl is ↦ let all : n ≡ 7 = eqb-true n 7 is in rw is (omega (arith, packed 0 0 bits (omega arith), all))
  | inr off ↦ let not_all : n ≡ 7 → ⊥ = eqb-false n 7 off in rw off (omega (arith, packed (suc n) (2 * number + (if b then 1 else 0)) bits (omega (arith, not_all))))
]

length-code : (d : ℕ) → length (code d) ≡ d / 524288 + 20
unfolding code
length-code d =
    let ones = replicate (d / 524288) true in
    omega (arith, length-append (ones ++ false ∷ []) (bits_of 19 d), length-append ones (false ∷ []), length-replicate (d / 524288) true, length-bits_of 19 d)

-- the upper parts of all differences are no more than the last value's
length-codes : (before limit : ℕ) (vs : List ℕ) → IsSet before limit vs → before ≤ limit → 524288 * length (codes before vs) + before ≤ 10485760 * length vs + limit
unfolding codes
length-codes before limit [] set le = omega arith
length-codes before limit (v ∷ vs) set le =
    let more = length-codes v limit vs set.2 (omega (arith, set.1)) in
    omega (arith, length-append (code (v - before)) (codes v vs), length-code (v - before), more, set.0)

length-spelling : (values : List ℕ) → HasSpelling values → length values ≤ 1000000 → length (spelling values) ≤ 3999900
unfolding spelling
length-spelling values has few =
    let bits = length-codes 0 (length values * 784931) values has.set (omega arith) in
    let bytes = packed 0 0 (codes 0 values) (omega arith) in
    omega (arith, length-append (compact (length values)) (pack (codes 0 values)), length-compact (length values), bits, bytes)

pub length-basic_filter : (hash : List ℕ) (items : List (List ℕ)) → length items ≤ 1000000 → length (basic_filter_of hash items) ≤ 3999900
unfolding basic_filter_of
length-basic_filter hash items few =
    let vs : List ℕ = values_of hash (length items) items in
    let len : length (ascending vs) ≡ length items = length-ascending vs ∙ length-map items (value_of hash (length items)) in
    length-spelling (ascending vs) (has_spelling hash items (omega arith)) (omega (arith, len))
