-- What is read is what was spelled.
use Rattle.std.proofs.Common.{◌≡◌, ℕ, suc, zero, ◌+◌, ◌*◌, ◌-◌, ◌/◌, ◌%◌, ◌^◌, ◌<◌, ◌≤◌, Bool, true, false, List, [], ◌∷◌, ◌++◌, length, get_or, refl, sym, ◌∙◌, ap, subst, arith, append_assoc, append-nil, length-append, Some, None, Result, Ok, Err}
use Rattle.std.specs.Prelude.{replicate, ◌==◌, not, if◌then◌else◌, nat_le, nat_lt}
use Rattle.std.proofs.lemmas.Bool.{leb-false, eqb-true, eqb-false}
use Rattle.std.proofs.lemmas.List.{length-replicate}
use Rattle.std.proofs.Math.Nat.{two-pow-succ}
use Rattle.cf_bytes.specs.Compact.{compact, compact_at}
use Rattle.cf_bytes.specs.Cut.{IsBytes, ◌>>=◌}
use Rattle.cf_bytes.proofs.Codecs.{Takes, bind_ok, compact_taken}
use Rattle.cf_golomb.specs.declared.fault.SetFault.{SetFault}
use Rattle.cf_golomb.specs.declared.fault.SetFault.TheVariants.{Ends, Over, Padding, Excess}
use Rattle.cf_bytes.specs.Bits.{bits_of}
use Rattle.cf_golomb.specs.Bits.{unpack, pack_from, pack, number_from, number_at, unary_at, one_more}
use Rattle.cf_golomb.specs.Code.{code, codes, spelling, IsSet, with_low, low_after, code_at, below, value_at, values_at, end_at, ending, counted, head_at, body_at, set_at, HasSpelling}
use Rattle.cf_golomb.specs.Answers.{GivesAll}
use Rattle.std.specs.Prelude.{IfOk}
use Rattle.cf_bytes.specs.declared.memory.Refused.{Refused}
use Rattle.cf_bytes.proofs.Bits.{bits_cat, bits_low}
use Rattle.cf_golomb.proofs.BitLemmas.{length-unpack}
use Rattle.cf_golomb.proofs.AgainLemmas.{zeros_of, last_bit_of, bit_small}
use Rattle.cf_golomb.proofs.WriteLemmas.{pack_bytes, nothing_more, full_byte, apart}

same_some : {A : Type 0} (x y : A) → Some x ≡ Some y → x ≡ y
same_some x y h = cc

same_ok : {A E : Type 0} (x y : A) → ◌≡◌ {A = Result A E} (Ok x) (Ok y) → x ≡ y
same_ok x y h = cc

unary_only : (bits : List Bool) (x : ℕ × List Bool) → unary_at bits ≡ Some x → bits ≡ replicate x.0 true ++ false ∷ x.1
unfolding unary_at
unary_only [] x h = cc
unary_only (true ∷ bits) x h =
    elim (unary_at bits) as (λ o. unary_at bits ≡ o → one_more o ≡ Some x → true ∷ bits ≡ replicate x.0 true ++ false ∷ x.1) [
      | None ↦ λ e h. cc
      | Some y ↦ λ e h.
          subst (λ (z : ℕ × List Bool). true ∷ bits ≡ replicate z.0 true ++ false ∷ z.1) (same_some (suc y.0, y.1) x h) (ap (λ s. true ∷ s) (unary_only bits y e))
    ] refl h
unary_only (false ∷ bits) x h = subst (λ (z : ℕ × List Bool). false ∷ bits ≡ replicate z.0 true ++ false ∷ z.1) (same_some (0, bits) x h) refl

number_only : (k a : ℕ) (bits : List Bool) (x : ℕ × List Bool) → number_from k a bits ≡ Some x → (r : ℕ) × (r < 2 ^ k) × (x.0 ≡ a * 2 ^ k + r) × (bits ≡ bits_of k r ++ x.1)
unfolding number_from bits_of
number_only zero a bits x h =
    let same : (a, bits) ≡ x = same_some (a, bits) x h in
    let value : a ≡ x.0 = ap (λ p. p.0) same in
    (0, omega arith, omega arith, ap (λ p. p.1) same)
number_only (suc k) a [] x h = cc
number_only (suc k) a (b ∷ bits) x h =
    let bit : ℕ = (if b then 1 else 0) in
    let rest = number_only k (2 * a + bit) bits x h in
    let twice : 2 ^ suc k ≡ 2 ^ k + 2 ^ k = two-pow-succ k in
    let small : bit < 2 = bit_small b in
    let under : rest.0 < 2 ^ k = rest.1 in
    let value : x.0 ≡ (2 * a + bit) * 2 ^ k + rest.0 = rest.2 in
    let count : suc k ≡ 1 + k = omega arith in
    let front : bits_of (suc k) (bit * 2 ^ k + rest.0) ≡ b ∷ bits_of k rest.0 = ap (λ j. bits_of j (bit * 2 ^ k + rest.0)) count ∙ bits_cat 1 k bit rest.0 under ∙ ap (λ s. s ++ bits_of k rest.0) (last_bit_of b) in (
      bit * 2 ^ k + rest.0,
      fits bit (2 ^ k) (2 ^ suc k) rest.0 small under twice,
      gathered a bit (2 ^ k) (2 ^ suc k) rest.0 x.0 twice value,
      ap (λ s. b ∷ s) rest.3 ∙ ap (λ s. s ++ x.1) (sym front),
    )
  where
    fits : (bit p p' r : ℕ) → bit < 2 → r < p → p' ≡ p + p → bit * p + r < p'
    fits zero p p' r small under twice = omega arith
    fits (suc zero) p p' r small under twice = omega arith
    fits (suc (suc n)) p p' r small under twice = absurd (omega arith)

    gathered : (a bit p p' r v : ℕ) → p' ≡ p + p → v ≡ (2 * a + bit) * p + r → v ≡ a * p' + (bit * p + r)
    gathered a bit p p' r v twice is = omega (arith, ap (λ x. a * x) twice)

code_only : (bits : List Bool) (x : ℕ × List Bool) → code_at bits ≡ Some x → bits ≡ code x.0 ++ x.1
unfolding code_at code
code_only bits x h =
    elim (unary_at bits) as (λ o. unary_at bits ≡ o → low_after o ≡ Some x → bits ≡ ((replicate (x.0 / 524288) true ++ false ∷ []) ++ bits_of 19 x.0) ++ x.1) [
      | None ↦ λ e h. cc
      | Some u ↦ λ e h. elim (number_at 19 u.1) as (λ o. number_at 19 u.1 ≡ o → with_low u.0 o ≡ Some x → bits ≡ ((replicate (x.0 / 524288) true ++ false ∷ []) ++ bits_of 19 x.0) ++ x.1) [
        | None ↦ λ e2 h. cc
        | Some y ↦ λ e2 h.
            let number = number_only 19 0 u.1 y e2 in
            let r : ℕ = number.0 in
            let under : r < 524288 = number.1 in
            let low : y.0 ≡ r = number.2 ∙ omega arith in
            let d : ℕ = u.0 * 524288 + y.0 in
            let upper : d / 524288 ≡ u.0 = omega arith in
            let whole : d ≡ u.0 * 2 ^ 19 + r = omega arith in
            let tail : bits_of 19 d ≡ bits_of 19 r = ap (bits_of 19) whole ∙ bits_low 19 19 u.0 r (omega arith) in
            let here : bits ≡ ((replicate (d / 524288) true ++ false ∷ []) ++ bits_of 19 d) ++ y.1 =
            unary_only bits u e ∙ ap (λ s. replicate u.0 true ++ false ∷ s) number.3
            ∙ (λ i. replicate (sym upper i) true ++ false ∷ (sym tail i ++ y.1))
            ∙ sym (append_assoc (replicate (d / 524288) true ++ false ∷ []) (bits_of 19 d) y.1 ∙ append_assoc (replicate (d / 524288) true) (false ∷ []) (bits_of 19 d ++ y.1)) in
            subst (λ (z : ℕ × List Bool). bits ≡ ((replicate (z.0 / 524288) true ++ false ∷ []) ++ bits_of 19 z.0) ++ z.1) (same_some (d, y.1) x h) here
      ] refl h
    ] refl h

value_only : (limit before : ℕ) (bits : List Bool) (x : ℕ × List Bool) → value_at limit before bits ≡ Ok x → (before ≤ x.0) × (x.0 < limit) × (bits ≡ code (x.0 - before) ++ x.1)
unfolding value_at
value_only limit before bits x h =
    elim (code_at bits) as (λ o. code_at bits ≡ o → below limit before o ≡ Ok x → (before ≤ x.0) × (x.0 < limit) × (bits ≡ code (x.0 - before) ++ x.1)) [
      | None ↦ λ e h. cc
      | Some y ↦ λ e h. elim (nat_le limit (before + y.0)) as (λ b. nat_le limit (before + y.0) ≡ b → (if b then Err Over else Ok (before + y.0, y.1)) ≡ Ok x → (before ≤ x.0) × (x.0 < limit) × (bits ≡ code (x.0 - before) ++ x.1)) [
        | true ↦ λ t h. cc
        | false ↦ λ t h.
            let lt : before + y.0 < limit = leb-false limit (before + y.0) t in
            let back : y.0 ≡ before + y.0 - before = omega arith in
            subst (λ (z : ℕ × List Bool). (before ≤ z.0) × (z.0 < limit) × (bits ≡ code (z.0 - before) ++ z.1)) (same_ok (before + y.0, y.1) x h)
            (omega arith, lt, code_only bits y e ∙ ap (λ d. code d ++ y.1) back)
      ] refl h
    ] refl h

abbrev pub Spelled : ℕ → ℕ → ℕ → List Bool → List ℕ × List Bool → Type 0
Spelled limit n before bits x = (length x.0 ≡ n) × IsSet before limit x.0 × (bits ≡ codes before x.0 ++ x.1)

pub values_only : (limit n before : ℕ) (bits : List Bool) (x : List ℕ × List Bool) → values_at limit n before bits ≡ Ok x → Spelled limit n before bits x
unfolding values_at codes
values_only limit zero before bits x h = subst (Spelled limit 0 before bits) (same_ok ([], bits) x h) (refl, tt, refl)
values_only limit (suc n) before bits x h =
    elim (value_at limit before bits) as (λ r. value_at limit before bits ≡ r → (r >>= λ first. values_at limit n first.0 first.1 >>= λ others. Ok (first.0 ∷ others.0, others.1)) ≡ Ok x → Spelled limit (suc n) before bits x) [
      | Err e ↦ λ e1 h. cc
      | Ok v ↦ λ e1 h. elim (values_at limit n v.0 v.1) as (λ r. values_at limit n v.0 v.1 ≡ r → (r >>= λ others. Ok (v.0 ∷ others.0, others.1)) ≡ Ok x → Spelled limit (suc n) before bits x) [
        | Err e ↦ λ e2 h. cc
        | Ok o ↦ λ e2 h.
            let first = value_only limit before bits v e1 in
            let rest = values_only limit n v.0 v.1 o e2 in
            subst (Spelled limit (suc n) before bits) (same_ok (v.0 ∷ o.0, o.1) x h)
            (ap suc rest.0, (first.0, first.1, rest.1), first.2 ∙ ap (λ s. code (v.0 - before) ++ s) rest.2 ∙ sym (append_assoc (code (v.0 - before)) (codes v.0 o.0) o.1))
      ] refl h
    ] refl h

there_is : (k a : ℕ) (bits : List Bool) → k ≤ length bits → (x : ℕ × List Bool) × (number_from k a bits ≡ Some x)
unfolding number_from
there_is zero a bits le = ((a, bits), refl)
there_is (suc k) a [] le = absurd (omega arith)
there_is (suc k) a (b ∷ bits) le = there_is k (2 * a + (if b then 1 else 0)) bits (omega arith)

nil_of : (bits : List Bool) → length bits ≡ 0 → bits ≡ []
nil_of [] is = refl
nil_of (b ∷ bits) is = absurd (omega arith)

zeros_only : (k : ℕ) (bits : List Bool) (x : ℕ × List Bool) → number_at k bits ≡ Some x → ending (Some x) ≡ Ok (tt {0}) → bits ≡ replicate k false
zeros_only k bits x e h =
    let number = number_only k 0 bits x e in
    let value : x.0 ≡ 0 * 2 ^ k + number.0 = number.2 in
    elim (x.0 == 0) as (λ b. (x.0 == 0) ≡ b → (if not b then Err Padding else if not (length x.1 == 0) then Err Excess else Ok (tt {0})) ≡ Ok (tt {0}) → bits ≡ replicate k false) [
      | false ↦ λ t h. cc
      | true ↦ λ t h. elim (length x.1 == 0) as (λ b. (length x.1 == 0) ≡ b → (if not b then Err Excess else Ok (tt {0})) ≡ Ok (tt {0}) → bits ≡ replicate k false) [
        | false ↦ λ u h. cc
        | true ↦ λ u h.
            let none : x.0 ≡ 0 = eqb-true x.0 0 t in
            let r : number.0 ≡ 0 = omega arith in
            let last : x.1 ≡ [] = nil_of x.1 (eqb-true (length x.1) 0 u) in
            number.3 ∙ (λ i. bits_of k (r i) ++ last i) ∙ append-nil (bits_of k 0) ∙ zeros_of k
      ] refl h
    ] refl h

-- only zeros that fill the byte may follow
end_only : (bits : List Bool) → end_at bits ≡ Ok (tt {0}) → (z : ℕ) × (z < 8) × (bits ≡ replicate z false)
unfolding end_at
end_only bits h =
    let k : ℕ = length bits % 8 in
    let there = there_is k 0 bits (omega arith) in
    (k, omega arith, zeros_only k bits there.0 there.1 (sym (ap ending there.1) ∙ h))

pack_nil : pack [] ≡ []
unfolding pack_from
pack_nil = refl

further : (n w : ℕ) (b : Bool) (bits : List Bool) → n < 7 → pack_from n w (b ∷ bits) ≡ pack_from (suc n) (2 * w + (if b then 1 else 0)) bits
unfolding pack_from
further n w b bits less =
    ap (λ t. if t then (2 * w + (if b then 1 else 0)) ∷ pack_from 0 0 bits else pack_from (suc n) (2 * w + (if b then 1 else 0)) bits) (apart n 7 (n == 7) less refl)

-- zeros that fill the byte are padded anyway
pad_zeros : (z n w : ℕ) → n + suc z ≡ 8 → pack_from n w (replicate (suc z) false) ≡ (w * 2 ^ (8 - n)) ∷ []
pad_zeros zero n w sum =
    let seven : n ≡ 7 = omega arith in
    let one : 8 - n ≡ 1 = omega arith in
    let value : 2 * w + 0 ≡ w * 2 ^ 1 = omega arith in
    ap (λ j. pack_from j w (false ∷ [])) seven ∙ full_byte w false [] ∙ (λ i. value i ∷ pack_nil i) ∙ ap (λ j. (w * 2 ^ j) ∷ []) (sym one)
pad_zeros (suc z) n w sum =
    let next : 8 - n ≡ suc (8 - suc n) = omega arith in
    let twice : 2 ^ (8 - n) ≡ 2 ^ (8 - suc n) + 2 ^ (8 - suc n) = ap (λ j. 2 ^ j) next ∙ two-pow-succ (8 - suc n) in
    let value : (2 * w + 0) * 2 ^ (8 - suc n) ≡ w * 2 ^ (8 - n) = omega (arith, ap (λ x. w * x) twice) in
    further n w false (replicate (suc z) false) (omega arith) ∙ pad_zeros z (suc n) (2 * w + 0) (omega arith) ∙ ap (λ x. x ∷ []) value

not_nothing : (n w : ℕ) → 0 < n → pack_from n w [] ≡ (w * 2 ^ (8 - n)) ∷ []
not_nothing n w some = nothing_more n w ∙ at (n == 0) refl
  where
    at : (b : Bool) → (n == 0) ≡ b → (if n == 0 then [] else (w * 2 ^ (8 - n)) ∷ []) ≡ (w * 2 ^ (8 - n)) ∷ []
    at true is = absurd (omega (arith, eqb-true n 0 is))
    at false is = ap (λ b. if b then [] else (w * 2 ^ (8 - n)) ∷ []) is

pack_zeros : (n w : ℕ) (bits : List Bool) (z : ℕ) → n < 8 → z < 8 → (n + length bits + z) % 8 ≡ 0 → pack_from n w (bits ++ replicate z false) ≡ pack_from n w bits
pack_zeros n w [] zero few less full = refl
pack_zeros n w [] (suc z) few less full = pad_zeros z n w (omega arith) ∙ sym (not_nothing n w (omega arith))
pack_zeros n w (b ∷ bits) z few less full =
    let bit : ℕ = (if b then 1 else 0) in
    elim (n == 7) as (λ t. (n == 7) ≡ t → pack_from n w (b ∷ (bits ++ replicate z false)) ≡ pack_from n w (b ∷ bits)) [
      | true ↦ λ is.
          let seven : n ≡ 7 = eqb-true n 7 is in
          ap (λ j. pack_from j w (b ∷ (bits ++ replicate z false))) seven ∙ full_byte w b (bits ++ replicate z false)
          ∙ ap (λ s. (2 * w + bit) ∷ s) (pack_zeros 0 0 bits z (omega arith) less (omega arith))
          ∙ sym (ap (λ j. pack_from j w (b ∷ bits)) seven ∙ full_byte w b bits)
      | false ↦ λ is.
          let other : n ≡ 7 → ⊥ = eqb-false n 7 is in
          further n w b (bits ++ replicate z false) (omega arith) ∙ pack_zeros (suc n) (2 * w + bit) bits z (omega arith) less (omega arith) ∙ sym (further n w b bits (omega arith))
    ] refl

-- bytes that are read as n values are their code
body_only : (n : ℕ) (body vs : List ℕ) → ((i d : ℕ) → i < length body → get_or body i d < 256) → body_at n (unpack body) ≡ Ok vs → (length vs ≡ n) × IsSet 0 (n * 784931) vs × (body ≡ pack (codes 0 vs))
unfolding body_at
body_only n body vs each h =
    elim (values_at (n * 784931) n 0 (unpack body)) as (λ r. values_at (n * 784931) n 0 (unpack body) ≡ r → (r >>= λ values. end_at values.1 >>= λ done. Ok values.0) ≡ Ok vs → (length vs ≡ n) × IsSet 0 (n * 784931) vs × (body ≡ pack (codes 0 vs))) [
      | Err e ↦ λ e1 h. cc
      | Ok v ↦ λ e1 h. elim (end_at v.1) as (λ r. end_at v.1 ≡ r → (r >>= λ done. Ok v.0) ≡ Ok vs → (length vs ≡ n) × IsSet 0 (n * 784931) vs × (body ≡ pack (codes 0 vs))) [
        | Err e ↦ λ e2 h. cc
        | Ok u ↦ λ e2 h.
            let spelled = values_only (n * 784931) n 0 (unpack body) v e1 in
            let zeros = end_only v.1 e2 in
            let whole : unpack body ≡ codes 0 v.0 ++ replicate zeros.0 false = spelled.2 ∙ ap (λ s. codes 0 v.0 ++ s) zeros.2 in
            let size : length (codes 0 v.0) + zeros.0 ≡ 8 * length body =
            ap (λ k. length (codes 0 v.0) + k) (sym (length-replicate zeros.0 false)) ∙ sym (length-append (codes 0 v.0) (replicate zeros.0 false)) ∙ ap length (sym whole) ∙ length-unpack body in
            let back : body ≡ pack (unpack body) = sym (ap pack (sym (append-nil (unpack body))) ∙ pack_bytes body [] each ∙ ap (λ s. body ++ s) pack_nil ∙ append-nil body) in
            subst (λ (s : List ℕ). (length s ≡ n) × IsSet 0 (n * 784931) s × (body ≡ pack (codes 0 s))) (same_ok v.0 vs h)
            (spelled.0, spelled.1, back ∙ ap pack whole ∙ pack_zeros 0 0 (codes 0 v.0) zeros.0 (omega arith) zeros.1 (omega (arith, size)))
      ] refl h
    ] refl h

pub found_of : {X : Type 0} (view : X → List ℕ) (n : ℕ) (bytes body : List ℕ) (r : Result X (Refused SetFault)) → n ≤ 33554432 → bytes ≡ compact n ++ body
    → ((i d : ℕ) → i < length body → get_or body i d < 256) → GivesAll view (body_at n (unpack body)) r → IfOk r (λ v. HasSpelling (view v) × (bytes ≡ spelling (view v)))
unfolding spelling
found_of view n bytes body (Ok v) few start each h =
    let only = body_only n body (view v) each h in
    let set : IsSet 0 (length (view v) * 784931) (view v) = subst (λ k. IsSet 0 (k * 784931) (view v)) (sym only.0) only.1 in
    (record { few = omega (arith, only.0); set = set }, start ∙ (λ i. compact (sym only.0 i) ++ only.2 i))
found_of view n bytes body (Err e) few start each h = tt

-- bytes after others are bytes
in_body : (body : List ℕ) → ((i : ℕ) → get_or body i 0 < 256) → (i d : ℕ) → i < length body → get_or body i d < 256
in_body [] each i d h = absurd (omega arith)
in_body (b ∷ bs) each zero d h = each 0
in_body (b ∷ bs) each (suc i) d h = in_body bs (λ j. each (suc j)) i d (omega arith)

after_front : (front body : List ℕ) → ((i : ℕ) → get_or (front ++ body) i 0 < 256) → (i : ℕ) → get_or body i 0 < 256
after_front [] body each i = each i
after_front (x ∷ front) body each i = after_front front body (λ j. each (suc j)) i

pub bytes_after : (bytes front body : List ℕ) → bytes ≡ front ++ body → ((i : ℕ) → get_or bytes i 0 < 256) → (i d : ℕ) → i < length body → get_or body i d < 256
bytes_after bytes front body is each = in_body body (after_front front body (λ i. subst (λ (s : List ℕ). get_or s i 0 < 256) is (each i)))

-- bytes whose head is read begin with the number of values
head_taken : (bytes : List ℕ) (n : ℕ) (body : List ℕ) → IsBytes bytes → head_at bytes ≡ Ok (n, body) → Takes bytes (compact n) body × (n ≤ 33554432)
unfolding head_at
head_taken bytes n body fits h =
    elim (compact_at bytes) as (λ r. compact_at bytes ≡ r → (counted r >>= λ x. (if nat_lt (length x.1 * 8) (x.0 * 20) then Err Ends else Ok (tt {0})) >>= λ room. Ok x) ≡ Ok (n, body) → Takes bytes (compact n) body × (n ≤ 33554432)) [
      | Err e ↦ λ is h. cc
      | Ok x ↦ λ is h.
          let room = bind_ok (if nat_lt (length x.1 * 8) (x.0 * 20) then Err Ends else Ok (tt {0})) (λ room. Ok x) (n, body) h in
          let both : x ≡ (n, body) = same_ok x (n, body) room.2 in
          compact_taken bytes n body fits (is ∙ ap Ok both)
    ] refl h

-- bytes that are read as a list are its code
pub set_taken : (bytes values : List ℕ) → IsBytes bytes → set_at bytes ≡ Ok values → HasSpelling values × (bytes ≡ spelling values)
unfolding set_at
set_taken bytes values fits h =
    let head = bind_ok (head_at bytes) (λ head. body_at head.0 (unpack head.1)) values h in
    let n : ℕ = head.0.0 in
    let body : List ℕ = head.0.1 in
    let taken = head_taken bytes n body fits head.1 in
    let answer : Result (List ℕ) (Refused SetFault) = Ok values in
    found_of (λ (vs : List ℕ). vs) n bytes body answer taken.1 taken.0.joined (bytes_after bytes (compact n) body taken.0.joined fits) head.2
