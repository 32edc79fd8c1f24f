-- Looking for sorted queries among values that don't fall.
use Rattle.std.proofs.Common.{◌≡◌, ℕ, suc, zero, ◌*◌, ◌<◌, ◌≤◌, Bool, true, false, List, [], ◌∷◌, refl, sym, ◌∙◌, ap, subst, arith, inl, inr, Result, Ok, Err, lt-ltb, le-ltb}
use Rattle.std.specs.Prelude.{◌==◌, ◌||◌, if◌then◌else◌}
use Rattle.std.proofs.Math.Bool.{or_assoc}
use Rattle.std.proofs.lemmas.Bool.{cases_lt, eqb-true, eqb-false}
use Rattle.cf_bytes.specs.Cut.{◌>>=◌}
use Rattle.cf_golomb.specs.declared.fault.SetFault.{SetFault}
use Rattle.cf_golomb.specs.Code.{IsSet, value_at, values_at, body_at, end_at}
use Rattle.cf_golomb.specs.Meets.{IsAscending, has, hits, skip_below, first_is, answer_by, seen_by}
use Rattle.cf_golomb.proofs.OnlyLemmas.{values_only}

or_false : (a : Bool) → (a || false) ≡ a
or_false true = refl
or_false false = refl

lower : (q v : ℕ) → q < v → (b : Bool) → (q == v) ≡ b → (q == v) ≡ false
lower q v lt true is = absurd (omega (arith, eqb-true q v is))
lower q v lt false is = is

higher : (q v : ℕ) → v < q → (b : Bool) → (q == v) ≡ b → (q == v) ≡ false
higher q v lt true is = absurd (omega (arith, eqb-true q v is))
higher q v lt false is = is

skips : (v q : ℕ) (qs : List ℕ) → q < v → skip_below v (q ∷ qs) ≡ skip_below v qs
skips v q qs lt = ap (λ b. if b then skip_below v qs else q ∷ qs) (lt-ltb q v lt)

stops : (v q : ℕ) (qs : List ℕ) → v ≤ q → skip_below v (q ∷ qs) ≡ q ∷ qs
stops v q qs le = ap (λ b. if b then skip_below v qs else q ∷ qs) (le-ltb q v le)

-- nothing below where the queries begin
none_above : (v low : ℕ) (qs : List ℕ) → v < low → IsAscending low qs → has qs v ≡ false
none_above v low [] lt up = refl
none_above v low (q ∷ qs) lt up =
    let under : v < q = omega (arith, lt, up.0) in
    ap (λ b. b || has qs v) (higher q v under (q == v) refl) ∙ none_above v q qs under up.1

at_first : (v q : ℕ) (qs : List ℕ) → v ≤ q → IsAscending q qs → (b : Bool) → (q == v) ≡ b → has (q ∷ qs) v ≡ (q == v)
at_first v q qs le up true is = ap (λ b. b || has qs v) is ∙ sym is
at_first v q qs le up false is =
    let other : q ≡ v → ⊥ = eqb-false q v is in
    let under : v < q = omega (arith, le, other) in
    ap (λ b. b || has qs v) is ∙ none_above v q qs under up ∙ sym is

-- a value is among sorted queries where it is the first that isn't below it
has_first : (v low : ℕ) (qs : List ℕ) → IsAscending low qs → has qs v ≡ first_is v (skip_below v qs)
has_first v low [] up = refl
has_first v low (q ∷ qs) up = elim (cases_lt q v) [
  | inl lt ↦ ap (λ b. b || has qs v) (lower q v lt (q == v) refl) ∙ has_first v q qs up.1 ∙ ap (first_is v) (sym (skips v q qs lt))
  | inr le ↦ at_first v q qs le up.1 (q == v) refl ∙ ap (first_is v) (sym (stops v q qs le))
]

-- what is below a value meets no later one
has_skip : (v w : ℕ) (qs : List ℕ) → v ≤ w → has qs w ≡ has (skip_below v qs) w
has_skip v w [] le = refl
has_skip v w (q ∷ qs) le = elim (cases_lt q v) [
  | inl lt ↦
      let under : q < w = omega (arith, lt, le) in
      ap (λ b. b || has qs w) (lower q w under (q == w) refl) ∙ has_skip v w qs le ∙ ap (λ xs. has xs w) (sym (skips v q qs lt))
  | inr stop ↦ ap (λ xs. has xs w) (sym (stops v q qs stop))
]

hits_skip : (v low limit : ℕ) (qs vs : List ℕ) → v ≤ low → IsSet low limit vs → hits qs vs ≡ hits (skip_below v qs) vs
hits_skip v low limit qs [] le set = refl
hits_skip v low limit qs (w ∷ vs) le set =
    let above : v ≤ w = omega (arith, le, set.0) in
    (λ i. has_skip v w qs above i || hits_skip v w limit qs vs above set.2 i)

pub skip_ascending : (v low : ℕ) (qs : List ℕ) → IsAscending low qs → IsAscending 0 (skip_below v qs)
skip_ascending v low [] up = tt
skip_ascending v low (q ∷ qs) up = elim (cases_lt q v) [
  | inl lt ↦ subst (IsAscending 0) (sym (skips v q qs lt)) (skip_ascending v q qs up.1)
  | inr le ↦ subst (IsAscending 0) (sym (stops v q qs le)) (omega arith, up.1)
]

-- one value more
same_hits : (limit v : ℕ) (hit : Bool) (qs vs : List ℕ) → IsAscending 0 qs → IsSet v limit vs → (hit || hits qs (v ∷ vs)) ≡ ((hit || first_is v (skip_below v qs)) || hits (skip_below v qs) vs)
same_hits limit v hit qs vs up set =
    sym (or_assoc hit (has qs v) (hits qs vs))
    ∙ (λ i. (hit || has_first v 0 qs up i) || hits_skip v v limit qs vs (omega arith) set i)

seen_more : (limit j v : ℕ) (hit : Bool) (qs : List ℕ) (more : List Bool) (r : Result (List ℕ × List Bool) SetFault) → IsAscending 0 qs → values_at limit j v more ≡ r
    → seen_by (λ vs. hit || hits qs vs) (r >>= λ others. Ok (v ∷ others.0, others.1)) ≡ seen_by (λ vs. (hit || first_is v (skip_below v qs)) || hits (skip_below v qs) vs) r
seen_more limit j v hit qs more (Err e) up h = refl
seen_more limit j v hit qs more (Ok o) up h =
    let set : IsSet v limit o.0 = (values_only limit j v more o h).1 in
    ap (λ b. Ok (b, o.1)) (same_hits limit v hit qs o.0 up set)

pub meets_more : (limit j j' before v : ℕ) (hit : Bool) (qs : List ℕ) (bits more : List Bool) → IsAscending 0 qs → value_at limit before bits ≡ Ok (v, more) → j ≡ suc j'
    → seen_by (λ vs. hit || hits qs vs) (values_at limit j before bits) ≡ seen_by (λ vs. (hit || first_is v (skip_below v qs)) || hits (skip_below v qs) vs) (values_at limit j' v more)
unfolding values_at
meets_more limit j j' before v hit qs bits more up is next =
    ap (λ n. seen_by (λ vs. hit || hits qs vs) (values_at limit n before bits)) next
    ∙ ap (λ r. seen_by (λ vs. hit || hits qs vs) (r >>= λ first. values_at limit j' first.0 first.1 >>= λ others. Ok (first.0 ∷ others.0, others.1))) is
    ∙ seen_more limit j' v hit qs more (values_at limit j' v more) up refl

pub meets_fault : (f : List ℕ → Bool) (limit j before : ℕ) (bits : List Bool) (e : SetFault) → value_at limit before bits ≡ Err e → 0 < j → seen_by f (values_at limit j before bits) ≡ Err e
unfolding values_at
meets_fault f limit zero before bits e is some = absurd (omega arith)
meets_fault f limit (suc j) before bits e is some =
    ap (λ r. seen_by f (r >>= λ first. values_at limit j first.0 first.1 >>= λ others. Ok (first.0 ∷ others.0, others.1))) is

pub meets_done : (limit j before : ℕ) (hit : Bool) (qs : List ℕ) (bits : List Bool) → j ≡ 0 → seen_by (λ vs. hit || hits qs vs) (values_at limit j before bits) ≡ Ok (hit, bits)
unfolding values_at
meets_done limit j before hit qs bits is =
    ap (λ n. seen_by (λ vs. hit || hits qs vs) (values_at limit n before bits)) is ∙ ap (λ b. Ok (b, bits)) (or_false hit)

-- all values, and the end
after_values : (f : List ℕ → Bool) (r : Result (List ℕ × List Bool) SetFault) (hit : Bool) (new : List Bool) (end : Result (Unit {0}) SetFault) → seen_by f r ≡ Ok (hit, new) → end_at new ≡ end
    → answer_by f (r >>= λ values. end_at values.1 >>= λ done. Ok values.0) ≡ answer_by (λ x. hit) end
after_values f (Err e) hit new end h last = cc
after_values f (Ok x) hit new end h last =
    let both = same_pair (f x.0, x.1) (hit, new) h in
    let rest : x.1 ≡ new = ap (λ p. p.1) both in
    let value : f x.0 ≡ hit = ap (λ p. p.0) both in
    ap (λ e. answer_by f (e >>= λ done. Ok x.0)) (ap end_at rest ∙ last) ∙ ended end value
  where
    same_pair : (a b : Bool × List Bool) → ◌≡◌ {A = Result (Bool × List Bool) SetFault} (Ok a) (Ok b) → a ≡ b
    same_pair a b h = cc

    ended : (e : Result (Unit {0}) SetFault) → f x.0 ≡ hit → answer_by f (e >>= λ done. Ok x.0) ≡ answer_by (λ x. hit) e
    ended (Ok u) value = ap Ok value
    ended (Err e) value = refl

pub meets_end : (n : ℕ) (f : List ℕ → Bool) (bits new : List Bool) (hit : Bool) → seen_by f (values_at (n * 784931) n 0 bits) ≡ Ok (hit, new) → end_at new ≡ Ok (tt {0}) → answer_by f (body_at n bits) ≡ Ok hit
unfolding body_at
meets_end n f bits new hit h last = after_values f (values_at (n * 784931) n 0 bits) hit new (Ok (tt {0})) h last

pub meets_end_fault : (n : ℕ) (f : List ℕ → Bool) (bits new : List Bool) (hit : Bool) (e : SetFault) → seen_by f (values_at (n * 784931) n 0 bits) ≡ Ok (hit, new) → end_at new ≡ Err e → answer_by f (body_at n bits) ≡ Err e
unfolding body_at
meets_end_fault n f bits new hit e h last = after_values f (values_at (n * 784931) n 0 bits) hit new (Err e) h last

value_fault : (f : List ℕ → Bool) (r : Result (List ℕ × List Bool) SetFault) (e : SetFault) → seen_by f r ≡ Err e → answer_by f (r >>= λ values. end_at values.1 >>= λ done. Ok values.0) ≡ Err e
value_fault f (Err e') e h = same (e') e h
  where
    same : (a b : SetFault) → ◌≡◌ {A = Result (Bool × List Bool) SetFault} (Err a) (Err b) → ◌≡◌ {A = Result Bool SetFault} (Err a) (Err b)
    same a b h = cc
value_fault f (Ok x) e h = cc

pub meets_body_fault : (n : ℕ) (f : List ℕ → Bool) (bits : List Bool) (e : SetFault) → seen_by f (values_at (n * 784931) n 0 bits) ≡ Err e → answer_by f (body_at n bits) ≡ Err e
unfolding body_at
meets_body_fault n f bits e h = value_fault f (values_at (n * 784931) n 0 bits) e h
