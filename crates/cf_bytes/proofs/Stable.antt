-- What was read is read again where more bytes follow.
use Rattle.std.proofs.Common.{◌≡◌, ℕ, [], ◌∷◌, zero, suc, Bool, if◌then◌else◌, List, ◌++◌, length, take, drop, Ok, Err, refl, sym, ◌∙◌, arith, inl, inr, le-ltb, lt-ltb, length-append, subst}
use Rattle.std.proofs.lemmas.List.{take-append-le, drop-append-le}
use Rattle.std.proofs.lemmas.Bool.{cases_lt}
use Rattle.std.specs.Int.{Width, byte_len, from_le_bytes}
use Rattle.cf_bytes.specs.declared.cut.CutFault.TheVariants.{Short, NotShortest, TooLarge}
use Rattle.cf_bytes.specs.declared.cut.CutFault.{CutFault}
use Rattle.cf_bytes.specs.Lists.{list_at}
use Rattle.cf_bytes.specs.Cut.{Read, bytes_at, number_at, ◌>>=◌}
use Rattle.cf_bytes.proofs.Codecs.{value_of, number_bytes}

abbrev same_read : {X E : Type 0} → Read X E → Read X E → Type 0
same_read a b = a ≡ b

abbrev pub IsStable : {X E : Type 0} → (List ℕ → Read X E) → Type 0
IsStable {X} item = (bytes more : List ℕ) (x : X × List ℕ) → item bytes ≡ Ok x → item (bytes ++ more) ≡ Ok (x.0, x.1 ++ more)

-- the tests of a number, and of a first byte, with their outcomes in place
abbrev tested : Bool → Bool → ℕ → List ℕ → Read ℕ CutFault
tested low small n rest = if low then Err (NotShortest, rest) else if small then Ok (n, rest) else Err (TooLarge, rest)

pub bytes_stable : (n : ℕ) → IsStable (bytes_at n)
bytes_stable n bytes more x h = elim (cases_lt (length bytes) n) [
  | inl few ↦ absurd (let short : bytes_at n bytes ≡ Err (Short, bytes) = rw (lt-ltb (length bytes) n few) refl in cc)
  | inr whole ↦
      let all : bytes_at n bytes ≡ Ok (take n bytes, drop n bytes) = rw (le-ltb (length bytes) n whole) refl in
      let P : List ℕ × List ℕ → Type 0 = λ p. bytes_at n (bytes ++ more) ≡ Ok (p.0, p.1 ++ more) in
      subst P (value_of (take n bytes, drop n bytes) x (bytes_at n bytes) all h)
      (rw (le-ltb (length (bytes ++ more)) n (omega (arith, length-append bytes more)), take-append-le n bytes more whole, drop-append-le n bytes more whole) refl)
]

bind_case : {X Y E : Type 0} (item : List ℕ → Read X E) (next : X → List ℕ → Read Y E) → IsStable item → ((x : X) → IsStable (next x))
    → (bytes more : List ℕ) (y : Y × List ℕ) (r : Read X E) → item bytes ≡ r → (r >>= λ x. next x.0 x.1) ≡ Ok y → (item (bytes ++ more) >>= λ x. next x.0 x.1) ≡ Ok (y.0, y.1 ++ more)
bind_case item next first rest bytes more y (Ok x) e g = rw (first bytes more x e) (rest x.0 x.1 more y g)
bind_case item next first rest bytes more y (Err f) e g = cc

-- one field, and then what its value asks for
pub bind_stable : {X Y E : Type 0} (item : List ℕ → Read X E) (next : X → List ℕ → Read Y E) → IsStable item → ((x : X) → IsStable (next x)) → IsStable (λ bytes. item bytes >>= λ x. next x.0 x.1)
bind_stable item next first rest bytes more y h = bind_case item next first rest bytes more y (item bytes) refl h

pub pure_stable : {X E : Type 0} (x : X) → IsStable {X = X} {E = E} (λ bytes. Ok (x, bytes))
pure_stable {X} {E} x bytes more y h =
    let made : Read X E = Ok (x, bytes) in
    let P : X × List ℕ → Type 0 = λ p. same_read {X = X} {E = E} (Ok (x, bytes ++ more)) (Ok (p.0, p.1 ++ more)) in
    subst P (value_of (x, bytes) y made refl h) refl

pub number_stable : (w : Width) → IsStable (number_at w)
number_stable w bytes more x h =
    number_bytes w (bytes ++ more)
    ∙ bind_stable (bytes_at (byte_len w)) (λ b rest. Ok (from_le_bytes w b, rest)) (bytes_stable (byte_len w)) (λ b. pure_stable (from_le_bytes w b)) bytes more x (sym (number_bytes w bytes) ∙ h)

-- CompactSize

-- n items
pub list_stable : {X E : Type 0} (item : List ℕ → Read X E) → IsStable item → (n : ℕ) → IsStable (list_at item n)
unfolding list_at
list_stable item one zero = pure_stable []
list_stable item one (suc n) =
    bind_stable item (λ x rest. list_at item n rest >>= λ others. Ok (x ∷ others.0, others.1)) one (λ x.
    bind_stable (list_at item n) (λ others rest. Ok (x ∷ others, rest)) (list_stable item one n) (λ others. pure_stable (x ∷ others)))
