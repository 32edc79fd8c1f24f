-- A reader and a spelling are the two ways of one relation.
use Rattle.std.proofs.Common.{◌≡◌, ℕ, ℤ, FitsSigned, zero, suc, ◌+◌, ◌<◌, ◌≤◌, ◌^◌, List, [], ◌∷◌, ◌++◌, length, take, drop, Result, Ok, Err, refl, sym, ap, ◌∙◌, append_assoc, arith, inl, inr, lt-ltb, le-ltb, length-take, length-append, subst}
use Rattle.std.proofs.lemmas.List.{places, take_at, drop_at, take-append-drop}
use Rattle.std.proofs.lemmas.Bool.{cases_lt, le-leb, lt-leb}
use Rattle.std.proofs.lemmas.Nat.{from_le_bytes-to_le_bytes_4, from_le_bytes-to_le_bytes_8, le_bytes_2, le_bytes_4, le_bytes_8}
use Rattle.std.proofs.Math.Facts.{Fits-of_z, Fits-lt-pow}
use Rattle.std.proofs.lemmas.Int.{to_z-of_z}
use Rattle.std.specs.Int.{Width, w16, w32, w64, byte_len, to_le_bytes, from_le_bytes, cast_signed, cast_unsigned}
use Rattle.std.specs.List.{flat_map, AllByRecursion}
use Rattle.cf_bytes.specs.declared.cut.CutFault.{CutFault}
use Rattle.cf_bytes.specs.declared.cut.CutFault.TheVariants.{Short, NotShortest, TooLarge}
pub use Rattle.cf_bytes.specs.Cut.{IsBytes}
use Rattle.cf_bytes.specs.Cut.{Read, byte_at, bytes_at, number_at, int_at, as_one, ◌>>=◌}
use Rattle.cf_bytes.specs.Compact.{compact, within, compact_tail, compact_ahead_at, compact_at}
use Rattle.cf_bytes.specs.Lists.{list_at, counted_bytes, counted_bytes_at}
use Rattle.cf_bytes.proofs.CompactLemmas.{compact_at-compact}

-- what a reader took from the front
pub record Takes (bytes text after : List ℕ) : Type 0 where
  pub joined : bytes ≡ text ++ after
  pub rest : IsBytes after

-- A reader and a spelling that are the two ways of one relation.
pub record Codec {X E : Type 0} (item : List ℕ → Read X E) (spell : X → List ℕ) (Fits : X → Type 0) : Type 0 where
  pub again : (x : X) (more : List ℕ) → Fits x → item (spell x ++ more) ≡ Ok (x, more)
  pub taken : (bytes : List ℕ) (x : X) (rest : List ℕ) → IsBytes bytes → item bytes ≡ Ok (x, rest) → Takes bytes (spell x) rest × Fits x

-- a codec stays one where its fault is put in other words
pub reworded_codec : {X E F : Type 0} (reword : Read X E → Read X F) (item : List ℕ → Read X E) (spell : X → List ℕ) (Fits : X → Type 0)
    → ((x : X × List ℕ) → reword (Ok x) ≡ Ok x) → ((r : Read X E) (x : X × List ℕ) → reword r ≡ Ok x → r ≡ Ok x)
    → Codec item spell Fits → Codec (λ bytes. reword (item bytes)) spell Fits
reworded_codec reword item spell Fits keeps was codec = record {
  again = λ x more h. ap reword (codec.again x more h) ∙ keeps (x, more);
  taken = λ bytes x rest fits h. codec.taken bytes x rest fits (was (item bytes) (x, rest) h);
}

-- one field, and then another

pub bind_ok : {A B E : Type 0} (r : Result A E) (f : A → Result B E) (y : B) → (r >>= f) ≡ Ok y → (x : A) × (r ≡ Ok x) × (f x ≡ Ok y)
bind_ok (Ok x) f y h = (x, refl, h)
bind_ok (Err e) f y h = cc

pub bind_is : {A B E : Type 0} (r : Result A E) (x : A) (f : A → Result B E) → r ≡ Ok x → (r >>= f) ≡ f x
bind_is r x f h = ap (λ s. s >>= f) h

pub bind_err : {A B E : Type 0} (r : Result A E) (e : E) (f : A → Result B E) → r ≡ Err e → (r >>= f) ≡ Err e
bind_err r e f h = ap (λ s. s >>= f) h

pub value_of : {X E : Type 0} (x y : X) (r : Result X E) → r ≡ Ok x → r ≡ Ok y → x ≡ y
value_of x y r a b = cc

-- bytes

pub drop_bytes : (n : ℕ) (bytes : List ℕ) → IsBytes bytes → IsBytes (drop n bytes)
drop_bytes n bytes fits i = grind (arith, places, fits (n + i))

pub take_bytes : (n : ℕ) (bytes : List ℕ) → IsBytes bytes → IsBytes (take n bytes)
take_bytes n bytes fits i = grind (arith, places, fits i)

pub bytes_again : (n : ℕ) (text more : List ℕ) → length text ≡ n → bytes_at n (text ++ more) ≡ Ok (text, more)
bytes_again n text more e =
    rw (le-ltb (length (text ++ more)) n (omega (arith, length-append text more, e)), take_at text more n e, drop_at text more n e) refl

pub bytes_taken : (n : ℕ) (bytes x rest : List ℕ) → IsBytes bytes → bytes_at n bytes ≡ Ok (x, rest) → Takes bytes x rest × (length x ≡ n)
bytes_taken n bytes x rest fits h = elim (cases_lt (length bytes) n) [
  | inl few ↦ absurd (let short : bytes_at n bytes ≡ Err (Short, bytes) = rw (lt-ltb (length bytes) n few) refl in cc)
  | inr whole ↦
      let all : bytes_at n bytes ≡ Ok (take n bytes, drop n bytes) = rw (le-ltb (length bytes) n whole) refl in
      let both = value_of (x, rest) (take n bytes, drop n bytes) (bytes_at n bytes) h all in
      let ex : x ≡ take n bytes = ap (λ p. p.0) both in
      let er : rest ≡ drop n bytes = ap (λ p. p.1) both in
      (record { joined = rw (ex, er) (sym (take-append-drop n bytes)); rest = rw er (drop_bytes n bytes fits) }, rw ex (omega (arith, length-take n bytes)))
]

-- n bytes, as they are
pub bytes_codec : (n : ℕ) → Codec (bytes_at n) (λ text. text) (λ text. length text ≡ n)
bytes_codec n = record { again = λ text more h. bytes_again n text more h; taken = λ bytes x rest fits h. bytes_taken n bytes x rest fits h }

-- one byte
pub byte_codec : Codec byte_at (λ b. b ∷ []) (λ b. b < 256)
byte_codec = record { again = λ b more h. refl; taken = byte_taken } where
  byte_taken : (bytes : List ℕ) (x : ℕ) (rest : List ℕ) → IsBytes bytes → byte_at bytes ≡ Ok (x, rest) → Takes bytes (x ∷ []) rest × (x < 256)
  byte_taken [] x rest fits h = cc
  byte_taken (b ∷ bytes) x rest fits h =
      let made : Read ℕ CutFault = Ok (b, bytes) in
      let both = value_of (b, bytes) (x, rest) made refl h in
      let P : ℕ × List ℕ → Type 0 = λ p. Takes (b ∷ bytes) (p.0 ∷ []) p.1 × (p.0 < 256) in
      subst P both (record { joined = refl; rest = λ i. fits (suc i) }, fits 0)

-- numbers

-- a number is bytes
pub number_bytes : (w : Width) (bytes : List ℕ) → number_at w bytes ≡ (bytes_at (byte_len w) bytes >>= λ x. Ok (from_le_bytes w x.0, x.1))
number_bytes w bytes = elim (cases_lt (length bytes) (byte_len w)) [
  | inl few ↦ rw (lt-ltb (length bytes) (byte_len w) few) refl
  | inr whole ↦ rw (le-ltb (length bytes) (byte_len w) whole) refl
]

-- a signed number is a number
pub int_number : (w : Width) (bytes : List ℕ) → int_at w bytes ≡ (number_at w bytes >>= λ x. Ok (cast_signed w x.0, x.1))
int_number w bytes = elim (cases_lt (length bytes) (byte_len w)) [
  | inl few ↦ rw (lt-ltb (length bytes) (byte_len w) few) refl
  | inr whole ↦ rw (le-ltb (length bytes) (byte_len w) whole) refl
]

pub u32_again : (n : ℕ) (more : List ℕ) → n < 2 ^ 32 → number_at w32 (to_le_bytes w32 n ++ more) ≡ Ok (n, more)
u32_again n more small = grind (arith, from_le_bytes-to_le_bytes_4)

pub u64_again : (n : ℕ) (more : List ℕ) → n < 2 ^ 64 → number_at w64 (to_le_bytes w64 n ++ more) ≡ Ok (n, more)
u64_again n more small =
    let text = to_le_bytes w64 n ++ more in
    number_bytes w64 text
    ∙ bind_is (bytes_at 8 text) (to_le_bytes w64 n, more) (λ x. Ok (from_le_bytes w64 x.0, x.1)) (bytes_again 8 (to_le_bytes w64 n) more refl)
    ∙ ap (λ v. Ok (v, more)) (from_le_bytes-to_le_bytes_8 n small)

-- what bytes spell fits their width
u16_small : (bs : List ℕ) → length bs ≡ 2 → IsBytes bs → from_le_bytes w16 bs < 2 ^ 16
u16_small [] e fits = cc
u16_small (a ∷ []) e fits = cc
u16_small (a ∷ b ∷ []) e fits = omega (arith, fits 0, fits 1)
u16_small (a ∷ b ∷ c ∷ bs) e fits = cc

u32_small : (bs : List ℕ) → length bs ≡ 4 → IsBytes bs → from_le_bytes w32 bs < 2 ^ 32
u32_small [] e fits = cc
u32_small (a ∷ []) e fits = cc
u32_small (a ∷ b ∷ []) e fits = cc
u32_small (a ∷ b ∷ c ∷ []) e fits = cc
u32_small (a ∷ b ∷ c ∷ d ∷ []) e fits = omega (arith, fits 0, fits 1, fits 2, fits 3)
u32_small (a ∷ b ∷ c ∷ d ∷ x ∷ bs) e fits = cc

u64_small : (bs : List ℕ) → length bs ≡ 8 → IsBytes bs → from_le_bytes w64 bs < 2 ^ 64
u64_small [] e fits = cc
u64_small (a ∷ []) e fits = cc
u64_small (a ∷ b ∷ []) e fits = cc
u64_small (a ∷ b ∷ c ∷ []) e fits = cc
u64_small (a ∷ b ∷ c ∷ d ∷ []) e fits = cc
u64_small (a ∷ b ∷ c ∷ d ∷ m ∷ []) e fits = cc
u64_small (a ∷ b ∷ c ∷ d ∷ m ∷ n ∷ []) e fits = cc
u64_small (a ∷ b ∷ c ∷ d ∷ m ∷ n ∷ o ∷ []) e fits = cc
u64_small (a ∷ b ∷ c ∷ d ∷ m ∷ n ∷ o ∷ p ∷ []) e fits = omega (arith, fits 0, fits 1, fits 2, fits 3, fits 4, fits 5, fits 6, fits 7)
u64_small (a ∷ b ∷ c ∷ d ∷ m ∷ n ∷ o ∷ p ∷ x ∷ bs) e fits = cc

-- what is read is below the width's bound, and is spelled so
record Spells (w : Width) (bound : ℕ) : Type 0 where
  again : (bs : List ℕ) (n : ℕ) → length bs ≡ byte_len w → IsBytes bs → n ≡ from_le_bytes w bs → to_le_bytes w n ≡ bs
  small : (bs : List ℕ) → length bs ≡ byte_len w → IsBytes bs → from_le_bytes w bs < bound

number_taken : (w : Width) (bound : ℕ) → Spells w bound → (bytes : List ℕ) (n : ℕ) (rest : List ℕ) → IsBytes bytes → number_at w bytes ≡ Ok (n, rest) → Takes bytes (to_le_bytes w n) rest × (n < bound)
number_taken w bound spells bytes n rest fits h =
    let first = bind_ok (bytes_at (byte_len w) bytes) (λ x. Ok (from_le_bytes w x.0, x.1)) (n, rest) (sym (number_bytes w bytes) ∙ h) in
    let x = first.0 in
    let t = bytes_taken (byte_len w) bytes x.0 x.1 fits first.1 in
    let made : Read ℕ CutFault = Ok (from_le_bytes w x.0, x.1) in
    let both = value_of (from_le_bytes w x.0, x.1) (n, rest) made refl first.2 in
    let known : IsBytes x.0 = λ i. grind (arith, places, fits i, t.0.joined) in
    let spelled : to_le_bytes w (from_le_bytes w x.0) ≡ x.0 = spells.again x.0 (from_le_bytes w x.0) t.1 known refl in
    let P : ℕ × List ℕ → Type 0 = λ p. Takes bytes (to_le_bytes w p.0) p.1 × (p.0 < bound) in
    subst P both (record { joined = t.0.joined ∙ ap (λ s. s ++ x.1) (sym spelled); rest = t.0.rest }, spells.small x.0 t.1 known)

pub u16_taken : (bytes : List ℕ) (n : ℕ) (rest : List ℕ) → IsBytes bytes → number_at w16 bytes ≡ Ok (n, rest) → Takes bytes (to_le_bytes w16 n) rest × (n < 2 ^ 16)
u16_taken bytes n rest fits h = number_taken w16 (2 ^ 16) (record { again = le_bytes_2; small = u16_small }) bytes n rest fits h

pub u32_taken : (bytes : List ℕ) (n : ℕ) (rest : List ℕ) → IsBytes bytes → number_at w32 bytes ≡ Ok (n, rest) → Takes bytes (to_le_bytes w32 n) rest × (n < 2 ^ 32)
u32_taken bytes n rest fits h = number_taken w32 (2 ^ 32) (record { again = le_bytes_4; small = u32_small }) bytes n rest fits h

pub u64_taken : (bytes : List ℕ) (n : ℕ) (rest : List ℕ) → IsBytes bytes → number_at w64 bytes ≡ Ok (n, rest) → Takes bytes (to_le_bytes w64 n) rest × (n < 2 ^ 64)
u64_taken bytes n rest fits h = number_taken w64 (2 ^ 64) (record { again = le_bytes_8; small = u64_small }) bytes n rest fits h

pub u32_codec : Codec (number_at w32) (to_le_bytes w32) (λ n. n < 2 ^ 32)
u32_codec = record { again = λ n more h. u32_again n more h; taken = λ bytes n rest fits h. u32_taken bytes n rest fits h }

pub u64_codec : Codec (number_at w64) (to_le_bytes w64) (λ n. n < 2 ^ 64)
u64_codec = record { again = λ n more h. u64_again n more h; taken = λ bytes n rest fits h. u64_taken bytes n rest fits h }

-- signed numbers

int_again : (w : Width) (n : ℤ) (more : List ℕ) → FitsSigned w n → number_at w (to_le_bytes w (cast_unsigned w n) ++ more) ≡ Ok (cast_unsigned w n, more)
    → int_at w (to_le_bytes w (cast_unsigned w n) ++ more) ≡ Ok (n, more)
int_again w n more fits h =
    let text = to_le_bytes w (cast_unsigned w n) ++ more in
    int_number w text
    ∙ bind_is (number_at w text) (cast_unsigned w n, more) (λ x. Ok (cast_signed w x.0, x.1)) h
    ∙ ap (λ z. Ok (z, more)) (to_z-of_z w n fits)

pub i32_again : (n : ℤ) (more : List ℕ) → FitsSigned w32 n → int_at w32 (to_le_bytes w32 (cast_unsigned w32 n) ++ more) ≡ Ok (n, more)
i32_again n more fits = int_again w32 n more fits (u32_again (cast_unsigned w32 n) more (Fits-lt-pow (Fits-of_z fits)))

pub i64_again : (n : ℤ) (more : List ℕ) → FitsSigned w64 n → int_at w64 (to_le_bytes w64 (cast_unsigned w64 n) ++ more) ≡ Ok (n, more)
i64_again n more fits = int_again w64 n more fits (u64_again (cast_unsigned w64 n) more (Fits-lt-pow (Fits-of_z fits)))

-- CompactSize, and bytes with their count before them

pub as_one_ok : {X : Type 0} (bytes : List ℕ) (r : Read X CutFault) (x : X × List ℕ) → as_one bytes r ≡ Ok x → r ≡ Ok x
as_one_ok bytes (Ok y) x h = h
as_one_ok bytes (Err e) x h = cc

-- a number that stood in a form whose least number is low
within_ok : (low : ℕ) (x : ℕ × List ℕ) (n : ℕ) (rest : List ℕ) → within low x ≡ Ok (n, rest) → (low ≤ x.0) × (x.0 ≤ 33554432) × (x ≡ (n, rest))
within_ok low x n rest h = elim (cases_lt x.0 low) [
  | inl few ↦ absurd (let bad : within low x ≡ Err (NotShortest, x.1) = rw (lt-ltb x.0 low few) refl in cc)
  | inr enough ↦ elim (cases_lt 33554432 x.0) [
    | inl large ↦ absurd (let bad : within low x ≡ Err (TooLarge, x.1) = rw (le-ltb x.0 low enough, lt-leb x.0 33554432 large) refl in cc)
    | inr small ↦
        let good : within low x ≡ Ok x = rw (le-ltb x.0 low enough, le-leb x.0 33554432 small) refl in
        (enough, small, value_of x (n, rest) (within low x) good h)
  ]
]

compact_1 : (v : ℕ) → v < 253 → compact v ≡ v ∷ []
unfolding compact
compact_1 v small = rw (lt-ltb v 253 small) refl

compact_3 : (v : ℕ) → 253 ≤ v → v < 2 ^ 16 → compact v ≡ 253 ∷ to_le_bytes w16 v
unfolding compact
compact_3 v low small = rw (le-ltb v 253 low, lt-ltb v (2 ^ 16) small) refl

compact_5 : (v : ℕ) → 2 ^ 16 ≤ v → v < 2 ^ 32 → compact v ≡ 254 ∷ to_le_bytes w32 v
unfolding compact
compact_5 v low small =
    let more : 253 ≤ v = omega (arith, low) in
    rw (le-ltb v 253 more, le-ltb v (2 ^ 16) low, lt-ltb v (2 ^ 32) small) refl

-- the first byte tells the form
form_taken : (b form v : ℕ) (bytes text rest : List ℕ) → b ≡ form → compact v ≡ form ∷ text → Takes bytes text rest → Takes (b ∷ bytes) (compact v) rest
form_taken b form v bytes text rest e spelled t = record {
  joined = ap (λ first. first ∷ bytes) e ∙ ap (λ tail. form ∷ tail) t.joined ∙ ap (λ s. s ++ rest) (sym spelled);
  rest = t.rest;
}

tail_taken : (b : ℕ) (bytes : List ℕ) (n : ℕ) (rest : List ℕ) → IsBytes bytes → compact_tail (b, bytes) ≡ Ok (n, rest) → Takes (b ∷ bytes) (compact n) rest × (n ≤ 33554432)
tail_taken b bytes n rest fits h =
    let P : ℕ × List ℕ → Type 0 = λ p. Takes (b ∷ bytes) (compact p.0) p.1 × (p.0 ≤ 33554432) in
    elim (cases_lt b 253) [
      | inl one ↦
          let read : compact_tail (b, bytes) ≡ Ok (b, bytes) = rw (lt-ltb b 253 one) refl in
          subst P (value_of (b, bytes) (n, rest) (compact_tail (b, bytes)) read h) (record { joined = ap (λ s. s ++ bytes) (sym (compact_1 b one)); rest = fits }, omega (arith, one))
      | inr no_1 ↦ elim (cases_lt b 254) [
        | inl three ↦
            let read : compact_tail (b, bytes) ≡ (number_at w16 bytes >>= within 253) = rw (le-ltb b 253 no_1, lt-ltb b 254 three) refl in
            let first = bind_ok (number_at w16 bytes) (within 253) (n, rest) (sym read ∙ h) in
            let x = first.0 in
            let stood = within_ok 253 x n rest first.2 in
            let t = u16_taken bytes x.0 x.1 fits first.1 in
            subst P stood.2 (form_taken b 253 x.0 bytes (to_le_bytes w16 x.0) x.1 (omega (arith, no_1, three)) (compact_3 x.0 stood.0 t.1) t.0, stood.1)
        | inr no_3 ↦ elim (cases_lt b 255) [
          | inl five ↦
              let read : compact_tail (b, bytes) ≡ (number_at w32 bytes >>= within (2 ^ 16)) = rw (le-ltb b 253 no_1, le-ltb b 254 no_3, lt-ltb b 255 five) refl in
              let first = bind_ok (number_at w32 bytes) (within (2 ^ 16)) (n, rest) (sym read ∙ h) in
              let x = first.0 in
              let stood = within_ok (2 ^ 16) x n rest first.2 in
              let t = u32_taken bytes x.0 x.1 fits first.1 in
              let small : x.0 < 2 ^ 32 = omega (arith, stood.1) in
              subst P stood.2 (form_taken b 254 x.0 bytes (to_le_bytes w32 x.0) x.1 (omega (arith, no_3, five)) (compact_5 x.0 stood.0 small) t.0, stood.1)
          | inr no_5 ↦
              let read : compact_tail (b, bytes) ≡ (number_at w64 bytes >>= within (2 ^ 32)) = rw (le-ltb b 253 no_1, le-ltb b 254 no_3, le-ltb b 255 no_5) refl in
              let first = bind_ok (number_at w64 bytes) (within (2 ^ 32)) (n, rest) (sym read ∙ h) in
              let stood = within_ok (2 ^ 32) first.0 n rest first.2 in
              absurd (omega (arith, stood.0, stood.1))
        ]
      ]
    ]

pub compact_taken : (bytes : List ℕ) (n : ℕ) (rest : List ℕ) → IsBytes bytes → compact_at bytes ≡ Ok (n, rest) → Takes bytes (compact n) rest × (n ≤ 33554432)
unfolding compact_at compact_ahead_at
compact_taken [] n rest fits h = cc
compact_taken (b ∷ bytes) n rest fits h = tail_taken b bytes n rest (λ i. fits (suc i)) (as_one_ok (b ∷ bytes) (compact_tail (b, bytes)) (n, rest) h)

pub compact_codec : Codec compact_at compact (λ n. n ≤ 33554432)
compact_codec = record { again = λ n more h. compact_at-compact n more h; taken = λ bytes n rest fits h. compact_taken bytes n rest fits h }

pub counted_bytes_again : (text more : List ℕ) → length text ≤ 33554432 → counted_bytes_at (counted_bytes text ++ more) ≡ Ok (text, more)
counted_bytes_again text more small =
    ap counted_bytes_at (append_assoc (compact (length text)) text more)
    ∙ bind_is (compact_at (compact (length text) ++ (text ++ more))) (length text, text ++ more) (λ n. bytes_at n.0 n.1) (compact_at-compact (length text) (text ++ more) small)
    ∙ bytes_again (length text) text more refl

pub counted_bytes_taken : (bytes text rest : List ℕ) → IsBytes bytes → counted_bytes_at bytes ≡ Ok (text, rest) → Takes bytes (counted_bytes text) rest × (length text ≤ 33554432)
counted_bytes_taken bytes text rest fits h =
    let first = bind_ok (compact_at bytes) (λ n. bytes_at n.0 n.1) (text, rest) h in
    let n = first.0 in
    let count = compact_taken bytes n.0 n.1 fits first.1 in
    let t = bytes_taken n.0 n.1 text rest count.0.rest first.2 in
    let spelled : compact n.0 ≡ compact (length text) = ap compact (sym t.1) in (
      record {
        joined = count.0.joined ∙ ap (λ s. s ++ n.1) spelled ∙ ap (λ s. compact (length text) ++ s) t.0.joined ∙ sym (append_assoc (compact (length text)) text rest);
        rest = t.0.rest;
      },
      omega (arith, t.1, count.1),
    )

-- bytes with their count before them
pub counted_bytes_codec : Codec counted_bytes_at counted_bytes (λ text. length text ≤ 33554432)
counted_bytes_codec = record { again = λ text more h. counted_bytes_again text more h; taken = λ bytes text rest fits h. counted_bytes_taken bytes text rest fits h }

-- lists

pub list_again : {X E : Type 0} (item : List ℕ → Read X E) (spell : X → List ℕ) (Fits : X → Type 0) → Codec item spell Fits
    → (xs : List X) (more : List ℕ) → AllByRecursion Fits xs → list_at item (length xs) (flat_map spell xs ++ more) ≡ Ok (xs, more)
unfolding list_at
list_again item spell Fits codec [] more all = refl
list_again item spell Fits codec (x ∷ xs) more all =
    let one : item (flat_map spell (x ∷ xs) ++ more) ≡ Ok (x, flat_map spell xs ++ more) =
    ap item (append_assoc (spell x) (flat_map spell xs) more) ∙ codec.again x (flat_map spell xs ++ more) all.0 in
    rw (one, list_again item spell Fits codec xs more all.1) refl

pub list_taken : {X E : Type 0} (item : List ℕ → Read X E) (spell : X → List ℕ) (Fits : X → Type 0) → Codec item spell Fits
    → (n : ℕ) (bytes : List ℕ) (xs : List X) (rest : List ℕ) → IsBytes bytes → list_at item n bytes ≡ Ok (xs, rest)
    → Takes bytes (flat_map spell xs) rest × AllByRecursion Fits xs × (length xs ≡ n)
unfolding list_at
list_taken {X} item spell Fits codec zero bytes xs rest fits h =
    let both = value_of (xs, rest) ([], bytes) (list_at item zero bytes) h refl in
    let none : xs ≡ [] = ap (λ p. p.0) both in
    let all : rest ≡ bytes = ap (λ p. p.1) both in
    rw (none, all) (record { joined = refl; rest = fits }, tt, refl)
list_taken {X} item spell Fits codec (suc n) bytes xs rest fits h =
    let first = bind_ok (item bytes) _ _ h in
    let x = first.0 in
    let others = bind_ok (list_at item n x.1) _ _ first.2 in
    let ys = others.0 in
    let both : (x.0 ∷ ys.0, ys.1) ≡ (xs, rest) = value_of (x.0 ∷ ys.0, ys.1) (xs, rest) _ refl others.2 in
    let one = codec.taken bytes x.0 x.1 fits first.1 in
    let more = list_taken item spell Fits codec n x.1 ys.0 ys.1 one.0.rest others.1 in
    let P : List X × List ℕ → Type 0 = λ p. Takes bytes (flat_map spell p.0) p.1 × AllByRecursion Fits p.0 × (length p.0 ≡ suc n) in
    subst P both (
      record { joined = one.0.joined ∙ ap (λ t. spell x.0 ++ t) more.0.joined ∙ sym (append_assoc (spell x.0) (flat_map spell ys.0) ys.1); rest = more.0.rest },
      (one.1, more.1),
      ap suc more.2,
    )
