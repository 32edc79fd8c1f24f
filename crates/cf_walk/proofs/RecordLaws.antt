-- A record is read again from its bytes, whatever follows; and what is cut off is short.
use Rattle.std.proofs.Common.{◌≡◌, ℕ, ◌≤◌, ◌<◌, Bool, false, nat_lt, inl, inr, List, ◌++◌, length, refl, ◌∙◌, ap, arith, append_assoc, length-append, le-ltb, Ok, Err}
use Rattle.std.specs.Prelude.{if◌then◌else◌}
use Rattle.std.specs.Int.{w32, to_le_bytes}
use Rattle.std.proofs.lemmas.Bool.{cases_lt}
use Rattle.cf_bytes.specs.Cut.{bytes_at, number_at, ◌>>=◌}
use Rattle.cf_bytes.specs.declared.cut.CutFault.{CutFault}
use Rattle.cf_bytes.proofs.Codecs.{bind_is, bytes_again, u32_again}
use Rattle.cf_bytes.specs.Magic.{magic}
use Rattle.cf_walk.specs.declared.cause.RecordCause.TheVariants.{Cut, TooLong}
use Rattle.cf_walk.specs.Records.{record_with, max_record, cut_off, is_magic, is_short, magic_at, length_at, head_at, text_at, record_at}

magic_again : (more : List ℕ) → magic_at (magic ++ more) ≡ Ok (magic, more)
unfolding magic_at
magic_again more = ap (λ r. cut_off r >>= is_magic) (bytes_again 4 magic more refl)

length_again : (n : ℕ) (more : List ℕ) → n ≤ max_record → length_at (to_le_bytes w32 n ++ more) ≡ Ok (n, more)
unfolding length_at
length_again n more small =
    ap (λ r. cut_off r >>= is_short) (u32_again n more (omega (arith, small)))
    ∙ ap (λ (b : Bool). if b then Err TooLong else Ok (n, more)) (le-ltb max_record n small)

head_again : (n : ℕ) (more : List ℕ) → n ≤ max_record → head_at (magic ++ (to_le_bytes w32 n ++ more)) ≡ Ok (n, more)
unfolding head_at
head_again n more small =
    let long : nat_lt (length (magic ++ (to_le_bytes w32 n ++ more))) 8 ≡ false = le-ltb (length (magic ++ (to_le_bytes w32 n ++ more))) 8 (omega (arith, length-append (to_le_bytes w32 n) more)) in
    ap (λ (b : Bool). if b then Err Cut else magic_at (magic ++ (to_le_bytes w32 n ++ more)) >>= λ m. length_at m.1) long
    ∙ bind_is (magic_at (magic ++ (to_le_bytes w32 n ++ more))) (magic, to_le_bytes w32 n ++ more) (λ m. length_at m.1) (magic_again (to_le_bytes w32 n ++ more))
    ∙ length_again n more small

pub record_again : (text more : List ℕ) → length text ≤ max_record → record_at (record_with text ++ more) ≡ Ok (text, more)
unfolding record_at
record_again text more small =
    let regroup : record_with text ++ more ≡ magic ++ (to_le_bytes w32 (length text) ++ (text ++ more)) = ap (λ l. magic ++ l) (append_assoc (to_le_bytes w32 (length text)) text more) in
    ap (λ b. head_at b >>= λ n. text_at n.0 n.1) regroup
    ∙ bind_is (head_at (magic ++ (to_le_bytes w32 (length text) ++ (text ++ more)))) (length text, text ++ more) (λ n. text_at n.0 n.1) (head_again (length text) (text ++ more) small)
    ∙ ap cut_off (bytes_again (length text) text more refl)

-- bytes that aren't there
pub short_bytes : (n : ℕ) (bytes rest : List ℕ) (fault : CutFault) → bytes_at n bytes ≡ Err (fault, rest) → length bytes < n
short_bytes n bytes rest fault is = elim (cases_lt (length bytes) n) [
  | inl few ↦ few
  | inr many ↦ let whole : nat_lt (length bytes) n ≡ false = le-ltb (length bytes) n many in cc
]

pub short_number : (bytes rest : List ℕ) (fault : CutFault) → number_at w32 bytes ≡ Err (fault, rest) → length bytes < 4
short_number bytes rest fault is = elim (cases_lt (length bytes) 4) [
  | inl few ↦ few
  | inr many ↦ let whole : nat_lt (length bytes) 4 ≡ false = le-ltb (length bytes) 4 many in cc
]
