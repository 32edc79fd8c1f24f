-- The text of a history has a line for each entry, and one more.
use Rattle.std.proofs.Common.{◌≡◌, ℕ, zero, suc, ◌+◌, ◌-◌, ◌/◌, ◌%◌, ◌≤◌, ◌==◌, nat_lt, Bool, true, false, not, cond, List, [], ◌∷◌, ◌++◌, length, reverse, slice_index, refl, sym, ◌∙◌, ap, arith}
use Rattle.std.specs.Prelude.{codes, if◌then◌else◌}
use Rattle.std.specs.Fmt.{decimal, digits, digits_onto, digit_glyph}
use Rattle.std.specs.List.{count_by, flat_map, list_all}
use Rattle.std.proofs.lemmas.Bool.{and_parts, eqb-true}
use Rattle.std.proofs.lemmas.List.Recursion.{is_count_by}
use Rattle.hex.specs.Hex.{encode_with, lower_digits}
use Rattle.cf_bytes.specs.Hash.{shown}
use Rattle.cf_scan.specs.declared.history.Entry.{Entry}
use Rattle.cf_scan.specs.HistoryText.{entry_line, last_line, history_text}

-- how many bytes of a text are LF
abbrev ends : List ℕ → ℕ
ends [] = 0
ends (b ∷ bs) = cond (b == 10) (1 + ends bs) (ends bs)

append_by : (t : Bool) (a b c : ℕ) → a ≡ b + c → cond t (1 + a) a ≡ cond t (1 + b) b + c
append_by true a b c e = omega (arith, e)
append_by false a b c e = e

append : (xs ys : List ℕ) → ends (xs ++ ys) ≡ ends xs + ends ys
append [] ys = omega arith
append (x ∷ xs) ys = append_by (x == 10) (ends (xs ++ ys)) (ends xs) (ends ys) (append xs ys)

over : (xs ys : List ℕ) → ends xs ≡ 0 → ends (xs ++ ys) ≡ ends ys
over xs ys none = (let both = append xs ys in omega (arith, both, none))

off : (t : Bool) → (t ≡ true → ⊥) → t ≡ false
off true never = absurd (never refl)
off false never = refl

skip : (b : ℕ) (bs : List ℕ) → (b == 10) ≡ false → ends (b ∷ bs) ≡ ends bs
skip b bs apart = ap (λ (t : Bool). cond t (1 + ends bs) (ends bs)) apart

-- ---- digits

far : (b : ℕ) → 11 ≤ b → (b == 10) ≡ false
far b big = off (b == 10) (λ is. let e = eqb-true b 10 is in absurd (omega (arith, big, e)))

glyph_by : (t : Bool) (d : ℕ) → 11 ≤ (if t then 48 + d else 87 + d)
glyph_by true d = omega arith
glyph_by false d = omega arith

either : (t : Bool) (xs ys : List ℕ) (n : ℕ) → ends xs ≡ n → ends ys ≡ n → ends (if t then xs else ys) ≡ n
either true xs ys n h k = h
either false xs ys n h k = k

digits_plain : (k n : ℕ) (acc : List ℕ) → ends (digits_onto k 10 false n acc) ≡ ends acc
digits_plain zero n acc = refl
digits_plain (suc k) n acc =
    let glyph : ℕ = digit_glyph false (n % 10) in
    let one : ends (glyph ∷ acc) ≡ ends acc = skip glyph acc (far glyph (glyph_by (nat_lt (n % 10) 10) (n % 10))) in
    either (n / 10 == 0) (glyph ∷ acc) (digits_onto k 10 false (n / 10) (glyph ∷ acc)) (ends acc) one (digits_plain k (n / 10) (glyph ∷ acc) ∙ one)

decimal_plain : (n : ℕ) → ends (decimal n) ≡ 0
unfolding digits
decimal_plain n = digits_plain 64 n []

isnt : (t : Bool) → not t ≡ true → t ≡ false
isnt true h = cc
isnt false h = refl

table_plain : (t : List ℕ) → list_all (λ b. not (b == 10)) t ≡ true → (i : ℕ) → (slice_index t i == 10) ≡ false
table_plain [] h i = refl
table_plain (x ∷ xs) h zero = isnt (x == 10) (and_parts (not (x == 10)) (list_all (λ b. not (b == 10)) xs) h).0
table_plain (x ∷ xs) h (suc i) = table_plain xs (and_parts (not (x == 10)) (list_all (λ b. not (b == 10)) xs) h).1 i

hex_plain : (bytes : List ℕ) → ends (encode_with lower_digits bytes) ≡ 0
unfolding encode_with
hex_plain [] = refl
hex_plain (b ∷ bytes) =
    let high : ℕ = slice_index lower_digits (b / 16) in
    let low : ℕ = slice_index lower_digits (b % 16) in
    skip high (low ∷ encode_with lower_digits bytes) (table_plain lower_digits refl (b / 16)) ∙ skip low (encode_with lower_digits bytes) (table_plain lower_digits refl (b % 16)) ∙ hex_plain bytes

-- ---- lines

entry_one : (e : Entry) → ends (entry_line e) ≡ 1
entry_one e =
    let after_spent : List ℕ = decimal e.balance ++ 10 ∷ [] in
    let after_received : List ℕ = decimal e.spent ++ (codes " " ++ after_spent) in
    let after_hash : List ℕ = decimal e.received ++ (codes " -" ++ after_received) in
    let after_height : List ℕ = shown e.txid.0 ++ (codes " +" ++ after_hash) in
    over (decimal e.height) (codes " " ++ after_height) (decimal_plain e.height) ∙ over (shown e.txid.0) (codes " +" ++ after_hash) (hex_plain (reverse e.txid.0))
    ∙ over (decimal e.received) (codes " -" ++ after_received) (decimal_plain e.received) ∙ over (decimal e.spent) (codes " " ++ after_spent) (decimal_plain e.spent)
    ∙ over (decimal e.balance) (10 ∷ []) (decimal_plain e.balance)

last_one : (height : ℕ) (tip : List ℕ) → ends (last_line height tip) ≡ 1
last_one height tip =
    let front : List ℕ = codes "synced " ++ decimal height in
    let one : ends (front ++ codes " ") ≡ 0 = over front (codes " ") (decimal_plain height) in
    let two : ends (front ++ codes " " ++ shown tip) ≡ 0 = over (front ++ codes " ") (shown tip) one ∙ hex_plain (reverse tip) in
    over (front ++ codes " " ++ shown tip) (10 ∷ []) two

all_ones : (entries : List Entry) → ends (flat_map entry_line entries) ≡ length entries
all_ones [] = refl
all_ones (e ∷ entries) = (let both = append (entry_line e) (flat_map entry_line entries) in omega (arith, both, entry_one e, all_ones entries))

-- one line for each entry, and one for the tip
pub lines_of_text : (text : List ℕ) (entries : List Entry) (height : ℕ) (tip : List ℕ) (n : ℕ) → text ≡ history_text entries height tip → n ≡ count_by (λ b. b == 10) text → n - 1 ≡ length entries
lines_of_text text entries height tip n is counted =
    let all = append (flat_map entry_line entries) (last_line height tip) in
    let this = sym (is_count_by ends (λ b. b == 10) refl (λ _ _. refl) text) ∙ ap ends is in
    omega (arith, counted, this, all, last_one height tip, all_ones entries)
