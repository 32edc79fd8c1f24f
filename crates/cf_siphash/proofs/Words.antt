-- Bytes cut in words.
use Rattle.std.proofs.Common.{◌≡◌, ℕ, suc, ◌+◌, ◌*◌, ◌/◌, ◌<◌, List, [], ◌∷◌, ◌++◌, length, take, drop, refl, sym, ap, ◌∙◌, arith}
use Rattle.std.proofs.lemmas.List.{drop-drop}
use Rattle.std.specs.Int.{w64, from_le_bytes}
use Rattle.std.specs.List.{fold}
use Rattle.cf_siphash.specs.declared.State.{State}
use Rattle.cf_siphash.specs.SipHash.{start, absorb, finish, words_of, last_word, all_words, sip24_of}

words_step : (rest : List ℕ) (n : ℕ) → length rest ≡ n + 8 → words_of (length rest / 8) rest ≡ from_le_bytes w64 (take 8 rest) ∷ words_of (n / 8) (drop 8 rest)
unfolding words_of
words_step rest n e =
    let k : length rest / 8 ≡ suc (n / 8) = omega (arith, e) in
    rw k refl

left_step : (rest : List ℕ) (n : ℕ) → length rest ≡ n + 8 → drop (length rest / 8 * 8) rest ≡ drop (n / 8 * 8) (drop 8 rest)
left_step rest n e =
    let k : length rest / 8 * 8 ≡ 8 + n / 8 * 8 = omega (arith, e) in
    ap (λ m. drop m rest) k ∙ sym (drop-drop (n / 8 * 8) 8 rest)

-- a word goes in
pub word_in : (whole s after : State) (rest word more : List ℕ) (value : ℕ) → word ≡ take 8 rest → more ≡ drop 8 rest → length more + 8 ≡ length rest
    → value ≡ from_le_bytes w64 word → after ≡ absorb s value → whole ≡ fold absorb s (words_of (length rest / 8) rest) → whole ≡ fold absorb after (words_of (length more / 8) more)
word_in whole s after rest word more value w m len v a so_far =
    let first : value ≡ from_le_bytes w64 (take 8 rest) = v ∙ ap (from_le_bytes w64) w in
    let one = words_step rest (length more) (sym len) in
    so_far
    ∙ ap (fold absorb s) one
    ∙ ap (λ bs. fold absorb (absorb s (from_le_bytes w64 (take 8 rest))) (words_of (length more / 8) bs)) (sym m)
    ∙ ap (λ t. fold absorb t (words_of (length more / 8) more)) (sym (a ∙ ap (absorb s) first))

pub left_in : (bytes rest more : List ℕ) → more ≡ drop 8 rest → length more + 8 ≡ length rest → drop (length bytes / 8 * 8) bytes ≡ drop (length rest / 8 * 8) rest
    → drop (length bytes / 8 * 8) bytes ≡ drop (length more / 8 * 8) more
left_in bytes rest more m len so_far =
    so_far ∙ left_step rest (length more) (sym len) ∙ ap (drop (length more / 8 * 8)) (sym m)

no_words : (rest : List ℕ) → length rest < 8 → words_of (length rest / 8) rest ≡ []
unfolding words_of
no_words rest few =
    let k : length rest / 8 ≡ 0 = omega (arith, few) in
    rw k refl

all_left : (rest : List ℕ) → length rest < 8 → drop (length rest / 8 * 8) rest ≡ rest
all_left rest few =
    let k : length rest / 8 * 8 ≡ 0 = omega (arith, few) in
    rw k refl

fold_last : {X Y : Type 0} (f : Y → X → Y) (s : Y) (xs : List X) (x : X) → fold f s (xs ++ x ∷ []) ≡ f (fold f s xs) x
fold_last f s [] x = refl
fold_last f s (y ∷ xs) x = fold_last f (f s y) xs x

-- the last word goes in
pub last_in : (k0 k1 : ℕ) (bytes rest : List ℕ) (s : State) → length rest < 8
    → fold absorb (start k0 k1) (words_of (length bytes / 8) bytes) ≡ fold absorb s (words_of (length rest / 8) rest)
    → drop (length bytes / 8 * 8) bytes ≡ drop (length rest / 8 * 8) rest
    → sip24_of k0 k1 bytes ≡ finish (absorb s (last_word (length bytes) rest))
unfolding sip24_of all_words
last_in k0 k1 bytes rest s few words left =
    let state : fold absorb (start k0 k1) (words_of (length bytes / 8) bytes) ≡ s = words ∙ ap (fold absorb s) (no_words rest few) in
    let tail : drop (length bytes / 8 * 8) bytes ≡ rest = left ∙ all_left rest few in
    ap finish (
    fold_last absorb (start k0 k1) (words_of (length bytes / 8) bytes) (last_word (length bytes) (drop (length bytes / 8 * 8) bytes))
    ∙ ap (λ t. absorb t (last_word (length bytes) (drop (length bytes / 8 * 8) bytes))) state
    ∙ ap (λ bs. absorb s (last_word (length bytes) bs)) tail
    )
