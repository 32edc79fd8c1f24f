-- Steps of the walk.
use Rattle.std.proofs.Common.{◌≡◌, ℕ, zero, suc, ◌+◌, ◌-◌, ◌*◌, ◌<◌, ◌≤◌, Bool, true, false, List, [], ◌∷◌, ◌++◌, length, take, drop, get_or, Some, None, refl, sym, ◌∙◌, ap, arith}
use Rattle.std.specs.Prelude.{◌||◌, nat_eq}
use Rattle.std.specs.Cmp.Lexicographic.{pointwise}
use Rattle.std.proofs.lemmas.List.{take_more, take_all}
use Rattle.std.proofs.lemmas.List.Folds.{list_any-append}
use Rattle.std.proofs.lemmas.Grind.{flat_map-append}
use Rattle.cf_bytes.specs.Hash.{hash_of}
use Rattle.cf_proof.specs.Tree.{is_there}
use Rattle.cf_proof.specs.Walk.{with_hash, with_both, with_left, walk}
use Rattle.cf_proof.specs.Proof.{flags_of, flags_of_byte}
use Rattle.cf_proof.specs.Steps.{IsNodeOf}

pub flags_more : (bytes : List ℕ) (i : ℕ) (old new : List Bool) → i < length bytes → old ≡ flags_of (take i bytes) → new ≡ old ++ flags_of_byte (get_or bytes i 0) → new ≡ flags_of (take (i + 1) bytes)
flags_more bytes i old new lt so_far now =
    now ∙ ap (λ s. s ++ flags_of_byte (get_or bytes i 0)) so_far
    ∙ sym (ap flags_of (take_more bytes i 0 lt) ∙ flat_map-append flags_of_byte (take i bytes) (get_or bytes i 0 ∷ []))

pub front_is : (bits : List Bool) (d : Bool) → 1 ≤ length bits → get_or bits 0 d ≡ true → bits ≡ true ∷ take (length bits - 1) (drop 1 bits)
front_is [] d some is = absurd (omega arith)
front_is (b ∷ bits) d some is = λ i. is i ∷ sym (take_all (suc (length bits) - 1) bits (omega arith)) i

pub length_flags : (bytes : List ℕ) → length (flags_of bytes) ≡ 8 * length bytes
length_flags [] = refl
length_flags (b ∷ bs) = omega (arith, length_flags bs)

pub no_bit : (total height place : ℕ) (hashes : List (List ℕ)) → walk total height place [] hashes ≡ None
unfolding walk
no_bit total zero place hashes = refl
no_bit total (suc n) place hashes = refl

pub not_above : (total height place : ℕ) (bits : List Bool) (hashes : List (List ℕ)) → walk total height place (false ∷ bits) hashes ≡ with_hash false bits hashes
unfolding walk
not_above total zero place bits hashes = refl
not_above total (suc n) place bits hashes = refl

pub one_child : (txid : List ℕ) (total height n place : ℕ) (bits : List Bool) (hashes : List (List ℕ)) (hash : List ℕ) (twins found : Bool) (left_bits : List Bool) (left_hashes : List (List ℕ)) (hash' : List ℕ) (twins' found' : Bool) (bits' : List Bool) (hashes' : List (List ℕ))
    → height ≡ suc n → IsNodeOf txid (walk total n (2 * place) bits hashes) hash twins found left_bits left_hashes → is_there total n (2 * place + 1) ≡ false
    → hash' ≡ hash_of (hash ++ hash) → twins' ≡ twins → found' ≡ found → bits' ≡ left_bits → hashes' ≡ left_hashes
    → IsNodeOf txid (walk total height place (true ∷ bits) hashes) hash' twins' found' bits' hashes'
unfolding walk with_left
one_child txid total height n place bits hashes hash twins found left_bits left_hashes hash' twins' found' bits' hashes' is left there h t f b hs = record {
  walked = with_left left.walked;
  is = rw (is, left.is, there) refl;
  hash_is = h ∙ (λ i. hash_of (left.hash_is i ++ left.hash_is i));
  twins_are = t ∙ left.twins_are;
  found_is = f ∙ left.found_is;
  bits_are = b ∙ left.bits_are;
  hashes_are = hs ∙ left.hashes_are;
}

pub two_children : (txid : List ℕ) (total height n place : ℕ) (bits : List Bool) (hashes : List (List ℕ)) (hash : List ℕ) (twins found : Bool) (left_bits : List Bool) (left_hashes : List (List ℕ))
    (hash2 : List ℕ) (twins2 found2 : Bool) (right_bits : List Bool) (right_hashes : List (List ℕ)) (hash' : List ℕ) (twins' found' : Bool) (bits' : List Bool) (hashes' : List (List ℕ))
    → height ≡ suc n → IsNodeOf txid (walk total n (2 * place) bits hashes) hash twins found left_bits left_hashes → is_there total n (2 * place + 1) ≡ true
    → IsNodeOf txid (walk total n (2 * place + 1) left_bits left_hashes) hash2 twins2 found2 right_bits right_hashes
    → hash' ≡ hash_of (hash ++ hash2) → twins' ≡ (pointwise nat_eq hash hash2 || (twins || twins2)) → found' ≡ (found || found2) → bits' ≡ right_bits → hashes' ≡ right_hashes
    → IsNodeOf txid (walk total height place (true ∷ bits) hashes) hash' twins' found' bits' hashes'
unfolding walk with_both
two_children txid total height n place bits hashes hash twins found left_bits left_hashes hash2 twins2 found2 right_bits right_hashes hash' twins' found' bits' hashes' is left there right h t f b hs =
    let right_is : walk total n (2 * place + 1) left.walked.bits left.walked.hashes ≡ Some right.walked = (λ i. walk total n (2 * place + 1) (sym left.bits_are i) (sym left.hashes_are i)) ∙ right.is in
    record {
      walked = with_both left.walked right.walked;
      is = rw (is, left.is, there, right_is) refl;
      hash_is = h ∙ (λ i. hash_of (left.hash_is i ++ right.hash_is i));
      twins_are = t ∙ (λ i. pointwise nat_eq (left.hash_is i) (right.hash_is i) || (left.twins_are i || right.twins_are i));
      found_is = f ∙ (λ i. left.found_is i || right.found_is i) ∙ sym (list_any-append (pointwise nat_eq txid) left.walked.matched right.walked.matched);
      bits_are = b ∙ right.bits_are;
      hashes_are = hs ∙ right.hashes_are;
    }
