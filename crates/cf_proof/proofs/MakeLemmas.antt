-- Nodes by their children, and bits in bytes.
use Rattle.std.proofs.Common.{◌≡◌, ℕ, zero, suc, ◌+◌, ◌-◌, ◌*◌, ◌/◌, ◌%◌, ◌^◌, ◌<◌, ◌≤◌, Bool, true, false, List, [], ◌∷◌, ◌++◌, length, get_or, refl, sym, ◌∙◌, ap, subst, arith}
use Rattle.std.specs.Prelude.{◌==◌, replicate}
use Rattle.std.specs.Int.{bit_at}
use Rattle.std.proofs.lemmas.Bool.{ltb-true, ltb-false, eq-eqb, ne_eqb}
use Rattle.std.proofs.lemmas.List.{append_assoc, append-nil, map-append, length-map}
use Rattle.std.proofs.lemmas.Grind.{flat_map-append}
use Rattle.std.proofs.lemmas.Nat.Bits.{bit_at_cat_low, bit_at_cat_high, bit_at_above}
use Rattle.std.proofs.lemmas.Nat.{pow_below}
use Rattle.std.proofs.Math.Nat.{two-pow-succ, mod-eq_of_lt}
use Rattle.cf_bytes.specs.Hash.{hash_of}
use Rattle.cf_bytes.specs.declared.hash.Hash32.{Hash32}
use Rattle.cf_block.specs.declared.tx.Block.{Block}
use Rattle.cf_block.specs.Merkle.{next_level, txids}
use Rattle.cf_block.specs.Commitment.{spelled_txs, AreTxids}
use Rattle.cf_block.proofs.CommitLemmas.{ids_are, ids_length}
use Rattle.cf_block.specs.Views.{bytes_of}
use Rattle.cf_proof.specs.Tree.{height_of, is_there, level_at, node_at}
use Rattle.cf_proof.specs.Made.{joined_parts, one_child, parts_of, all_parts, AreFlagsOf, IsProofOf}
use Rattle.cf_proof.specs.Proof.{flags_of, flags_of_byte, proof_spelling}
use Rattle.cf_proof.specs.Steps.{low_bits}
use Rattle.cf_proof.proofs.Levels.{length_next}

pub twice : (p n : ℕ) → p * 2 ^ suc n ≡ 2 * p * 2 ^ n
twice p n = omega (arith, ap (λ x. p * x) (two-pow-succ n))

-- a place above a leaf is one of its level, and no other
pub level_there : (n p : ℕ) (l : List (List ℕ)) → p * 2 ^ n < length l → p < length (level_at n l)
unfolding level_at
level_there zero p l lt = omega arith
level_there (suc n) p l lt = let below : 2 * p < length (level_at n l) = level_there n (2 * p) l (omega (arith, twice p n)) in omega (arith, length_next (level_at n l))

pub level_over : (n p : ℕ) (l : List (List ℕ)) → length l ≤ p * 2 ^ n → length (level_at n l) ≤ p
unfolding level_at
level_over zero p l le = omega arith
level_over (suc n) p l le = let below : length (level_at n l) ≤ 2 * p = level_over n (2 * p) l (omega (arith, twice p n)) in omega (arith, length_next (level_at n l))

pub next_both : (l : List (List ℕ)) (p : ℕ) → 2 * p + 1 < length l → get_or (next_level l) p [] ≡ hash_of (get_or l (2 * p) [] ++ get_or l (2 * p + 1) [])
next_both [] p lt = absurd (omega arith)
next_both (a ∷ []) p lt = absurd (omega arith)
next_both (a ∷ b ∷ rest) zero lt = refl
next_both (a ∷ b ∷ rest) (suc p) lt =
    let left : 2 * suc p ≡ suc (suc (2 * p)) = omega arith in
    let right : 2 * suc p + 1 ≡ suc (suc (2 * p + 1)) = omega arith in
    next_both rest p (omega arith) ∙ (λ i. hash_of (get_or (a ∷ b ∷ rest) (sym left i) [] ++ get_or (a ∷ b ∷ rest) (sym right i) []))

pub next_left : (l : List (List ℕ)) (p : ℕ) → 2 * p < length l → length l ≤ 2 * p + 1 → get_or (next_level l) p [] ≡ hash_of (get_or l (2 * p) [] ++ get_or l (2 * p) [])
next_left [] p lt le = absurd (omega arith)
next_left (a ∷ []) zero lt le = refl
next_left (a ∷ []) (suc p) lt le = absurd (omega arith)
next_left (a ∷ b ∷ rest) zero lt le = absurd (omega arith)
next_left (a ∷ b ∷ rest) (suc p) lt le =
    let left : 2 * suc p ≡ suc (suc (2 * p)) = omega arith in
    next_left rest p (omega arith) (omega arith) ∙ (λ i. hash_of (get_or (a ∷ b ∷ rest) (sym left i) [] ++ get_or (a ∷ b ∷ rest) (sym left i) []))

pub at_suc : (h n p : ℕ) (l : List (List ℕ)) → h ≡ suc n → node_at h p l ≡ get_or (next_level (level_at n l)) p []
unfolding level_at
at_suc h n p l is = ap (λ k. get_or (level_at k l) p []) is

bytes_length : (leaves : List Hash32) → length (bytes_of leaves) ≡ length leaves
bytes_length leaves = length-map leaves (λ h. h.0)

pub leaf_node : (leaves : List Hash32) (h p : ℕ) (d : Hash32) → h ≡ 0 → p * 2 ^ h < length leaves → (get_or leaves p d).0 ≡ node_at h p (bytes_of leaves)
unfolding level_at
leaf_node leaves h p d is lt =
    let none : p * 2 ^ h ≡ p = ap (λ k. p * 2 ^ k) is ∙ omega arith in
    leaf leaves p (omega (arith, none)) ∙ ap (λ k. get_or (level_at k (bytes_of leaves)) p []) (sym is)
  where
    leaf : (leaves : List Hash32) (p : ℕ) → p < length leaves → (get_or leaves p d).0 ≡ get_or (bytes_of leaves) p []
    leaf [] p lt = absurd (omega arith)
    leaf (x ∷ leaves) zero lt = refl
    leaf (x ∷ leaves) (suc p) lt = leaf leaves p (omega arith)

pub node_both : (leaves : List Hash32) (h n p : ℕ) (x y z : List ℕ) → h ≡ suc n → is_there (length leaves) n (2 * p + 1) ≡ true → x ≡ node_at n (2 * p) (bytes_of leaves) → y ≡ node_at n (2 * p + 1) (bytes_of leaves)
    → z ≡ hash_of (x ++ y) → z ≡ node_at h p (bytes_of leaves)
node_both leaves h n p x y z is there x_is y_is z_is =
    let lt : (2 * p + 1) * 2 ^ n < length leaves = ltb-true ((2 * p + 1) * 2 ^ n) (length leaves) there in
    z_is ∙ (λ i. hash_of (x_is i ++ y_is i)) ∙ sym (at_suc h n p (bytes_of leaves) is ∙ next_both (level_at n (bytes_of leaves)) p (level_there n (2 * p + 1) (bytes_of leaves) (omega (arith, lt, bytes_length leaves))))

pub node_left : (leaves : List Hash32) (h n p : ℕ) (x z : List ℕ) → h ≡ suc n → p * 2 ^ h < length leaves → is_there (length leaves) n (2 * p + 1) ≡ false → x ≡ node_at n (2 * p) (bytes_of leaves)
    → z ≡ hash_of (x ++ x) → z ≡ node_at h p (bytes_of leaves)
node_left leaves h n p x z is lt there x_is z_is =
    let over : length leaves ≤ (2 * p + 1) * 2 ^ n = ltb-false ((2 * p + 1) * 2 ^ n) (length leaves) there in
    let under : p * 2 ^ suc n < length leaves = subst (λ k. p * 2 ^ k < length leaves) is lt in
    z_is ∙ (λ i. hash_of (x_is i ++ x_is i)) ∙ sym (at_suc h n p (bytes_of leaves) is ∙ next_left (level_at n (bytes_of leaves)) p
    (level_there n (2 * p) (bytes_of leaves) (omega (arith, twice p n, bytes_length leaves))) (level_over n (2 * p + 1) (bytes_of leaves) (omega (arith, over, bytes_length leaves))))

-- ---- the parts of a proof

pub parts_leaf : (l : List (List ℕ)) (leaf h p : ℕ) → h ≡ 0 → parts_of l leaf h p ≡ record { bits = (p == leaf) ∷ []; hashes = node_at h p l ∷ [] }
unfolding parts_of
parts_leaf l leaf h p is = rw is refl

pub parts_off : (l : List (List ℕ)) (leaf h n p : ℕ) → h ≡ suc n → (leaf / 2 ^ h ≡ p → ⊥) → parts_of l leaf h p ≡ record { bits = false ∷ []; hashes = node_at h p l ∷ [] }
unfolding parts_of
parts_off l leaf h n p is off =
    let test : (leaf / 2 ^ suc n == p) ≡ false = ne_eqb (leaf / 2 ^ suc n) p (λ e. off (ap (λ k. leaf / 2 ^ k) is ∙ e)) in
    rw (is, test) refl

pub parts_both : (l : List (List ℕ)) (leaf h n p : ℕ) → h ≡ suc n → leaf / 2 ^ h ≡ p → is_there (length l) n (2 * p + 1) ≡ true → parts_of l leaf h p ≡ joined_parts (parts_of l leaf n (2 * p)) (parts_of l leaf n (2 * p + 1))
unfolding parts_of
parts_both l leaf h n p is on there =
    let test : (leaf / 2 ^ suc n == p) ≡ true = eq-eqb (leaf / 2 ^ suc n) p (ap (λ k. leaf / 2 ^ k) (sym is) ∙ on) in
    rw (is, test, there) refl

pub parts_one : (l : List (List ℕ)) (leaf h n p : ℕ) → h ≡ suc n → leaf / 2 ^ h ≡ p → is_there (length l) n (2 * p + 1) ≡ false → parts_of l leaf h p ≡ one_child (parts_of l leaf n (2 * p))
unfolding parts_of
parts_one l leaf h n p is on there =
    let test : (leaf / 2 ^ suc n == p) ≡ true = eq-eqb (leaf / 2 ^ suc n) p (ap (λ k. leaf / 2 ^ k) (sym is) ∙ on) in
    rw (is, test, there) refl

pub one_hash : (old new : List Hash32) (h : Hash32) (x : List ℕ) → new ≡ old ++ h ∷ [] → h.0 ≡ x → bytes_of new ≡ bytes_of old ++ x ∷ []
one_hash old new h x now is = ap bytes_of now ∙ map-append (λ (k : Hash32). k.0) old (h ∷ []) ∙ ap (λ y. bytes_of old ++ y ∷ []) is

pub then_two : {X : Type 0} (old one two : List X) (a b : List X) → one ≡ old ++ a → two ≡ one ++ b → two ≡ old ++ (a ++ b)
then_two old one two a b first second = second ∙ ap (λ s. s ++ b) first ∙ append_assoc old a b

pub two_more : {X : Type 0} (old zero_ one two : List X) (x a b : List X) → zero_ ≡ old ++ x → one ≡ zero_ ++ a → two ≡ one ++ b → two ≡ old ++ (x ++ (a ++ b))
two_more old zero_ one two x a b start first second = then_two old zero_ two x (a ++ b) start (then_two zero_ one two a b first second)

pub is_there_of : (leaves : List Hash32) (n p : ℕ) (b : Bool) → is_there (length leaves) n p ≡ b → is_there (length (bytes_of leaves)) n p ≡ b
is_there_of leaves n p b h = ap (λ k. is_there k n p) (bytes_length leaves) ∙ h

pub one_shl_8 : (n : ℕ) → n < 8 → 1 * 2 ^ n % 256 ≡ 2 ^ n
one_shl_8 n lt = let fits : 1 * 2 ^ n < 256 = omega (arith, pow_below n 8 lt) in mod-eq_of_lt fits ∙ omega arith

-- ---- bits in bytes

low_bits_low : (j n a b : ℕ) → j ≤ n → low_bits j (a * 2 ^ n + b) ≡ low_bits j b
unfolding low_bits
low_bits_low zero n a b le = refl
low_bits_low (suc j) n a b le = λ i. low_bits_low j n a b (omega arith) i ++ (bit_at_cat_low a n b j (omega arith) i == 1) ∷ []

pub with_one : (n b : ℕ) → b < 2 ^ n → low_bits (n + 1) (b + 2 ^ n) ≡ low_bits n b ++ true ∷ []
unfolding low_bits
with_one n b lt =
    let next : n + 1 ≡ suc n = omega arith in
    let turned : b + 2 ^ n ≡ 1 * 2 ^ n + b = omega arith in
    let none : n - n ≡ 0 = omega arith in
    let top : bit_at (1 * 2 ^ n + b) n ≡ 1 = bit_at_cat_high 1 n b n lt (omega arith) ∙ ap (bit_at 1) none in
    (λ i. low_bits (next i) (turned i)) ∙ (λ i. low_bits_low n n 1 b (omega arith) i ++ (top i == 1) ∷ [])

pub with_none : (n b : ℕ) → b < 2 ^ n → low_bits (n + 1) b ≡ low_bits n b ++ false ∷ []
unfolding low_bits
with_none n b lt =
    let next : n + 1 ≡ suc n = omega arith in
    ap (λ k. low_bits k b) next ∙ (λ i. low_bits n b ++ (bit_at_above b n n lt (omega arith) i == 1) ∷ [])

whole_byte : (b : ℕ) → low_bits 8 b ≡ flags_of_byte b
unfolding low_bits
whole_byte b = refl

flags_push : (bytes : List ℕ) (b : ℕ) → flags_of (bytes ++ b ∷ []) ≡ flags_of bytes ++ flags_of_byte b
flags_push bytes b = flat_map-append flags_of_byte bytes (b ∷ [])

pub byte_full : (old new : List ℕ) (n b more : ℕ) (bit : Bool) → n ≡ 7 → new ≡ old ++ more ∷ [] → low_bits (n + 1) more ≡ low_bits n b ++ bit ∷ [] → flags_of new ++ low_bits 0 0 ≡ (flags_of old ++ low_bits n b) ++ bit ∷ []
unfolding low_bits
byte_full old new n b more bit is now bits =
    let eight : n + 1 ≡ 8 = omega arith in
    append-nil (flags_of new) ∙ ap flags_of now ∙ flags_push old more ∙ ap (λ s. flags_of old ++ s) (sym (whole_byte more) ∙ ap (λ k. low_bits k more) (sym eight) ∙ bits) ∙ sym (append_assoc (flags_of old) (low_bits n b) (bit ∷ []))

zeros_above : (k n b : ℕ) → b < 2 ^ n → low_bits (n + k) b ≡ low_bits n b ++ replicate k false
unfolding low_bits
zeros_above zero n b lt = let none : n + 0 ≡ n = omega arith in ap (λ j. low_bits j b) none ∙ sym (append-nil (low_bits n b))
zeros_above (suc k) n b lt =
    let next : n + suc k ≡ suc (n + k) = omega arith in
    ap (λ j. low_bits j b) next ∙ (λ i. zeros_above k n b lt i ++ (bit_at_above b n (n + k) lt (omega arith) i == 1) ∷ [])
    ∙ append_assoc (low_bits n b) (replicate k false) (false ∷ []) ∙ ap (λ s. low_bits n b ++ s) (sym (replicate_end k))
  where
    replicate_end : (k : ℕ) → replicate (suc k) false ≡ replicate k false ++ false ∷ []
    replicate_end zero = refl
    replicate_end (suc k) = ap (λ s. false ∷ s) (replicate_end k)

pub flags_whole : (bits : List Bool) (bytes : List ℕ) (n b : ℕ) → flags_of bytes ++ low_bits n b ≡ bits → n ≡ 0 → AreFlagsOf bits bytes
unfolding low_bits
flags_whole bits bytes n b is none = record {
  zeros = 0;
  few = omega arith;
  same = sym (append-nil (flags_of bytes)) ∙ ap (λ k. flags_of bytes ++ low_bits k b) (sym none) ∙ is ∙ sym (append-nil bits);
}

pub flags_part : (bits : List Bool) (bytes new : List ℕ) (n b : ℕ) → flags_of bytes ++ low_bits n b ≡ bits → 0 < n → n < 8 → b < 2 ^ n → new ≡ bytes ++ b ∷ [] → AreFlagsOf bits new
flags_part bits bytes new n b is some few small now =
    let eight : n + (8 - n) ≡ 8 = omega arith in
    record {
      zeros = 8 - n;
      few = omega arith;
      same = ap flags_of now ∙ flags_push bytes b ∙ ap (λ s. flags_of bytes ++ s) (sym (whole_byte b) ∙ ap (λ k. low_bits k b) (sym eight) ∙ zeros_above (8 - n) n b small)
          ∙ sym (append_assoc (flags_of bytes) (low_bits n b) (replicate (8 - n) false)) ∙ ap (λ s. s ++ replicate (8 - n) false) is;
    }

-- the proof of a transaction
pub made : (b : Block) (place : ℕ) (ids slice : List Hash32) (total height : ℕ) (no_hashes hashes : List Hash32) (no_bits bits : List Bool) (flags : List ℕ) (nothing out : List ℕ)
    → AreTxids ids b.txs → slice ≡ ids → total ≡ length ids → height ≡ height_of total → no_hashes ≡ [] → bytes_of hashes ≡ bytes_of no_hashes ++ (parts_of (bytes_of slice) place height 0).hashes
    → no_bits ≡ [] → bits ≡ no_bits ++ (parts_of (bytes_of slice) place height 0).bits → AreFlagsOf bits flags
    → nothing ≡ [] → out ≡ nothing ++ proof_spelling (record { header = b.header; total = total; hashes = hashes; flags = flags }) → IsProofOf b place out
made b place ids slice total height no_hashes hashes no_bits bits flags nothing out are slice_is total_is height_is hashes_0 hashes_are bits_0 bits_are flags_are nothing_is out_is =
    let leaves : bytes_of slice ≡ txids (spelled_txs b) = ap bytes_of slice_is ∙ ids_are ids b.txs are in
    let high : height ≡ height_of (length (txids (spelled_txs b))) = height_is ∙ ap height_of (total_is ∙ sym (bytes_length ids) ∙ ap length (ids_are ids b.txs are)) in
    let parts : parts_of (bytes_of slice) place height 0 ≡ all_parts b place = λ i. parts_of (leaves i) place (high i) 0 in
    let bits_is : bits ≡ (all_parts b place).bits = bits_are ∙ (λ i. bits_0 i ++ (parts i).bits) in
    record {
      proof = record { header = b.header; total = total; hashes = hashes; flags = flags };
      header = refl;
      total = total_is ∙ ids_length ids b.txs are;
      hashes = hashes_are ∙ (λ i. bytes_of (hashes_0 i) ++ (parts i).hashes);
      flags = subst (λ s. AreFlagsOf s flags) bits_is flags_are;
      spelled = out_is ∙ ap (λ s. s ++ proof_spelling (record { header = b.header; total = total; hashes = hashes; flags = flags })) nothing_is;
    }
