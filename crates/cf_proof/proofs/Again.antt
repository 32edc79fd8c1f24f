-- A proof that was made is read again, and passes.
use Rattle.std.proofs.Common.{◌≡◌, ℕ, zero, suc, ◌+◌, ◌*◌, ◌/◌, ◌^◌, ◌<◌, ◌≤◌, Bool, true, false, List, [], ◌∷◌, ◌++◌, length, map, get_or, Option, Some, None, Result, Ok, Err, inl, inr, refl, sym, ◌∙◌, ap, subst, arith}
use Rattle.std.specs.Prelude.{◌≢◌, ◌==◌, ◌||◌, nat_eq, nat_lt, nat_le, not, if◌then◌else◌, replicate}
use Rattle.std.specs.Int.{w32, to_le_bytes, cast_unsigned}
use Rattle.std.specs.List.{flat_map, AllByRecursion}
use Rattle.std.specs.Cmp.Lexicographic.{pointwise, nat_list_eq_equiv}
use Rattle.std.proofs.lemmas.Bool.{or_from, le-ltb, lt-leb, ne_eqb, leb-true, ltb-true, cases_lt}
use Rattle.std.proofs.lemmas.List.{append_assoc, append-nil, length-append, length-map, length-replicate}
use Rattle.std.proofs.lemmas.Nat.{pow_pos, pow_below}
use Rattle.std.proofs.Math.Nat.{div-lt_iff_lt-mul}
use Rattle.cf_bytes.specs.Cut.{number_at}
use Rattle.cf_bytes.specs.Compact.{compact, compact_at}
use Rattle.cf_bytes.specs.Lists.{list_at, counted_bytes, counted_bytes_at}
use Rattle.cf_bytes.specs.Hash.{hash_of}
use Rattle.cf_bytes.proofs.Codecs.{value_of, u32_again, counted_bytes_again}
use Rattle.cf_bytes.proofs.CompactLemmas.{compact_at-compact}
use Rattle.cf_bytes.specs.declared.hash.Hash32.{Hash32}
use Rattle.cf_bytes.specs.declared.memory.Refused.{Refused}
use Rattle.cf_bytes.specs.declared.memory.Refused.TheVariants.{No, NoMemory}
use Rattle.cf_block.specs.declared.tx.Tx.{Tx}
use Rattle.cf_block.specs.declared.tx.Block.{Block}
use Rattle.cf_block.specs.Header.{IsHash, IsHeader, header_spelling, block_hash_of}
use Rattle.cf_block.specs.Tx.{tx_spelling}
use Rattle.cf_block.specs.Views.{bytes_of}
use Rattle.cf_block.specs.Merkle.{next_level, txids, Among, None64}
use Rattle.cf_block.specs.Commitment.{spelled_txs, IsCommitted}
use Rattle.cf_block.specs.declared.header.Header.{Header}
use Rattle.cf_block.proofs.HeaderLaws.{hash_again, header_again}
use Rattle.cf_block.proofs.Sizes.{one_byte, three_bytes}
use Rattle.cf_proof.specs.declared.fault.ProofFault.{ProofFault}
use Rattle.cf_proof.specs.declared.fault.ProofFault.TheVariants.{Total, Hashes, Tx64, Bits, Same, Left, Root, Absent}
use Rattle.cf_proof.specs.declared.proof.Proof.{Proof}
use Rattle.cf_proof.specs.Tree.{height_within, height_of, is_there, level_at, node_at}
use Rattle.cf_proof.specs.Walk.{walk}
use Rattle.cf_proof.specs.Proof.{field_at, or_short, header_field_at, hash_field_at, fields_at, proof_at, proof_spelling}
use Rattle.cf_proof.specs.Checks.{Passes, Answers, fault_of, walk_of, walk_fault, root_fault, parts_fault, has}
use Rattle.cf_proof.specs.Holds.{AnswersHeader}
use Rattle.cf_proof.specs.Made.{Parts, joined_parts, one_child, parts_of, AreFlagsOf, IsProofOf}
use Rattle.cf_proof.proofs.Levels.{root_is, two_below, level_shift, length_next}
use Rattle.cf_proof.proofs.Sound.{Are32, node_32}
use Rattle.cf_proof.proofs.WalkLemmas.{length_flags}
use Rattle.cf_proof.proofs.MakeLemmas.{level_there, level_over, twice}
use Rattle.cf_proof.proofs.Complete.{made_walk, parts_few}

-- ---- reading

hashes_again : (hs : List Hash32) (more : List ℕ) → AllByRecursion IsHash hs → list_at hash_field_at (length hs) (flat_map (λ h. h.0) hs ++ more) ≡ Ok (hs, more)
unfolding list_at
hashes_again [] more all = refl
hashes_again (h ∷ hs) more all =
    let one : hash_field_at (flat_map (λ h. h.0) (h ∷ hs) ++ more) ≡ Ok (h, flat_map (λ h. h.0) hs ++ more) =
    ap hash_field_at (append_assoc h.0 (flat_map (λ h. h.0) hs) more) ∙ ap field_at (hash_again h (flat_map (λ h. h.0) hs ++ more) all.0) in
    rw (one, hashes_again hs more all.1) refl

pub proof_again : (p : Proof) → IsHeader p.header → p.total < 2 ^ 32 → length p.hashes ≤ 33554432 → AllByRecursion IsHash p.hashes → length p.flags ≤ 33554432 → proof_at (proof_spelling p) ≡ Ok p
unfolding proof_at fields_at proof_spelling
proof_again p header total count hashes flags =
    let e5 : field_at (counted_bytes_at (counted_bytes p.flags)) ≡ Ok (p.flags, []) = ap field_at (ap counted_bytes_at (sym (append-nil (counted_bytes p.flags))) ∙ counted_bytes_again p.flags [] flags) in
    let e4 : list_at hash_field_at (length p.hashes) (flat_map (λ h. h.0) p.hashes ++ counted_bytes p.flags) ≡ Ok (p.hashes, counted_bytes p.flags) = hashes_again p.hashes (counted_bytes p.flags) hashes in
    let e3 : field_at (compact_at (compact (length p.hashes) ++ (flat_map (λ h. h.0) p.hashes ++ counted_bytes p.flags))) ≡ Ok (length p.hashes, flat_map (λ h. h.0) p.hashes ++ counted_bytes p.flags) =
    ap field_at (compact_at-compact (length p.hashes) (flat_map (λ h. h.0) p.hashes ++ counted_bytes p.flags) count) in
    let e2 : field_at (number_at w32 (to_le_bytes w32 p.total ++ (compact (length p.hashes) ++ (flat_map (λ h. h.0) p.hashes ++ counted_bytes p.flags)))) ≡ Ok (p.total, compact (length p.hashes) ++ (flat_map (λ h. h.0) p.hashes ++ counted_bytes p.flags)) =
    ap field_at (u32_again p.total (compact (length p.hashes) ++ (flat_map (λ h. h.0) p.hashes ++ counted_bytes p.flags)) total) in
    let e1 : header_field_at (header_spelling p.header ++ (to_le_bytes w32 p.total ++ (compact (length p.hashes) ++ (flat_map (λ h. h.0) p.hashes ++ counted_bytes p.flags)))) ≡ Ok (p.header, to_le_bytes w32 p.total ++ (compact (length p.hashes) ++ (flat_map (λ h. h.0) p.hashes ++ counted_bytes p.flags))) =
    ap or_short (header_again p.header (to_le_bytes w32 p.total ++ (compact (length p.hashes) ++ (flat_map (λ h. h.0) p.hashes ++ counted_bytes p.flags))) header) in
    rw (e1, e2, e3, e4, e5) refl

hashes_fit : (hs : List Hash32) → Are32 (bytes_of hs) → AllByRecursion IsHash hs
unfolding Are32
hashes_fit [] are = tt
hashes_fit (h ∷ hs) are = (are.0, hashes_fit hs are.1)

joined_32 : (xs ys : List (List ℕ)) → Are32 xs → Are32 ys → Are32 (xs ++ ys)
unfolding Are32
joined_32 [] ys x y = y
joined_32 (a ∷ xs) ys x y = (x.0, joined_32 xs ys x.1 y)

parts_32 : (spelled : List (List ℕ)) (leaf n p : ℕ) → p * 2 ^ n < length (txids spelled) → Are32 (parts_of (txids spelled) leaf n p).hashes
unfolding parts_of Are32
parts_32 spelled leaf zero p lt = (node_32 spelled zero p (level_there zero p (txids spelled) lt), tt)
parts_32 spelled leaf (suc n) p lt = at (leaf / 2 ^ suc n == p) (is_there (length (txids spelled)) n (2 * p + 1)) refl (parts_32 spelled leaf n (2 * p) (omega (arith, twice p n)))
    (λ there. parts_32 spelled leaf n (2 * p + 1) (ltb-true ((2 * p + 1) * 2 ^ n) (length (txids spelled)) there))
  where
    at : (t there : Bool) → is_there (length (txids spelled)) n (2 * p + 1) ≡ there → Are32 (parts_of (txids spelled) leaf n (2 * p)).hashes → (is_there (length (txids spelled)) n (2 * p + 1) ≡ true → Are32 (parts_of (txids spelled) leaf n (2 * p + 1)).hashes)
        → Are32 (if t then (if there then joined_parts (parts_of (txids spelled) leaf n (2 * p)) (parts_of (txids spelled) leaf n (2 * p + 1)) else one_child (parts_of (txids spelled) leaf n (2 * p))) else record { bits = false ∷ []; hashes = node_at (suc n) p (txids spelled) ∷ [] }).hashes
    at false there is left right = (node_32 spelled (suc n) p (level_there (suc n) p (txids spelled) lt), tt)
    at true false is left right = left
    at true true is left right = joined_32 (parts_of (txids spelled) leaf n (2 * p)).hashes (parts_of (txids spelled) leaf n (2 * p + 1)).hashes left (right is)

-- ---- the root's height

top_one : (most : ℕ) (l : List (List ℕ)) → length l ≤ suc most → length (level_at (height_within most (length l)) l) ≤ 1
unfolding height_within level_at
top_one zero l few = few
top_one (suc most) l few = at (nat_le (length l) 1) refl (top_one most (next_level l))
  where
    at : (b : Bool) → nat_le (length l) 1 ≡ b → (length (next_level l) ≤ suc most → length (level_at (height_within most (length (next_level l))) (next_level l)) ≤ 1)
        → length (level_at (if b then zero else suc (height_within most ((length l + 1) / 2))) l) ≤ 1
    at true is below = leb-true (length l) 1 is
    at false is below =
        subst (λ s. length s ≤ 1) (level_shift (height_within most ((length l + 1) / 2)) l)
        (subst (λ k. length (level_at (height_within most k) (next_level l)) ≤ 1) (length_next l) (below (omega (arith, length_next l))))

-- all leaves stand below the root
root_wide : (l : List (List ℕ)) → length l ≤ 2 ^ height_of (length l)
root_wide l = elim (cases_lt (2 ^ height_of (length l)) (length l)) [
  | inl lt ↦ absurd (omega (arith, level_there (height_of (length l)) 1 l (omega arith), top_one (length l) l (omega arith)))
  | inr le ↦ le
]

root_low : (l : List (List ℕ)) → length l ≤ 16666 → height_of (length l) ≤ 15
root_low l few = elim (cases_lt 15 (height_of (length l))) [
  | inl high ↦ absurd (omega (arith, two_below 15 (length l) l high, level_over 15 1 l (omega arith)))
  | inr low ↦ low
]

pow_low : (n : ℕ) → n ≤ 15 → 2 ^ suc n ≤ 65536
pow_low n le = elim (cases_lt n 15) [ inl less ↦ (let lt : 2 ^ suc n < 2 ^ 16 = pow_below (suc n) 16 (omega arith) in omega arith) | inr more ↦ (let same : n ≡ 15 = omega arith in rw same (omega arith)) ]

-- ---- the transaction

get_id : (txs : List Tx) (place : ℕ) (t : Tx) → place < length txs → t ≡ get_or txs place t → get_or (txids (map tx_spelling txs)) place [] ≡ hash_of (tx_spelling t)
get_id [] place t lt is = absurd (omega arith)
get_id (x ∷ txs) zero t lt is = ap (λ y. hash_of (tx_spelling y)) (sym is)
get_id (x ∷ txs) (suc place) t lt is = get_id txs place t (omega arith) is

not_64 : (txs : List Tx) (place : ℕ) (t : Tx) → None64 (map tx_spelling txs) → place < length txs → t ≡ get_or txs place t → length (tx_spelling t) ≢ 64
not_64 [] place t none lt is = absurd (omega arith)
not_64 (x ∷ txs) zero t none lt is = λ h. none.0 (ap (λ y. length (tx_spelling y)) (sym is) ∙ h)
not_64 (x ∷ txs) (suc place) t none lt is = not_64 txs place t none.1 (omega arith) is

has_of : (hashes : List (List ℕ)) (x : List ℕ) → Among hashes x → has hashes x ≡ true
has_of [] x h = absurd h
has_of (y ∷ hashes) x h = elim h [
  | inl is ↦ ap (λ b. b || has hashes x) (ap (pointwise nat_eq x) is ∙ nat_list_eq_equiv.refl x)
  | inr later ↦ ap (λ b. pointwise nat_eq x y || b) (has_of hashes x later) ∙ or_true (pointwise nat_eq x y)
]
  where
    or_true : (b : Bool) → (b || true) ≡ true
    or_true true = refl
    or_true false = refl

pub made_passes : (b : Block) (place : ℕ) (bytes : List ℕ) (tx : Tx) → IsCommitted b → IsHeader b.header → length b.txs ≤ 16666 → place < length b.txs → tx ≡ get_or b.txs place tx → IsProofOf b place bytes
    → (p : Proof) × Passes bytes (tx_spelling tx) p × (p.header ≡ b.header)
made_passes b place bytes tx committed header few there is made =
    let p : Proof = made.proof in
    let spelled : List (List ℕ) = spelled_txs b in
    let l : List (List ℕ) = txids spelled in
    let n : ℕ = height_of (length l) in
    let count : length l ≡ length b.txs = length-map spelled hash_of ∙ length-map b.txs tx_spelling in
    let some : 0 < length b.txs = committed.some in
    let at_top : 0 * 2 ^ n < length l = omega arith in
    let sizes = parts_few l place n 0 at_top in
    let parts : Parts = parts_of l place n 0 in
    let within : 0 * 2 ^ n + length parts.hashes ≤ length l = sizes.within in
    let enough : length parts.hashes ≤ length parts.bits = sizes.bits in
    let few_bits : length parts.bits + 1 ≤ 2 ^ suc n = sizes.few_bits in
    let low : n ≤ 15 = root_low l (omega arith) in
    let bound : 2 ^ suc n ≤ 65536 = pow_low n low in
    let f : AreFlagsOf parts.bits p.flags = made.flags in
    let zeros : f.zeros < 8 = f.few in
    let flag_count : 8 * length p.flags ≡ length parts.bits + f.zeros = sym (length_flags p.flags) ∙ ap length f.same ∙ length-append parts.bits (replicate f.zeros false) ∙ ap (λ k. length parts.bits + k) (length-replicate f.zeros false) in
    let hash_count : length p.hashes ≡ length parts.hashes = sym (length-map p.hashes (λ h. h.0)) ∙ ap length made.hashes in
    let total : p.total ≡ length b.txs = made.total in
    let read : proof_at bytes ≡ Ok p = ap proof_at made.spelled ∙ proof_again p (subst IsHeader (sym made.header) header) (omega arith) (omega arith) (hashes_fit p.hashes (subst Are32 (sym made.hashes) (parts_32 spelled place n 0 at_top))) (omega arith) in
    let w = made_walk l place n 0 (replicate f.zeros false) [] committed.unmutated at_top in
    let total_l : p.total ≡ length l = total ∙ sym count in
    let walk_is : walk_of p ≡ Some w.walked = (λ i. walk (total_l i) (height_of (total_l i)) 0 (f.same i) ((made.hashes ∙ sym (append-nil parts.hashes)) i)) ∙ w.is in
    let root : w.walked.hash ≡ p.header.root.0 = w.hash_is ∙ sym (root_is l) ∙ sym committed.root ∙ ap (λ h. h.root.0) (sym made.header) in
    let id : get_or l place [] ≡ hash_of (tx_spelling tx) = get_id b.txs place tx there is in
    let below : place / 2 ^ n ≡ 0 = small_div place (2 ^ n) (pow_pos n) (omega (arith, root_wide l)) in
    let found : has w.walked.matched (hash_of (tx_spelling tx)) ≡ true = has_of w.walked.matched (hash_of (tx_spelling tx)) (subst (Among w.walked.matched) id (w.matched_has below (omega arith))) in
    let same_root : pointwise nat_eq w.walked.hash p.header.root.0 ≡ true = ap (pointwise nat_eq w.walked.hash) (sym root) ∙ nat_list_eq_equiv.refl w.walked.hash in
    let left : (nat_lt 0 (length w.walked.hashes) || nat_le 8 (length w.walked.bits)) ≡ false =
    or_from (nat_lt 0 (length w.walked.hashes)) (nat_le 8 (length w.walked.bits)) (ap (λ s. nat_lt 0 (length s)) w.hashes_are) (lt-leb 8 (length w.walked.bits) (omega (arith, ap length w.bits_are, length-replicate f.zeros false))) in
    let at_root : root_fault p.header.root.0 w.walked.hash w.walked.twins (has w.walked.matched (hash_of (tx_spelling tx))) w.walked.bits w.walked.hashes ≡ None =
    (λ i. if w.twins_are i then Some Same else if left i then Some Left else if not (same_root i) then Some Root else if not (found i) then Some Absent else None) in
    let t1 : (p.total == 0 || nat_lt 16666 p.total) ≡ false = or_from (p.total == 0) (nat_lt 16666 p.total) (ne_eqb p.total 0 (λ e. absurd (omega arith))) (le-ltb 16666 p.total (omega arith)) in
    let t2 : nat_lt p.total (length p.hashes) ≡ false = le-ltb p.total (length p.hashes) (omega arith) in
    let t3 : (length (tx_spelling tx) == 64) ≡ false = ne_eqb (length (tx_spelling tx)) 64 (not_64 b.txs place tx committed.none64 there is) in
    let t4 : nat_lt (8 * length p.flags) (length p.hashes) ≡ false = le-ltb (8 * length p.flags) (length p.hashes) (omega arith) in
    let fine : parts_fault p (tx_spelling tx) ≡ None =
    (λ i. if t1 i then Some Total else if t2 i then Some Hashes else if t3 i then Some Tx64 else if t4 i then Some Bits else walk_fault p.header.root.0 (hash_of (tx_spelling tx)) (walk_is i)) ∙ at_root in
    (p, record { read = read; fine = fine }, made.header)
  where
    small_div : (x y : ℕ) → 0 < y → x < y → x / y ≡ 0
    small_div x y some lt = let under : x / y < 1 = (div-lt_iff_lt-mul {k = y} {x = x} {y = 1} some).1 (omega arith) in omega arith

-- so the check answers its header's hash
pub answered : (b : Block) (place : ℕ) (bytes : List ℕ) (tx : Tx) (answer : Result Hash32 (Refused ProofFault)) → IsCommitted b → IsHeader b.header → length b.txs ≤ 16666 → place < length b.txs → get_or b.txs place tx ≡ tx → IsProofOf b place bytes
    → Answers bytes (tx_spelling tx) answer → AnswersHeader b answer
answered b place bytes tx (Ok hash) committed header few there is made answers =
    let passes = made_passes b place bytes tx committed header few there (sym is) made in
    let same : answers.0 ≡ passes.0 = value_of answers.0 passes.0 (proof_at bytes) answers.1.read passes.1.read in
    answers.2 ∙ ap block_hash_of (ap (λ p. p.header) same ∙ passes.2)
answered b place bytes tx (Err (No fault)) committed header few there is made answers =
    let passes = made_passes b place bytes tx committed header few there (sym is) made in
    some_none fault (sym passes.1.fine ∙ sym (ap (λ r. fault_of r (tx_spelling tx)) passes.1.read) ∙ answers)
  where
    some_none : (fault : ProofFault) → ◌≡◌ {A = Option ProofFault} None (Some fault) → ⊥
    some_none fault h = cc
answered b place bytes tx (Err NoMemory) committed header few there is made answers = tt

-- ---- how many bytes it has

hashes_long : (hs : List Hash32) → AllByRecursion IsHash hs → length (flat_map (λ h. h.0) hs) ≡ 32 * length hs
hashes_long [] all = refl
hashes_long (h ∷ hs) all =
    let one : length h.0 ≡ 32 = all.0 in
    omega (arith, length-append h.0 (flat_map (λ x. x.0) hs), one, hashes_long hs all.1)

compact_short : (n : ℕ) → n < 2 ^ 16 → length (compact n) ≤ 3
compact_short n small = elim (cases_lt n 253) [ inl low ↦ omega (arith, one_byte n low) | inr high ↦ omega (arith, three_bytes n high small) ]

header_long : (h : Header) → IsHeader h → length (header_spelling h) ≡ 80
unfolding header_spelling
header_long h is =
    let z = to_le_bytes w32 h.time ++ (to_le_bytes w32 h.bits ++ to_le_bytes w32 h.nonce) in
    let a = length-append h.previous.0 (h.root.0 ++ z) in
    let b = length-append h.root.0 z in
    let c : length z ≡ 12 = refl in
    let d = length-append (to_le_bytes w32 (cast_unsigned w32 h.version)) (h.previous.0 ++ (h.root.0 ++ z)) in
    let e : length (to_le_bytes w32 (cast_unsigned w32 h.version)) ≡ 4 = refl in
    let previous : length h.previous.0 ≡ 32 = is.previous in
    let root : length h.root.0 ≡ 32 = is.root in
    omega (arith, a, b, c, d, e)

spelling_long : (p : Proof) → IsHeader p.header → AllByRecursion IsHash p.hashes → length p.hashes < 2 ^ 16 → length p.flags < 2 ^ 16 → length (proof_spelling p) ≤ 90 + 32 * length p.hashes + length p.flags
unfolding proof_spelling
spelling_long p header each hashes flags =
    let z1 = counted_bytes p.flags in
    let z2 = flat_map (λ h. h.0) p.hashes ++ z1 in
    let z3 = compact (length p.hashes) ++ z2 in
    let a = length-append (header_spelling p.header) (to_le_bytes w32 p.total ++ z3) in
    let b = length-append (to_le_bytes w32 p.total) z3 in
    let four : length (to_le_bytes w32 p.total) ≡ 4 = refl in
    let c = length-append (compact (length p.hashes)) z2 in
    let d = length-append (flat_map (λ h. h.0) p.hashes) z1 in
    let e = length-append (compact (length p.flags)) p.flags in
    omega (arith, a, b, four, c, d, e, header_long p.header header, compact_short (length p.hashes) hashes, compact_short (length p.flags) flags, hashes_long p.hashes each)

pub made_short : (b : Block) (place : ℕ) (bytes : List ℕ) → 0 < length b.txs → IsHeader b.header → length b.txs ≤ 16666 → IsProofOf b place bytes → length bytes ≤ 600000
made_short b place bytes some header few made =
    let p : Proof = made.proof in
    let spelled : List (List ℕ) = spelled_txs b in
    let l : List (List ℕ) = txids spelled in
    let n : ℕ = height_of (length l) in
    let count : length l ≡ length b.txs = length-map spelled hash_of ∙ length-map b.txs tx_spelling in
    let at_top : 0 * 2 ^ n < length l = omega arith in
    let sizes = parts_few l place n 0 at_top in
    let parts : Parts = parts_of l place n 0 in
    let within : 0 * 2 ^ n + length parts.hashes ≤ length l = sizes.within in
    let few_bits : length parts.bits + 1 ≤ 2 ^ suc n = sizes.few_bits in
    let bound : 2 ^ suc n ≤ 65536 = pow_low n (root_low l (omega arith)) in
    let f : AreFlagsOf parts.bits p.flags = made.flags in
    let zeros : f.zeros < 8 = f.few in
    let flag_count : 8 * length p.flags ≡ length parts.bits + f.zeros = sym (length_flags p.flags) ∙ ap length f.same ∙ length-append parts.bits (replicate f.zeros false) ∙ ap (λ k. length parts.bits + k) (length-replicate f.zeros false) in
    let hash_count : length p.hashes ≡ length parts.hashes = sym (length-map p.hashes (λ h. h.0)) ∙ ap length made.hashes in
    let each : AllByRecursion IsHash p.hashes = hashes_fit p.hashes (subst Are32 (sym made.hashes) (parts_32 spelled place n 0 at_top)) in
    let long = spelling_long p (subst IsHeader (sym made.header) header) each (omega arith) (omega arith) in
    let same : length bytes ≡ length (proof_spelling p) = ap length made.spelled in
    omega (arith, long, same)
