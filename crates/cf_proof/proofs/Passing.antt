-- A transaction that a proof passes for stands in the block.
use Rattle.std.proofs.Common.{◌≡◌, ℕ, zero, suc, ◌*◌, ◌<◌, Bool, true, false, List, [], ◌∷◌, ◌++◌, length, take, drop, Option, Some, None, Result, Ok, Err, inl, inr, refl, sym, ◌∙◌, ap, subst, arith}
use Rattle.std.specs.Prelude.{◌≢◌, ◌==◌, ◌||◌, nat_lt, nat_le, nat_eq, not, if◌then◌else◌}
use Rattle.std.specs.Int.{w32}
use Rattle.std.specs.Cmp.Lexicographic.{pointwise, same_text}
use Rattle.std.proofs.lemmas.Bool.{or_cases, ltb-false, eq-eqb}
use Rattle.std.proofs.lemmas.List.{length-take-le, length-map}
use Rattle.cf_bytes.specs.Cut.{Read, number_at, bytes_at, ◌>>=◌}
use Rattle.cf_bytes.specs.Compact.{compact_at}
use Rattle.cf_bytes.specs.Lists.{list_at, counted_bytes_at}
use Rattle.cf_bytes.specs.Hash.{hash_of}
use Rattle.cf_bytes.proofs.Codecs.{bind_ok}
use Rattle.cf_bytes.specs.declared.cut.CutFault.{CutFault}
use Rattle.cf_bytes.specs.declared.cut.CutFault.TheVariants.{Short as CutShort}
use Rattle.cf_bytes.specs.declared.hash.Hash32.{Hash32}
use Rattle.cf_block.specs.declared.tx.Tx.{Tx}
use Rattle.cf_block.specs.Header.{hash_at}
use Rattle.cf_block.specs.Tx.{tx_spelling, txid_of}
use Rattle.cf_block.specs.Views.{bytes_of}
use Rattle.cf_block.specs.Merkle.{txids, nodes, hashed, Among}
use Rattle.cf_block.specs.Commitment.{spelled_txs}
use Rattle.cf_proof.specs.declared.fault.ProofFault.{ProofFault}
use Rattle.cf_proof.specs.declared.fault.ProofFault.TheVariants.{Rest, Total, Hashes, Tx64, Bits, Same, Left, Root, Absent}
use Rattle.cf_proof.specs.declared.proof.Proof.{Proof}
use Rattle.cf_proof.specs.Tree.{height_of, level_at, node_at}
use Rattle.cf_proof.specs.Proof.{flags_of, field_at, header_field_at, hash_field_at, fields_at, all_of, proof_at}
use Rattle.cf_proof.specs.Checks.{walk_of, walk_fault, root_fault, has}
use Rattle.cf_proof.specs.Holds.{Proves}
use Rattle.cf_proof.proofs.Levels.{root_is, two_below, length_next, among_left, among_right}
use Rattle.cf_proof.proofs.Sound.{Are32, HasBlock, sound}

-- ---- the hashes of a proof that was read have 32 bytes

field_ok : {X : Type 0} (r : Read X CutFault) (x : X × List ℕ) → field_at r ≡ Ok x → r ≡ Ok x
field_ok (Ok y) x h = cc
field_ok (Err e) x h = cc

hash_32 : (bytes : List ℕ) (x : Hash32 × List ℕ) → hash_at bytes ≡ Ok x → length x.0.0 ≡ 32
hash_32 bytes x h =
    let b = bind_ok (bytes_at 32 bytes) (λ x. Ok (record { 0 = x.0 }, x.1)) x h in
    let first : x.0.0 ≡ b.0.0 = ap (λ r. first_in r) (sym b.2) in
    ap length first ∙ at (nat_lt (length bytes) 32) refl b.0 b.1
  where
    first_in : Result (Hash32 × List ℕ) (CutFault × List ℕ) → List ℕ
    first_in (Ok y) = y.0.0
    first_in (Err e) = x.0.0

    bytes_in : List ℕ → Read (List ℕ) CutFault → List ℕ
    bytes_in other (Ok y) = y.0
    bytes_in other (Err e) = other

    at : (t : Bool) → nat_lt (length bytes) 32 ≡ t → (y : List ℕ × List ℕ) → ◌≡◌ {A = Read (List ℕ) CutFault} (if t then Err (CutShort, bytes) else Ok (take 32 bytes, drop 32 bytes)) (Ok y) → length y.0 ≡ 32
    at true is y h = cc
    at false is y h = ap length (ap (λ r. bytes_in y.0 r) (sym h)) ∙ length-take-le 32 bytes (ltb-false (length bytes) 32 is)

list_32 : (n : ℕ) (bytes : List ℕ) (x : List Hash32 × List ℕ) → list_at hash_field_at n bytes ≡ Ok x → Are32 (bytes_of x.0)
unfolding list_at Are32
list_32 zero bytes x h =
    let none : x.0 ≡ [] = ap (λ r. list_in r) (sym h) in
    subst (λ l. Are32 (bytes_of l)) (sym none) tt
  where
    list_in : Read (List Hash32) ProofFault → List Hash32
    list_in (Ok y) = y.0
    list_in (Err e) = x.0
list_32 (suc n) bytes x h =
    let first = bind_ok (hash_field_at bytes) (λ first. list_at hash_field_at n first.1 >>= λ others. Ok (first.0 ∷ others.0, others.1)) x h in
    let others = bind_ok (list_at hash_field_at n first.0.1) (λ others. Ok (first.0.0 ∷ others.0, others.1)) x first.2 in
    let whole : x.0 ≡ first.0.0 ∷ others.0.0 = ap (λ r. list_in r) (sym others.2) in
    subst (λ l. Are32 (bytes_of l)) (sym whole) (hash_32 bytes first.0 (field_ok (hash_at bytes) first.0 first.1), list_32 n first.0.1 others.0 others.1)
  where
    list_in : Read (List Hash32) ProofFault → List Hash32
    list_in (Ok y) = y.0
    list_in (Err e) = x.0

all_ok : (r : Read Proof ProofFault) (p : Proof) → all_of r ≡ Ok p → (rest : List ℕ) × (r ≡ Ok (p, rest))
all_ok (Ok x) p h = at (length x.1 == 0) h
  where
    at : (t : Bool) → ◌≡◌ {A = Result Proof ProofFault} (if t then Ok x.0 else Err Rest) (Ok p) → (rest : List ℕ) × (◌≡◌ {A = Read Proof ProofFault} (Ok x) (Ok (p, rest)))
    at true h = let same : x.0 ≡ p = cc in (x.1, λ i. Ok (same i, x.1))
    at false h = cc
all_ok (Err e) p h = cc

same_hashes : (q p : Proof) (r rest : List ℕ) → ◌≡◌ {A = Read Proof ProofFault} (Ok (q, r)) (Ok (p, rest)) → p.hashes ≡ q.hashes
same_hashes q p r rest h = let both : ◌≡◌ {A = Proof × List ℕ} (q, r) (p, rest) = cc in ap (λ x. x.0.hashes) (sym both)

proof_32 : (bytes : List ℕ) (p : Proof) → proof_at bytes ≡ Ok p → Are32 (bytes_of p.hashes)
unfolding proof_at fields_at
proof_32 bytes p h =
    let all = all_ok (fields_at bytes) p h in
    let header = bind_ok (header_field_at bytes) _ (p, all.0) all.1 in
    let total = bind_ok (field_at (number_at w32 header.0.1)) _ (p, all.0) header.2 in
    let count = bind_ok (field_at (compact_at total.0.1)) _ (p, all.0) total.2 in
    let hashes = bind_ok (list_at hash_field_at count.0.0 count.0.1) _ (p, all.0) count.2 in
    let flags = bind_ok (field_at (counted_bytes_at hashes.0.1)) _ (p, all.0) hashes.2 in
    let same : p.hashes ≡ hashes.0.0 = same_hashes (record { header = header.0.0; total = total.0.0; hashes = hashes.0.0; flags = flags.0.0 }) p flags.0.1 all.0 flags.2 in
    subst (λ l. Are32 (bytes_of l)) (sym same) (list_32 count.0.0 count.0.1 hashes.0 hashes.1)

-- ---- what no fault says

sized_tests : (a b c d : Bool) (rest : Option ProofFault) → (if a then Some Total else if b then Some Hashes else if c then Some Tx64 else if d then Some Bits else rest) ≡ None → (c ≡ false) × (rest ≡ None)
sized_tests true b c d rest h = cc
sized_tests false true c d rest h = cc
sized_tests false false true d rest h = cc
sized_tests false false false true rest h = cc
sized_tests false false false false rest h = (refl, h)

root_tests : (t l r f : Bool) → ◌≡◌ {A = Option ProofFault} (if t then Some Same else if l then Some Left else if not r then Some Root else if not f then Some Absent else None) None → (r ≡ true) × (f ≡ true)
root_tests true l r f h = cc
root_tests false true r f h = cc
root_tests false false false f h = cc
root_tests false false true false h = cc
root_tests false false true true h = (refl, refl)

among_of : (hashes : List (List ℕ)) (x : List ℕ) → has hashes x ≡ true → Among hashes x
among_of [] x h = cc
among_of (y ∷ hashes) x h = elim (or_cases (pointwise nat_eq x y) (has hashes x) h) [ inl here ↦ inl (sym (same_text x y (sym here))) | inr later ↦ inr (among_of hashes x later) ]

not_64 : (n : ℕ) → (n == 64) ≡ false → n ≢ 64
not_64 n is same = both_ways (sym (eq-eqb n 64 same) ∙ is)
  where
    both_ways : true ≡ false → ⊥
    both_ways h = cc

some_above : (m : ℕ) (l : List (List ℕ)) → 0 < length l → 0 < length (level_at m l)
unfolding level_at
some_above zero l some = some
some_above (suc m) l some = let below : 0 < length (level_at m l) = some_above m l some in omega (arith, length_next (level_at m l))

pub proves : (bytes : List ℕ) (tx : Tx) → Proves bytes tx
unfolding txid_of
proves bytes tx p w b passes walk_is committed header_is apart =
    let text : List ℕ = tx_spelling tx in
    let spelled : List (List ℕ) = spelled_txs b in
    let ids : List (List ℕ) = txids spelled in
    let strings : List (List ℕ) = hashed spelled ++ (text ∷ w.nodes) in
    let sized = sized_tests (p.total == 0 || nat_lt 16666 p.total) (nat_lt p.total (length p.hashes)) (length text == 64) (nat_lt (8 * length p.flags) (length p.hashes)) (walk_fault p.header.root.0 (hash_of text) (walk_of p)) passes.fine in
    let at_root : root_fault p.header.root.0 w.hash w.twins (has w.matched (hash_of text)) w.bits w.hashes ≡ None = ap (walk_fault p.header.root.0 (hash_of text)) (sym walk_is) ∙ sized.1 in
    let tests = root_tests w.twins (nat_lt 0 (length w.hashes) || nat_le 8 (length w.bits)) (pointwise nat_eq w.hash p.header.root.0) (has w.matched (hash_of text)) at_root in
    let root : w.hash ≡ p.header.root.0 = same_text w.hash p.header.root.0 (sym tests.0) in
    let found : Among w.matched (hash_of text) = among_of w.matched (hash_of text) tests.1 in
    let same_root : b.header.root.0 ≡ p.header.root.0 = ap (λ h. h.root.0) header_is in
    let top : node_at (height_of (length ids)) 0 ids ≡ w.hash = sym (root_is ids) ∙ sym committed.root ∙ same_root ∙ sym root in
    let some_txs : 0 < length b.txs = committed.some in
    let some : 0 < length ids = omega (arith, length-map spelled hash_of, length-map b.txs tx_spelling) in
    let block : HasBlock strings spelled = record {
      apart = apart;
      spelled_in = λ s a. among_left (hashed spelled) (text ∷ w.nodes) s (among_left spelled (nodes ids) s a);
      nodes_in = λ s a. among_left (hashed spelled) (text ∷ w.nodes) s (among_right spelled (nodes ids) s a);
      none64 = committed.none64;
    } in
    record {
      root_is = committed.root;
      among = sound p.total (height_of p.total) 0 (flags_of p.flags) (bytes_of p.hashes) w text strings spelled block (among_right (hashed spelled) (text ∷ w.nodes) text (inl refl)) (not_64 (length text) sized.0)
          (proof_32 bytes p passes.read) walk_is (λ s a. among_right (hashed spelled) (text ∷ w.nodes) s (inr a)) (height_of (length ids)) 0 (some_above (height_of (length ids)) ids some) (λ k lt. two_below k (length ids) ids lt) top found;
    }
