-- One header, one block.
use Rattle.std.proofs.Common.{◌≡◌, ℕ, ◌<◌, ◌==◌, Bool, true, false, not, ◌&&◌, List, [], ◌∷◌, ◌++◌, length, Option, Some, None, refl, sym, ap, ◌∙◌, arith, bytes_eq}
use Rattle.std.specs.Bool.{if◌then◌else◌}
use Rattle.std.specs.Prelude.{◌||◌, ◌≢◌}
use Rattle.std.specs.List.{list_any}
use Rattle.std.proofs.lemmas.List.{length-map}
use Rattle.std.proofs.lemmas.Bool.Decides.{nat_tests}
use Rattle.std.proofs.lemmas.Slice.Eq.{bytes_eq-Decides}
use Rattle.cf_bytes.specs.declared.hash.Hash32.{Hash32}
use Rattle.cf_block.specs.declared.header.Header.{Header}
use Rattle.cf_block.specs.declared.tx.Block.{Block}
use Rattle.cf_block.specs.Tx.{IsBlock, tx_spelling}
use Rattle.cf_block.specs.Merkle.{merkle_root_of, is_mutated, txids, hashed, NoClash, None64, IsUnmutated}
use Rattle.cf_block.specs.declared.commitment.CommitFault.{CommitFault}
use Rattle.cf_block.specs.declared.commitment.CommitFault.TheVariants.{Root, Mutated, Tx64}
use Rattle.cf_block.specs.Views.{bytes_of}
use Rattle.cf_block.specs.Commitment.{AreTxids, spelled_txs, IsCommitted, has_root, has_64, first_fault, commit_fault}
use Rattle.cf_block.proofs.Roots.{one_list_below}
use Rattle.cf_block.proofs.Again.{txs_one}
use Rattle.cf_block.proofs.CommitLemmas.{ids_are, ids_length}

unmutated : (b : Block) → IsCommitted b → IsUnmutated (spelled_txs b)
unmutated b c =
    let some : 0 < length b.txs = c.some in
    record { some = omega (arith, length-map b.txs tx_spelling); unmutated = c.unmutated; none64 = c.none64 }

pub committed_one : (a b : Block) → IsBlock a → IsBlock b → IsCommitted a → IsCommitted b
    → NoClash (hashed (spelled_txs a) ++ hashed (spelled_txs b)) → a.header ≡ b.header → a ≡ b
committed_one a b fa fb ca cb apart e =
    let same : a.header.root.0 ≡ b.header.root.0 = ap (λ (h : Header). h.root.0) e in
    let roots : merkle_root_of (txids (spelled_txs a)) ≡ merkle_root_of (txids (spelled_txs b)) = sym ca.root ∙ same ∙ cb.root in
    let texts : spelled_txs a ≡ spelled_txs b = one_list_below (spelled_txs a) (spelled_txs b) (unmutated a ca) (unmutated b cb) apart roots in
    let txs : a.txs ≡ b.txs = txs_one a.txs b.txs fa.txs fb.txs texts in
    λ i. record { header = e i; txs = txs i }

no_fault : (r m t : Bool) → first_fault r m t ≡ None → (r ≡ true) × (m ≡ false) × (t ≡ false)
no_fault true false false h = (refl, refl, refl)
no_fault true false true h = cc
no_fault true true t h = cc
no_fault false m t h = cc

both : (a b : Bool) → (a && b) ≡ true → (a ≡ true) × (b ≡ true)
both true true h = (refl, refl)
both true false h = cc
both false b h = cc

neither : (a b : Bool) → (a || b) ≡ false → (a ≡ false) × (b ≡ false)
neither false false h = (refl, refl)
neither false true h = cc
neither true b h = cc

some_there : (n : ℕ) → not (n == 0) ≡ true → 0 < n
some_there n h = grind (arith, nat_tests)

there_some : (n : ℕ) → 0 < n → not (n == 0) ≡ true
there_some n h = grind (arith, nat_tests)

same_bytes : (a b : List ℕ) → bytes_eq a b ≡ true → a ≡ b
same_bytes a b e = (bytes_eq-Decides a b).0 e

bytes_same : (a : List ℕ) → bytes_eq a a ≡ true
bytes_same a = (bytes_eq-Decides a a).1 refl

not_64 : (n : ℕ) → (n == 64) ≡ false → n ≢ 64
not_64 n h e = grind (arith, nat_tests)

is_not_64 : (n : ℕ) → n ≢ 64 → (n == 64) ≡ false
is_not_64 n h = grind (arith, nat_tests)

none_64 : (texts : List (List ℕ)) → list_any has_64 texts ≡ false → None64 texts
none_64 [] h = tt
none_64 (s ∷ rest) h =
    let parts = neither (has_64 s) (list_any has_64 rest) h in
    (not_64 (length s) parts.0, none_64 rest parts.1)

any_64 : (texts : List (List ℕ)) → None64 texts → list_any has_64 texts ≡ false
any_64 [] h = refl
any_64 (s ∷ rest) h =
    let one : has_64 s ≡ false = is_not_64 (length s) h.0 in
    ap (λ (b : Bool). b || list_any has_64 rest) one ∙ any_64 rest h.1

-- the check passes exactly on committed blocks
pub passes : (b : Block) → commit_fault b ≡ None → IsCommitted b
unfolding commit_fault
passes b e =
    let all = no_fault (has_root b) (is_mutated (txids (spelled_txs b))) (list_any has_64 (spelled_txs b)) e in
    let root = both (not (length b.txs == 0)) (bytes_eq (merkle_root_of (txids (spelled_txs b))) b.header.root.0) all.0 in
    record {
      some = some_there (length b.txs) root.0;
      root = sym (same_bytes (merkle_root_of (txids (spelled_txs b))) b.header.root.0 root.1);
      unmutated = all.1;
      none64 = none_64 (spelled_txs b) all.2;
    }

good_by : (r m t : Bool) → r ≡ true → m ≡ false → t ≡ false → first_fault r m t ≡ None
good_by r m t er em et = (λ i. first_fault (er i) (em i) (et i))

pub is_good : (b : Block) → IsCommitted b → commit_fault b ≡ None
unfolding commit_fault
is_good b c =
    let root : List ℕ = merkle_root_of (txids (spelled_txs b)) in
    let same : bytes_eq root b.header.root.0 ≡ true = ap (λ (r : List ℕ). bytes_eq root r) c.root ∙ bytes_same root in
    let has : has_root b ≡ true = (λ i. there_some (length b.txs) c.some i && same i) in
    good_by (has_root b) (is_mutated (txids (spelled_txs b))) (list_any has_64 (spelled_txs b)) has c.unmutated (any_64 (spelled_txs b) c.none64)

-- the same by the hashes that are given

pub fault_is : (b : Block) (ids : List Hash32) (root : List ℕ) (doubled : Bool) → AreTxids ids b.txs → (length ids == 0) ≡ false
    → root ≡ merkle_root_of (bytes_of ids) → doubled ≡ is_mutated (bytes_of ids)
    → commit_fault b ≡ first_fault (bytes_eq root b.header.root.0) doubled (list_any has_64 (spelled_txs b))
unfolding commit_fault
fault_is b ids root doubled are some is twins =
    let theirs : bytes_of ids ≡ txids (spelled_txs b) = ids_are ids b.txs are in
    let any : not (length b.txs == 0) ≡ true = ap (λ (n : ℕ). not (n == 0)) (sym (ids_length ids b.txs are)) ∙ ap not some in
    let has : has_root b ≡ bytes_eq root b.header.root.0 =
    (λ i. any i && bytes_eq (merkle_root_of (sym theirs i)) b.header.root.0) ∙ ap (λ (r : List ℕ). bytes_eq r b.header.root.0) (sym is) in
    let same : is_mutated (txids (spelled_txs b)) ≡ doubled = ap is_mutated (sym theirs) ∙ sym twins in
    λ i. first_fault (has i) (same i) (list_any has_64 (spelled_txs b))

pub empty_fault : (b : Block) (ids : List Hash32) → AreTxids ids b.txs → (length ids == 0) ≡ true → commit_fault b ≡ Some Root
unfolding commit_fault
empty_fault b ids are none =
    let any : not (length b.txs == 0) ≡ false = ap (λ (n : ℕ). not (n == 0)) (sym (ids_length ids b.txs are)) ∙ ap not none in
    λ i. first_fault (any i && bytes_eq (merkle_root_of (txids (spelled_txs b))) b.header.root.0) (is_mutated (txids (spelled_txs b))) (list_any has_64 (spelled_txs b))
