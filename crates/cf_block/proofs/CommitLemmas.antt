-- Steps of the check of a commitment.
use Rattle.std.proofs.Common.{◌≡◌, ℕ, zero, suc, ◌+◌, ◌<◌, ◌==◌, Bool, true, false, List, [], ◌∷◌, ◌++◌, map, length, take, get_or, refl, sym, ap, ◌∙◌, arith}
use Rattle.std.specs.Prelude.{◌||◌}
use Rattle.std.specs.List.{list_any}
use Rattle.std.proofs.lemmas.List.{map-append, take_more, length-map}
use Rattle.cf_bytes.specs.Hash.{hash_of}
use Rattle.cf_bytes.specs.declared.hash.Hash32.{Hash32}
use Rattle.cf_block.specs.declared.tx.Tx.{Tx}
use Rattle.cf_block.specs.Tx.{tx_spelling, txid_of}
use Rattle.cf_block.specs.Merkle.{txids}
use Rattle.cf_block.specs.Size.{capped}
use Rattle.cf_block.specs.Views.{bytes_of}
use Rattle.cf_block.specs.Commitment.{AreTxids, has_64}

pub one_txid : (txs : List Tx) (i : ℕ) (t : Tx) (hs : List Hash32) (h : Hash32) → i < length txs → t ≡ get_or txs i t → h.0 ≡ txid_of t
    → AreTxids hs (take i txs) → AreTxids (hs ++ h ∷ []) (take (i + 1) txs)
one_txid txs i t hs h lt is e made =
    map-append (λ (x : Hash32). x.0) hs (h ∷ [])
    ∙ (λ j. made j ++ e j ∷ [])
    ∙ sym (map-append txid_of (take i txs) (t ∷ []))
    ∙ ap (λ (x : Tx). map txid_of (take i txs ++ x ∷ [])) is
    ∙ ap (λ (l : List Tx). map txid_of l) (sym (take_more txs i t lt))

-- they are the hashes of the transactions' bytes
hashes_are : (txs : List Tx) → map txid_of txs ≡ txids (map tx_spelling txs)
unfolding txid_of
hashes_are [] = refl
hashes_are (t ∷ txs) = ap (λ (l : List (List ℕ)). hash_of (tx_spelling t) ∷ l) (hashes_are txs)

pub ids_are : (ids : List Hash32) (txs : List Tx) → AreTxids ids txs → bytes_of ids ≡ txids (map tx_spelling txs)
ids_are ids txs are = are ∙ hashes_are txs

-- the hash of each of them
pub id_at : (ids : List Hash32) (txs : List Tx) (i : ℕ) (h : Hash32) (t : Tx) → AreTxids ids txs → i < length txs → (get_or ids i h).0 ≡ txid_of (get_or txs i t)
id_at [] [] i h t are lt = absurd (omega (arith, lt))
id_at [] (x ∷ txs) i h t are lt = cc
id_at (y ∷ ids) [] i h t are lt = cc
id_at (y ∷ ids) (x ∷ txs) zero h t are lt = cc
id_at (y ∷ ids) (x ∷ txs) (suc i) h t are lt = let rest : AreTxids ids txs = cc in id_at ids txs i h t rest (omega (arith, lt))

pub ids_length : (ids : List Hash32) (txs : List Tx) → AreTxids ids txs → length ids ≡ length txs
ids_length ids txs are = sym (length-map ids (λ (h : Hash32). h.0)) ∙ ap length are ∙ length-map txs txid_of

or_true : (b : Bool) → (b || true) ≡ true
or_true true = refl
or_true false = refl

any_has : (f : List ℕ → Bool) (txs : List Tx) (i : ℕ) (t : Tx) → i < length txs → t ≡ get_or txs i t → f (tx_spelling t) ≡ true → list_any f (map tx_spelling txs) ≡ true
any_has f [] i t lt is e = absurd (omega (arith, lt))
any_has f (y ∷ ys) zero t lt is e = ap (λ (b : Bool). b || list_any f (map tx_spelling ys)) (ap (λ (x : Tx). f (tx_spelling x)) (sym is) ∙ e)
any_has f (y ∷ ys) (suc i) t lt is e = ap (λ (b : Bool). f (tx_spelling y) || b) (any_has f ys i t (omega (arith, lt)) is e) ∙ or_true (f (tx_spelling y))

pub found_64 : (txs : List Tx) (i : ℕ) (t : Tx) → i < length txs → t ≡ get_or txs i t → has_64 (tx_spelling t) ≡ true → true ≡ list_any has_64 (map tx_spelling txs)
found_64 txs i t lt is e = sym (any_has has_64 txs i t lt is e)

pub is_64_by : (n size : ℕ) → size ≡ capped n → size ≡ 64 → (n == 64) ≡ true
is_64_by n size is e = let same : n ≡ 64 = omega arith in ap (λ (k : ℕ). k == 64) same
