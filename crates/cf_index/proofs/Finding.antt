-- Where a transaction stands.
use Rattle.std.proofs.Common.{◌≡◌, ℕ, zero, suc, ◌+◌, ◌<◌, ◌≤◌, ◌^◌, Bool, true, false, cond, List, [], ◌∷◌, ◌++◌, map, length, take, drop, get_or, refl, sym, ◌∙◌, ap, subst, Option, Some, None, inl, inr, arith, lit≤, ◌*◌, length-take}
use Rattle.std.specs.Prelude.{bytes_eq, IfSome, IfOk, option_map, Result, Ok, Err}
use Rattle.std.specs.Option.{option_or}
use Rattle.std.specs.FinMap.{get}
use Rattle.std.specs.List.{position, flat_map, AllByRecursion}
use Rattle.std.proofs.lemmas.Bool.{cases_lt}
use Rattle.std.proofs.lemmas.List.{length-append, length-map, append_assoc, take_more}
use Rattle.std.proofs.lemmas.List.Quantifiers.{position-Some}
use Rattle.std.proofs.lemmas.Slice.Eq.{bytes_eq-Decides}
use Rattle.cf_bytes.specs.declared.hash.Hash32.{Hash32}
use Rattle.cf_block.specs.declared.tx.Tx.{Tx}
use Rattle.cf_block.specs.declared.tx.Block.{Block}
use Rattle.cf_bytes.specs.Compact.{compact}
use Rattle.cf_block.specs.declared.tx.TxIn.{TxIn}
use Rattle.cf_block.specs.Output.{Output}
use Rattle.cf_block.specs.Header.{header_spelling}
use Rattle.cf_block.specs.Tx.{IsInput, IsTx, IsBlock, txid_of, input_spelling, output_spelling, tx_spelling, block_spelling}
use Rattle.cf_block.proofs.Sizes.{one_byte, three_bytes, five_bytes, nine_bytes, input_length, output_length, tx_length}
use Rattle.cf_block.specs.Views.{bytes_of}
use Rattle.cf_chain.specs.Coins.{CoinMap, after_block}
use Rattle.cf_chain.specs.Good.{AreGoodBlocks}
use Rattle.cf_headers.specs.Rules.{same}
use Rattle.cf_index.proofs.Lowest.{place_of, place_more, or_none, with_first_gives}
use Rattle.cf_index.specs.ByHash.{with_first}
use Rattle.cf_index.specs.Finding.{txids_of, at_or_higher, found_from, first_place, StandsAt, PlaceMap, place_at, AreFirstPlaces, AreTaken}

-- ---- one block after another

found_here : (height : ℕ) (txid : List ℕ) (xs : List (List Hash32)) (i : ℕ) (x : List Hash32) → i < length xs → x ≡ get_or xs i x
    → found_from height txid (map bytes_of (drop i xs)) ≡ at_or_higher height (position (λ id. bytes_eq id txid) (bytes_of x)) (found_from (suc height) txid (map bytes_of (drop (suc i) xs)))
unfolding found_from
found_here height txid [] i x lt is = absurd (omega arith)
found_here height txid (y ∷ ys) zero x lt is = ap (λ l. at_or_higher height (position (λ id. bytes_eq id txid) (bytes_of l)) (found_from (suc height) txid (map bytes_of ys))) (sym is)
found_here height txid (y ∷ ys) (suc i) x lt is = found_here height txid ys i x (omega arith) is

found_none : (height : ℕ) (txid : List ℕ) (xs : List (List Hash32)) (i : ℕ) → length xs ≤ i → found_from height txid (map bytes_of (drop i xs)) ≡ None
unfolding found_from
found_none height txid [] zero le = refl
found_none height txid [] (suc i) le = refl
found_none height txid (y ∷ ys) zero le = absurd (omega arith)
found_none height txid (y ∷ ys) (suc i) le = found_none height txid ys i (omega arith)

placed : {A : Type 0} (f : ℕ → A) (had : Option A) (o : Option ℕ) (b : Bool) (n : ℕ)
    → option_or (option_or had (option_map f o)) (cond b (Some (f n)) None) ≡ option_or had (option_map f (option_or o (cond b (Some n) None)))
placed f (Some x) o b n = refl
placed f None (Some m) b n = refl
placed f None None true n = refl
placed f None None false n = refl

-- the next of a block's hashes is put in
pub place_added : (places new : PlaceMap) (height : ℕ) (had : Option (ℕ × ℕ)) (xs : List Hash32) (i place : ℕ) (d q : Hash32) → i < length xs → place ≡ i → new ≡ with_first places (get_or xs i d) (height, place)
    → get places q ≡ option_or had (place_at height q.0 (bytes_of (take i xs))) → get new q ≡ option_or had (place_at height q.0 (bytes_of (take (i + 1) xs)))
unfolding same
place_added places new height had xs i place d q below at is so_far =
    let x : Hash32 = get_or xs i d in
    let f : ℕ → ℕ × ℕ = λ place. (height, place) in
    let p : Hash32 → Bool = λ h. bytes_eq h.0 q.0 in
    let seen : (l : List Hash32) → position (λ id. bytes_eq id q.0) (bytes_of l) ≡ position p l = place_of (λ (h : Hash32). h.0) (λ (id : List ℕ). bytes_eq id q.0) in
    let grown : take (i + 1) xs ≡ take i xs ++ x ∷ [] = take_more xs i d below in
    let long : length (take i xs) ≡ i = omega (arith, length-take i xs) in
    ap (λ (m : PlaceMap). get m q) is ∙ ap (λ n. get (with_first places x (f n)) q) at ∙ with_first_gives places x q (f i)
    ∙ ap (λ (o : Option (ℕ × ℕ)). option_or o (cond (p x) (Some (f i)) None)) (so_far ∙ ap (λ (o : Option ℕ). option_or had (option_map f o)) (seen (take i xs)))
    ∙ placed f had (position p (take i xs)) (p x) i
    ∙ ap (λ (o : Option ℕ). option_or had (option_map f o))
    (ap (λ (n : ℕ). option_or (position p (take i xs)) (cond (p x) (Some n) None)) (sym long)
    ∙ sym (seen (take (i + 1) xs) ∙ ap (position p) grown ∙ place_more p (take i xs) x))

higher : (height : ℕ) (had : Option (ℕ × ℕ)) (o : Option ℕ) (rest : Option (ℕ × ℕ)) → option_or had (at_or_higher height o rest) ≡ option_or (option_or had (option_map (λ place. (height, place)) o)) rest
higher height (Some at) o rest = refl
higher height None (Some place) rest = refl
higher height None None rest = refl

-- the next block is put in
pub block_added : (all had new : Option (ℕ × ℕ)) (height : ℕ) (txid : List ℕ) (xs : List (List Hash32)) (i : ℕ) (x : List Hash32) → i < length xs → x ≡ get_or xs i x
    → new ≡ option_or had (place_at height txid (bytes_of x))
    → all ≡ option_or had (found_from height txid (map bytes_of (drop i xs)))
    → all ≡ option_or new (found_from (height + 1) txid (map bytes_of (drop (i + 1) xs)))
block_added all had new height txid xs i x lt at is so_far =
    let up : suc height ≡ height + 1 = omega arith in
    let on : suc i ≡ i + 1 = omega arith in
    let rest = found_from (suc height) txid (map bytes_of (drop (suc i) xs)) in
    so_far ∙ ap (option_or had) (found_here height txid xs i x lt at)
    ∙ higher height had (position (λ id. bytes_eq id txid) (bytes_of x)) rest
    ∙ ap (λ (o : Option (ℕ × ℕ)). option_or o rest) (sym is)
    ∙ ap (λ (n : ℕ). option_or new (found_from n txid (map bytes_of (drop (suc i) xs)))) up
    ∙ ap (λ (n : ℕ). option_or new (found_from (height + 1) txid (map bytes_of (drop n xs)))) on

-- all are put in
pub all_added : (all had : Option (ℕ × ℕ)) (height : ℕ) (txid : List ℕ) (xs : List (List Hash32)) (i : ℕ) → length xs ≤ i
    → all ≡ option_or had (found_from height txid (map bytes_of (drop i xs))) → had ≡ all
all_added all had height txid xs i le so_far = or_none had ∙ ap (option_or had) (sym (found_none height txid xs i le)) ∙ sym so_far

-- ---- what stands there

get_mapped : (txs : List Tx) (i : ℕ) (d : Tx) (z : List ℕ) → i < length txs → get_or (map txid_of txs) i z ≡ txid_of (get_or txs i d)
get_mapped [] i d z lt = absurd (omega arith)
get_mapped (t ∷ txs) zero d z lt = refl
get_mapped (t ∷ txs) (suc i) d z lt = get_mapped txs i d z (omega arith)

here : (txid : List ℕ) (lower : List Block) (b : Block) (bs : List Block) (place : ℕ) → position (λ id. bytes_eq id txid) (map txid_of b.txs) ≡ Some place → StandsAt txid (lower ++ b ∷ bs) (suc (length lower)) place
here txid lower b bs place is =
    let found = position-Some (λ (id : List ℕ). bytes_eq id txid) (map txid_of b.txs) place [] is in
    let within : place < length b.txs = omega (arith, found.0, length-map b.txs txid_of) in
    record {
      lower = lower;
      block = b;
      higher = bs;
      chain = refl;
      height_is = refl;
      there = within;
      hash_is = λ d. (bytes_eq-Decides _ _).0 (ap (λ id. bytes_eq id txid) (sym (get_mapped b.txs place d [] within)) ∙ found.1);
    }

stands_by : (txid : List ℕ) (lower : List Block) (b : Block) (bs : List Block) (height place : ℕ) (o : Option ℕ) → position (λ id. bytes_eq id txid) (map txid_of b.txs) ≡ o
    → at_or_higher (suc (length lower)) o (found_from (suc (suc (length lower))) txid (txids_of bs)) ≡ Some (height, place)
    → (found_from (suc (suc (length lower))) txid (txids_of bs) ≡ Some (height, place) → StandsAt txid (lower ++ b ∷ bs) height place) → StandsAt txid (lower ++ b ∷ bs) height place
stands_by txid lower b bs height place (Some i) was is later =
    let both : ◌≡◌ {A = ℕ × ℕ} (suc (length lower), i) (height, place) = cc in
    subst (λ at. StandsAt txid (lower ++ b ∷ bs) at.0 at.1) both (here txid lower b bs i was)
stands_by txid lower b bs height place None was is later = later is

stands_from : (txid : List ℕ) (lower blocks : List Block) (height place : ℕ) → found_from (suc (length lower)) txid (txids_of blocks) ≡ Some (height, place) → StandsAt txid (lower ++ blocks) height place
unfolding found_from
stands_from txid lower [] height place is = cc
stands_from txid lower (b ∷ bs) height place is =
    let long : suc (length lower) ≡ length (lower ++ b ∷ []) = omega (arith, length-append lower (b ∷ [])) in
    stands_by txid lower b bs height place (position (λ id. bytes_eq id txid) (map txid_of b.txs)) refl is
    (λ later. subst (λ l. StandsAt txid l height place) (append_assoc lower (b ∷ []) bs) (stands_from txid (lower ++ b ∷ []) bs height place (subst (λ n. found_from (suc n) txid (txids_of bs) ≡ Some (height, place)) long later)))

stands : (txid : List ℕ) (blocks : List Block) (height place : ℕ) → first_place txid blocks ≡ Some (height, place) → StandsAt txid blocks height place
unfolding first_place
stands txid blocks height place is = stands_from txid [] blocks height place is

-- ---- a block has few transactions, as each has 60 bytes or more

abbrev pub AreFew : List (List Hash32) → Type 0
AreFew ids = AllByRecursion (λ (l : List Hash32). length l < 2 ^ 32) ids

pub few_each : (coins : CoinMap) (blocks : List Block) (ids : List (List Hash32)) → AreGoodBlocks coins blocks → map bytes_of ids ≡ txids_of blocks → AreFew ids
few_each coins [] [] good is = tt
few_each coins [] (l ∷ ids) good is = cc
few_each coins (b ∷ bs) [] good is = cc
few_each coins (b ∷ bs) (l ∷ ids) good is =
    let first : bytes_of l ≡ map txid_of b.txs = cc in
    let rest : map bytes_of ids ≡ txids_of bs = cc in
    let few : length b.txs ≤ 33554432 = good.0.spelled.few_txs in
    let same : length l ≡ length b.txs = sym (length-map l (λ (h : Hash32). h.0)) ∙ ap length first ∙ length-map b.txs txid_of in
    (omega arith, few_each (after_block coins b) bs ids good.1 rest)

pub few_at : (ids : List (List Hash32)) (i : ℕ) (x : List Hash32) → AllByRecursion (λ (l : List Hash32). length l < 2 ^ 32) ids → i < length ids → x ≡ get_or ids i x → length x < 2 ^ 32
few_at [] i x all lt is = absurd (omega arith)
few_at (l ∷ ids) zero x all lt is = subst (λ y. length y < 2 ^ 32) (sym is) all.0
few_at (l ∷ ids) (suc i) x all lt is = few_at ids i x all.1 (omega arith) is

compact_some : (n : ℕ) → 1 ≤ length (compact n)
compact_some n = elim (cases_lt n 253) [
  | inl small ↦ omega (arith, one_byte n small)
  | inr more ↦ elim (cases_lt n (2 ^ 16)) [
    | inl small ↦ omega (arith, three_bytes n more small)
    | inr most ↦ elim (cases_lt n (2 ^ 32)) [ inl small ↦ omega (arith, five_bytes n most small) | inr all ↦ omega (arith, nine_bytes n all) ]
  ]
]

input_41 : (i : TxIn) → IsInput i → 41 ≤ length (input_spelling i)
input_41 i is =
    let hash : length i.prev.txid.0 ≡ 32 = is.txid in
    omega (arith, input_length i 40 (omega arith), compact_some (length i.script))

output_9 : (o : Output) → 9 ≤ length (output_spelling o)
output_9 o = omega (arith, output_length o, compact_some (length o.script))

inputs_41 : (is : List TxIn) → 1 ≤ length is → AllByRecursion IsInput is → 41 ≤ length (flat_map input_spelling is)
inputs_41 [] some all = absurd (omega arith)
inputs_41 (i ∷ is) some all = omega (arith, length-append (input_spelling i) (flat_map input_spelling is), input_41 i all.0)

outputs_9 : (os : List Output) → 1 ≤ length os → 9 ≤ length (flat_map output_spelling os)
outputs_9 [] some = absurd (omega arith)
outputs_9 (o ∷ os) some = omega (arith, length-append (output_spelling o) (flat_map output_spelling os), output_9 o)

tx_60 : (t : Tx) → IsTx t → 60 ≤ length (tx_spelling t)
tx_60 t is =
    omega (arith, tx_length t, inputs_41 t.inputs is.some_inputs is.inputs, outputs_9 t.outputs is.some_outputs, compact_some (length t.inputs), compact_some (length t.outputs))

txs_60 : (ts : List Tx) → AllByRecursion IsTx ts → 60 * length ts ≤ length (flat_map tx_spelling ts)
txs_60 [] all = lit≤ tt
txs_60 (t ∷ ts) all = omega (arith, length-append (tx_spelling t) (flat_map tx_spelling ts), tx_60 t all.0, txs_60 ts all.1)

pub block_txs_few : (b : Block) → IsBlock b → length b.txs ≤ 16666
unfolding block_spelling
block_txs_few b is =
    let z : List ℕ = flat_map tx_spelling b.txs in
    let short : length (block_spelling b) ≤ 1000000 = is.short in
    omega (arith, short, length-append (header_spelling b.header) (compact (length b.txs) ++ z), length-append (compact (length b.txs)) z, txs_60 b.txs is.txs)

-- ---- what an index of them has

pub first_told : {E : Type 0} (blocks : List Block) (ids : List (List Hash32)) (r : Result PlaceMap E) → map bytes_of ids ≡ txids_of blocks
    → IfOk r (λ places. (txid : Hash32) → get places txid ≡ found_from 1 txid.0 (map bytes_of ids)) → IfOk r (λ places. AreFirstPlaces places blocks)
unfolding first_place
first_told blocks ids (Ok places) hashed is = λ txid. is txid ∙ ap (found_from 1 txid.0) hashed
first_told blocks ids (Err e) hashed is = tt

stands_told : (txid : List ℕ) (blocks : List Block) (r : Option (ℕ × ℕ)) → r ≡ first_place txid blocks → IfSome r (λ at. StandsAt txid blocks at.0 at.1)
stands_told txid blocks None is = tt
stands_told txid blocks (Some at) is = stands txid blocks at.0 at.1 (sym is)

pub taken_told : {E : Type 0} (blocks : List Block) (r : Result PlaceMap E) → IfOk r (λ places. AreFirstPlaces places blocks) → IfOk r (λ places. AreTaken places blocks)
taken_told blocks (Ok places) first = λ txid. stands_told txid.0 blocks (get places txid) (first txid)
taken_told blocks (Err e) first = tt
