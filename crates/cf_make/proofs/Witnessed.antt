-- A coinbase with its witness is stored, and so is its block.
use Rattle.std.proofs.Common.{◌≡◌, ℕ, ◌+◌, ◌≤◌, Bool, true, false, inr, List, [], ◌∷◌, ◌++◌, map, length, refl, sym, ap, arith, lit≤, length-append}
use Rattle.std.specs.Int.{w32, to_le_bytes, cast_unsigned}
use Rattle.std.specs.List.{flat_map, AllByRecursion}
use Rattle.cf_bytes.specs.Compact.{compact}
use Rattle.cf_block.specs.declared.tx.TxIn.{TxIn}
use Rattle.cf_block.specs.declared.tx.Tx.{Tx}
use Rattle.cf_block.specs.declared.tx.Block.{Block}
use Rattle.cf_block.specs.Header.{header_spelling}
use Rattle.cf_block.specs.Tx.{IsBlock, input_spelling, output_spelling, tx_spelling, block_spelling}
use Rattle.cf_block.specs.Commitment.{makes_coins, is_coinbase_tx}
use Rattle.cf_block.specs.Stored.{stack_spelling, extended_spelling, IsExtended, AreStored, IsStored}
use Rattle.cf_block.proofs.StoredLaws.{plain_stored, plain_each, plain_joined}
use Rattle.cf_chain.specs.Coins.{CoinMap, after_block}
use Rattle.cf_chain.specs.Good.{HasOneCoinbase, AreGoodBlocks}
use Rattle.cf_make.specs.Records.{record_of, records_of, reserved, with_witness, witness_spelling, text_of, made_record, made_records_of}

one_input : (inputs : List TxIn) → makes_coins inputs ≡ true → 1 ≡ length inputs
one_input [] is = cc
one_input (i ∷ []) is = refl
one_input (i ∷ j ∷ more) is = cc

coinbase_stored : (t : Tx) → is_coinbase_tx t ≡ true → IsExtended (extended_spelling t (reserved ∷ [])) t
coinbase_stored t is = record {
  stacks = reserved ∷ [];
  count = one_input t.inputs is;
  each = ((lit≤ tt, (lit≤ tt, tt)), tt);
  some = refl;
  spelled = refl;
}

-- the texts of a block's transactions
abbrev texts_of : List Tx → List (List ℕ)
texts_of [] = []
texts_of (t ∷ ts) = extended_spelling t (reserved ∷ []) ∷ map tx_spelling ts

-- the first transaction is a coinbase
abbrev pub BeginsWithCoinbase : List Tx → Type 0
BeginsWithCoinbase [] = ⊥
BeginsWithCoinbase (t ∷ ts) = is_coinbase_tx t ≡ true

begins : (ts : List Tx) → HasOneCoinbase ts → BeginsWithCoinbase ts
begins [] has = has
begins (t ∷ ts) has = has.0

each_stored : (ts : List Tx) → BeginsWithCoinbase ts → AreStored (texts_of ts) ts
each_stored [] has = absurd has
each_stored (t ∷ ts) has = (inr (coinbase_stored t has), plain_each ts)

texts_joined : (ts : List Tx) → with_witness ts ≡ flat_map (λ text. text) (texts_of ts)
texts_joined [] = refl
texts_joined (t ∷ ts) = ap (λ (l : List ℕ). extended_spelling t (reserved ∷ []) ++ l) (sym (plain_joined ts))

pub block_stored : (witness : Bool) (b : Block) → IsBlock b → BeginsWithCoinbase b.txs → IsStored (text_of witness b) b
unfolding witness_spelling
block_stored true b fits first = record {
  texts = texts_of b.txs;
  txs = each_stored b.txs first;
  spelled = ap (λ (l : List ℕ). header_spelling b.header ++ (compact (length b.txs) ++ l)) (texts_joined b.txs);
  block = fits;
}
block_stored false b fits first = plain_stored b fits

pub all_stored : (witness : Bool) (coins : CoinMap) (blocks : List Block) → AreGoodBlocks coins blocks → AllByRecursion (λ b. IsStored (text_of witness b) b) blocks
all_stored witness coins [] good = tt
all_stored witness coins (b ∷ bs) good =
    (block_stored witness b good.0.spelled (begins b.txs good.0.coinbase), all_stored witness (after_block coins b) bs good.1)

-- ---- how long they are

marked : (v i n o m s l : List ℕ) → length s ≡ 34
    → length (v ++ (0 ∷ 1 ∷ (i ++ (n ++ (o ++ (m ++ (s ++ l))))))) ≡ length (v ++ (i ++ (n ++ (o ++ (m ++ l))))) + 36
marked v i n o m s l is = simp length-append (omega (arith, is))

stack_size : length (flat_map stack_spelling (reserved ∷ [])) ≡ 34
unfolding stack_spelling compact
stack_size = refl

-- the marker and the stack
extended_size : (t : Tx) → length (extended_spelling t (reserved ∷ [])) ≡ length (tx_spelling t) + 36
unfolding extended_spelling tx_spelling
extended_size t =
    marked (to_le_bytes w32 (cast_unsigned w32 t.version)) (compact (length t.inputs))
    (flat_map input_spelling t.inputs) (compact (length t.outputs)) (flat_map output_spelling t.outputs) (flat_map stack_spelling (reserved ∷ []))
    (to_le_bytes w32 t.lock_time) stack_size

txs_size : (ts : List Tx) → length (with_witness ts) ≤ length (flat_map tx_spelling ts) + 36
txs_size [] = omega arith
txs_size (t ∷ ts) =
    let a = length-append (extended_spelling t (reserved ∷ [])) (flat_map tx_spelling ts) in
    let b = length-append (tx_spelling t) (flat_map tx_spelling ts) in
    omega (arith, a, b, extended_size t)

pub text_size : (witness : Bool) (b : Block) → length (text_of witness b) ≤ length (block_spelling b) + 36
unfolding witness_spelling block_spelling
text_size false b = omega arith
text_size true b =
    let front : List ℕ = header_spelling b.header in
    let count : List ℕ = compact (length b.txs) in
    let x = length-append front (count ++ with_witness b.txs) in
    let y = length-append count (with_witness b.txs) in
    let u = length-append front (count ++ flat_map tx_spelling b.txs) in
    let v = length-append count (flat_map tx_spelling b.txs) in
    omega (arith, x, y, u, v, txs_size b.txs)

pub all_short : (witness : Bool) (blocks : List Block)
    → AllByRecursion (λ b. length (text_of witness b) ≤ length (block_spelling b) + 36) blocks
all_short witness [] = tt
all_short witness (b ∷ bs) = (text_size witness b, all_short witness bs)

-- ---- those without a witness

record_plain : (b : Block) → made_record false b ≡ record_of b
unfolding made_record record_of
record_plain b = refl

pub records_plain : (blocks : List Block) → made_records_of false blocks ≡ records_of blocks
records_plain [] = refl
records_plain (b ∷ bs) = λ i. record_plain b i ++ records_plain bs i
