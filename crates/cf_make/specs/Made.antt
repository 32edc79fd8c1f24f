-- statement: made chains, for `make`, `demo` and tests: chains of regtest in which every byte is told by a seed and a height, but for the nonces, which are mined.
use Rattle.std.specs.Prelude.{◌≡◌, ◌<◌, ◌^◌, ◌+◌, ◌*◌, ◌%◌, ◌==◌, ℕ, suc, pos, if◌then◌else◌, List, [], ◌∷◌, ◌++◌, map, length, replicate, Option, Some, None, Result, Ok, Err}
use Rattle.std.specs.Int.{w32, w64, to_le_bytes}
use Rattle.cf_bytes.specs.declared.memory.Refused.{Refused}
use Rattle.cf_bytes.specs.declared.memory.Refused.TheVariants.{No, NoMemory}
use Rattle.cf_block.specs.declared.header.Header.{Header}
use Rattle.cf_block.specs.declared.tx.OutPoint.{OutPoint}
use Rattle.cf_block.specs.declared.tx.Tx.{Tx}
use Rattle.cf_block.specs.declared.tx.Block.{Block}
use Rattle.cf_block.specs.Header.{block_hash_of, genesis_header}
use Rattle.cf_block.specs.Merkle.{merkle_root_of, txids}
use Rattle.cf_block.specs.Output.{Output}
use Rattle.cf_block.specs.Outpoint.{outpoint}
use Rattle.cf_block.specs.Tx.{tx_spelling, txid_of}
use Rattle.cf_make.specs.Mined.{IsMined, NoneMeets}
use Rattle.cf_make.specs.declared.tipped.Tip.{Tip}
use Rattle.cf_make.specs.declared.tipped.AtHeight.{AtHeight}

-- the script that pushes the byte k, drops it and pushes 1, which any input may spend
unfoldable pub script_of : ℕ → List ℕ
script_of k = 0x01 ∷ k ∷ 0x75 ∷ 0x51 ∷ []

-- this value to the script of k, modulo 16
abbrev pub paid_to : ℕ → ℕ → Output
paid_to value k = record { value = value; script = script_of (k % 16) }

-- a coinbase's script: the height in four bytes and the seed in eight, each pushed
unfoldable pub mark_of : ℕ → ℕ → List ℕ
mark_of seed height = 4 ∷ (to_le_bytes w32 height ++ (8 ∷ to_le_bytes w64 seed))

-- the coinbase at a height pays 50 coins to the script of seed + height
unfoldable pub coinbase_of : ℕ → ℕ → Tx
coinbase_of seed height = record {
  version = pos 1;
  inputs = record { prev = outpoint (replicate 32 0) 0xffffffff; script = mark_of seed height; sequence = 0xffffffff } ∷ [];
  outputs = paid_to 5000000000 (seed + height) ∷ [];
  lock_time = 0;
}

-- the second transaction spends a coin and pays 20 coins and 30 coins; turn is seed + height
unfoldable pub second_of : OutPoint → ℕ → Tx
second_of coin turn = record {
  version = pos 1;
  inputs = record { prev = coin; script = []; sequence = 0xffffffff } ∷ [];
  outputs = paid_to 2000000000 (turn + 5) ∷ paid_to 3000000000 (turn + 11) ∷ [];
  lock_time = 0;
}

-- it stands where seed + height is a multiple of 3 and a block above genesis is below
abbrev pub seconds_of : Option OutPoint → ℕ → List Tx
seconds_of None turn = []
seconds_of (Some coin) turn = if turn % 3 == 0 then second_of coin turn ∷ [] else []

-- the transactions of a made block: the coinbase, and the second one where it stands
abbrev pub made_txs : ℕ → ℕ → Option OutPoint → List Tx
made_txs seed height coin = coinbase_of seed height ∷ seconds_of coin (seed + height)

-- the first output of the first of a block's transactions, its coinbase
abbrev pub first_coin : List Tx → Option OutPoint
first_coin [] = None
first_coin (t ∷ ts) = Some (outpoint (txid_of t) 0)

-- what a block needs of this one below it: its hash, and the first output of its coinbase
abbrev pub tip_of : Block → Tip
tip_of b = record { hash = record { 0 = block_hash_of b.header }; coin = first_coin b.txs }

-- the same of genesis, whose output can't be spent
abbrev pub genesis_tip : Tip
genesis_tip = record { hash = record { 0 = block_hash_of genesis_header }; coin = None }

-- the tip after blocks, the lowest first
abbrev pub tip_after : Tip → List Block → Tip
tip_after tip [] = tip
tip_after tip (b ∷ bs) = tip_after (tip_of b) bs

-- the header, before its nonce is sought: 600 seconds a block, from genesis's time on
unfoldable pub made_header : ℕ → ℕ → Tip → Header
made_header seed height tip = record {
  version = pos 4;
  previous = tip.hash;
  root = record { 0 = merkle_root_of (txids (map tx_spelling (made_txs seed height tip.coin))) };
  time = 1296688602 + 600 * height;
  bits = 0x207fffff;
  nonce = 0;
}

-- the nonces that are tried
abbrev pub max_tries : ℕ
max_tries = 65536

-- the block that the seed makes at a height on the one below
pub record IsMadeBlock (seed height : ℕ) (tip : Tip) (b : Block) : Type 0 where
  pub header : IsMined (made_header seed height tip) max_tries b.header
  pub txs : b.txs ≡ made_txs seed height tip.coin

-- blocks from this height on, the lowest first, each made by the seed on the one before
abbrev pub AreMade : ℕ → ℕ → Tip → List Block → Type 0
AreMade seed height tip [] = Unit {0}
AreMade seed height tip (b ∷ bs) = IsMadeBlock seed height tip b × AreMade seed (suc height) (tip_of b) bs

-- a chain, and so many made blocks above it
pub record IsExtension (base : List Block) (seed n : ℕ) (whole : List Block) : Type 0 where
  pub more : List Block
  pub joined : whole ≡ base ++ more
  pub count : length more ≡ n
  pub made : AreMade seed (suc (length base)) (tip_after genesis_tip base) more

-- of the blocks to be made, those below this height can be, and no nonce serves for its own
pub record StopsAt (base : List Block) (seed n height : ℕ) : Type 0 where
  pub below : List Block
  pub extends : IsExtension base seed (length below) (base ++ below)
  pub at : height ≡ suc (length base + length below)
  pub within : length below < n
  pub unmined : NoneMeets (made_header seed height (tip_after genesis_tip (base ++ below))) max_tries

-- what a call answered that makes so many blocks above a chain
abbrev pub Extends : List Block → ℕ → ℕ → Result (List Block) (Refused AtHeight) → Type 0
Extends base seed n (Ok whole) = IsExtension base seed n whole
Extends base seed n (Err (No e)) = StopsAt base seed n e.height
Extends base seed n (Err NoMemory) = Unit {0}

-- seeds have 33 bits
abbrev pub seed_limit : ℕ
seed_limit = 2 ^ 33

-- blocks from this height on, each made by some seed on the one before
pub record IsMadeBySome (height : ℕ) (tip : Tip) (b : Block) : Type 0 where
  pub seed : ℕ
  pub small : seed < seed_limit
  pub made : IsMadeBlock seed height tip b

abbrev pub AreMadeInTurn : ℕ → Tip → List Block → Type 0
AreMadeInTurn height tip [] = Unit {0}
AreMadeInTurn height tip (b ∷ bs) = IsMadeBySome height tip b × AreMadeInTurn (suc height) (tip_of b) bs

-- a chain above genesis that one seed or several have made
abbrev pub IsMadeChain : List Block → Type 0
IsMadeChain blocks = AreMadeInTurn 1 genesis_tip blocks
