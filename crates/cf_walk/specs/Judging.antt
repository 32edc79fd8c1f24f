-- machine: what is kept of a chain's blocks to judge the next one, and what a step along a file's records answers where no block is kept.
use Rattle.std.specs.Prelude.{◌≡◌, ◌⊎◌, ℕ, suc, ◌<◌, ◌≤◌, List, [], ◌∷◌, ◌++◌, length, map, Option, Some, None, IfSome, Result, Ok, Err, true, false}
use Rattle.std.specs.FinMap.{empty}
use Rattle.cf_bytes.specs.Cut.{◌>>=◌}
use Rattle.cf_bytes.specs.Outside.{HasRisen}
use Rattle.cf_bytes.specs.declared.hash.Hash32.{Hash32}
use Rattle.cf_bytes.specs.declared.memory.Refused.{Refused}
use Rattle.cf_bytes.specs.declared.memory.Refused.TheVariants.{No, NoMemory}
use Rattle.cf_block.specs.declared.tx.Block.{Block}
use Rattle.cf_block.specs.Commitment.{commit_fault}
use Rattle.cf_block.specs.Header.{block_hash_of}
use Rattle.cf_block.specs.Stored.{stored_block_at}
use Rattle.cf_block.specs.Tx.{txid_of}
use Rattle.cf_headers.specs.Rules.{fault_after, past_after}
use Rattle.cf_headers.specs.Chain.{tip_hash, past_of}
use Rattle.cf_chain.specs.Coins.{CoinMap, after_block, coins_after}
use Rattle.cf_chain.specs.Filters.{prevouts}
use Rattle.cf_chain.specs.Good.{IsGoodChain, headers_of}
use Rattle.cf_conn.specs.Window.{Pane, IsOver}
use Rattle.cf_conn.specs.declared.reading.ReadFail.TheVariants as fails
use Rattle.cf_walk.specs.declared.cause.RecordCause.{RecordCause}
use Rattle.cf_walk.specs.declared.cause.RecordCause.TheVariants.{Cut}
use Rattle.cf_walk.specs.declared.judge.Judge.{Judge}
use Rattle.cf_walk.specs.declared.walk.WalkStop.{WalkStop}
use Rattle.cf_walk.specs.declared.walk.WalkStop.TheVariants as stops
use Rattle.cf_walk.specs.Records.{Taken, IsRecordOf, record_at}
use Rattle.cf_coins.specs.Spending.{spend_txs}
use Rattle.cf_walk.specs.Files.{all_zeros, in_block, in_header, in_height, in_commitment, in_coins, or_else}

-- why a block may not stand on a header of this hash, where these times count, at this height, over these coins
abbrev pub cause_by : List ℕ → List ℕ → ℕ → CoinMap → Block → Option RecordCause
cause_by tip past height coins b =
    or_else (in_header (fault_after tip past b.header))
    (or_else (in_height height)
    (or_else (in_commitment (commit_fault b))
    (in_coins (spend_txs coins b.txs))))

-- a block and the bytes after it, unless there is this cause against it
abbrev pub block_unless : Option RecordCause → Block → List ℕ → Taken Block
block_unless None b rest = Ok (b, rest)
block_unless (Some cause) b rest = Err cause

-- the block of the record that stands here, and the bytes after it
unfoldable pub next_by : Judge → List ℕ → Taken Block
next_by j bytes = do
  text ← record_at bytes
  b ← in_block (stored_block_at text.0)
  block_unless (cause_by j.tip.0 j.past j.height j.coins b) b text.1

-- the hashes of a block's transactions
abbrev pub txids_of : Block → List Hash32
txids_of b = map (λ t. record { 0 = txid_of t }) b.txs

-- what is kept once this block was taken, and what was found of it
abbrev pub after_by : Judge → Block → Judge
after_by j b = record {
  tip = record { 0 = block_hash_of b.header };
  past = past_after b.header.time j.past;
  height = suc j.height;
  coins = after_block j.coins b;
  txids = txids_of b;
  spent = prevouts j.coins b;
}

-- the bytes begin with a record of this block
pub record BeginsWith (b : Block) (bytes rest : List ℕ) : Type 0 where
  pub front : List ℕ
  pub is : IsRecordOf front b
  pub spelled : bytes ≡ front ++ rest

-- what a step answers: none where zeros alone are left
abbrev pub Walks : Taken Block → List ℕ → List ℕ → Result (Option Block) (Refused RecordCause) → Type 0
Walks read old new (Ok (Some b)) = (all_zeros old ≡ false) × (read ≡ Ok (b, new))
Walks read old new (Ok None) = all_zeros old ≡ true
Walks read old new (Err (No cause)) = (all_zeros old ≡ false) × (read ≡ Err cause)
Walks read old new (Err NoMemory) = Unit {0}

-- these blocks are a good chain, and leave this: the hash of the highest header, the times that count, their number, and the coins after them
pub record StandsOn (j : Judge) (blocks : List Block) : Type 0 where
  pub good : IsGoodChain blocks
  pub tip : j.tip.0 ≡ tip_hash (headers_of blocks)
  pub past : j.past ≡ past_of (headers_of blocks)
  pub height : j.height ≡ length blocks
  pub coins : j.coins ≡ coins_after empty blocks

-- the answer of a walk with the blocks that were walked over before
abbrev pub added : List Block → Taken Block → Taken (List Block)
added blocks (Ok x) = Ok (blocks ++ x.0 ∷ [], x.1)
added blocks (Err cause) = Err cause

-- what is read of the bytes that came is so whatever follows, but where they were cut off
abbrev pub Firm : {X : Type 0} → Taken X → List ℕ → Taken X → Type 0
Firm (Ok x) more r = r ≡ Ok (x.0, x.1 ++ more)
Firm (Err cause) more r = (cause ≡ Cut → ⊥) → r ≡ Err cause

abbrev pub IsFirm : {X : Type 0} → (List ℕ → Taken X) → Type 0
IsFirm item = (bytes more : List ℕ) → Firm (item bytes) more (item (bytes ++ more))

-- ---- over a source

-- there is something to judge, and it isn't cut off
abbrev pub IsWhole : List ℕ → Type 0
IsWhole bytes = (all_zeros bytes ≡ false) × (record_at bytes ≡ Err Cut → ⊥)

-- eight zeros or more, with which no record begins
abbrev pub IsBlank : List ℕ → Type 0
IsBlank bytes = (8 ≤ length bytes) × (all_zeros bytes ≡ true)

abbrev pub IsReady : Pane → Option (List ℕ) → Type 0
IsReady w left = IsWhole w.held ⊎ (IsBlank w.held ⊎ IsOver w left)

-- zeros were dropped, or none
abbrev pub Strips : Option (List ℕ) → Option (List ℕ) → Type 0
Strips before after = IfSome before (λ bytes. (rest : List ℕ) × (after ≡ Some rest) × (all_zeros bytes ≡ all_zeros rest))

-- what is answered where no more of the bytes that count comes, by those behind them
abbrev pub EndsWith : Option RecordCause → List ℕ → Result (Option Block) WalkStop → Type 0
EndsWith None others (Ok None) = others ≡ []
EndsWith (Some cause) others (Err (stops.Cause told)) = (told ≡ cause) × (others ≡ [])
EndsWith cause others (Err stops.TooBig) = 0 < length others
EndsWith cause others (Err (stops.Read fail)) = Unit {0}
EndsWith cause others result = ⊥

-- What a step over all the bytes that count answers, by those behind them, and what is left then. A record that is cut off is refused
-- only where no others are behind.
abbrev pub WalksOver : Taken Block → List ℕ → List ℕ → Option (List ℕ) → Option (List ℕ) → Result (Option Block) WalkStop → Type 0
WalksOver read old others new behind (Ok (Some b)) = (all_zeros old ≡ false) × (rest : List ℕ) × (read ≡ Ok (b, rest)) × (new ≡ Some rest) × (behind ≡ Some others)
WalksOver read old others new behind (Ok None) = (all_zeros old ≡ true) × (others ≡ [])
WalksOver read old others new behind (Err (stops.Cause cause)) = (all_zeros old ≡ false) × (read ≡ Err cause) × (cause ≡ Cut → others ≡ [])
WalksOver read old others new behind (Err stops.TooBig) = (0 < length others) × ((all_zeros old ≡ true) ⊎ ((all_zeros old ≡ false) × (read ≡ Err Cut)))
WalksOver read old others new behind (Err (stops.Read fail)) = Unit {0}

-- what a step does to the source's count of faults
abbrev pub CountsStop : {X : Type 0} → Result X WalkStop → ℕ → ℕ → Type 0
CountsStop (Ok x) before after = after ≡ before
CountsStop (Err (stops.Cause cause)) before after = after ≡ before
CountsStop (Err stops.TooBig) before after = after ≡ before
CountsStop (Err (stops.Read fails.Failed)) before after = HasRisen before after
CountsStop (Err (stops.Read fails.TooBig)) before after = ⊥
CountsStop (Err (stops.Read fails.NoMemory)) before after = after ≡ before
