-- statement: what a scan of the blocks that a source gives answers.
use Rattle.std.specs.Prelude.{◌≡◌, ℕ, List, length, Option, Some, Result, Ok, Err, String, fold, string_bytes}
use Rattle.std.specs.Global.{Global}
use Rattle.cf_block.specs.declared.tx.Block.{Block}
use Rattle.cf_headers.specs.Chain.{tip_hash}
use Rattle.cf_chain.specs.Good.{headers_of}
use Rattle.cf_walk.specs.Striding.{IsWalking, ReadsAs}
use Rattle.cf_walk.specs.Judging.{StandsOn}
use Rattle.cf_walk.specs.declared.fault.LoadFault.{LoadFault}
use Rattle.cf_walk.specs.declared.walk.Walk.{Walk}
use Rattle.cf_scan.specs.Extracts.{after_placed, extracts_of}
use Rattle.cf_scan.specs.HistoryText.{history_text}
use Rattle.cf_scan.specs.Scan.{Scanned, scan_of, unscanned}

-- the history of these scripts by a plain scan of every block above genesis, and the chain's tip
abbrev pub scan_text : List (List ℕ) → List Block → List ℕ
scan_text scripts blocks = history_text (scan_of blocks scripts) (length blocks) (tip_hash (headers_of blocks))

-- the bytes are a file of these blocks, and this is the text of their scan
pub record IsScanOf (bytes : List ℕ) (watch : List (List ℕ)) (text : List ℕ) : Type 0 where
  pub blocks : List Block
  pub read : ReadsAs bytes (Ok blocks)
  pub told : text ≡ scan_text watch blocks

-- what a scan of these bytes answers
abbrev pub TellsScan : List ℕ → List (List ℕ) → Result (String Global) LoadFault → Type 0
TellsScan bytes watch (Ok text) = IsScanOf bytes watch (string_bytes text)
TellsScan bytes watch (Err fault) = ReadsAs bytes (Err fault)

-- a walk has given these blocks, and they were scanned
pub record IsOnTheWay (watch : List (List ℕ)) (w : Walk) (ledger : Scanned) (left now : Option (List ℕ)) : Type 0 where
  pub blocks : List Block
  pub stands : StandsOn w.judge blocks
  pub walks : (bytes : List ℕ) → left ≡ Some bytes → IsWalking bytes w now blocks
  pub scanned : ledger ≡ fold after_placed unscanned (extracts_of blocks watch)
