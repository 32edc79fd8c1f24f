-- statement: what is known by a log: extracts of fetched blocks, claims, verdicts, open requests and tests.
use Rattle.std.specs.Prelude.{◌≡◌, ℕ, if◌then◌else◌, List, Some, None, true, false}
use Rattle.cf_bytes.specs.declared.hash.Hash32.{Hash32}
use Rattle.cf_block.specs.declared.tx.Block.{Block}
use Rattle.cf_block.specs.Header.{block_hash_of}
use Rattle.cf_dispute.specs.Claims.{Tables, no_claims}
use Rattle.cf_dispute.specs.Claims as dispute
use Rattle.cf_filter.specs.Filter.{filter_hash_of}
use Rattle.cf_headers.specs.Chain.{Hash, IsIn}
use Rattle.cf_match.specs.declared.job.Job.{Job}
use Rattle.cf_match.specs.declared.job.Verdict.{Verdict}
use Rattle.cf_match.specs.Verdicts.{Verdicts, verdict_of}
use Rattle.cf_scan.specs.declared.extracts.TxExtract.{TxExtract}
use Rattle.cf_scan.specs.Extract.{extract_of}
use Rattle.cf_peer.specs.Asking.{claims, counted, request}
use Rattle.cf_wires.specs.Log.{Log}
use Rattle.cf_peer.specs.Trail.{Trail, trail, is_connected}
use Rattle.cf_sync.specs.Fetching.{IsFetched, IsFetchedHash, IsGiven, IsGivenWith, IsOmission, IsTestedWith, blocks_open, filters_open}
use Rattle.cf_seek.specs.Opens.{Opens}
use Rattle.cf_tables.specs.Known.{ExtractTable, TestResults}

-- the extract of each block that was fetched, and nothing else
pub record HoldsFetched (watch : List (List ℕ)) (log : Log) (table : ExtractTable) : Type 0 where
  pub sound : (hash : Hash) (e : List TxExtract) → table hash ≡ Some e → (b : Block) × IsFetched log b × (block_hash_of b.header ≡ hash) × (e ≡ extract_of b watch)
  pub complete : (hash : Hash) → table hash ≡ None → IsFetchedHash log hash → ⊥

-- what is kept of a peer's claims: what counts of them, while it is connected
abbrev pub claims_kept : Trail → dispute.Table
claims_kept t = if is_connected t then claims (counted t) else no_claims

-- these tables hold what counts of the connected peers' claims, and nothing else
abbrev pub HoldsClaims : Log → Tables → Type 0
HoldsClaims log tables = (p : ℕ) (block : Hash) → tables p block ≡ claims_kept (trail log p) block

-- the verdict on each filter that was given, and nothing else
pub record HoldsGiven (watch : List (List ℕ)) (log : Log) (verdicts : Verdicts) : Type 0 where
  pub sound : (block hash : Hash) (v : Verdict) → verdicts block hash ≡ Some v → (job : Job) × IsGiven log job × (job.block.0 ≡ block) × (filter_hash_of job.filter ≡ hash) × (v ≡ verdict_of watch job)
  pub complete : (block hash : Hash32) → verdicts block.0 hash.0 ≡ None → IsGivenWith log block.0 hash → ⊥

-- what is kept of the requests that are open to a peer is what stands in them, while it is connected
pub record OpensAt (opens : Opens) (p : ℕ) (t : Trail) : Type 0 where
  pub filters : (block : Hash) → opens.filters p block ≡ true → (is_connected t ≡ true) × IsIn block (filters_open (request t))
  pub all_filters : (block : Hash) → is_connected t ≡ true → IsIn block (filters_open (request t)) → opens.filters p block ≡ true
  pub blocks : (block : Hash) → opens.blocks p block ≡ true → (is_connected t ≡ true) × IsIn block (blocks_open (request t))
  pub all_blocks : (block : Hash) → is_connected t ≡ true → IsIn block (blocks_open (request t)) → opens.blocks p block ≡ true

-- so it is kept of each peer
abbrev pub HoldsOpens : Log → Opens → Type 0
HoldsOpens log opens = (p : ℕ) → OpensAt opens p (trail log p)

-- Of each filter that was tested, by the hashes of its block and of itself, that it was; and of one with these hashes that lacks what a fetched block with
-- that hash pays, where it is told so.
pub record HoldsTests (log : Log) (told : TestResults) : Type 0 where
  pub lacking : (block : Hash) (hash : Hash32) → told block hash.0 ≡ Some true → (t : IsTestedWith log block hash) × IsOmission log block t.filter.filter
  pub holding : (block : Hash) (hash : Hash32) → told block hash.0 ≡ Some false → IsTestedWith log block hash
  pub complete : (block : Hash) (hash : Hash32) → told block hash.0 ≡ None → IsTestedWith log block hash → ⊥
