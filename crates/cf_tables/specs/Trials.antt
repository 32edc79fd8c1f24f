-- machine: what is kept of tests, and what comes of blocks that are fetched and of filters that are given.
use Rattle.std.specs.Prelude.{◌≡◌, ℕ, Bool, true, false, List, [], ◌∷◌}
use Rattle.cf_block.specs.declared.tx.Block.{Block}
use Rattle.cf_block.specs.Header.{block_hash_of}
use Rattle.cf_filter.specs.Filter.{filter_hash_of}
use Rattle.cf_filter.specs.Lacking.{output_items_of}
use Rattle.cf_headers.specs.Chain.{Hash}
use Rattle.cf_match.specs.declared.job.Job.{Job}
use Rattle.cf_match.specs.Verdicts.{Verdicts, with_verdicts}
use Rattle.cf_tables.specs.Outputs.{Paid, lacks_kept, put_outputs}
use Rattle.cf_tables.specs.Tests.{IsSameTold, with_test}
use Rattle.cf_tables.specs.Known.{TestResults}

-- what fetched blocks pay, what was found of filters that were tested, and of each peer whether the filters that it was asked for last are to be tested
pub record Trials : Type 0 where
  pub paid : Paid
  pub told : TestResults
  pub aims : ℕ → Bool

-- the same is kept
pub record IsSameTrials (before after : Trials) : Type 0 where
  pub paid : (hash : Hash) → after.paid hash ≡ before.paid hash
  pub told : IsSameTold after.told before.told
  pub aims : (p : ℕ) → after.aims p ≡ before.aims p

-- with what more blocks pay, the last of which was put in first
abbrev pub with_paid : List Block → Paid → Paid
with_paid [] paid = paid
with_paid (b ∷ blocks) paid = put_outputs (block_hash_of b.header) (output_items_of b) (with_paid blocks paid)

-- with what is found of a filter by what its block pays
abbrev pub with_found : Paid → Job → TestResults → TestResults
with_found paid job told = with_test job.block.0 (filter_hash_of job.filter) (lacks_kept job.block.0 job.filter (paid job.block.0)) told

-- of filters that were asked for so that they are tested, which are asked for one by one
abbrev pub tested_if : Bool → Paid → List Job → TestResults → TestResults
tested_if true paid (job ∷ []) told = with_found paid job told
tested_if aim paid jobs told = told

-- the verdicts once filters came: those on filters that were asked for so that they are tested tell nothing
abbrev pub judged_if : Bool → List (List ℕ) → List Job → Verdicts → Verdicts
judged_if true watch jobs verdicts = verdicts
judged_if false watch jobs verdicts = with_verdicts watch jobs verdicts

-- these blocks came, and p gave these filters
pub record TrialsGo (before after : Trials) (p : ℕ) (news : List Block) (jobs : List Job) : Type 0 where
  pub paid : (hash : Hash) → after.paid hash ≡ with_paid news before.paid hash
  pub told : IsSameTold after.told (tested_if (before.aims p) before.paid jobs before.told)
  pub aims : (q : ℕ) → after.aims q ≡ before.aims q
