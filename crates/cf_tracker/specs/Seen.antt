-- machine: what a client has seen of its peers' chains, claims, filters and blocks.
use Rattle.std.specs.Prelude.{◌≡◌, ℕ, List}
use Rattle.cf_dispute.specs.Claims.{Tables}
use Rattle.cf_headers.specs.declared.store.HeaderStore.{Ghosts}
use Rattle.cf_headers.specs.Store.{Chains, Stays}
use Rattle.cf_match.specs.Verdicts.{Verdicts, AreSameVerdicts}
use Rattle.cf_seek.specs.Opens.{Opens}
use Rattle.cf_seek.specs.Opening.{IsSameOpens}
use Rattle.cf_tables.specs.Claiming.{IsSameTables}
use Rattle.cf_tables.specs.Known.{ExtractTable}
use Rattle.cf_tables.specs.Tables.{IsSameTable}
use Rattle.cf_tables.specs.Trials.{IsSameTrials, Trials}
use Rattle.cf_tracker.specs.declared.account.Written.{Written}
use Rattle.cf_tracker.specs.declared.tracker.Tracker.{Tracker}
use Rattle.cf_tracker.specs.Tracker.{chains_of, claims_of, opens_of, table_of, trials_of, verdicts_of, watch_of, written_of}

-- the watched scripts, the chain of each peer that is tracked and what it claims, the extracts of fetched blocks, the
-- verdicts on filters, and the filters and the block that are open to each peer; what is kept of tests; and the blocks
-- whose history is written
pub record Seen : Type 0 where
  pub watch : List (List ℕ)
  pub chains : Chains
  pub claims : Tables
  pub table : ExtractTable
  pub verdicts : Verdicts
  pub opens : Opens
  pub trials : Trials
  pub written : List Written

-- what a tracker over a store of chains has seen
abbrev pub seen_of : {H : Type 0} {g : Ghosts H} → Tracker H g → Seen
seen_of tracker = record {
  watch = watch_of tracker;
  chains = chains_of tracker;
  claims = claims_of tracker;
  table = table_of tracker;
  verdicts = verdicts_of tracker;
  opens = opens_of tracker;
  trials = trials_of tracker;
  written = written_of tracker;
}

-- nothing changed
pub record IsSameSeen (before after : Seen) : Type 0 where
  pub watch : after.watch ≡ before.watch
  pub chains : Stays before.chains after.chains
  pub claims : IsSameTables before.claims after.claims
  pub table : IsSameTable before.table after.table
  pub verdicts : AreSameVerdicts after.verdicts before.verdicts
  pub opens : IsSameOpens before.opens after.opens
  pub trials : IsSameTrials before.trials after.trials
  pub written : after.written ≡ before.written
