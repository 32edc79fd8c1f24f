-- statement: what is to be asked next, by all that a log holds; and what was sent so.
use Rattle.std.specs.Prelude.{◌≡◌, ℕ, true, [], ◌∷◌, Some}
use Rattle.cf_dispute.specs.Claims.{Tables}
use Rattle.cf_headers.specs.Chain.{Chain}
use Rattle.cf_headers.specs.Heights.{common_of}
use Rattle.cf_match.specs.Verdicts.{Verdicts}
use Rattle.cf_msg.specs.declared.msg.Msg.{Msg}
use Rattle.cf_msg.specs.declared.msg.Msg.TheVariants.{GetData, GetCfheaders, GetCfilters}
use Rattle.cf_peer.specs.Asking.{block_entry}
use Rattle.cf_wires.specs.declared.event.Event.TheVariants.{Sent}
use Rattle.cf_wires.specs.Log.{Log}
use Rattle.cf_peer.specs.Trail.{trail, own, spelled, is_heard_out_in}
use Rattle.cf_sync.specs.Fetching.{Rule, IsBest, IsNeeded, MaySendIn}
use Rattle.cf_sync.specs.Planned.{IsPlanned}
use Rattle.cf_holds.specs.Known.{HoldsFetched, HoldsClaims, HoldsGiven, HoldsOpens, HoldsTests}
use Rattle.cf_seek.specs.declared.spans.Wish.{Wish}
use Rattle.cf_seek.specs.declared.spans.Wish.TheVariants.{Claims, Filters, Block, Test}
use Rattle.cf_seek.specs.Opens.{Opens}
use Rattle.cf_seek.specs.Spans.{IsWish, GoesFar}
use Rattle.cf_tables.specs.Known.{ExtractTable, TestResults}
use Rattle.cf_seek.specs.Testing.{IsTrying}

-- a message puts a question
abbrev pub Puts : Wish → Msg → Type 0
Puts (Claims span) (GetCfheaders filter start stop) = (start ≡ span.start) × (stop ≡ span.stop)
Puts (Filters span) (GetCfilters filter start stop) = (start ≡ span.start) × (stop ≡ span.stop)
Puts (Block hash) (GetData entries) = entries ≡ block_entry hash ∷ []
Puts (Test trial) (GetCfilters filter start stop) = (start ≡ trial.height) × (stop ≡ trial.block)
Puts wish m = ⊥

-- It is p's turn to be asked this. It was heard out; and of the blocks that its own chain shares with the best one, by what was fetched, claimed
-- and given, and by what is open, the question is for the claims from the lowest that it doesn't claim; where it claims all, for the filters from
-- the lowest that isn't judged and is open to nobody; where there is none of these, for the lowest block that is to be fetched and is open to
-- nobody; and where there is none of these either, for the filter of the lowest fetched block on which they differ and of which what it claims wasn't
-- tested. It goes as far as it may. By block and filter, told is whether a filter that was tested lacks what its block pays, as the log has it
-- (tested); tries says that a question for a filter to be tested is for that of the lowest such block.
pub record IsInTurn (rule : Rule) (log : Log) (p : ℕ) (m : Msg) : Type 0 where
  pub heard_out : is_heard_out_in rule.mode (trail log p) ≡ true
  pub chain : Chain
  pub best : IsBest log chain
  pub extracts : ExtractTable
  pub tables : Tables
  pub verdicts : Verdicts
  pub fetched : HoldsFetched rule.watch log extracts
  pub claimed : HoldsClaims log tables
  pub opens : Opens
  pub given : HoldsGiven rule.watch log verdicts
  pub opened : HoldsOpens log opens
  pub wish : Wish
  pub wished : IsWish extracts tables verdicts opens p (own (trail log p)) (common_of (own (trail log p)) chain) wish
  pub far : GoesFar extracts tables verdicts opens p (own (trail log p)) (common_of (own (trail log p)) chain) wish
  pub puts : Puts wish m
  pub told : TestResults
  pub tested : HoldsTests log told
  pub tries : IsTrying extracts tables told p (own (trail log p)) (common_of (own (trail log p)) chain) wish

-- what a client is to ask for that stands for this log, and when: each question about blocks in its turn
abbrev pub IsCalledFor : Rule → Log → ℕ → Msg → Type 0
IsCalledFor rule log p (GetCfheaders filter start stop) = IsInTurn rule log p (GetCfheaders filter start stop)
IsCalledFor rule log p (GetCfilters filter start stop) = IsNeeded rule.watch log p (GetCfilters filter start stop) × IsInTurn rule log p (GetCfilters filter start stop)
IsCalledFor rule log p (GetData entries) = IsNeeded rule.watch log p (GetData entries) × IsInTurn rule log p (GetData entries)
IsCalledFor rule log p m = Unit {0}

-- what was sent was wanted and called for by a client that knew of no failure that it wasn't told of yet
abbrev pub ArePlanned : Rule → Log → Type 0
ArePlanned rule [] = Unit {0}
ArePlanned rule (Sent p bytes ∷ log) = ((m : Msg) × (spelled bytes ≡ Some m) × ((planned : Log) × (IsPlanned planned log × (MaySendIn rule.mode planned p.0 m × IsCalledFor rule planned p.0 m)))) × ArePlanned rule log
ArePlanned rule (_ ∷ log) = ArePlanned rule log
