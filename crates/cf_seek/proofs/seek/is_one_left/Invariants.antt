use Rattle.std.proofs.Common.{◌≡◌, ℕ, true, List, take}
use Rattle.cf_dispute.specs.Of.{tables_of}
use Rattle.cf_dispute.specs.Tables.{blocks_of}
use Rattle.cf_headers.specs.Chain.{IsIn}
use Rattle.cf_tables.specs.Extracts.{table_in}
use Rattle.cf_tables.specs.Judged.{verdicts_in}
use Rattle.cf_tables.specs.Wanting.{IsUnjudged}
use Rattle.cf_seek.specs.OpensOf.{filter_at}
use Rattle.cf_seek.proofs.seek.is_one_left.Given as goal

-- none of the first blocks is still to be asked for
abbrev pub invariant-loop-block : goal.invariant-loop-block
invariant-loop-block l = (block : List ℕ) → IsIn block (blocks_of (take l.block-index l.blocks)) → filter_at l.at block ≡ true
    → IsUnjudged (table_in l.extracts) (tables_of l.claims) (verdicts_in l.judged) block → ⊥
