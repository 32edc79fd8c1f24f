use Rattle.std.proofs.Common.{◌≡◌, ℕ, List, take, None}
use Rattle.cf_dispute.specs.declared.claim.At.TheVariants.{Differ}
use Rattle.cf_dispute.specs.Claims.{IsAt}
use Rattle.cf_dispute.specs.Of.{tables_of}
use Rattle.cf_dispute.specs.Tables.{blocks_of}
use Rattle.cf_headers.specs.Chain.{IsIn}
use Rattle.cf_tables.specs.Extracts.{table_in}
use Rattle.cf_tables.proofs.kind.is_any_disputed.Given as goal

abbrev pub invariant-loop-block : goal.invariant-loop-block
invariant-loop-block l = (block : List ℕ) → IsIn block (blocks_of (take l.block-index l.blocks)) → table_in l.extracts block ≡ None → IsAt (tables_of l.claims) block Differ → ⊥
