use Rattle.std.proofs.Common.{ℕ, List, take}
use Rattle.std.specs.Prelude.{IsSome}
use Rattle.cf_dispute.specs.declared.claim.At.TheVariants.{Differ}
use Rattle.cf_dispute.specs.Claims.{IsAt}
use Rattle.cf_dispute.specs.Of.{tables_of}
use Rattle.cf_dispute.specs.Tables.{blocks_of}
use Rattle.cf_tables.specs.Extracts.{table_in}
use Rattle.cf_seek.specs.Tried.{IsTriedBelow, tried_at}
use Rattle.cf_seek.proofs.tried.fall_below_disputes.Given as goal

abbrev pub invariant-loop-block : goal.invariant-loop-block
invariant-loop-block g l =
    (q : ℕ) → IsTriedBelow (g.H.HeaderStore.chain l.store q)
    (λ (b : List ℕ). IsSome (table_in l.extracts b) × IsAt (tables_of l.claims) b Differ)
    (blocks_of (take l.block-index l.blocks)) (tried_at l.fn.tried q) (tried_at l.tried q)
