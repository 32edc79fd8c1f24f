use Rattle.std.proofs.Common.{ℕ, List, take}
use Rattle.cf_dispute.specs.Of.{tables_of}
use Rattle.cf_dispute.specs.Tables.{blocks_of}
use Rattle.cf_headers.specs.Chain.{IsIn}
use Rattle.cf_seek.specs.Testing.{IsExposed}
use Rattle.cf_tables.specs.Tests.{told_in}
use Rattle.cf_seek.proofs.testing.first_exposed.Given as goal

abbrev pub invariant-loop-block : goal.invariant-loop-block
invariant-loop-block l =
    (block : List ℕ) → IsIn block (blocks_of (take l.block-index l.blocks)) → (filter : List ℕ) → IsExposed (tables_of l.claims) (told_in l.tests) l.p.0 block filter → ⊥
