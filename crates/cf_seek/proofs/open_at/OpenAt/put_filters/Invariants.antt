use Rattle.std.proofs.Common.{◌≡◌, ◌⊎◌, ℕ, List, take, true}
use Rattle.cf_dispute.specs.Tables.{blocks_of}
use Rattle.cf_headers.specs.Chain.{IsIn}
use Rattle.cf_seek.specs.OpensOf.{filter_at, block_at}
use Rattle.cf_seek.proofs.open_at.OpenAt.put_filters.Given as goal

abbrev pub invariant-loop-block : goal.invariant-loop-block
invariant-loop-block l = record {
  there : (hash : List ℕ) → IsIn hash (blocks_of (take l.block-index l.blocks)) → filter_at l.self hash ≡ true;
  stays : (hash : List ℕ) → filter_at l.fn.self hash ≡ true → filter_at l.self hash ≡ true;
  only : (hash : List ℕ) → filter_at l.self hash ≡ true → IsIn hash (blocks_of (take l.block-index l.blocks)) ⊎ (filter_at l.fn.self hash ≡ true);
  block : (hash : List ℕ) → block_at l.self hash ≡ block_at l.fn.self hash;
}
