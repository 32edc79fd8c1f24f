use Rattle.std.proofs.Common.{◌≡◌, ◌-◌, ◌≤◌, map, drop, take, reverse}
use Rattle.cf_block.specs.Header.{block_hash_of}
use Rattle.cf_bytes.specs.declared.hash.Hash32.{Hash32}
use Rattle.cf_headers.specs.Store.{own_of}
use Rattle.cf_seek.proofs.spans.span_of.Given as goal

abbrev pub invariant-loop-below : goal.invariant-loop-below
invariant-loop-below g l = record {
  low : l.start - 1 ≤ l.below;
  are : map (λ (h : Hash32). h.0) l.blocks.items ≡ map block_hash_of (drop (l.start - 1) (take l.below (reverse (own_of (g.H.HeaderStore.chain l.store) l.p))));
}
