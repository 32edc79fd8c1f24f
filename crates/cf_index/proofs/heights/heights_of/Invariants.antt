use Rattle.std.proofs.Common.{◌≡◌, ◌+◌, ◌∷◌, take}
use Rattle.std.specs.List.{position}
use Rattle.std.specs.FinMap.{get}
use Rattle.cf_bytes.specs.declared.hash.Hash32.{Hash32}
use Rattle.cf_headers.specs.Rules.{same}
use Rattle.cf_index.specs.HeightMap.{first_hash}
use Rattle.cf_index.proofs.heights.heights_of.Given as goal

abbrev pub invariant-loop-hash : goal.invariant-loop-hash
invariant-loop-hash l = record {
  at : l.height ≡ l.hash-index + 1;
  so_far : (q : Hash32) → get l.heights q ≡ position (λ h. same h.0 q.0) (first_hash ∷ take l.hash-index l.hashes);
}
