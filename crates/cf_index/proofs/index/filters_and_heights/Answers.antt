use Rattle.std.proofs.Common.{rules, ◌≡◌, ◌∷◌}
use Rattle.std.specs.List.{position}
use Rattle.std.specs.FinMap.{get}
use Rattle.cf_bytes.specs.declared.hash.Hash32.{Hash32}
use Rattle.cf_headers.specs.Rules.{same}
use Rattle.cf_index.specs.HeightMap.{first_hash}
use Rattle.cf_index.proofs.Indexes.{placed}
use Rattle.cf_index.proofs.index.filters_and_heights.Goals as goal

pub returns-clause-heights : goal.returns-clause-heights
returns-clause-heights g c =
    let found : (hash : Hash32) → get c.in_ok-heights.field-0 hash ≡ position (λ h. same h.0 hash.0) (first_hash ∷ c.args.hashes.now) = search rules in
    placed c.args.blocks.now c.args.hashes.now c.in_ok-heights.field-0 c.requires.named found
