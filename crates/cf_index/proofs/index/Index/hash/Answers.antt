use Rattle.std.proofs.Common.{◌≡◌, rules}
use Rattle.std.specs.Prelude.{option_map}
use Rattle.cf_bytes.specs.declared.hash.Hash32.{Hash32}
use Rattle.cf_chain.specs.Filters.{Filtered, filter_at}
use Rattle.cf_index.proofs.Indexes.{hash_found}
use Rattle.cf_index.proofs.index.Index.hash.Goals as goal

pub returns-clause-block : goal.returns-clause-block
returns-clause-block c =
    let is : option_map (λ (h : Hash32). h.0) c.map.result ≡ option_map (λ (f : Filtered). f.block) (filter_at c.args.self.now c.args.height) = search rules in
    hash_found c.args.self.now c.args.height c.map.result is
