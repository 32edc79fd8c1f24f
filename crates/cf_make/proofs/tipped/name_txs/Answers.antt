use Rattle.std.proofs.Common.{ap, ◌∙◌, List}
use Rattle.cf_bytes.specs.declared.hash.Hash32.{Hash32}
use Rattle.cf_block.specs.Merkle.{merkle_root_of}
use Rattle.cf_block.specs.Views.{bytes_of}
use Rattle.cf_block.proofs.CommitLemmas.{ids_are}
use Rattle.cf_make.proofs.tipped.name_txs.Goals as goal

pub returns-clause-root : goal.returns-clause-root
returns-clause-root c =
    c.merkle_root-root.ensures
    ∙ ap (λ (ids : List Hash32). merkle_root_of (bytes_of ids)) (c.as_mut_slice.ensures.value ∙ c.into_vec-ids.ensures)
    ∙ ap merkle_root_of (ids_are c.in_ok-txids.field-0 c.args.txs.now c.in_ok-txids.ensures)
