use Rattle.std.proofs.Common.{List, ◌∙◌, map, sym, ap, subst}
use Rattle.std.specs.FinMap.{empty}
use Rattle.cf_bytes.specs.declared.hash.Hash32.{Hash32}
use Rattle.cf_block.specs.Views.{bytes_of}
use Rattle.cf_index.specs.Finding.{txids_of}
use Rattle.cf_index.proofs.Finding.{few_each, first_told, taken_told, AreFew}
use Rattle.cf_index.proofs.tx_index.TxIndex.of.Goals as goal

pub index_of-requires-clause-few : goal.index_of-requires-clause-few
index_of-requires-clause-few c =
    let are = c.chain.invariant.0 in
    subst AreFew (sym c.as_slice.ensures) (few_each empty c.chain.inside.blocks c.chain.inside.txids are.good.each are.hashed)

pub returns-clause-first : goal.returns-clause-first
returns-clause-first c =
    first_told c.args.chain.now c.as_slice.result.now c.index_of.result
    (ap (λ (l : List (List Hash32)). map bytes_of l) c.as_slice.ensures ∙ c.chain.invariant.0.hashed ∙ ap txids_of c.chain.view_is)
    c.index_of.ensures

pub returns-clause-taken : goal.returns-clause-taken
returns-clause-taken c = taken_told c.args.chain.now c.index_of.result (
    first_told c.args.chain.now c.as_slice.result.now c.index_of.result
    (ap (λ (l : List (List Hash32)). map bytes_of l) c.as_slice.ensures ∙ c.chain.invariant.0.hashed ∙ ap txids_of c.chain.view_is)
    c.index_of.ensures)
