use Rattle.std.proofs.Common.{◌≡◌, ◌++◌, [], List, map, drop, sym, ap, ◌∙◌}
use Rattle.std.proofs.lemmas.List.{append-nil, drop_all}
use Rattle.cf_bytes.specs.declared.hash.Hash32.{Hash32}
use Rattle.cf_block.specs.declared.tx.Tx.{Tx}
use Rattle.cf_block.specs.Tx.{txid_of}
use Rattle.cf_block.specs.Views.{bytes_of}
use Rattle.cf_scan.specs.Extract.{tx_extract_of}
use Rattle.cf_scan.proofs.LentLemmas.{none_mapped}
use Rattle.cf_scan.proofs.lent.extract_view_by.Goals as goal

pub returns : goal.returns
returns c =
    let l = c.loop-txid in
    let over : drop l.txid-index c.args.txids.now ≡ [] =
    drop_all l.txid-index c.args.txids.now c.loop-txid-test.false in
    let none : l.txs ≡ [] =
    none_mapped txid_of l.txs (ap (λ (hs : List Hash32). bytes_of hs) (sym over) ∙ l.invariant.ids) in
    c.from_vec.ensures ∙ sym (append-nil l.out.items)
    ∙ ap (λ (ts : List Tx). l.out.items ++ map (tx_extract_of c.args.watch.now) ts) (sym none) ∙ l.invariant.all
