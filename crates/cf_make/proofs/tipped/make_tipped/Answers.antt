use Rattle.std.proofs.Common.{refl, ◌∙◌, ap, subst}
use Rattle.cf_block.specs.declared.header.Header.{Header}
use Rattle.cf_make.specs.Mined.{IsMined, NoneMeets}
use Rattle.cf_make.specs.Made.{first_coin, max_tries}
use Rattle.cf_make.proofs.Blocks.{header_is}
use Rattle.cf_make.proofs.StreamLemmas.{tip_is}
use Rattle.cf_make.proofs.tipped.make_tipped.Goals as goal

pub returns-in-Ok : goal.returns-in-Ok
returns-in-Ok c =
    let h = c.unmined-header.ensures ∙ header_is c.args.seed c.args.height c.args.tip c.in_ok-named.named.root c.as_slice.result.now (c.as_slice.ensures ∙ c.in_ok-txs.ensures) c.in_ok-named.ensures.root in
    record {
      block = record {
        header = subst (λ (h : Header). IsMined h max_tries c.in-Ok.mined.header) h c.in-Ok.ensures.mined;
        txs = c.in_ok-txs.ensures;
      };
      next = tip_is (record { header = c.in-Ok.mined.header; txs = c.in_ok-txs.txs }) c.in-Ok.mined.hash c.in_ok-named.named.coin c.in-Ok.ensures.hash
          (c.in_ok-named.ensures.coin ∙ ap first_coin c.as_slice.ensures);
    }

pub returns-in-Err : goal.returns-in-Err
returns-in-Err c =
    let h = c.unmined-header.ensures ∙ header_is c.args.seed c.args.height c.args.tip c.in_ok-named.named.root c.as_slice.result.now (c.as_slice.ensures ∙ c.in_ok-txs.ensures) c.in_ok-named.ensures.root in
    (refl, subst (λ (h : Header). NoneMeets h max_tries) h c.in-Err.ensures)
