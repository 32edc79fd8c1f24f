use Rattle.std.proofs.Common.{◌-◌, List, get_or, refl, sym, ◌∙◌, ap, subst}
use Rattle.std.specs.Prelude.{string_bytes, IfSome}
use Rattle.cf_block.specs.declared.tx.Block.{Block}
use Rattle.cf_index.specs.Finding.{StandsAt}
use Rattle.cf_offline.proofs.ProofTexts.{few_there, text_told}
use Rattle.cf_offline.proofs.proving.text_in.Goals as goal

pub text_at-requires-clause-few : goal.text_at-requires-clause-few
text_at-requires-clause-few c =
    let stands = subst (λ o. IfSome o (λ p. StandsAt c.args.txid.now.0 c.args.chain.now p.0 p.1)) c.in-Some.is c.in_ok-found.ensures.stands in
    few_there c.args.txid.now.0 c.args.chain.now c.in-Some.height c.in-Some.place (c.in-Some.height - 1) c.index-blocks-height.result c.requires stands refl
    (c.index-blocks-height.is ∙ ap (λ (l : List Block). get_or l (c.in-Some.height - 1) c.index-blocks-height.result) c.blocks-2.ensures)

pub returns : goal.returns
returns c =
    let stands = subst (λ o. IfSome o (λ p. StandsAt c.args.txid.now.0 c.args.chain.now p.0 p.1)) c.in-Some.is c.in_ok-found.ensures.stands in
    text_told c.args.txid.now.0 c.args.chain.now c.in-Some.height c.in-Some.place (c.in-Some.height - 1) c.index-blocks-height.result (string_bytes c.in_ok-text.text) (sym c.in_ok-found.ensures.first ∙ c.in-Some.is)
    stands refl (c.index-blocks-height.is ∙ ap (λ (l : List Block). get_or l (c.in-Some.height - 1) c.index-blocks-height.result) c.blocks-2.ensures) c.in_ok-text.ensures
