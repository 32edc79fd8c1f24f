use Rattle.std.proofs.Common.{◌≡◌, ◌++◌, ◌∷◌, [], List, sym, ◌∙◌, ap, subst}
use Rattle.std.specs.FinMap.{empty}
use Rattle.cf_block.specs.declared.tx.Block.{Block}
use Rattle.cf_chain.specs.Coins.{coins_after}
use Rattle.cf_chain.specs.Filters.{prevouts}
use Rattle.cf_chain.specs.Good.{IsGoodChain}
use Rattle.cf_index.proofs.Sources.{checked_more, past_on, tip_more}
use Rattle.cf_index.proofs.checked.CheckedChain.with.Goals as goal

pub invariant_of-result : goal.invariant_of-result
invariant_of-result c =
    let old = c.self.inside in
    let b = c.args.block in
    let found = c.args.found in
    let is : c.args.self ≡ old.blocks = sym c.self.view_is in
    let good : IsGoodChain (old.blocks ++ b ∷ []) = subst (λ (l : List Block). IsGoodChain (l ++ b ∷ [])) is c.requires.good in
    let taken : found.spent ≡ prevouts (coins_after empty old.blocks) b = c.requires.spent ∙ ap (λ (l : List Block). prevouts (coins_after empty l) b) is in
    let more = c.in_ok-push.ensures.ok in (
      checked_more old.blocks _ old.hashes _ old.txids _ old.spent _ b c.args.hash found.txids found.spent c.self.invariant.0 good c.requires.hash c.requires.hashed taken
          more c.in_ok-push-2.ensures.ok c.in_ok-push-3.ensures.ok c.in_ok-push-4.ensures.ok,
      tip_more old.blocks _ b c.args.hash.0 c.requires.hash more,
      past_on old.blocks _ b old.past _ c.self.invariant.2 c.push.ensures more,
    )
