use Rattle.std.proofs.Common.{◌≡◌, ◌<◌, List, ◌∷◌, ◌++◌, [], Option, None, length, sym, ap, ◌∙◌, subst, arith}
use Rattle.std.proofs.lemmas.List.{length-append}
use Rattle.std.specs.FinMap.{empty}
use Rattle.cf_block.specs.declared.tx.Block.{Block}
use Rattle.cf_block.specs.Tx.{IsBlock}
use Rattle.cf_chain.specs.Coins.{CoinMap, coins_after}
use Rattle.cf_chain.specs.Good.{IsGoodChain, headers_of}
use Rattle.cf_headers.specs.Rules.{past_after}
use Rattle.cf_headers.specs.Chain.{past_of, height_limit}
use Rattle.cf_headers.proofs.Pasts.{past_more}
use Rattle.cf_index.specs.Adding.{AreTheirs, last_header}
use Rattle.cf_index.proofs.Adding.{told_on, added_all}
use Rattle.cf_walk.specs.Files.{cause_on}
use Rattle.cf_walk.proofs.Growing.{headers_more, good_more}
use Rattle.cf_index.proofs.index.Index.put.Goals as goal

low_of : (blocks : List Block) (b : Block) → IsGoodChain blocks → IsBlock b → cause_on blocks b ≡ None → length blocks < height_limit
low_of blocks b good spelled fit =
    let more = (good_more blocks b good spelled fit).height in
    let one = length-append blocks (b ∷ []) in
    omega (arith, more, one)

pub put_all-requires : goal.put_all-requires
put_all-requires c =
    low_of c.self.inside.blocks c.args.block c.self.invariant.0.good c.requires.block
    (ap (λ (bs : List Block). cause_on bs c.args.block) c.self.view_is ∙ c.requires.fits)

pub invariant_of-self-2 : goal.invariant_of-self-2
invariant_of-self-2 c =
    let blocks = c.self.inside.blocks in
    let block = c.args.block in
    let laid = c.in_ok-coins.ensures.found ∙ ap (coins_after empty) c.as_slice.ensures in
    let fit = ap (λ (bs : List Block). cause_on bs block) c.self.view_is ∙ c.requires.fits in
    let last = c.last_header-last.ensures ∙ ap last_header (sym c.self.view_is) in
    let told = told_on blocks block c.with_header-filter.result c.as_slice-3.result.now c.in_ok-coins.coins c.last_header-last.result.0
    (c.with_header-filter.ensures c.as_slice-3.result.now block c.in_ok-bare.ensures) (c.as_slice-3.ensures ∙ c.in-Ok.ensures.spent) laid last in
    let put = c.in_ok-put_all.ensures.blocks ∙ ap (λ (b : Block). blocks ++ b ∷ []) c.in_ok-shared.ensures in
    let all = added_all c.self.inside.genesis blocks c.put_all.new.blocks c.self.inside.filters c.put_all.new.filters c.self.inside.heights c.put_all.new.heights
    c.in_ok-coins.coins c.spend_block.new.coins block c.with_header-filter.result c.block_hash-hash.result
    c.self.invariant.0 c.requires.block fit c.block_hash-hash.ensures told put c.in_ok-put_all.ensures.filters c.in_ok-put_all.ensures.heights laid
    c.in-Ok.ensures.after in (
      all.0,
      record {
        timed = c.go_on.ensures.times ∙ ap (past_after block.header.time) c.self.invariant.1.timed
            ∙ sym (ap past_of (ap headers_of put ∙ headers_more blocks block) ∙ past_more block.header (headers_of blocks));
        found = subst (λ (kept : Option CoinMap). AreTheirs kept c.put_all.new.blocks) (sym c.go_on.ensures.coins) all.1;
      },
    )
