use Rattle.std.proofs.Common.{◌≡◌, List, ◌++◌, ◌∷◌, [], length, length-append, refl, ap, ◌∙◌, arith}
use Rattle.std.specs.Prelude.{slice_get}
use Rattle.cf_seek.specs.OpensOf.{filter_or, block_or}
use Rattle.cf_seek.specs.declared.open_at.OpenAt.{OpenAt}
use Rattle.cf_seek.proofs.Openings.{seat_more}
use Rattle.cf_seek.proofs.opens.Opens.new.Goals as goal

pub loop-i-preserved : goal.loop-i-preserved
loop-i-preserved c =
    let items : c.push.new.self.items ≡ c.loop-i.peers.items ++ c.new.result ∷ [] = c.in_ok-push.ensures.items in
    record {
      count = ap (λ (xs : List OpenAt). length xs) items ∙ length-append c.loop-i.peers.items (c.new.result ∷ []) ∙ (let n = c.loop-i.invariant.count in omega (arith, n));
      filters = λ block p. ap (λ (xs : List OpenAt). filter_or (slice_get xs p) block) items ∙ seat_more (λ o. filter_or o block) c.loop-i.peers.items c.new.result (c.loop-i.invariant.filters block) (c.new.ensures.filters block) refl p;
      blocks = λ block p. ap (λ (xs : List OpenAt). block_or (slice_get xs p) block) items ∙ seat_more (λ o. block_or o block) c.loop-i.peers.items c.new.result (c.loop-i.invariant.blocks block) (c.new.ensures.block block) refl p;
    }
