use Rattle.std.proofs.Common.{get_or, subst}
use Rattle.std.proofs.lemmas.Option.{slice_get-get_or}
use Rattle.cf_chain.specs.Good.{IsGoodChain}
use Rattle.cf_played.specs.declared.player.Player.{Player}
use Rattle.cf_played.proofs.Known.{good_more}
use Rattle.cf_played.proofs.played.see_good.Goals as goal

pub loop-player-preserved : goal.loop-player-preserved
loop-player-preserved c = record {
  good = good_more c.loop-player.player-index c.args.players.now (get_or c.args.players.now c.loop-player.player-index c.player-item.result) c.loop-player.invariant.good
      (slice_get-get_or c.args.players.now c.loop-player.player-index c.player-item.result c.loop-player-test.true) (subst (λ (p : Player). IsGoodChain p.index) c.player-item.is c.tip-height.ensures.good);
}
