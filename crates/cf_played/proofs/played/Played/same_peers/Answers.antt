use Rattle.std.proofs.Common.{subst, List}
use Rattle.std.specs.Prelude.{map}
use Rattle.cf_played.specs.declared.player.Player.{Player}
use Rattle.cf_played.specs.Peers.{AreGood, shown}
use Rattle.cf_played.specs.Told.{peers_of}
use Rattle.cf_played.proofs.Known.{same_still}
use Rattle.cf_played.proofs.played.Played.same_peers.Goals as goal

pub returns-clause-same : goal.returns-clause-same
returns-clause-same c =
    let now = subst (λ (ps : List Player). AreGood (map shown ps)) c.deref.ensures.value c.see_good.ensures in
    λ peers good e. same_still peers (peers_of c.args.self.now) good now e
