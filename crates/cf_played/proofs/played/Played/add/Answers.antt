use Rattle.std.specs.Prelude.{is_ok}
use Rattle.cf_played.proofs.Accounts.{pushed_so}
use Rattle.cf_played.proofs.played.Played.add.Goals as goal

pub invariant_of-self-clause-accounts : goal.invariant_of-self-clause-accounts
invariant_of-self-clause-accounts g c =
    pushed_so (is_ok c.push.result) c.args.self.now.log.items c.args.self.now.players.items c.push.new.self.items c.in_ok-player.player c.push.ensures.items c.requires.new
    c.in_ok-player.ensures.unseen c.in_ok-player.ensures.none c.args.self.now.accounts
