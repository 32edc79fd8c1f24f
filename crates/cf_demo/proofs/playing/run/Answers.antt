use Rattle.cf_headers.specs.Counts.{CountsOnce}
use Rattle.cf_demo.proofs.Demos.{has_run}
use Rattle.cf_played.specs.Told.{log_of, peers_of}
use Rattle.cf_demo.proofs.playing.run.Goals as goal

pub returns-clause-ran : goal.returns-clause-ran
returns-clause-ran g c =
    let ran = c.sync_played.ensures in
    has_run c.sync_played.result CountsOnce c.args.watch (peers_of c.args.played.now) c.args.names.now (log_of c.sync_played.new.played)
    ran.outcome ran.theorem ran.honest ran.accounts ran.within
