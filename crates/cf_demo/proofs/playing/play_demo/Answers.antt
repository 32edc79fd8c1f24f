use Rattle.std.proofs.Common.{◌∙◌, ap, arith}
use Rattle.cf_run.specs.Names.{names_in}
use Rattle.cf_demo.proofs.Demos.{demo_so, peers_played}
use Rattle.cf_played.specs.Told.{log_of, peers_of}
use Rattle.cf_demo.proofs.playing.play_demo.Goals as goal

pub returns-clause-ok : goal.returns-clause-ok
returns-clause-ok g c =
    demo_so c.args.seed c.args.blocks c.in_ok-watch.watch (peers_of c.prepare_demo.new.played) (names_in c.deref.result.now) c.in_ok-outcome.outcome c.in_ok-tell.field-0 (log_of c.run.new.played)
    (omega (arith, c.ranges.seed.fits)) c.requires.most c.in_ok-watch.ensures.ok c.in_ok-watch.ensures.watch (ap names_in c.deref.ensures.value ∙ c.in_ok-names.ensures.names) c.in_ok-outcome.ensures.ran
    c.in_ok-tell.ensures

pub returns-clause-peers : goal.returns-clause-peers
returns-clause-peers g c = peers_played c.args.seed c.args.blocks (peers_of c.prepare_demo.new.played) (peers_of c.run.new.played) c.in_ok-watch.ensures.ok c.run.ensures.peers
