use Rattle.std.proofs.Common.{◌∙◌, ap, arith}
use Rattle.cf_run.specs.Names.{names_in}
use Rattle.cf_demo.proofs.Demos.{session_so}
use Rattle.cf_played.specs.Told.{log_of, peers_of}
use Rattle.cf_demo.proofs.playing.play_session.Goals as goal

pub returns-clause-ok : goal.returns-clause-ok
returns-clause-ok g c =
    session_so c.args.seed c.args.blocks c.in_ok-watch.watch (peers_of c.prepare_session.new.played) (names_in c.deref.result.now) c.in_ok-run.field-0 (log_of c.run.new.played)
    (omega (arith, c.ranges.seed.fits)) c.requires.most c.in_ok-watch.ensures.ok c.in_ok-watch.ensures.watch (ap names_in c.deref.ensures.value ∙ c.in_ok-names.ensures.names) c.in_ok-run.ensures.ran
