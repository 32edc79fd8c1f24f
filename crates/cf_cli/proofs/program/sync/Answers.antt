use Rattle.std.proofs.Common.{false, rules, Err, ap}
use Rattle.std.proofs.Math.Facts.{to_z-of_z}
use Rattle.std.specs.Int.{w64}
use Rattle.std.specs.Prelude.{is_some}
use Rattle.cf_run.specs.Names.{names_in}
use Rattle.cf_loading.proofs.Counting.{counts_fine}
use Rattle.cf_cli.proofs.Plays.{early_told, early_tallied, new_over, told_over_watch, watch_there}
use Rattle.cf_cli.proofs.Handed.{unrun_files, run_files, unrun_of_file}
use Rattle.cf_cli_client.proofs.Wires.{runs_at, unrun_wires}
use Rattle.cf_cli.proofs.Ends.{ends_early}
use Rattle.cf_cli.proofs.program.sync.Goals as goal

pub returns-in-Ok-clause-kept : goal.returns-in-Ok-clause-kept
returns-in-Ok-clause-kept g c =
    told_over_watch (g.W.Wires.told c.run_once.new.wires).log c.run_once.result (is_some c.args.log_file.now) false (g.F.Files.files c.args.files.now) c.args.watch.now c.in-Ok.scripts (names_in c.args.peers.now)
    (g.O.Sink.written c.args.out.now) (g.O.Sink.written c.run_once.new.out)
    (watch_there (g.F.Files.files c.args.files.now) c.args.watch.now c.in-Ok.scripts c.in-Ok.ensures.good c.in-Ok.ensures.scripts) c.run_once.ensures.ran.kept

pub returns-in-Err-clause-kept : goal.returns-in-Err-clause-kept
returns-in-Err-clause-kept g c =
    early_told (g.W.Wires.told c.args.wires.now) c.in-Err.status (is_some c.args.log_file.now) false (g.F.Files.files c.args.files.now) c.args.watch.now (names_in c.args.peers.now) (g.O.Sink.written c.args.out.now)
    c.in-Err.ensures.only c.requires.wires.log

pub returns-in-Ok-clause-tallied : goal.returns-in-Ok-clause-tallied
returns-in-Ok-clause-tallied g c = c.run_once.ensures.ran.tallied

pub returns-in-Ok-clause-over : goal.returns-in-Ok-clause-over
returns-in-Ok-clause-over g c = c.run_once.ensures.ran.over

pub returns-in-Err-clause-tallied : goal.returns-in-Err-clause-tallied
returns-in-Err-clause-tallied g c = early_tallied c.in-Err.status _ _ _ c.in-Err.ensures.only c.requires.wires.log

pub returns-in-Err-clause-over : goal.returns-in-Err-clause-over
returns-in-Err-clause-over g c = λ ne. new_over _ _ c.requires.wires.log

pub returns-in-Ok-clause-files : goal.returns-in-Ok-clause-files
returns-in-Ok-clause-files g c =
    run_files c.set_up.new.files c.in-Ok.ensures.good c.set_up.ensures.same c.in-Ok.ensures.kept c.set_up.ensures.files c.run_once.ensures.begun c.run_once.ensures.files.written
    c.run_once.ensures.files.records c.run_once.ensures.files.fault c.run_once.ensures.files.fine

pub returns-in-Err-clause-files : goal.returns-in-Err-clause-files
returns-in-Err-clause-files g c =
    unrun_files c.in-Err.ensures.judged c.in-Err.ensures.only c.set_up.ensures.same (λ is. c.in-Err.ensures.fault (ap Err is))
    (counts_fine c.in-Err.status _ _ c.in-Err.ensures.count) c.set_up.ensures.files

pub returns-in-Ok-clause-wires : goal.returns-in-Ok-clause-wires
returns-in-Ok-clause-wires g c = runs_at (to_z-of_z {w = w64} {z = c.args.moment} (search rules)) c.run_once.ensures.wires

pub returns-in-Err-clause-wires : goal.returns-in-Err-clause-wires
returns-in-Err-clause-wires g c = unrun_wires c.requires.wires

pub returns-in-Ok-clause-ends : goal.returns-in-Ok-clause-ends
returns-in-Ok-clause-ends g c = c.run_once.ensures.ends

pub returns-in-Err-clause-ends : goal.returns-in-Err-clause-ends
returns-in-Err-clause-ends g c = ends_early c.in-Err.status _ _ _ _ c.in-Err.ensures.only

pub returns-in-Err-clause-threads : goal.returns-in-Err-clause-threads
returns-in-Err-clause-threads g c = λ run. (let off = unrun_of_file c.in-Err.status c.in-Err.ensures.only in cc)
