use Rattle.std.proofs.Common.{false, length, rules, ◌∙◌, ap, subst}
use Rattle.std.proofs.Math.Facts.{to_z-of_z}
use Rattle.std.specs.Int.{w64}
use Rattle.cf_run.specs.Names.{names_in}
use Rattle.cf_wires.specs.Log.{Told}
use Rattle.cf_wires.specs.Memory.{log_of, told_of}
use Rattle.cf_input.specs.Sessions.{script_in}
use Rattle.cf_loading.proofs.Counting.{counts_fine}
use Rattle.cf_cli_client.proofs.Stays.{begun_by}
use Rattle.cf_cli_client.proofs.Tallies.{versions_so}
use Rattle.cf_cli.proofs.Records.{judged_played}
use Rattle.cf_cli.proofs.Plays.{unplayed_greeting, early_plays, loaded_plays, new_tape, same_told, over_watch, watch_there}
use Rattle.cf_cli.proofs.Stays.{early_replayed_in, tape_watch_on}
use Rattle.cf_cli_client.specs.Following.{TalliedOn}
use Rattle.cf_cli_client.specs.Theorem.{Tallied}
use Rattle.cf_cli.proofs.Ends.{ends_early, ends_played}
use Rattle.cf_cli.proofs.program.replay.Goals as goal

pub returns-in-Err-clause-replayed : goal.returns-in-Err-clause-replayed
returns-in-Err-clause-replayed g c =
    early_replayed_in c.args.follow c.in-Err.status _ c.args.trace (g.F.Files.files c.args.files.now) c.args.watch.now _ _ _ c.in-Err.ensures.only (new_tape c.args.tape.now c.requires.tape.log) c.requires.tape.log

pub returns-in-Err-load_session-clause-replayed : goal.returns-in-Err-load_session-clause-replayed
returns-in-Err-load_session-clause-replayed g c =
    early_replayed_in c.args.follow c.in-Err-load_session.status _ c.args.trace (g.F.Files.files c.args.files.now) c.args.watch.now _ _ _ c.in-Err-load_session.ensures.only
    (new_tape c.args.tape.now c.requires.tape.log) c.requires.tape.log

pub returns-then-follow-clause-replayed : goal.returns-then-follow-clause-replayed
returns-then-follow-clause-replayed g c = rw c.if-follow.true (
  names_in c.as_slice-names.result.now,
  tape_watch_on c.follow_on_tape.result c.args.trace (g.F.Files.files c.args.files.now) c.args.watch.now c.in-Ok.scripts (names_in c.as_slice-names.result.now) (g.O.Sink.written c.args.out.now)
      (g.O.Sink.written c.follow_on_tape.new.out) (log_of c.follow_on_tape.new.wires)
      (watch_there (g.F.Files.files c.args.files.now) c.args.watch.now c.in-Ok.scripts c.in-Ok.ensures.answer c.in-Ok.ensures.scripts) c.follow_on_tape.ensures.unrefused
      c.follow_on_tape.ensures.ran.kept c.follow_on_tape.ensures.ran.refused,
  subst (λ (t : Told). TalliedOn c.follow_on_tape.result 10000000 (length (names_in c.as_slice-names.result.now)) t (told_of c.follow_on_tape.new.wires))
      (same_told c.load.new.self c.args.tape.now c.load.ensures.log c.load.ensures.finished) c.follow_on_tape.ensures.ran.tallied,
  c.follow_on_tape.ensures.ran.over,
)

pub returns-clause-replayed : goal.returns-clause-replayed
returns-clause-replayed g c = rw c.if-follow.false (
  names_in c.as_slice-names.result.now,
  over_watch c.run_once.result false c.args.trace (g.F.Files.files c.args.files.now) c.args.watch.now c.in-Ok.scripts (names_in c.as_slice-names.result.now) (g.O.Sink.written c.args.out.now)
      (g.O.Sink.written c.run_once.new.out) (log_of c.run_once.new.wires)
      (watch_there (g.F.Files.files c.args.files.now) c.args.watch.now c.in-Ok.scripts c.in-Ok.ensures.answer c.in-Ok.ensures.scripts) c.run_once.ensures.ran.kept,
  subst (λ (t : Told). Tallied c.run_once.result 10000000 (length (names_in c.as_slice-names.result.now)) t (told_of c.run_once.new.wires))
      (same_told c.load.new.self c.args.tape.now c.load.ensures.log c.load.ensures.finished) c.run_once.ensures.ran.tallied,
  c.run_once.ensures.ran.over,
)

pub returns-in-Err-clause-plays : goal.returns-in-Err-clause-plays
returns-in-Err-clause-plays g c = early_plays (g.F.Files.files c.args.files.now) c.args.session.now c.in-Err.status _ c.in-Err.ensures.only c.requires.tape.log

pub returns-in-Err-load_session-clause-plays : goal.returns-in-Err-load_session-clause-plays
returns-in-Err-load_session-clause-plays g c =
    early_plays (g.F.Files.files c.args.files.now) c.args.session.now c.in-Err-load_session.status _ c.in-Err-load_session.ensures.only c.requires.tape.log

pub returns-then-follow-clause-plays : goal.returns-then-follow-clause-plays
returns-then-follow-clause-plays g c =
    let script = script_in c.in-Ok-load_session.session in
    loaded_plays (g.F.Files.files c.load_watch.new.files) (g.F.Files.files c.args.files.now) c.args.session.now
    c.follow_on_tape.result (names_in c.as_slice-names.result.now) script c.load.new.self c.follow_on_tape.new.wires
    c.in-Ok-load_session.ensures.script c.load_watch.ensures.same c.follow_on_tape.ensures.same c.load.ensures.script
    (c.load.ensures.failing ∙ c.requires.tape.failing) (ap names_in c.as_slice-names.ensures.value ∙ c.in-Ok-load_session.ensures.named)
    c.follow_on_tape.ensures.wires.dialled c.follow_on_tape.ensures.ran.tallied.tallied.whole

pub returns-clause-plays : goal.returns-clause-plays
returns-clause-plays g c =
    let script = script_in c.in-Ok-load_session.session in
    loaded_plays (g.F.Files.files c.load_watch.new.files) (g.F.Files.files c.args.files.now) c.args.session.now
    c.run_once.result (names_in c.as_slice-names.result.now) script c.load.new.self c.run_once.new.wires
    c.in-Ok-load_session.ensures.script c.load_watch.ensures.same c.run_once.ensures.same c.load.ensures.script
    (c.load.ensures.failing ∙ c.requires.tape.failing) (ap names_in c.as_slice-names.ensures.value ∙ c.in-Ok-load_session.ensures.named)
    c.run_once.ensures.wires.dialled c.run_once.ensures.ran.tallied.whole

pub returns-in-Err-clause-versions : goal.returns-in-Err-clause-versions
returns-in-Err-clause-versions g c = unplayed_greeting _ _ c.requires.tape.log

pub returns-in-Err-load_session-clause-versions : goal.returns-in-Err-load_session-clause-versions
returns-in-Err-load_session-clause-versions g c = unplayed_greeting _ _ c.requires.tape.log

pub returns-then-follow-clause-versions : goal.returns-then-follow-clause-versions
returns-then-follow-clause-versions g c =
    versions_so _ c.args.moment c.args.nonce (told_of c.follow_on_tape.new.wires)
    (to_z-of_z {w = w64} {z = c.args.moment} (search rules)) c.follow_on_tape.ensures.wires.versions

pub returns-clause-versions : goal.returns-clause-versions
returns-clause-versions g c =
    versions_so _ c.args.moment c.args.nonce (told_of c.run_once.new.wires)
    (to_z-of_z {w = w64} {z = c.args.moment} (search rules)) c.run_once.ensures.wires.versions

pub returns-in-Err-clause-file_fine : goal.returns-in-Err-clause-file_fine
returns-in-Err-clause-file_fine g c = counts_fine c.in-Err.status _ _ c.in-Err.ensures.count

pub returns-in-Err-load_session-clause-file_fine : goal.returns-in-Err-load_session-clause-file_fine
returns-in-Err-load_session-clause-file_fine g c =
    λ ne. counts_fine c.in-Err-load_session.status _ _ c.in-Err-load_session.ensures.count ne ∙ c.in-Ok.ensures.count

pub returns-then-follow-clause-file_fine : goal.returns-then-follow-clause-file_fine
returns-then-follow-clause-file_fine g c = λ ne. c.in-Ok-load_session.ensures.count ∙ c.in-Ok.ensures.count

pub returns-clause-file_fine : goal.returns-clause-file_fine
returns-clause-file_fine g c = λ ne. c.run_once.ensures.files.fine ne ∙ c.in-Ok-load_session.ensures.count ∙ c.in-Ok.ensures.count

pub returns-in-Err-clause-ends : goal.returns-in-Err-clause-ends
returns-in-Err-clause-ends g c = ends_early c.in-Err.status _ _ _ _ c.in-Err.ensures.only

pub returns-in-Err-load_session-clause-ends : goal.returns-in-Err-load_session-clause-ends
returns-in-Err-load_session-clause-ends g c = ends_early c.in-Err-load_session.status _ _ _ _ c.in-Err-load_session.ensures.only

pub returns-then-follow-clause-ends : goal.returns-then-follow-clause-ends
returns-then-follow-clause-ends g c =
    ends_played (g.F.Files.files c.load_watch.new.files) (g.F.Files.files c.args.files.now) c.args.session.now c.follow_on_tape.result
    (names_in c.as_slice-names.result.now) (script_in c.in-Ok-load_session.session) (told_of c.follow_on_tape.new.wires) _ _
    c.in-Ok-load_session.ensures.script c.load_watch.ensures.same
    (ap names_in c.as_slice-names.ensures.value ∙ c.in-Ok-load_session.ensures.named) c.follow_on_tape.ensures.ends

pub returns-clause-ends : goal.returns-clause-ends
returns-clause-ends g c =
    ends_played (g.F.Files.files c.load_watch.new.files) (g.F.Files.files c.args.files.now) c.args.session.now c.run_once.result
    (names_in c.as_slice-names.result.now) (script_in c.in-Ok-load_session.session) (told_of c.run_once.new.wires) _ _
    c.in-Ok-load_session.ensures.script c.load_watch.ensures.same
    (ap names_in c.as_slice-names.ensures.value ∙ c.in-Ok-load_session.ensures.named) c.run_once.ensures.ends

pub follow_on_tape-requires-clause-wires : goal.follow_on_tape-requires-clause-wires
follow_on_tape-requires-clause-wires g c = record {
  log = new_tape c.load.new.self (c.load.ensures.log ∙ c.requires.tape.log);
  finished = c.load.ensures.finished ∙ c.requires.tape.finished;
}

pub run_once-requires-clause-wires : goal.run_once-requires-clause-wires
run_once-requires-clause-wires g c = record {
  log = new_tape c.load.new.self (c.load.ensures.log ∙ c.requires.tape.log);
  finished = c.load.ensures.finished ∙ c.requires.tape.finished;
}

pub returns-then-follow-clause-judged : goal.returns-then-follow-clause-judged
returns-then-follow-clause-judged g c =
    judged_played (g.F.Files.files c.args.files.now) (g.F.Files.files c.load_watch.new.files) c.args.watch.now c.args.session.now c.follow_on_tape.result false
    c.load_watch.ensures.same c.in-Ok.ensures.answer c.in-Ok-load_session.ensures.answer (begun_by c.follow_on_tape.result false c.follow_on_tape.ensures.unrefused)

pub returns-clause-judged : goal.returns-clause-judged
returns-clause-judged g c =
    judged_played (g.F.Files.files c.args.files.now) (g.F.Files.files c.load_watch.new.files) c.args.watch.now c.args.session.now c.run_once.result false
    c.load_watch.ensures.same c.in-Ok.ensures.answer c.in-Ok-load_session.ensures.answer c.run_once.ensures.begun
