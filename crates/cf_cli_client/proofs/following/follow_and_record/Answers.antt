use Rattle.std.proofs.Common.{refl, rules, true, ◌∙◌}
use Rattle.std.proofs.Math.Facts.{to_z-of_z}
use Rattle.std.specs.Int.{w64}
use Rattle.std.specs.Prelude.{is_some}
use Rattle.cf_run.specs.Names.{names_in}
use Rattle.cf_cli_client.proofs.Ends.{ends_stay}
use Rattle.cf_cli_client.proofs.Told.{begun_answered, counts_answered, files_spared, on_answered, on_unbegun, over_answered, sink_spared_on, wires_left}
use Rattle.cf_cli_client.proofs.Wires.{unrun_wires}
use Rattle.cf_cli_client.proofs.following.follow_and_record.Goals as goal

-- ---- no memory is found before the run

pub returns-in_default-clause-ran : goal.returns-in_default-clause-ran
returns-in_default-clause-ran g c = on_unbegun c.args.watch (names_in c.args.names.now) _ _ _ _ _ c.requires.wires.log

pub returns-in_default-clause-wires : goal.returns-in_default-clause-wires
returns-in_default-clause-wires g c = unrun_wires c.requires.wires

pub returns-in_default-clause-ends : goal.returns-in_default-clause-ends
returns-in_default-clause-ends g c = ends_stay _ _ _ _ _ refl

-- ---- it was made

pub record_run-requires-clause-answers : goal.record_run-requires-clause-answers
record_run-requires-clause-answers g c = (c.follow_live-status.ensures.ran true).tallied.tallied.answers

pub returns-clause-ran : goal.returns-clause-ran
returns-clause-ran g c =
    on_answered c.args.watch c.record_run.result (is_some c.args.log_file.now) c.follow_live-status.result _ c.follow_live-status.ensures.unrefused
    c.follow_live-status.ensures.wires c.follow_live-status.ensures.ran c.record_run.ensures.answered

pub returns-clause-wires : goal.returns-clause-wires
returns-clause-wires g c =
    wires_left (to_z-of_z {w = w64} {z = c.args.moment} (search rules)) c.keep_where.ensures.later c.keep_where.ensures.unkept c.follow_live-status.ensures.wires
    (begun_answered c.record_run.result _ c.follow_live-status.result c.follow_live-status.ensures.unrefused c.record_run.ensures.answered)

pub returns-clause-counts : goal.returns-clause-counts
returns-clause-counts g c =
    counts_answered c.record_run.result (is_some c.args.log_file.now) c.follow_live-status.result _ _ c.follow_live-status.ensures.counts c.record_run.ensures.answered

pub returns-clause-begun : goal.returns-clause-begun
returns-clause-begun g c = begun_answered c.record_run.result _ c.follow_live-status.result c.follow_live-status.ensures.unrefused c.record_run.ensures.answered

pub returns-clause-ends : goal.returns-clause-ends
returns-clause-ends g c =
    over_answered c.record_run.result _ c.follow_live-status.result _ _ _ _ c.follow_live-status.ensures.unrefused c.follow_live-status.ensures.ends c.record_run.ensures.answered

-- ---- the calls

pub follow_live-status-requires-clause-wires : goal.follow_live-status-requires-clause-wires
follow_live-status-requires-clause-wires g c = record { log = c.keep_where.ensures.fresh; finished = c.keep_where.ensures.finished ∙ c.requires.wires.finished }

pub record_run-requires-clause-keeps : goal.record_run-requires-clause-keeps
record_run-requires-clause-keeps g c = λ on. c.follow_live-status.ensures.wires.kept ∙ c.keep_where.ensures.keeps on

pub record_run-requires-clause-told : goal.record_run-requires-clause-told
record_run-requires-clause-told g c = λ on. c.follow_live-status.ensures.wires.course.logged (c.keep_where.ensures.told on)

pub record_run-requires-clause-unrefused : goal.record_run-requires-clause-unrefused
record_run-requires-clause-unrefused g c = c.follow_live-status.ensures.unrefused

-- ---- what stays

pub returns-in_default-clause-files : goal.returns-in_default-clause-files
returns-in_default-clause-files g c = files_spared g.F.Files.writes c.args.log_file.now c.args.files.now

pub returns-in_default-clause-counts : goal.returns-in_default-clause-counts
returns-in_default-clause-counts g c = sink_spared_on _ _

pub returns-in_default-clause-begun : goal.returns-in_default-clause-begun
returns-in_default-clause-begun g c = refl

pub returns-clause-files : goal.returns-clause-files
returns-clause-files g c = c.record_run.ensures.files
