use Rattle.std.proofs.Common.{refl, rules, ◌∙◌}
use Rattle.std.proofs.Math.Facts.{to_z-of_z}
use Rattle.std.specs.Int.{w64}
use Rattle.std.specs.Prelude.{is_some}
use Rattle.cf_headers.specs.Counts.{CountsOnce}
use Rattle.cf_run.specs.Names.{names_in}
use Rattle.cf_sync.specs.Fetching.{once}
use Rattle.cf_cli_client.proofs.Ends.{copied, ends_stay}
use Rattle.cf_cli_client.proofs.Told.{begun_told, ends_told, files_spared, once_spent, once_told, once_unbegun, sink_spared, unwritten_told_of, wires_left}
use Rattle.cf_cli_client.proofs.Wires.{unrun_wires}
use Rattle.cf_cli_client.proofs.once.run_once.Goals as goal

-- ---- no memory is found before the run

pub returns-in_default-clause-ran : goal.returns-in_default-clause-ran
returns-in_default-clause-ran g c = once_unbegun c.args.watch (names_in c.args.names.now) _ _ _ _ _ c.requires.wires.log

pub returns-in_default-clause-wires : goal.returns-in_default-clause-wires
returns-in_default-clause-wires g c = unrun_wires c.requires.wires

pub returns-in_default-clause-ends : goal.returns-in_default-clause-ends
returns-in_default-clause-ends g c = ends_stay _ _ _ _ _ refl

-- ---- nor in it

pub returns-in-Err-clause-ran : goal.returns-in-Err-clause-ran
returns-in-Err-clause-ran g c = once_spent c.args.watch (is_some c.args.log_file.now) c.args.trace (g.O.Sink.written c.args.out.now) _ c.sync_traced.ensures.right c.sync_traced.ensures.wires

pub returns-in-Err-clause-wires : goal.returns-in-Err-clause-wires
returns-in-Err-clause-wires g c =
    wires_left (to_z-of_z {w = w64} {z = c.args.moment} (search rules)) c.keep_where.ensures.later c.keep_where.ensures.unkept c.sync_traced.ensures.wires refl

pub returns-in-Err-clause-ends : goal.returns-in-Err-clause-ends
returns-in-Err-clause-ends g c = ends_stay _ _ _ _ _ refl

-- ---- it was made

pub returns-in-Ok-sync_traced-clause-ran : goal.returns-in-Ok-sync_traced-clause-ran
returns-in-Ok-sync_traced-clause-ran g c =
    once_told CountsOnce c.args.watch c.args.names.now c.in-Ok-sync_traced.outcome c.tell.result (is_some c.args.log_file.now) c.args.trace _
    c.in-Ok-sync_traced.ensures.outcome c.in-Ok-sync_traced.ensures.theorem c.sync_traced.ensures.right c.in-Ok-sync_traced.ensures.within c.sync_traced.ensures.wires c.tell.ensures.told

pub returns-in-Ok-sync_traced-clause-wires : goal.returns-in-Ok-sync_traced-clause-wires
returns-in-Ok-sync_traced-clause-wires g c =
    wires_left (to_z-of_z {w = w64} {z = c.args.moment} (search rules)) c.keep_where.ensures.later c.keep_where.ensures.unkept c.sync_traced.ensures.wires
    (begun_told c.tell.result _ c.tell.ensures.told)

pub returns-in-Ok-sync_traced-clause-unwritten : goal.returns-in-Ok-sync_traced-clause-unwritten
returns-in-Ok-sync_traced-clause-unwritten g c = unwritten_told_of c.tell.result _ c.tell.ensures.told

pub returns-in-Ok-sync_traced-clause-begun : goal.returns-in-Ok-sync_traced-clause-begun
returns-in-Ok-sync_traced-clause-begun g c = begun_told c.tell.result _ c.tell.ensures.told

pub returns-in-Ok-sync_traced-clause-ends : goal.returns-in-Ok-sync_traced-clause-ends
returns-in-Ok-sync_traced-clause-ends g c =
    ends_told c.in-Ok-sync_traced.outcome.end c.in-Ok-sync_traced.outcome.ends.items c.tell.result _ _ _ c.tell.ensures.told
    (copied (g.W.Wires.told c.sync_traced.new.wires) CountsOnce (once c.args.watch) c.args.trace c.args.names.now c.in-Ok-sync_traced.outcome _ refl c.in-Ok-sync_traced.ensures.outcome
    c.sync_traced.ensures.wires.finished c.in-Ok-sync_traced.ensures.within)

-- ---- the calls

pub sync_traced-requires-clause-wires : goal.sync_traced-requires-clause-wires
sync_traced-requires-clause-wires g c = record { log = c.keep_where.ensures.fresh; finished = c.keep_where.ensures.finished ∙ c.requires.wires.finished }

pub tell-requires-clause-keeps : goal.tell-requires-clause-keeps
tell-requires-clause-keeps g c = λ on. c.sync_traced.ensures.wires.kept ∙ c.keep_where.ensures.keeps on

pub tell-requires-clause-told : goal.tell-requires-clause-told
tell-requires-clause-told g c = λ on. c.sync_traced.ensures.wires.course.logged (c.keep_where.ensures.told on)

-- ---- what stays

pub returns-in_default-clause-same : goal.returns-in_default-clause-same
returns-in_default-clause-same g c = refl

pub returns-in_default-clause-files : goal.returns-in_default-clause-files
returns-in_default-clause-files g c = files_spared g.F.Files.writes c.args.log_file.now c.args.files.now

pub returns-in_default-clause-counts : goal.returns-in_default-clause-counts
returns-in_default-clause-counts g c = sink_spared _

pub returns-in_default-clause-unwritten : goal.returns-in_default-clause-unwritten
returns-in_default-clause-unwritten g c = λ off. refl

pub returns-in_default-clause-begun : goal.returns-in_default-clause-begun
returns-in_default-clause-begun g c = refl

pub returns-in-Err-clause-same : goal.returns-in-Err-clause-same
returns-in-Err-clause-same g c = c.sync_traced.ensures.wires.course.script ∙ c.keep_where.ensures.same

pub returns-in-Err-clause-files : goal.returns-in-Err-clause-files
returns-in-Err-clause-files g c = files_spared g.F.Files.writes c.args.log_file.now c.args.files.now

pub returns-in-Err-clause-counts : goal.returns-in-Err-clause-counts
returns-in-Err-clause-counts g c = sink_spared _

pub returns-in-Err-clause-unwritten : goal.returns-in-Err-clause-unwritten
returns-in-Err-clause-unwritten g c = λ off. refl

pub returns-in-Err-clause-begun : goal.returns-in-Err-clause-begun
returns-in-Err-clause-begun g c = refl

pub returns-in-Ok-sync_traced-clause-same : goal.returns-in-Ok-sync_traced-clause-same
returns-in-Ok-sync_traced-clause-same g c = c.sync_traced.ensures.wires.course.script ∙ c.keep_where.ensures.same

pub returns-in-Ok-sync_traced-clause-files : goal.returns-in-Ok-sync_traced-clause-files
returns-in-Ok-sync_traced-clause-files g c = c.tell.ensures.files

pub returns-in-Ok-sync_traced-clause-counts : goal.returns-in-Ok-sync_traced-clause-counts
returns-in-Ok-sync_traced-clause-counts g c = c.tell.ensures.counts
