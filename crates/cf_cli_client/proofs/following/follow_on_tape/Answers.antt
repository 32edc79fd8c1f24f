use Rattle.std.proofs.Common.{Some, refl, rules}
use Rattle.std.proofs.Math.Facts.{to_z-of_z}
use Rattle.std.specs.Int.{w64}
use Rattle.cf_headers.specs.Counts.{CountsOnce}
use Rattle.cf_run.specs.Names.{names_in}
use Rattle.cf_run.specs.declared.texts.KeptTexts.{KeptTexts}
use Rattle.cf_sync.specs.Fetching.{following}
use Rattle.cf_cli_client.proofs.Ends.{copied, ends_stay}
use Rattle.cf_cli_client.proofs.Stays.{some_by_told, some_put_told}
use Rattle.cf_cli_client.proofs.Told.{begun_told, ends_told, sink_spared, tape_spent, tape_told, tape_unbegun, unrefused_told, unwritten_told_of, wires_left}
use Rattle.cf_cli_client.proofs.Wires.{unrun_wires}
use Rattle.cf_cli_client.proofs.following.follow_on_tape.Goals as goal

-- ---- no memory is found before the run

pub returns-in_default-clause-ran : goal.returns-in_default-clause-ran
returns-in_default-clause-ran g c = tape_unbegun c.args.watch (names_in c.args.names.now) _ _ _ _ c.requires.wires.log

pub returns-in_default-clause-wires : goal.returns-in_default-clause-wires
returns-in_default-clause-wires g c = unrun_wires c.requires.wires

pub returns-in_default-clause-ends : goal.returns-in_default-clause-ends
returns-in_default-clause-ends g c = ends_stay _ _ _ _ _ refl

-- ---- nor in it

pub returns-clause-ran : goal.returns-clause-ran
returns-clause-ran g c =
    tape_spent c.args.watch c.args.trace (Some c.new-texts.result.bytes.items) (Some c.follow_traced.new.texts.bytes.items) (g.O.Sink.written c.args.out.now) _
    (some_by_told c.in-Err.field-0 (λ (t : KeptTexts). Some t.bytes.items) (λ (t : KeptTexts). 0) c.args.watch (names_in c.args.names.now)
    (g.W.Wires.told c.follow_traced.new.wires) _ _ c.in-Err.ensures.cut) c.follow_traced.ensures.right c.follow_traced.ensures.wires

pub returns-clause-wires : goal.returns-clause-wires
returns-clause-wires g c =
    wires_left (to_z-of_z {w = w64} {z = c.args.moment} (search rules)) (search rules) (λ off. refl) c.follow_traced.ensures.wires refl

pub returns-clause-ends : goal.returns-clause-ends
returns-clause-ends g c = ends_stay _ _ _ _ _ refl

-- ---- it was made

pub returns-in-Ok-follow_traced-clause-ran : goal.returns-in-Ok-follow_traced-clause-ran
returns-in-Ok-follow_traced-clause-ran g c =
    tape_told CountsOnce c.args.watch c.args.names.now c.in-Ok-follow_traced.outcome c.tell_texts.result c.args.trace _
    c.in-Ok-follow_traced.ensures.outcome c.in-Ok-follow_traced.ensures.theorem c.follow_traced.ensures.right c.in-Ok-follow_traced.ensures.within c.in-Ok-follow_traced.ensures.done c.follow_traced.ensures.wires
    c.in-Ok-follow_traced.ensures.put.put (some_put_told (g.W.Wires.told c.follow_traced.new.wires).log c.args.watch _ _ c.in-Ok-follow_traced.ensures.put.put)
    c.new-texts.ensures c.bytes.ensures c.tell_texts.ensures.told

pub returns-in-Ok-follow_traced-clause-wires : goal.returns-in-Ok-follow_traced-clause-wires
returns-in-Ok-follow_traced-clause-wires g c =
    wires_left (to_z-of_z {w = w64} {z = c.args.moment} (search rules)) (search rules) (λ off. refl) c.follow_traced.ensures.wires
    (begun_told c.tell_texts.result _ c.tell_texts.ensures.told)

pub returns-in-Ok-follow_traced-clause-unwritten : goal.returns-in-Ok-follow_traced-clause-unwritten
returns-in-Ok-follow_traced-clause-unwritten g c = unwritten_told_of c.tell_texts.result _ c.tell_texts.ensures.told

pub returns-in-Ok-follow_traced-clause-unrefused : goal.returns-in-Ok-follow_traced-clause-unrefused
returns-in-Ok-follow_traced-clause-unrefused g c = unrefused_told c.tell_texts.result c.tell_texts.ensures.told

pub returns-in-Ok-follow_traced-clause-ends : goal.returns-in-Ok-follow_traced-clause-ends
returns-in-Ok-follow_traced-clause-ends g c =
    ends_told c.in-Ok-follow_traced.outcome.end c.in-Ok-follow_traced.outcome.ends.items c.tell_texts.result _ _ _ c.tell_texts.ensures.told
    (copied (g.W.Wires.told c.follow_traced.new.wires) CountsOnce (following c.args.watch) c.args.trace c.args.names.now c.in-Ok-follow_traced.outcome _ refl c.in-Ok-follow_traced.ensures.outcome
    c.follow_traced.ensures.wires.finished c.in-Ok-follow_traced.ensures.within)

-- ---- what stays

pub returns-in_default-clause-counts : goal.returns-in_default-clause-counts
returns-in_default-clause-counts g c = sink_spared _

pub returns-in_default-clause-unwritten : goal.returns-in_default-clause-unwritten
returns-in_default-clause-unwritten g c = λ off. refl

pub returns-in_default-clause-unrefused : goal.returns-in_default-clause-unrefused
returns-in_default-clause-unrefused g c = refl

pub returns-clause-counts : goal.returns-clause-counts
returns-clause-counts g c = sink_spared _

pub returns-clause-unwritten : goal.returns-clause-unwritten
returns-clause-unwritten g c = λ off. refl

pub returns-clause-unrefused : goal.returns-clause-unrefused
returns-clause-unrefused g c = refl

pub returns-in_default-clause-same : goal.returns-in_default-clause-same
returns-in_default-clause-same g c = refl

pub returns-clause-same : goal.returns-clause-same
returns-clause-same g c = c.follow_traced.ensures.wires.course.script

pub returns-in-Ok-follow_traced-clause-same : goal.returns-in-Ok-follow_traced-clause-same
returns-in-Ok-follow_traced-clause-same g c = c.follow_traced.ensures.wires.course.script

pub returns-in-Ok-follow_traced-clause-counts : goal.returns-in-Ok-follow_traced-clause-counts
returns-in-Ok-follow_traced-clause-counts g c = c.tell_texts.ensures.counts

pub follow_traced-requires-clause-wires : goal.follow_traced-requires-clause-wires
follow_traced-requires-clause-wires g c = c.requires.wires
