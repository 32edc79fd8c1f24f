use Rattle.std.proofs.Common.{◌∙◌, rules}
use Rattle.std.proofs.Math.Facts.{to_z-of_z}
use Rattle.std.proofs.lemmas.Result.{IfOk-weaker}
use Rattle.std.specs.Int.{w64}
use Rattle.cf_run.specs.Names.{names_in}
use Rattle.cf_run.proofs.Passing.{ends_within, outcome_by, passes_none, passes_turns, passes_untaken}
use Rattle.cf_run.proofs.Rights.{holds_right, right_by, right_new}
use Rattle.cf_peer.specs.declared.mode.Mode.TheVariants.{Once}
use Rattle.cf_run.proofs.over.sync_all.Goals as goal

pub returns-clause-outcome : goal.returns-clause-outcome
returns-clause-outcome g c =
    let t = g.W.Wires.told c.take_turns.new.wires in
    let called = names_in c.args.names.now in
    let rule = c.in_ok-end.ensures.terms.rule ∙ c.in_ok-progress.ensures.terms.rule ∙ c.in_ok-client.ensures.rule in
    let stopped = c.in_ok-end.ensures.stopped called c.in_ok-progress.ensures.holds in
    let wanted = c.in_ok-end.ensures.takes.runs.wanted ∙ c.in_ok-progress.ensures.wanted in
    IfOk-weaker c.outcome_of.result _ _ (λ o is. outcome_by g.H.HeaderStore.counts called o t.log rule wanted (is called t stopped))
    c.outcome_of.ensures.outcome

pub returns-clause-within : goal.returns-clause-within
returns-clause-within g c =
    let e = c.in_ok-end.ensures in
    let stopped = e.stopped (names_in c.args.names.now) c.in_ok-progress.ensures.holds in
    IfOk-weaker c.outcome_of.result _ _ (λ o is. ends_within _ is stopped
    (e.takes.same.dials ∙ c.in_ok-progress.ensures.dialled) e.ends) c.outcome_of.ensures.end

pub returns-in_err-client-clause-passes : goal.returns-in_err-client-clause-passes
returns-in_err-client-clause-passes g c = passes_none g.W.Wires.told g.W.Wires.faults g.W.Wires.script g.W.Wires.keeps _
    (names_in c.args.names.now) c.args.turns c.args.wires.now c.requires.wires.log

pub returns-in_err-progress-clause-passes : goal.returns-in_err-progress-clause-passes
returns-in_err-progress-clause-passes g c =
    passes_untaken c.args.turns c.in_ok-client.ensures.greeting (to_z-of_z {w = w64} {z = c.args.moment} (search rules))
    c.in_err-progress.ensures.passes

pub returns-in_err-end-clause-passes : goal.returns-in_err-end-clause-passes
returns-in_err-end-clause-passes g c =
    let d = c.in_ok-progress.ensures in
    passes_turns c.args.turns c.in_ok-client.ensures.greeting (to_z-of_z {w = w64} {z = c.args.moment} (search rules)) d.terms.greeting d.passes
    (c.in_err-end.ensures.stays (names_in c.args.names.now) d.holds).versions c.in_err-end.ensures.takes

pub returns-clause-passes : goal.returns-clause-passes
returns-clause-passes g c =
    let d = c.in_ok-progress.ensures in
    passes_turns c.args.turns c.in_ok-client.ensures.greeting (to_z-of_z {w = w64} {z = c.args.moment} (search rules)) d.terms.greeting d.passes
    (c.in_ok-end.ensures.stays (names_in c.args.names.now) d.holds).versions c.in_ok-end.ensures.takes

pub returns-in_err-client-clause-right : goal.returns-in_err-client-clause-right
returns-in_err-client-clause-right g c = right_new Once (g.W.Wires.told c.args.wires.now) c.requires.wires.log

pub returns-in_err-progress-clause-right : goal.returns-in_err-progress-clause-right
returns-in_err-progress-clause-right g c = right_by (g.W.Wires.told c.dial_first.new.wires) c.in_ok-client.ensures.rule c.in_err-progress.ensures.right

pub returns-in_err-end-clause-right : goal.returns-in_err-end-clause-right
returns-in_err-end-clause-right g c =
    let d = c.in_ok-progress.ensures in
    right_by (g.W.Wires.told c.take_turns.new.wires) (d.terms.rule ∙ c.in_ok-client.ensures.rule) (c.in_err-end.ensures.stays (names_in c.args.names.now) d.holds).right

pub returns-clause-right : goal.returns-clause-right
returns-clause-right g c =
    let d = c.in_ok-progress.ensures in
    let e = c.in_ok-end.ensures in
    right_by (g.W.Wires.told c.take_turns.new.wires) (e.terms.rule ∙ d.terms.rule ∙ c.in_ok-client.ensures.rule)
    (holds_right _ (e.stopped (names_in c.args.names.now) d.holds).holds)
