use Rattle.std.proofs.Common.{refl, sym, ◌∙◌, ap, string_bytes, rules}
use Rattle.std.proofs.Math.Facts.{to_z-of_z}
use Rattle.std.proofs.lemmas.List.{length-map}
use Rattle.std.proofs.lemmas.Result.{err_from_is_err_and}
use Rattle.std.specs.Int.{w64}
use Rattle.cf_sync.specs.Fetching.{Rule}
use Rattle.cf_run.specs.Names.{names_in}
use Rattle.cf_run.proofs.Passing.{ends_within, outcome_by, passes_none, passes_turns, passes_untaken}
use Rattle.cf_run.proofs.Puts.{all_some, all_told, gives_up, is_short, none_before, none_put}
use Rattle.cf_run.proofs.Rights.{holds_right, right_by, right_new}
use Rattle.cf_peer.specs.declared.mode.Mode.TheVariants.{Following}
use Rattle.cf_run.proofs.follow.follow_all.Goals as goal

pub returns-clause-outcome : goal.returns-clause-outcome
returns-clause-outcome g c =
    let t = g.W.Wires.told c.follow_turns.new.wires in
    let called = names_in c.args.names.now in
    let rule = c.in_ok-end.ensures.rule ∙ c.in_ok-progress.ensures.terms.rule ∙ c.in_ok-client.ensures.rule in
    let wanted = c.in_ok-end.ensures.takes.runs.wanted ∙ c.in_ok-progress.ensures.wanted in
    outcome_by g.H.HeaderStore.counts called c.in_ok-outcome.outcome t.log rule wanted
    (c.in_ok-outcome.ensures.outcome called t (c.in_ok-end.ensures.stopped called c.in_ok-progress.ensures.holds))

pub returns-clause-within : goal.returns-clause-within
returns-clause-within g c =
    let e = c.in_ok-end.ensures in
    ends_within _ c.in_ok-outcome.ensures.end (e.stopped (names_in c.args.names.now) c.in_ok-progress.ensures.holds)
    (e.takes.same.dials ∙ c.in_ok-progress.ensures.dialled) e.ends

pub returns-in_err-client-clause-passes : goal.returns-in_err-client-clause-passes
returns-in_err-client-clause-passes g c = passes_none g.W.Wires.told g.W.Wires.faults g.W.Wires.script g.W.Wires.keeps _
    (names_in c.args.names.now) c.args.turns c.args.wires.now c.requires.wires.log

pub returns-in_err-progress-clause-passes : goal.returns-in_err-progress-clause-passes
returns-in_err-progress-clause-passes g c =
    passes_untaken c.args.turns c.in_ok-client.ensures.greeting (to_z-of_z {w = w64} {z = c.args.moment} (search rules))
    c.in_err-progress.ensures.passes

pub returns-in_err-end-clause-passes : goal.returns-in_err-end-clause-passes
returns-in_err-end-clause-passes g c =
    let d = c.in_ok-progress.ensures in
    passes_turns c.args.turns c.in_ok-client.ensures.greeting (to_z-of_z {w = w64} {z = c.args.moment} (search rules)) d.terms.greeting d.passes
    (c.in_err-end.ensures.stays (names_in c.args.names.now) d.holds).versions c.in_err-end.ensures.takes

pub returns-in_err-outcome-clause-passes : goal.returns-in_err-outcome-clause-passes
returns-in_err-outcome-clause-passes g c =
    let d = c.in_ok-progress.ensures in
    passes_turns c.args.turns c.in_ok-client.ensures.greeting (to_z-of_z {w = w64} {z = c.args.moment} (search rules)) d.terms.greeting d.passes
    (c.in_ok-end.ensures.stays (names_in c.args.names.now) d.holds).versions c.in_ok-end.ensures.takes

pub returns-clause-passes : goal.returns-clause-passes
returns-clause-passes g c =
    let d = c.in_ok-progress.ensures in
    passes_turns c.args.turns c.in_ok-client.ensures.greeting (to_z-of_z {w = w64} {z = c.args.moment} (search rules)) d.terms.greeting d.passes
    (c.in_ok-end.ensures.stays (names_in c.args.names.now) d.holds).versions c.in_ok-end.ensures.takes

pub returns-clause-put : goal.returns-clause-put
returns-clause-put g c =
    let d = c.in_ok-progress.ensures in
    let e = c.in_ok-end.ensures in
    let watch = ap (λ (r : Rule). r.watch) (d.terms.rule ∙ c.in_ok-client.ensures.rule) in
    record {
      put = all_told c.args.watch (g.W.Wires.told c.follow_turns.new.wires) _ _
          (e.put c.args.watch (names_in c.args.names.now) watch d.holds (d.puts c.args.watch));
      fine = e.texts.fine;
    }

pub returns-in_err-client-clause-cut : goal.returns-in_err-client-clause-cut
returns-in_err-client-clause-cut g c =
    (let p = err_from_is_err_and c.from_residual.result c.from_residual.ensures.1 in
    let t = g.W.Wires.told c.args.wires.now in
    rw (p.1, p.2) (is_short g.T.Texts.told g.T.Texts.faults c.args.watch t c.args.texts.now _
    (none_put c.args.watch t _ (none_before c.args.watch t c.requires.wires.log)) refl))

pub returns-in_err-progress-clause-cut : goal.returns-in_err-progress-clause-cut
returns-in_err-progress-clause-cut g c =
    (let p = err_from_is_err_and c.from_residual-in_err-progress.result c.from_residual-in_err-progress.ensures.1 in
    let t = g.W.Wires.told c.dial_first.new.wires in
    rw (p.1, p.2) (is_short g.T.Texts.told g.T.Texts.faults c.args.watch t c.args.texts.now _
    (none_put c.args.watch t _ (c.in_err-progress.ensures.puts c.args.watch)) refl))

pub returns-in_err-end-clause-cut : goal.returns-in_err-end-clause-cut
returns-in_err-end-clause-cut g c =
    (let p = err_from_is_err_and c.from_residual-in_err-end.result c.from_residual-in_err-end.ensures.1 in
    let d = c.in_ok-progress.ensures in
    let e = c.in_err-end.ensures in
    let called = names_in c.args.names.now in
    let watch = ap (λ (r : Rule). r.watch) (d.terms.rule ∙ c.in_ok-client.ensures.rule) in
    rw (p.1, p.2) (gives_up _ g.T.Texts.told g.T.Texts.faults c.args.watch called
    (g.W.Wires.told c.follow_turns.new.wires) c.args.texts.now c.follow_turns.new.texts
    (e.put_some c.args.watch called watch d.holds (d.puts c.args.watch))
    (e.takes.same.dials ∙ d.dialled ∙ sym (length-map c.args.names.now string_bytes)) (λ is. e.texts.short (cc is)) (λ is. e.texts.failed (cc is))))

pub returns-in_err-outcome-clause-cut : goal.returns-in_err-outcome-clause-cut
returns-in_err-outcome-clause-cut g c =
    (let p = err_from_is_err_and c.from_residual-in_err-outcome.result c.from_residual-in_err-outcome.ensures.1 in
    let d = c.in_ok-progress.ensures in
    let e = c.in_ok-end.ensures in
    let watch = ap (λ (r : Rule). r.watch) (d.terms.rule ∙ c.in_ok-client.ensures.rule) in
    let t = g.W.Wires.told c.follow_turns.new.wires in
    rw (p.1, p.2) (is_short g.T.Texts.told g.T.Texts.faults c.args.watch t c.args.texts.now c.follow_turns.new.texts
    (all_some c.args.watch t _ _ (e.put c.args.watch (names_in c.args.names.now) watch d.holds (d.puts c.args.watch)))
    e.texts.fine))

pub returns-clause-done : goal.returns-clause-done
returns-clause-done g c = λ is. c.in_ok-end.ensures.done (sym c.in_ok-outcome.ensures.end ∙ is)

pub follow_turns-requires-clause-follows : goal.follow_turns-requires-clause-follows
follow_turns-requires-clause-follows g c = ap (λ (r : Rule). r.mode)
    (c.in_ok-progress.ensures.terms.rule ∙ c.in_ok-client.ensures.rule)

pub returns-in_err-client-clause-right : goal.returns-in_err-client-clause-right
returns-in_err-client-clause-right g c = right_new Following (g.W.Wires.told c.args.wires.now) c.requires.wires.log

pub returns-in_err-progress-clause-right : goal.returns-in_err-progress-clause-right
returns-in_err-progress-clause-right g c = right_by (g.W.Wires.told c.dial_first.new.wires) c.in_ok-client.ensures.rule c.in_err-progress.ensures.right

pub returns-in_err-end-clause-right : goal.returns-in_err-end-clause-right
returns-in_err-end-clause-right g c =
    let d = c.in_ok-progress.ensures in
    right_by (g.W.Wires.told c.follow_turns.new.wires) (d.terms.rule ∙ c.in_ok-client.ensures.rule) (c.in_err-end.ensures.stays (names_in c.args.names.now) d.holds).right

pub returns-in_err-outcome-clause-right : goal.returns-in_err-outcome-clause-right
returns-in_err-outcome-clause-right g c =
    let d = c.in_ok-progress.ensures in
    let e = c.in_ok-end.ensures in
    right_by (g.W.Wires.told c.follow_turns.new.wires) (e.rule ∙ d.terms.rule ∙ c.in_ok-client.ensures.rule)
    (holds_right _ (e.stopped (names_in c.args.names.now) d.holds).holds)

pub returns-clause-right : goal.returns-clause-right
returns-clause-right g c =
    let d = c.in_ok-progress.ensures in
    let e = c.in_ok-end.ensures in
    right_by (g.W.Wires.told c.follow_turns.new.wires) (e.rule ∙ d.terms.rule ∙ c.in_ok-client.ensures.rule)
    (holds_right _ (e.stopped (names_in c.args.names.now) d.holds).holds)
