use Rattle.std.proofs.Common.{ℕ, ◌+◌, [], ◌∷◌, ◌++◌, Err, refl, ◌∙◌, ap, subst}
use Rattle.std.proofs.lemmas.Result.{err_from_is_err_and}
use Rattle.cf_bytes.specs.declared.peer.PeerNo.{PeerNo}
use Rattle.cf_wires.specs.declared.event.Event.TheVariants.{NotDialled}
use Rattle.cf_client.specs.Stands.{Reflects, rule_by, greeting_by}
use Rattle.cf_run.proofs.Courses.{dials_none, quiet_runs, dialled_one, missed_one, one_more_then}
use Rattle.cf_run.proofs.Passing.{dial_keeps, dialled_then, missed_alone}
use Rattle.cf_run.proofs.Versions.{entry_keeps, same_keeps}
use Rattle.cf_run.proofs.Turns.{dial_doing, not_dialled_holds}
use Rattle.cf_run.proofs.Rights.{holds_right, missed_right, right_at, terms_err, terms_on}
use Rattle.cf_run.proofs.over.dial_one.Goals as goal

pub returns-in_ok-greet-in-Ok-clause-holds : goal.returns-in_ok-greet-in-Ok-clause-holds
returns-in_ok-greet-in-Ok-clause-holds g c = λ called holds.
    c.in_ok-greet-in-Ok.ensures.holds (called ++ c.args.name.now ∷ []) holds.actual holds.reflects
    (λ acts. rw c.in-Ok.ensures.dialled.1
    (dial_doing c.args.client.now acts c.args.progress.now called (g.W.Wires.told c.args.wires.now) c.in-Ok.p c.args.name.now holds c.in-Ok.ensures.dialled.0 c.requires.room c.requires.untaken c.requires.unended))
    holds.ticked

pub returns-in_ok-greet-in-Ok-clause-stays : goal.returns-in_ok-greet-in-Ok-clause-stays
returns-in_ok-greet-in-Ok-clause-stays g c = λ called holds. record {
  right = tt;
  versions = dial_keeps c.args.client.now (g.W.Wires.told c.greet.new.wires) c.in-Ok.p c.args.name.now holds c.in-Ok.ensures.dialled.0 c.requires.room c.requires.untaken c.requires.unended c.in-Ok.ensures.dialled.1
      (λ called log reflects doing. (c.in_ok-greet-in-Ok.ensures.stays called log reflects doing).versions);
}

pub returns-in_err-greet-in-Ok-clause-stays : goal.returns-in_err-greet-in-Ok-clause-stays
returns-in_err-greet-in-Ok-clause-stays g c = (let p = err_from_is_err_and c.from_residual.result c.from_residual.ensures.1 in rw p.1 (λ called holds. record {
  right = (c.in_err-greet-in-Ok.ensures.stays (called ++ c.args.name.now ∷ []) holds.actual holds.reflects
      (λ acts. rw c.in-Ok.ensures.dialled.1
      (dial_doing c.args.client.now acts c.args.progress.now called (g.W.Wires.told c.args.wires.now) c.in-Ok.p c.args.name.now holds c.in-Ok.ensures.dialled.0 c.requires.room c.requires.untaken c.requires.unended))).right;
  versions = dial_keeps c.args.client.now (g.W.Wires.told c.greet.new.wires) c.in-Ok.p c.args.name.now holds c.in-Ok.ensures.dialled.0 c.requires.room c.requires.untaken c.requires.unended c.in-Ok.ensures.dialled.1
      (λ called log reflects doing. (c.in_err-greet-in-Ok.ensures.stays called log reflects doing).versions);
}))

pub returns-in_ok-not_dialled-in-Err-Failed-clause-stays : goal.returns-in_ok-not_dialled-in-Err-Failed-clause-stays
returns-in_ok-not_dialled-in-Err-Failed-clause-stays g c = λ called holds.
    let p : PeerNo = record { 0 = (g.W.Wires.told c.args.wires.now).tally.dials + 1 } in
    let missed = c.in-Err-Failed.ensures.not_dialled (ap Err c.in-Err-Failed.field-0-is) in
    record { right = tt; versions = entry_keeps (greeting_by c.args.client.now) (NotDialled p c.args.name.now) _ _ missed tt }

pub returns-in_err-not_dialled-in-Err-Failed-clause-stays : goal.returns-in_err-not_dialled-in-Err-Failed-clause-stays
returns-in_err-not_dialled-in-Err-Failed-clause-stays g c = (let p = err_from_is_err_and c.from_residual-in_err-not_dialled-in-Err-Failed.result c.from_residual-in_err-not_dialled-in-Err-Failed.ensures.1 in rw p.1 (λ called holds.
    let p : PeerNo = record { 0 = (g.W.Wires.told c.args.wires.now).tally.dials + 1 } in
    let missed = c.in-Err-Failed.ensures.not_dialled (ap Err c.in-Err-Failed.field-0-is) in
    record {
      right = missed_right c.args.client.now p c.args.name.now missed holds;
      versions = entry_keeps (greeting_by c.args.client.now) (NotDialled p c.args.name.now) _ _ missed tt;
    }))

pub returns-in-Err-NoMemory-clause-stays : goal.returns-in-Err-NoMemory-clause-stays
returns-in-Err-NoMemory-clause-stays g c = λ called holds.
    let same = c.in-Err-NoMemory.ensures.no_memory (ap Err c.in-Err-NoMemory.field-0-is) in
    record {
      right = right_at (rule_by c.args.client.now).mode same (holds_right c.args.client.now holds);
      versions = same_keeps (greeting_by c.args.client.now) _ _ same;
    }

pub returns-in_ok-greet-in-Ok-clause-terms : goal.returns-in_ok-greet-in-Ok-clause-terms
returns-in_ok-greet-in-Ok-clause-terms g c = terms_on refl refl c.in_ok-greet-in-Ok.ensures.terms

pub returns-in_err-greet-in-Ok-clause-terms : goal.returns-in_err-greet-in-Ok-clause-terms
returns-in_err-greet-in-Ok-clause-terms g c = (let p = err_from_is_err_and c.from_residual.result c.from_residual.ensures.1 in rw p.1 (terms_err refl c.in_err-greet-in-Ok.ensures.terms))

pub returns-in_ok-not_dialled-in-Err-Failed-clause-terms : goal.returns-in_ok-not_dialled-in-Err-Failed-clause-terms
returns-in_ok-not_dialled-in-Err-Failed-clause-terms g c = let e = c.in_ok-not_dialled-in-Err-Failed.ensures in record { rule = e.rule; greeting = e.greeting }

pub returns-in_err-not_dialled-in-Err-Failed-clause-terms : goal.returns-in_err-not_dialled-in-Err-Failed-clause-terms
returns-in_err-not_dialled-in-Err-Failed-clause-terms g c = (let p = err_from_is_err_and c.from_residual-in_err-not_dialled-in-Err-Failed.result c.from_residual-in_err-not_dialled-in-Err-Failed.ensures.1 in rw p.1 (record { rule = tt; greeting = c.in_err-not_dialled-in-Err-Failed.ensures.greeting }))

pub returns-in-Err-NoMemory-clause-terms : goal.returns-in-Err-NoMemory-clause-terms
returns-in-Err-NoMemory-clause-terms g c = record { rule = tt; greeting = refl }

pub returns-in_ok-greet-in-Ok-clause-one : goal.returns-in_ok-greet-in-Ok-clause-one
returns-in_ok-greet-in-Ok-clause-one g c =
    one_more_then _ _ _ c.args.name.now (dialled_one c.in-Ok.p c.args.name.now _ _ c.in-Ok.ensures.dialled.1) c.in_ok-greet-in-Ok.ensures.performs.counts

pub returns-in_ok-greet-in-Ok-clause-dials : goal.returns-in_ok-greet-in-Ok-clause-dials
returns-in_ok-greet-in-Ok-clause-dials g c =
    dialled_then c.in-Ok.p c.args.name.now _ c.in-Ok.ensures.dialled.1 c.in-Ok.ensures.cause.later c.in-Ok.ensures.same c.in-Ok.ensures.keeps refl c.requires.step
    c.in_ok-greet-in-Ok.ensures.performs

pub returns-in_err-greet-in-Ok-clause-dials : goal.returns-in_err-greet-in-Ok-clause-dials
returns-in_err-greet-in-Ok-clause-dials g c =
    dialled_then c.in-Ok.p c.args.name.now _ c.in-Ok.ensures.dialled.1 c.in-Ok.ensures.cause.later c.in-Ok.ensures.same c.in-Ok.ensures.keeps refl c.requires.step
    c.in_err-greet-in-Ok.ensures.performs

pub returns-in_ok-not_dialled-in-Err-Failed-clause-holds : goal.returns-in_ok-not_dialled-in-Err-Failed-clause-holds
returns-in_ok-not_dialled-in-Err-Failed-clause-holds g c = λ called holds.
    let e = c.in_ok-not_dialled-in-Err-Failed.ensures in
    let p : PeerNo = record { 0 = (g.W.Wires.told c.args.wires.now).tally.dials + 1 } in
    rw (c.in-Err-Failed.ensures.not_dialled (ap Err c.in-Err-Failed.field-0-is))
    (not_dialled_holds c.args.client.now c.not_dialled.new.self c.args.progress.now called (g.W.Wires.told c.args.wires.now) p c.args.name.now holds refl c.requires.room c.requires.untaken c.requires.unended e.rule
    (subst (λ (q : PeerNo). Reflects c.not_dialled.new.self (NotDialled q c.args.name.now ∷ holds.actual))
    (ap (λ (n : ℕ). record { 0 = n }) (c.next_number.ensures ∙ c.requires.next)) (e.reflects holds.actual holds.reflects)))

pub returns-in_ok-not_dialled-in-Err-Failed-clause-one : goal.returns-in_ok-not_dialled-in-Err-Failed-clause-one
returns-in_ok-not_dialled-in-Err-Failed-clause-one g c =
    missed_one (record { 0 = (g.W.Wires.told c.args.wires.now).tally.dials + 1 }) c.args.name.now _ _ (c.in-Err-Failed.ensures.not_dialled (ap Err c.in-Err-Failed.field-0-is))

pub returns-in_ok-not_dialled-in-Err-Failed-clause-dials : goal.returns-in_ok-not_dialled-in-Err-Failed-clause-dials
returns-in_ok-not_dialled-in-Err-Failed-clause-dials g c =
    let e = c.in-Err-Failed.ensures in
    let failed = ap Err c.in-Err-Failed.field-0-is in
    missed_alone (record { 0 = (g.W.Wires.told c.args.wires.now).tally.dials + 1 }) c.args.name.now _ _ (e.cause.failed failed) (e.not_dialled failed) e.cause.later e.same e.keeps refl c.requires.step

pub returns-in_err-not_dialled-in-Err-Failed-clause-dials : goal.returns-in_err-not_dialled-in-Err-Failed-clause-dials
returns-in_err-not_dialled-in-Err-Failed-clause-dials g c =
    let e = c.in-Err-Failed.ensures in
    let failed = ap Err c.in-Err-Failed.field-0-is in
    missed_alone (record { 0 = (g.W.Wires.told c.args.wires.now).tally.dials + 1 }) c.args.name.now _ _ (e.cause.failed failed) (e.not_dialled failed) e.cause.later e.same e.keeps refl c.requires.step

pub returns-in-Err-NoMemory-clause-dials : goal.returns-in-Err-NoMemory-clause-dials
returns-in-Err-NoMemory-clause-dials g c =
    let e = c.in-Err-NoMemory.ensures in
    let same = e.no_memory (ap Err c.in-Err-NoMemory.field-0-is) in
    dials_none c.args.name.now _ _ (quiet_runs _ _ same e.cause.later e.same e.keeps refl c.requires.step) same
