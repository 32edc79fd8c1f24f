use Rattle.std.proofs.Common.{◌≡◌, true, false, refl, sym, ◌∙◌, arith}
use Rattle.std.proofs.lemmas.Grind.{common_steps}
use Rattle.cf_peer.specs.Peer.{is_ready_peer}
use Rattle.cf_peer.proofs.Peers.{ready_is}
use Rattle.cf_tracker.specs.Seen.{seen_of}
use Rattle.cf_hear.proofs.Exposing.{unexposed_on}
use Rattle.cf_hear.proofs.Hearing.{change_own, early_hears, headers_end, headers_hears}
use Rattle.cf_hear.proofs.hear.hear_headers.Goals as goal

pub returns-then-not-is_ready-clause-heard : goal.returns-then-not-is_ready-clause-heard
returns-then-not-is_ready-clause-heard g c = λ t h f.
    let off : is_ready_peer c.args.peer.now ≡ false = grind (arith, common_steps) in
    early_hears (seen_of c.args.tracker.now) c.args.p c.args.peer.now c.args.headers.now t h off f

pub returns-in-None-clause-heard : goal.returns-in-None-clause-heard
returns-in-None-clause-heard g c = λ t h f.
    let on : is_ready_peer c.args.peer.now ≡ true = grind (arith, common_steps) in
    let kept = c.in_ok-change.ensures in
    let takes = c.in-None.ensures.heard t c.args.headers.now h refl (change_own c.args.headers.now c.in_ok-change.change kept.answer f.chain) in
    headers_hears (seen_of c.args.tracker.now) (seen_of c.accept.new.self) c.args.p c.take_headers.new.self c.args.headers.now t takes
    (sym (ready_is c.args.peer.now t h) ∙ on) kept.after f kept.stays

pub returns-in-Some-clause-heard : goal.returns-in-Some-clause-heard
returns-in-Some-clause-heard g c = λ t h f.
    let on : is_ready_peer c.args.peer.now ≡ true = grind (arith, common_steps) in
    let kept = c.in_ok-change.ensures in
    headers_end (seen_of c.args.tracker.now) (seen_of c.accept.new.self) c.args.p c.args.peer.now c.take_headers.new.self
    c.args.headers.now t c.in-Some.cause h (sym (ready_is c.args.peer.now t h) ∙ on)
    (c.in-Some.ensures.heard t c.args.headers.now h refl (change_own c.args.headers.now c.in_ok-change.change kept.answer f.chain)) kept.after f kept.stays

pub returns-then-not-is_ready-clause-exposes : goal.returns-then-not-is_ready-clause-exposes
returns-then-not-is_ready-clause-exposes g c = λ t h f none. none

pub returns-in-None-clause-exposes : goal.returns-in-None-clause-exposes
returns-in-None-clause-exposes g c = λ t h f.
    let kept = c.in_ok-change.ensures in
    unexposed_on (seen_of c.args.tracker.now) (seen_of c.accept.new.self) kept.stays.claims kept.stays.trials.told

pub returns-in-Some-clause-exposes : goal.returns-in-Some-clause-exposes
returns-in-Some-clause-exposes g c = λ t h f.
    let kept = c.in_ok-change.ensures in
    unexposed_on (seen_of c.args.tracker.now) (seen_of c.accept.new.self) kept.stays.claims kept.stays.trials.told
