use Rattle.std.proofs.Common.{◌-◌, ◌<◌, ◌≤◌, Option, Result, Ok, refl, ◌∙◌, subst, arith}
use Rattle.cf_frame.specs.declared.frame.Frame.{Frame}
use Rattle.cf_server.specs.declared.outcome.ServeEnd.{ServeEnd}
use Rattle.std.specs.Prelude.{IfErr}
use Rattle.cf_msg.specs.Reading.{message_of as message_in}
use Rattle.cf_server.specs.Taking.{TakesFrames, FindsFrame, ComesInside}
use Rattle.cf_server.proofs.Texts.{moves_none, stops_then}
use Rattle.cf_server.proofs.Steps.{by_err, finds_stops, frame_stops, frame_taken, tired_stops, finds_inside, frame_inside}
use Rattle.cf_server.proofs.serve.take_frames.Goals as goal

pub loop-frame-init : goal.loop-frame-init
loop-frame-init g c =
    let none = moves_none c.args.index.now c.args.session.now.left c.args.session.now.framer c.args.session.now.served (g.C.Sink.written c.args.conn.now) in
    record { moves = none; room = c.requires; fewer = omega arith; same = λ e. refl; count = refl; left = refl; ended = refl; read_faults = refl }

pub returns-in_err-frame-clause-takes : goal.returns-in_err-frame-clause-takes
returns-in_err-frame-clause-takes g c =
    let blocks = c.args.index.now in
    let old = c.args.session.now in
    let now = c.loop-frame.session in
    let before = g.C.Sink.written c.args.conn.now in
    let after = g.C.Sink.written c.loop-frame.conn in
    let outcome = c.in_err-frame.field-0.0 in
    by_err (λ (r : Result (Unit {0}) ServeEnd). TakesFrames r blocks old.left now.left old.framer c.next_frame.new.framer old.served now.served before after) _ _ c.from_residual.ensures.1
    (stops_then blocks outcome old.left now.left old.framer now.framer old.served now.served before after after c.loop-frame.invariant.moves
    (finds_stops blocks now.left now.framer c.next_frame.new.framer now.served after outcome c.loop-frame.invariant.room c.in_err-frame.ensures))

pub returns-in_err-answer_frame-clause-takes : goal.returns-in_err-answer_frame-clause-takes
returns-in_err-answer_frame-clause-takes g c =
    let blocks = c.args.index.now in
    let old = c.args.session.now in
    let now = c.loop-frame.session in
    let rest = c.next_frame.new.framer in
    let before = g.C.Sink.written c.args.conn.now in
    let between = g.C.Sink.written c.loop-frame.conn in
    let after = g.C.Sink.written c.answer_frame.new.conn in
    let outcome = c.in_err-answer_frame.field-0.0 in
    let front = subst (λ (o : Option Frame). FindsFrame (Ok o) now.framer rest) c.in-Some.is c.in_ok-frame.ensures in
    by_err (λ (r : Result (Unit {0}) ServeEnd). TakesFrames r blocks old.left now.left old.framer rest old.served c.answer_frame.new.served before after) _ _ c.from_residual-in_err-answer_frame.ensures.1
    (stops_then blocks outcome old.left now.left old.framer now.framer old.served now.served before between after c.loop-frame.invariant.moves
    (frame_stops blocks now.left now.framer rest c.in-Some.frame now.served c.answer_frame.new.served between after outcome c.loop-frame.invariant.room front c.in_err-answer_frame.ensures.answers))

pub returns-then-session-eq0-clause-takes : goal.returns-then-session-eq0-clause-takes
returns-then-session-eq0-clause-takes g c =
    let old = c.args.session.now in
    let now = c.loop-frame.session in
    let moves = frame_taken c.args.index.now old.left now.left old.framer now.framer c.next_frame.new.framer c.in-Some.frame _ old.served now.served c.answer_frame.new.served
    (g.C.Sink.written c.args.conn.now) (g.C.Sink.written c.loop-frame.conn) (g.C.Sink.written c.answer_frame.new.conn)
    c.loop-frame.invariant.room c.in-Some.is c.in_ok-frame.ensures c.loop-frame.invariant.moves c.in_ok-answer_frame.ensures.answers in
    tired_stops c.args.index.now old.left (now.left - 1) old.framer c.next_frame.new.framer old.served c.answer_frame.new.served (g.C.Sink.written c.args.conn.now) (g.C.Sink.written c.answer_frame.new.conn)
    c.if-session-eq0.true moves

pub loop-frame-preserved : goal.loop-frame-preserved
loop-frame-preserved g c =
    let old = c.args.session.now in
    let now = c.loop-frame.session in
    let some : 1 ≤ now.left - 1 = omega arith in
    let fewer : now.left - 1 < old.left = omega (arith, c.loop-frame.invariant.room, c.loop-frame.invariant.fewer) in
    record {
      moves = frame_taken c.args.index.now old.left now.left old.framer now.framer c.next_frame.new.framer c.in-Some.frame _ old.served now.served c.answer_frame.new.served
          (g.C.Sink.written c.args.conn.now) (g.C.Sink.written c.loop-frame.conn) (g.C.Sink.written c.answer_frame.new.conn)
          c.loop-frame.invariant.room c.in-Some.is c.in_ok-frame.ensures c.loop-frame.invariant.moves c.in_ok-answer_frame.ensures.answers;
      room = some;
      fewer = omega arith;
      same = λ e. absurd (omega (arith, fewer, e));
      count = c.in_ok-answer_frame.ensures.count ∙ c.loop-frame.invariant.count;
      left = c.in_ok-answer_frame.ensures.left ∙ c.loop-frame.invariant.left;
      ended = c.in_ok-answer_frame.ensures.ended ∙ c.loop-frame.invariant.ended;
      read_faults = c.in_ok-answer_frame.ensures.read_faults ∙ c.loop-frame.invariant.read_faults;
    }

pub returns-in_err-frame-clause-inside : goal.returns-in_err-frame-clause-inside
returns-in_err-frame-clause-inside g c =
    by_err (λ (r : Result (Unit {0}) ServeEnd). IfErr r ComesInside) _ _ c.from_residual.ensures.1 (finds_inside c.in_err-frame.field-0.0 c.loop-frame.session.framer c.next_frame.new.framer c.in_err-frame.ensures)

pub returns-in_err-answer_frame-clause-inside : goal.returns-in_err-answer_frame-clause-inside
returns-in_err-answer_frame-clause-inside g c =
    by_err (λ (r : Result (Unit {0}) ServeEnd). IfErr r ComesInside) _ _ c.from_residual-in_err-answer_frame.ensures.1
    (frame_inside c.in_err-answer_frame.field-0.0 c.args.index.now (message_in c.in-Some.frame) c.loop-frame.session.served c.answer_frame.new.served (g.C.Sink.written c.loop-frame.conn) (g.C.Sink.written c.answer_frame.new.conn) c.in_err-answer_frame.ensures.answers)
