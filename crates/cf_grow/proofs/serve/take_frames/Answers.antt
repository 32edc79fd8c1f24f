use Rattle.std.proofs.Common.{◌-◌, ◌<◌, ◌≤◌, Option, Result, Ok, Err, refl, ◌∙◌, subst, arith}
use Rattle.std.specs.Prelude.{IfErr}
use Rattle.cf_frame.specs.declared.frame.Frame.{Frame}
use Rattle.cf_grow.specs.declared.ending.Ending.{Ending}
use Rattle.cf_grow.specs.Growing.{begun_in, mark_of}
use Rattle.cf_grow.specs.Serving.{TakesFrames, FindsFrame, EndsInside}
use Rattle.cf_grow.proofs.Serving.{moves_none, stops_then, finds_stops, frame_stops, frame_taken, tired_stops, finds_inside, frame_inside, same_moment}
use Rattle.cf_msg.specs.Reading.{message_of as message_in}
use Rattle.cf_server.proofs.Steps.{by_err}
use Rattle.cf_grow.proofs.serve.take_frames.Goals as goal

pub loop-frame-init : goal.loop-frame-init
loop-frame-init g c =
    let none = moves_none (begun_in c.args.session.now.mark) c.args.session.now.mark.served.nonce c.args.session.now.left c.args.session.now.framer (mark_of c.args.session.now.mark) (g.C.Sink.written c.args.conn.now) in
    record { moves = none; moment = (refl, refl); room = c.requires; fewer = omega arith; same = λ e. refl; count = refl; left = refl; ended = refl; read_faults = refl }

pub returns-in_err-frame-clause-takes : goal.returns-in_err-frame-clause-takes
returns-in_err-frame-clause-takes g c =
    let old = c.args.session.now in
    let served = old.mark.served in
    let now = c.loop-frame.session in
    let before = g.C.Sink.written c.args.conn.now in
    let after = g.C.Sink.written c.loop-frame.conn in
    let ending = c.in_err-frame.field-0.0 in
    by_err (λ (r : Result (Unit {0}) Ending). TakesFrames r (begun_in old.mark) served.nonce old.left now.left old.framer c.next_frame.new.framer (mark_of old.mark) (mark_of now.mark) before after) _ _ c.from_residual.ensures.1
    (stops_then (begun_in old.mark) served.nonce ending old.left now.left old.framer now.framer (mark_of old.mark) (mark_of now.mark) before after after c.loop-frame.invariant.moves
    (finds_stops (begun_in old.mark) served.nonce now.left now.framer c.next_frame.new.framer (mark_of now.mark) after ending c.loop-frame.invariant.room c.in_err-frame.ensures.finds))

pub returns-in_err-answer_frame-clause-takes : goal.returns-in_err-answer_frame-clause-takes
returns-in_err-answer_frame-clause-takes g c =
    let old = c.args.session.now in
    let served = old.mark.served in
    let now = c.loop-frame.session in
    let rest = c.next_frame.new.framer in
    let next = c.answer_frame.new.mark in
    let before = g.C.Sink.written c.args.conn.now in
    let between = g.C.Sink.written c.loop-frame.conn in
    let after = g.C.Sink.written c.answer_frame.new.conn in
    let ending = c.in_err-answer_frame.field-0.0 in
    let front = subst (λ (o : Option Frame). FindsFrame (Ok o) now.framer rest) c.in-Some.is c.in_ok-frame.ensures.finds in
    let moment = c.loop-frame.invariant.moment in
    by_err (λ (r : Result (Unit {0}) Ending). TakesFrames r (begun_in old.mark) served.nonce old.left now.left old.framer rest (mark_of old.mark) (mark_of next) before after) _ _ c.from_residual-in_err-answer_frame.ensures.1
    (stops_then (begun_in old.mark) served.nonce ending old.left now.left old.framer now.framer (mark_of old.mark) (mark_of now.mark) before between after c.loop-frame.invariant.moves
    (frame_stops (begun_in old.mark) served.nonce now.left now.framer rest c.in-Some.frame (mark_of now.mark) (mark_of next) between after ending c.loop-frame.invariant.room front
    (same_moment (Err ending) _ (begun_in old.mark) _ served.nonce (message_in c.in-Some.frame) (mark_of now.mark) (mark_of next) between after moment.0 moment.1 c.in_err-answer_frame.ensures.answers)))

pub returns-then-session-eq0-clause-takes : goal.returns-then-session-eq0-clause-takes
returns-then-session-eq0-clause-takes g c =
    let old = c.args.session.now in
    let now = c.loop-frame.session in
    let next = mark_of c.answer_frame.new.mark in
    let before = g.C.Sink.written c.args.conn.now in
    let after = g.C.Sink.written c.answer_frame.new.conn in
    tired_stops (begun_in old.mark) old.mark.served.nonce old.left (now.left - 1) old.framer c.next_frame.new.framer (mark_of old.mark) next before after c.if-session-eq0.true
    (frame_taken (begun_in old.mark) _ old.mark.served.nonce _ old.left now.left old.framer now.framer c.next_frame.new.framer c.in-Some.frame _ (mark_of old.mark) (mark_of now.mark)
    next before (g.C.Sink.written c.loop-frame.conn) after
    c.loop-frame.invariant.room c.in-Some.is c.in_ok-frame.ensures.finds c.loop-frame.invariant.moves c.loop-frame.invariant.moment c.in_ok-answer_frame.ensures.answers)

pub loop-frame-preserved : goal.loop-frame-preserved
loop-frame-preserved g c =
    let old = c.args.session.now in
    let now = c.loop-frame.session in
    let some : 1 ≤ now.left - 1 = omega arith in
    let fewer : now.left - 1 < old.left = omega (arith, c.loop-frame.invariant.room, c.loop-frame.invariant.fewer) in
    let moment = c.loop-frame.invariant.moment in
    let after_moment = c.answer_frame.ensures.moment in
    record {
      moves = frame_taken (begun_in old.mark) _ old.mark.served.nonce _ old.left now.left old.framer now.framer c.next_frame.new.framer c.in-Some.frame _ (mark_of old.mark) (mark_of now.mark)
          (mark_of c.answer_frame.new.mark) (g.C.Sink.written c.args.conn.now) (g.C.Sink.written c.loop-frame.conn) (g.C.Sink.written c.answer_frame.new.conn)
          c.loop-frame.invariant.room c.in-Some.is c.in_ok-frame.ensures.finds c.loop-frame.invariant.moves moment c.in_ok-answer_frame.ensures.answers;
      moment = (after_moment.0 ∙ moment.0, after_moment.1 ∙ moment.1);
      room = some;
      fewer = omega arith;
      same = λ e. absurd (omega (arith, fewer, e));
      count = c.in_ok-answer_frame.ensures.count ∙ c.loop-frame.invariant.count;
      left = c.in_ok-answer_frame.ensures.left ∙ c.loop-frame.invariant.left;
      ended = c.in_ok-answer_frame.ensures.ended ∙ c.loop-frame.invariant.ended;
      read_faults = c.in_ok-answer_frame.ensures.read_faults ∙ c.loop-frame.invariant.read_faults;
    }

pub returns-in_err-frame-clause-inside : goal.returns-in_err-frame-clause-inside
returns-in_err-frame-clause-inside g c =
    by_err (λ (r : Result (Unit {0}) Ending). IfErr r EndsInside) _ _ c.from_residual.ensures.1 (finds_inside c.in_err-frame.field-0.0 c.loop-frame.session.framer c.next_frame.new.framer c.in_err-frame.ensures.finds)

pub returns-in_err-answer_frame-clause-inside : goal.returns-in_err-answer_frame-clause-inside
returns-in_err-answer_frame-clause-inside g c =
    by_err (λ (r : Result (Unit {0}) Ending). IfErr r EndsInside) _ _ c.from_residual-in_err-answer_frame.ensures.1
    (frame_inside c.in_err-answer_frame.field-0.0 _ _ (message_in c.in-Some.frame) (mark_of c.loop-frame.session.mark) (mark_of c.answer_frame.new.mark) (g.C.Sink.written c.loop-frame.conn) (g.C.Sink.written c.answer_frame.new.conn) c.in_err-answer_frame.ensures.answers)
