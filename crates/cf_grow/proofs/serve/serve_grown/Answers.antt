use Rattle.std.proofs.Common.{◌≡◌, ℤ, [], take, refl, ◌∙◌, ap, arith, to_z, of_z, w64}
use Rattle.std.proofs.lemmas.Int.{to_z-of_z}
use Rattle.std.proofs.lemmas.List.{length-take-le}
use Rattle.cf_frame.specs.Reading.{front_of}
use Rattle.cf_frame.proofs.Fields.{front_none}
use Rattle.cf_grow.specs.declared.ending.Ending.TheVariants.{Served as ServedSo}
use Rattle.cf_grow.specs.Growing.{begun_in, mark_of, told_by}
use Rattle.cf_grow.specs.Standing.{Start}
use Rattle.cf_grow.specs.Serving.{Midway}
use Rattle.cf_grow.proofs.Serving.{midway_begins, midway_goes, served_ends, served_last, stops_closed, stops_unread}
use Rattle.cf_server.specs.declared.answering.Serving.{Serving}
use Rattle.cf_server.specs.declared.outcome.ServeEnd.TheVariants.{Closed, ReadFault}
use Rattle.cf_server.proofs.Steps.{most_is, unread, turn_smaller, if_some_each}
use Rattle.cf_grow.proofs.serve.serve_grown.Goals as goal

pub loop-session-init : goal.loop-session-init
loop-session-init g c =
    let z : Start = record { time = to_z w64 (of_z w64 c.args.moment); tip = c.args.first } in
    let left = g.C.Source.left c.args.conn.now in
    let written = g.C.Sink.written c.args.conn.now in
    let mark = c.new-2.result in
    let unmet = ap (λ (s : Serving). told_by s.seen mark.height mark.hash) c.new-2.ensures.served in
    let midway = if_some_each left (λ bytes. Midway z c.args.nonce bytes left 1000000 c.new.result (mark_of mark) written written)
    (λ bytes told. midway_begins z c.args.nonce bytes left written 1000000 c.new.result (mark_of mark) told most_is c.new.ensures unmet) in
    let time : begun_in mark ≡ z = λ i. record { time = (c.new-2.ensures.served i).time; tip = c.new-2.ensures.first i } in
    let number = ap (λ (s : Serving). s.nonce) c.new-2.ensures.served in
    let waiting = ap front_of c.new.ensures ∙ front_none in
    record { midway = midway; time = time; number = number; waiting = waiting; room = omega arith; write_count = refl; read_count = refl }

pub returns-in-Ok-eq0-clause-served : goal.returns-in-Ok-eq0-clause-served
returns-in-Ok-eq0-clause-served g c =
    let at : ℤ → Start = λ z. record { time = z; tip = c.args.first } in
    let session = c.loop-session.session in
    let found = c.in-Ok-eq0 in
    let written = g.C.Sink.written c.loop-session.conn in
    served_ends (g.C.Source.left c.args.conn.now) _ (at c.args.moment) c.args.nonce (take found.field-0 c.receive.new.into) (g.C.Source.left c.loop-session.conn) (g.C.Source.left c.receive.new.self)
    session.left session.framer (mark_of session.mark) (g.C.Sink.written c.args.conn.now) written (g.C.Sink.written c.receive.new.self) (ServedSo Closed) (ap at (to_z-of_z w64 c.args.moment c.ranges.moment))
    c.loop-session.invariant.midway found.ensures.ok (ap (λ n. take n c.receive.new.into) found.field-0-test) found.ensures.written c.loop-session.invariant.room
    (λ n. stops_closed (at c.args.moment) c.args.nonce n session.framer (mark_of session.mark) written c.loop-session.invariant.waiting)

pub returns-in-Err-clause-served : goal.returns-in-Err-clause-served
returns-in-Err-clause-served g c =
    let at : ℤ → Start = λ z. record { time = z; tip = c.args.first } in
    let session = c.loop-session.session in
    let written = g.C.Sink.written c.loop-session.conn in
    served_ends (g.C.Source.left c.args.conn.now) _ (at c.args.moment) c.args.nonce [] (g.C.Source.left c.loop-session.conn) (g.C.Source.left c.receive.new.self)
    session.left session.framer (mark_of session.mark) (g.C.Sink.written c.args.conn.now) written (g.C.Sink.written c.receive.new.self) (ServedSo ReadFault) (ap at (to_z-of_z w64 c.args.moment c.ranges.moment))
    c.loop-session.invariant.midway (unread (g.C.Source.left c.loop-session.conn) (g.C.Source.left c.receive.new.self) c.in-Err.ensures.err) refl c.in-Err.ensures.written c.loop-session.invariant.room
    (λ n. stops_unread (at c.args.moment) c.args.nonce n session.framer (mark_of session.mark) written c.loop-session.invariant.waiting)

pub returns-in-Err-take_piece-clause-served : goal.returns-in-Err-take_piece-clause-served
returns-in-Err-take_piece-clause-served g c =
    let at : ℤ → Start = λ z. record { time = z; tip = c.args.first } in
    let session = c.loop-session.session in
    let ended = c.in-Err-take_piece in
    served_last (g.C.Source.left c.args.conn.now) _ (at c.args.moment) _ c.args.nonce _ (take c.in-Ok.n c.receive.new.into) (g.C.Source.left c.loop-session.conn) (g.C.Source.left c.receive.new.self) (g.C.Source.left c.take_piece.new.conn)
    session.left session.framer (mark_of session.mark) (g.C.Sink.written c.args.conn.now) (g.C.Sink.written c.loop-session.conn) (g.C.Sink.written c.receive.new.self) (g.C.Sink.written c.take_piece.new.conn) ended.ending
    (ap at (to_z-of_z w64 c.args.moment c.ranges.moment)) c.loop-session.invariant.midway c.in-Ok.ensures.ok ended.ensures.left c.in-Ok.ensures.written c.loop-session.invariant.time c.loop-session.invariant.number ended.ensures.takes

pub loop-session-preserved : goal.loop-session-preserved
loop-session-preserved g c =
    let at : ℤ → Start = λ z. record { time = z; tip = c.args.first } in
    let session = c.loop-session.session in
    let next = c.take_piece.new.session in
    let took = c.in_default in
    let i = c.loop-session.invariant in
    record {
      midway = midway_goes (g.C.Source.left c.args.conn.now) (at (to_z w64 (of_z w64 c.args.moment))) _ c.args.nonce _ (take c.in-Ok.n c.receive.new.into) (g.C.Source.left c.loop-session.conn) (g.C.Source.left c.receive.new.self)
          (g.C.Source.left c.take_piece.new.conn) session.left next.left session.framer next.framer (mark_of session.mark) (mark_of next.mark) (g.C.Sink.written c.args.conn.now) (g.C.Sink.written c.loop-session.conn)
          (g.C.Sink.written c.receive.new.self) (g.C.Sink.written c.take_piece.new.conn) i.midway c.in-Ok.ensures.ok took.ensures.left c.in-Ok.ensures.written i.time i.number took.ensures.takes;
      time = took.ensures.moment.0 ∙ i.time;
      number = took.ensures.moment.1 ∙ i.number;
      waiting = took.ensures.idles.waiting;
      room = took.ensures.idles.room;
      write_count = took.ensures.count ∙ c.in-Ok.ensures.write_faults ∙ i.write_count;
      read_count = took.ensures.read_faults ∙ c.in-Ok.ensures.kept ∙ i.read_count;
    }

pub loop-session-smaller : goal.loop-session-smaller
loop-session-smaller g c =
    let idles = c.in_default.ensures.idles in
    turn_smaller c.loop-session.session.left c.take_piece.new.session.left c.in-Ok.n c.loop-session.session.framer c.take_piece.new.session.framer (take c.in-Ok.n c.receive.new.into) idles.fewer idles.same
    (length-take-le c.in-Ok.n c.receive.new.into c.in-Ok.ensures.some) (omega (arith, c.in-Ok.n-test.1)) c.loop-session.invariant.waiting idles.waiting
