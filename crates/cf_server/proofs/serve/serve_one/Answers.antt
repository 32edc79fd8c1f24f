use Rattle.std.proofs.Common.{ℤ, subst, [], take, false, refl, ◌∙◌, ap, arith, to_z, of_z, w64}
use Rattle.std.specs.Prelude.{IfSome}
use Rattle.std.proofs.lemmas.Int.{to_z-of_z}
use Rattle.std.proofs.lemmas.List.{length-take-le}
use Rattle.cf_frame.specs.Reading.{front_of}
use Rattle.cf_frame.proofs.Fields.{front_none}
use Rattle.cf_server.specs.declared.answering.Serving.{Serving}
use Rattle.cf_server.specs.declared.outcome.ServeEnd.TheVariants.{Closed, ReadFault}
use Rattle.cf_server.specs.Taking.{Midway}
use Rattle.cf_server.specs.Turns.{AnswersFirst, owed_for}
use Rattle.cf_server.proofs.Steps.{most_is, midway_begins, midway_goes, served_ends, served_last, unread, turn_smaller, if_some_each}
use Rattle.cf_server.proofs.Turns.{first_turn, turn_ends, turn_goes}
use Rattle.cf_server.proofs.serve.serve_one.Goals as goal

pub loop-session-init : goal.loop-session-init
loop-session-init g c =
    let start : Serving = record { time = to_z w64 (of_z w64 c.args.moment); nonce = c.args.nonce; seen = false } in
    let left = g.C.Source.left c.args.conn.now in
    let written = g.C.Sink.written c.args.conn.now in
    let midway = if_some_each left (λ bytes. Midway c.args.index.now start bytes left 1000000 c.new.result c.new-2.result written written)
    (λ bytes told. midway_begins c.args.index.now start c.new-2.result bytes left written 1000000 c.new.result told most_is c.new.ensures c.new-2.ensures) in
    let turns = if_some_each left (λ bytes. AnswersFirst g.C.Source.left g.C.Sink.written (owed_for start.time start.nonce c.args.index.now) bytes written left)
    (λ bytes told. first_turn g.C.Source.left g.C.Sink.written (owed_for start.time start.nonce c.args.index.now) bytes written left told) in
    let waiting = ap front_of c.new.ensures ∙ front_none in
    record { midway = midway; turns = turns; waiting = waiting; room = omega arith; write_count = refl; read_count = refl }

pub returns-in-Ok-eq0-clause-served : goal.returns-in-Ok-eq0-clause-served
returns-in-Ok-eq0-clause-served g c =
    let session = c.loop-session.session in
    let found = c.in-Ok-eq0 in
    served_ends (g.C.Source.left c.args.conn.now) c.args.index.now _ c.args.moment c.args.nonce (take found.field-0 c.receive.new.into) (g.C.Source.left c.loop-session.conn) (g.C.Source.left c.receive.new.self)
    session.left session.framer session.served (g.C.Sink.written c.args.conn.now) (g.C.Sink.written c.loop-session.conn) (g.C.Sink.written c.receive.new.self) Closed (to_z-of_z w64 c.args.moment c.ranges.moment) c.loop-session.invariant.midway
    found.ensures.ok (ap (λ n. take n c.receive.new.into) found.field-0-test) found.ensures.written c.loop-session.invariant.room c.loop-session.invariant.waiting (λ stop is. is) (λ a b t whole. whole)

pub returns-in-Err-clause-served : goal.returns-in-Err-clause-served
returns-in-Err-clause-served g c =
    let session = c.loop-session.session in
    served_ends (g.C.Source.left c.args.conn.now) c.args.index.now _ c.args.moment c.args.nonce [] (g.C.Source.left c.loop-session.conn) (g.C.Source.left c.receive.new.self)
    session.left session.framer session.served (g.C.Sink.written c.args.conn.now) (g.C.Sink.written c.loop-session.conn) (g.C.Sink.written c.receive.new.self) ReadFault (to_z-of_z w64 c.args.moment c.ranges.moment) c.loop-session.invariant.midway
    (unread (g.C.Source.left c.loop-session.conn) (g.C.Source.left c.receive.new.self) c.in-Err.ensures.err) refl c.in-Err.ensures.written c.loop-session.invariant.room c.loop-session.invariant.waiting (λ stop is. is) (λ a b t whole. whole)

pub returns-in-Err-take_piece-clause-served : goal.returns-in-Err-take_piece-clause-served
returns-in-Err-take_piece-clause-served g c =
    let session = c.loop-session.session in
    let ended = c.in-Err-take_piece in
    served_last (g.C.Source.left c.args.conn.now) c.args.index.now _ c.args.moment c.args.nonce (take c.in-Ok.n c.receive.new.into) (g.C.Source.left c.loop-session.conn) (g.C.Source.left c.receive.new.self) (g.C.Source.left c.take_piece.new.conn)
    session.left session.framer session.served (g.C.Sink.written c.args.conn.now) (g.C.Sink.written c.loop-session.conn) (g.C.Sink.written c.receive.new.self) (g.C.Sink.written c.take_piece.new.conn) ended.outcome
    (to_z-of_z w64 c.args.moment c.ranges.moment) c.loop-session.invariant.midway c.in-Ok.ensures.ok ended.ensures.left c.in-Ok.ensures.written ended.ensures.takes

pub returns-in-Ok-eq0-clause-in_turn : goal.returns-in-Ok-eq0-clause-in_turn
returns-in-Ok-eq0-clause-in_turn g c =
    let found = c.in-Ok-eq0 in
    turn_ends g.C.Source.left g.C.Sink.written (g.C.Source.left c.args.conn.now) _ c.args.moment c.args.nonce c.args.index.now (take found.field-0 c.receive.new.into) (g.C.Sink.written c.args.conn.now)
    (g.C.Source.left c.loop-session.conn) (g.C.Source.left c.receive.new.self) (to_z-of_z w64 c.args.moment c.ranges.moment) c.loop-session.invariant.turns found.ensures.ok (ap (λ n. take n c.receive.new.into) found.field-0-test)

pub returns-in-Err-clause-in_turn : goal.returns-in-Err-clause-in_turn
returns-in-Err-clause-in_turn g c =
    turn_ends g.C.Source.left g.C.Sink.written (g.C.Source.left c.args.conn.now) _ c.args.moment c.args.nonce c.args.index.now [] (g.C.Sink.written c.args.conn.now)
    (g.C.Source.left c.loop-session.conn) (g.C.Source.left c.receive.new.self) (to_z-of_z w64 c.args.moment c.ranges.moment) c.loop-session.invariant.turns
    (unread (g.C.Source.left c.loop-session.conn) (g.C.Source.left c.receive.new.self) c.in-Err.ensures.err) refl

pub returns-in-Err-take_piece-clause-in_turn : goal.returns-in-Err-take_piece-clause-in_turn
returns-in-Err-take_piece-clause-in_turn g c =
    let told = g.C.Source.left c.args.conn.now in
    let after = g.C.Source.left c.take_piece.new.conn in
    let session = c.loop-session.session in
    let ended = c.in-Err-take_piece in
    subst (λ (y : ℤ). IfSome told (λ bytes. AnswersFirst g.C.Source.left g.C.Sink.written (owed_for y c.args.nonce c.args.index.now) bytes (g.C.Sink.written c.args.conn.now) after)) (to_z-of_z w64 c.args.moment c.ranges.moment)
    (turn_goes g.C.Source.left g.C.Sink.written told c.args.index.now (to_z w64 (of_z w64 c.args.moment)) c.args.nonce (take c.in-Ok.n c.receive.new.into) (g.C.Sink.written c.args.conn.now) (g.C.Source.left c.receive.new.self) after
    c.loop-session.conn session.left session.framer session.served (omega (arith, length-take-le c.in-Ok.n c.receive.new.into c.in-Ok.ensures.some, c.in-Ok.ensures.some)) c.loop-session.invariant.midway c.loop-session.invariant.room c.loop-session.invariant.waiting c.loop-session.invariant.turns c.in-Ok.ensures.ok ended.ensures.left)

pub loop-session-preserved : goal.loop-session-preserved
loop-session-preserved g c =
    let told = g.C.Source.left c.args.conn.now in
    let session = c.loop-session.session in
    let next = c.take_piece.new.session in
    let between = g.C.Source.left c.receive.new.self in
    let start : Serving = record { time = to_z w64 (of_z w64 c.args.moment); nonce = c.args.nonce; seen = false } in
    let took = c.in_default in
    let i = c.loop-session.invariant in
    record {
      midway = midway_goes told c.args.index.now start (take c.in-Ok.n c.receive.new.into) (g.C.Source.left c.loop-session.conn) between (g.C.Source.left c.take_piece.new.conn) session.left next.left session.framer next.framer session.served next.served
          (g.C.Sink.written c.args.conn.now) (g.C.Sink.written c.loop-session.conn) (g.C.Sink.written c.receive.new.self) (g.C.Sink.written c.take_piece.new.conn) i.midway c.in-Ok.ensures.ok took.ensures.left c.in-Ok.ensures.written took.ensures.takes;
      turns = turn_goes g.C.Source.left g.C.Sink.written told c.args.index.now start.time start.nonce (take c.in-Ok.n c.receive.new.into) (g.C.Sink.written c.args.conn.now) between (g.C.Source.left c.take_piece.new.conn) c.loop-session.conn
          session.left session.framer session.served (omega (arith, length-take-le c.in-Ok.n c.receive.new.into c.in-Ok.ensures.some, c.in-Ok.ensures.some)) i.midway i.room i.waiting i.turns c.in-Ok.ensures.ok took.ensures.left;
      waiting = took.ensures.idles.waiting;
      room = took.ensures.idles.room;
      write_count = took.ensures.count ∙ c.in-Ok.ensures.write_faults ∙ i.write_count;
      read_count = took.ensures.read_faults ∙ c.in-Ok.ensures.kept ∙ i.read_count;
    }

pub loop-session-smaller : goal.loop-session-smaller
loop-session-smaller g c =
    let idles = c.in_default.ensures.idles in
    turn_smaller c.loop-session.session.left c.take_piece.new.session.left c.in-Ok.n c.loop-session.session.framer c.take_piece.new.session.framer (take c.in-Ok.n c.receive.new.into) idles.fewer idles.same
    (length-take-le c.in-Ok.n c.receive.new.into c.in-Ok.ensures.some) (omega (arith, c.in-Ok.n-test.1)) c.loop-session.invariant.waiting idles.waiting
