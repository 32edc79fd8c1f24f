use Rattle.std.proofs.Common.{◌+◌, ◌^◌, arith}
use Rattle.std.specs.Vec.{vec_len, vec_capacity}
use Rattle.std.specs.VecDeque.{deque_len, deque_capacity}
use Rattle.cf_link.proofs.Places.{room_from}
use Rattle.cf_link.proofs.line.Line.reserve.Goals as goal

pub returns-clause-ok : goal.returns-clause-ok
returns-clause-ok g c =
    let was = c.self.invariant.0 in
    let len = c.len.ensures in
    let full = c.if-self-len.false in
    let places = c.in_ok-reserve.ensures.ok in
    let same = c.reserve.ensures.len in
    let live = c.in_ok-reserve-2.ensures.ok in
    let now = c.reserve.new.self in
    let now_live = c.reserve-2.new.self in
    room_from (deque_len now) (deque_capacity now) (vec_len now_live) (vec_capacity now_live) (c.self.inside.first + deque_len now + 1) (2 ^ 64)
    (omega (arith, places)) (omega (arith, live)) (omega (arith, was, len, full, same))
