use Rattle.std.proofs.Common.{◌+◌, ◌^◌, ◌∙◌, None, ap, sym, refl, arith}
use Rattle.std.specs.Vec.{vec_len, vec_capacity}
use Rattle.std.specs.VecDeque.{deque_len, deque_capacity}
use Rattle.cf_link.proofs.Places.{places_push, room_parts}
use Rattle.cf_link.proofs.line.Line.push.Goals as goal

pub invariant_of-self : goal.invariant_of-self
invariant_of-self g c =
    let was = c.self.inside in
    let places = c.push_back_reserved.ensures in
    let live = c.push_reserved.ensures in
    let room = room_parts (deque_len was.places) (deque_capacity was.places) (vec_len was.live) (vec_capacity was.live) (was.first + deque_len was.places + 1) (2 ^ 64) (ap (λ l. l.room) c.self.view_is ∙ c.requires.room) in
    let n = room.2 in
    let m = places.len in
    let number = c.len.ensures in (
      omega (arith, n, m),
      places_push was.first (deque_len was.places) was.places.items c.push_back_reserved.new.self.items was.live.items c.push_reserved.new.self.items (record { of = c.args.of; out = None })
          (record { number = was.first + c.len.result; running = c.args.running; flag = c.args.flag }) c.self.invariant.1 places.items live.items refl was.places.ok.0 (omega (arith, number)) (sym c.requires.same),
    )
