use Rattle.std.proofs.Common.{◌+◌, ◌^◌, ◌∙◌, Some, ap, sym, refl, arith}
use Rattle.std.specs.Vec.{vec_len, vec_capacity}
use Rattle.std.specs.VecDeque.{deque_len, deque_capacity}
use Rattle.cf_link.proofs.Places.{places_over, room_parts}
use Rattle.cf_link.proofs.line.Line.push_over.Goals as goal

pub invariant_of-self : goal.invariant_of-self
invariant_of-self g c =
    let was = c.self.inside in
    let places = c.push_back_reserved.ensures in
    let room = room_parts (deque_len was.places) (deque_capacity was.places) (vec_len was.live) (vec_capacity was.live) (was.first + deque_len was.places + 1) (2 ^ 64) (ap (λ l. l.room) c.self.view_is ∙ c.requires.room) in
    let n = room.2 in
    let m = places.len in (
      omega (arith, n, m),
      places_over was.first was.places.items c.push_back_reserved.new.self.items was.live.items (record { of = c.args.of; out = Some c.args.ended }) c.args.ended c.self.invariant.1 places.items refl (sym c.requires.same),
    )
