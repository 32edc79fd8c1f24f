use Rattle.std.proofs.Common.{◌<◌, ◌+◌, ◌-◌, ◌^◌, ◌∙◌, Some, length, ap, refl, arith}
use Rattle.std.proofs.lemmas.List.{length-map}
use Rattle.std.specs.Vec.{vec_len, vec_capacity}
use Rattle.std.specs.VecDeque.{deque_len, deque_capacity}
use Rattle.std.specs.List.{remove}
use Rattle.cf_link.proofs.Places.{place_at, places_joined, tasks_stay, flags_left, room_parts, room_from}
use Rattle.cf_link.proofs.line.Line.join_at.Goals as goal

pub overflow_sub-number : goal.overflow_sub-number
overflow_sub-number g c =
    let was = c.self.inside in
    let few : c.args.i < length was.live.items = (let e = c.requires in let v = ap (λ l. length l.flags) c.self.view_is in let m = length-map was.live.items (λ x. x.flag) in omega (arith, e, v, m)) in
    let at = place_at was.first was.places.items was.live.items c.args.i c.remove-number.result c.self.invariant.1 few c.remove-number.ensures.value in
    let e = at.1 in
    omega (arith, e)

pub index_mut-requires : goal.index_mut-requires
index_mut-requires g c =
    let was = c.self.inside in
    let few : c.args.i < length was.live.items = (let e = c.requires in let v = ap (λ l. length l.flags) c.self.view_is in let m = length-map was.live.items (λ x. x.flag) in omega (arith, e, v, m)) in
    let at = place_at was.first was.places.items was.live.items c.args.i c.remove-number.result c.self.invariant.1 few c.remove-number.ensures.value in
    let e = at.1 in
    let l = at.2 in
    let m = was.places.ok.0 in
    omega (arith, e, l, m)

pub invariant_of-self : goal.invariant_of-self
invariant_of-self g c =
    let was = c.self.inside in
    let few : c.args.i < length was.live.items = (let e = c.requires in let v = ap (λ l. length l.flags) c.self.view_is in let m = length-map was.live.items (λ x. x.flag) in omega (arith, e, v, m)) in
    let v = c.remove-number.result in (
      c.self.invariant.0,
      places_joined was.first was.places.items was.live.items c.remove-number.new.self.items c.args.i (v.number - was.first) v c.index_mut.result.now c.new.result c.self.invariant.1 few c.remove-number.ensures.value c.remove-number.ensures.items refl
          c.index_mut.ensures.value (c.new.ensures ∙ c.join-of.ensures.answer.0),
    )

pub returns-clause-tasks : goal.returns-clause-tasks
returns-clause-tasks g c =
    let was = c.self.inside in
    tasks_stay was.places.items (c.remove-number.result.number - was.first) c.index_mut.result.now (Some c.new.result) c.index_mut.ensures.value ∙ ap (λ l. l.tasks) c.self.view_is

pub returns-clause-flags : goal.returns-clause-flags
returns-clause-flags g c =
    flags_left c.self.inside.live.items c.remove-number.new.self.items c.args.i c.remove-number.ensures.items ∙ ap (λ l. remove l.flags c.args.i) c.self.view_is

pub returns-clause-room : goal.returns-clause-room
returns-clause-room g c = λ had.
    let was = c.self.inside in
    let room = room_parts (deque_len was.places) (deque_capacity was.places) (vec_len was.live) (vec_capacity was.live) (was.first + deque_len was.places + 1) (2 ^ 64) (ap (λ l. l.room) c.self.view_is ∙ had) in
    let now = c.remove-number.new.self in
    let e = c.remove-number.ensures.len in
    let k = c.remove-number.ensures.capacity in
    let l = room.1 in
    room_from (deque_len was.places) (deque_capacity was.places) (vec_len now) (vec_capacity now) (was.first + deque_len was.places + 1) (2 ^ 64) room.0 (omega (arith, e, k, l)) room.2
