use Rattle.std.proofs.Common.{arith, ◌≤◌, length}
use Rattle.crossbeam_channel.specs.Claims.{view}
use Rattle.cf_hub.specs.Gives.{given_of}
use Rattle.cf_hub.proofs.Holds.{all_hold, got_of, received_one}
use Rattle.cf_hub.proofs.Takes.{not_joined, on_noted}
use Rattle.cf_hub.proofs.hub.Hub.take_one.Goals as goal

pub invariant_of-self : goal.invariant_of-self
invariant_of-self g c =
    let h = c.args.self.now in
    let e = c.take_entry.ensures in
    let q = c.take_entry.new.queue in
    let b = c.take_entry.new.book in
    let n = on_noted _ h.book b (got_of h) (view q.seat).got e.some e.none e.real (h.counts c.requires.running) h.gives in
    all_hold (received_one h q c.take_entry.new.gone b (not_joined _ _ h.stopped c.requires.running) e.ring (e.heard h.heard)
    n.dials n.closed n.finished n.gives
    (let cn = n.counts in let l : b.taken ≤ length (given_of (view q.seat).got) = omega (arith, cn) in l) (λ _. n.counts))
