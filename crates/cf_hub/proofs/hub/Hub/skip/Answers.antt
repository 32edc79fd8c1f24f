use Rattle.std.proofs.Common.{◌≡◌, ap}
use Rattle.crossbeam_channel.specs.Claims.{view}
use Rattle.cf_hub.proofs.Holds.{all_hold, got_of, passed_over, received_none}
use Rattle.cf_hub.proofs.Lines.{down_popped}
use Rattle.cf_hub.proofs.hub.Hub.skip.Goals as goal

pub invariant_of-self : goal.invariant_of-self
invariant_of-self g c =
    let h = c.args.self.now in
    let p = down_popped h.queue h.spare c.pop.new.self _ _ c.unwrap-sender.ensures c.pop.ensures.items c.pop.ensures.len h.spares in
    let e = c.push_reserved.ensures in
    let got : (view c.take.new.self.seat).got ≡ got_of h = ap (λ v. v.got) c.take.ensures.ended in
    all_hold (received_none
    (passed_over h c.pop.new.self c.push_reserved.new.self c.note_not_dialled.new.self _ _ _ p e.items e.len e.capacity
    c.note_not_dialled.ensures.told)
    c.take.new.self c.take.ensures.ring got)
