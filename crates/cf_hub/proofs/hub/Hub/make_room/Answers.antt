use Rattle.std.proofs.Common.{refl}
use Rattle.cf_hub.proofs.Holds.{all_hold, told_more}
use Rattle.cf_hub.proofs.Takes.{same_log}
use Rattle.cf_hub.proofs.hub.Hub.make_room.Goals as goal

pub invariant_of-self : goal.invariant_of-self
invariant_of-self g c =
    let told = c.make_room.ensures.told in
    all_hold (told_more c.args.self.now c.make_room.new.self _ told refl refl refl refl (λ got. same_log _ _ got _ told refl))
