use Rattle.std.proofs.Common.{refl}
use Rattle.cf_hub.proofs.Holds.{all_hold, told_more}
use Rattle.cf_hub.proofs.Takes.{ended_log}
use Rattle.cf_hub.proofs.hub.Hub.note_end.Goals as goal

pub invariant_of-self : goal.invariant_of-self
invariant_of-self g c =
    let told = c.note_end.ensures.told in
    all_hold (told_more c.args.self.now c.note_end.new.self _ told refl refl refl refl (λ got. ended_log _ _ got told))
