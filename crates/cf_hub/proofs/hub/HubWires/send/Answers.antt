use Rattle.std.proofs.Common.{refl}
use Rattle.cf_hub.proofs.Holds.{all_hold, told_more}
use Rattle.cf_hub.proofs.Takes.{sent_log, failed_log}
use Rattle.cf_hub.proofs.hub.HubWires.send.Goals as goal

pub invariant_of-self : goal.invariant_of-self
invariant_of-self g c =
    let told = c.note_sent.ensures.told in
    all_hold (told_more c.put_out.new.self c.note_sent.new.self _ told refl refl refl refl (λ got. sent_log _ _ got _ _ told))

pub invariant_of-self-in-Err : goal.invariant_of-self-in-Err
invariant_of-self-in-Err g c =
    let told = c.note_failed.ensures.told in
    all_hold (told_more c.put_out.new.self c.note_failed.new.self _ told refl refl refl refl (λ got. failed_log _ _ got _ told))
