use Rattle.cf_hub.proofs.Holds.{all_hold, rewritten}
use Rattle.cf_hub.proofs.hub.Hub.shut.Goals as goal

pub invariant_of-self : goal.invariant_of-self
invariant_of-self g c =
    let h = c.args.self.now in
    let e = c.shut_at.ensures in
    all_hold (rewritten h c.shut_at.new.writers e.len e.capacity e.there (λ r. e.unshut _ (c.requires r) (h.unshut r)))
