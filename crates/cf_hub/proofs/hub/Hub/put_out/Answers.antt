use Rattle.cf_hub.proofs.Holds.{all_hold, rewritten}
use Rattle.cf_hub.proofs.hub.Hub.put_out.Goals as goal

pub invariant_of-self : goal.invariant_of-self
invariant_of-self g c =
    let h = c.args.self.now in
    let e = c.put_to.ensures in
    all_hold (rewritten h c.put_to.new.writers e.len e.capacity e.there (λ r. e.unshut _ (h.unshut r)))

pub invariant_of-self-2 : goal.invariant_of-self-2
invariant_of-self-2 g c =
    let h = c.args.self.now in
    let e = c.put_to.ensures in
    all_hold (rewritten h c.put_to.new.writers e.len e.capacity e.there (λ r. e.unshut _ (h.unshut r)))
