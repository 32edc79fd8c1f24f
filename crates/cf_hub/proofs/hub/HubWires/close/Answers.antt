use Rattle.std.proofs.Common.{sym, ◌∙◌}
use Rattle.cf_hub.proofs.Holds.{all_hold, counts_of, got_of, noted}
use Rattle.cf_hub.proofs.Opened.{opens_closed}
use Rattle.cf_hub.proofs.Takes.{closed_log}
use Rattle.cf_hub.proofs.hub.HubWires.close.Goals as goal

pub invariant_of-self : goal.invariant_of-self
invariant_of-self g c =
    let h = c.args.self.now in
    let told = c.note_closed.ensures.told in
    let n = counts_of c.note_closed.new.self _ told in
    all_hold (noted h c.note_closed.new.self n.dials n.taken (λ r. sym n.finished ∙ r) (λ j. n.finished ∙ j)
    (closed_log _ _ (got_of h) _ told h.gives) (λ r. opens_closed _ _ _ _ _ n.closed (h.unshut (sym n.finished ∙ r))))
