use Rattle.std.proofs.Common.{◌∙◌, refl, sym, true≢false}
use Rattle.cf_hub.specs.Book.{told_of}
use Rattle.cf_hub.proofs.Holds.{all_hold, received_one}
use Rattle.cf_hub.proofs.Takes.{wait_log, wait_within}
use Rattle.cf_hub.proofs.hub.Hub.pass_one.Goals as goal

pub invariant_of-self : goal.invariant_of-self
invariant_of-self g c =
    let h = c.args.self.now in
    let e = c.receive-passed.ensures in
    let entry = c.receive-passed.result in
    all_hold (received_one h c.receive-passed.new.queue c.receive-passed.new.gone h.book c.requires.joined e.ring (e.heard h.heard)
    refl refl refl (wait_log (told_of h.book) _ _ entry.from entry.kind e.got h.within h.gives)
    (wait_within _ _ _ entry.from entry.kind e.got h.within) (λ r. absurd (true≢false (sym c.requires.finished ∙ r))))
