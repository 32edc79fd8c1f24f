use Rattle.std.proofs.Common.{◌≡◌, ◌∙◌, sym, ap, true≢false}
use Rattle.cf_hub.specs.Book.{told_of}
use Rattle.cf_hub.proofs.Holds.{all_hold, counts_of, got_of, noted}
use Rattle.cf_hub.proofs.Opened.{still_shut}
use Rattle.cf_hub.proofs.Takes.{finished_log}
use Rattle.cf_hub.proofs.hub.HubWires.finish.Goals as goal

pub invariant_of-self : goal.invariant_of-self
invariant_of-self g c =
    let h = c.args.self.now in
    let told = c.note_finished.ensures.told in
    let n = counts_of c.note_finished.new.self _ told in
    all_hold (noted h c.note_finished.new.self n.dials n.taken (λ r. absurd (true≢false (sym n.finished ∙ r))) (λ _. n.finished)
    (finished_log (told_of h.book) _ (got_of h) told h.gives) (λ r. absurd (true≢false (sym n.finished ∙ r))))

pub returns-clause-shut : goal.returns-clause-shut
returns-clause-shut g c =
    let same : c.join_all.new.self.writers.items ≡ c.shut_all.new.self.writers.items = ap (λ v. v.items) (c.join_all.ensures.stays.writers ∙ c.drain.ensures.stays.writers) in
    still_shut g.D.Write.Writer.was_shut c.shut_all.new.self.writers.items c.join_all.new.self.writers.items same c.shut_all.ensures.shut
