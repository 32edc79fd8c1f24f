use Rattle.std.proofs.Common.{sym, ap, ◌∙◌}
use Rattle.cf_wires.specs.Log.{Tally}
use Rattle.cf_hub.specs.Book.{told_of}
use Rattle.cf_hub.proofs.Begins.{nothing_log}
use Rattle.cf_hub.proofs.Holds.{all_hold, got_of, noted_same}
use Rattle.cf_hub.proofs.hub.HubWires.keep_log.Goals as goal

pub invariant_of-self : goal.invariant_of-self
invariant_of-self g c =
    let h = c.args.self.now in
    let e = c.keep.ensures.told.counts ∙ sym c.requires.counts in
    let dn = ap (λ (t : Tally). t.dials) e in
    let tn = ap (λ (t : Tally). t.taken) e in
    let cl = ap (λ (t : Tally). t.closed) e in
    let log = nothing_log (told_of c.keep.new.self) (got_of h) c.keep.ensures.told in
    all_hold (noted_same h c.keep.new.self dn tn cl c.keep.ensures.finished log)
