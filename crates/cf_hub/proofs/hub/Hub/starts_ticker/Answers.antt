use Rattle.std.proofs.Common.{◌∙◌, sym, true≢false}
use Rattle.cf_hub.proofs.Holds.{all_hold}
use Rattle.cf_hub.proofs.hub.Hub.starts_ticker.Goals as goal

pub invariant_of-self : goal.invariant_of-self
invariant_of-self g c =
    let h = c.args.self.now in
    all_hold (record h {
      clock = c.hand_over.new.clock;
      ticking = c.hand_over.new.ticking;
      waiting = c.hand_over.ensures.waiting h.queue h.waiting;
      ticks = c.hand_over.ensures.ticks h.queue h.waiting h.ticks;
      runs = λ j. c.hand_over.ensures.runs (h.runs j);
      owed = λ j. absurd (true≢false (sym j ∙ c.requires));
    })

pub hand_over-requires : goal.hand_over-requires
hand_over-requires g c = λ x e. (c.args.self.now.waiting x e).1
