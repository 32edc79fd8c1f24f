use Rattle.std.proofs.Common.{rules, ◌≡◌, ◌∙◌, sym, subst, List, true, false}
use Rattle.cf_tasks.specs.declared.entry.Item.{Item}
use Rattle.cf_outside.specs.declared.entry.EntryKind.{EntryKind}
use Rattle.cf_outside.proofs.Tickers.{SoFar, starts, goes_on, stops, has_stopped, was_told}
use Rattle.cf_outside.proofs.ticker.TickerTask.run.Goals as goal

pub loop-init : goal.loop-init
loop-init g c =
    let s = g.P.Pulse in
    let Q : List (Item EntryKind) → Type 0 = λ l. SoFar s.answers c.args.self.pulse l c.args.self.pulse in
    record { ring = search rules; number = search rules; returned = search rules; so_far = subst Q (sym c.args.self.fresh) (starts s.answers c.args.self.pulse) }

pub returns-then-not-tick_one : goal.returns-then-not-tick_one
returns-then-not-tick_one g c =
    let is : c.tick_one.result ≡ false = search rules in
    let e = rw is at c.tick_one.ensures.step in
    let so_far = stops g.P.Pulse.answers _ _ _ _ _ _ _ _ _ c.loop.invariant.so_far e in
    let returned = has_stopped g.P.Pulse.answers _ _ _ _ _ _ _ _ _ c.loop.invariant.returned e in
    let told = was_told g.P.Pulse.answers _ _ _ _ _ _ _ _ _ c.loop.invariant.returned e in
    (c.tick_one.ensures.ring.0 ∙ c.loop.invariant.ring, c.tick_one.ensures.ring.1 ∙ c.loop.invariant.number, so_far, returned, told)

pub loop-preserved : goal.loop-preserved
loop-preserved g c =
    let is : c.tick_one.result ≡ true = search rules in
    let so_far = goes_on g.P.Pulse.answers _ _ _ _ _ _ c.loop.invariant.so_far (rw is at c.tick_one.ensures.step) in
    let ring = c.tick_one.ensures.ring in
    let i = c.loop.invariant in
    record { ring = ring.0 ∙ i.ring; number = ring.1 ∙ i.number; returned = c.tick_one.ensures.kept is ∙ i.returned; so_far = so_far }
