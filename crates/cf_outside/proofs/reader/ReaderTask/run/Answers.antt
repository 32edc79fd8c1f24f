use Rattle.std.proofs.Common.{rules, ◌≡◌, ◌∙◌, sym, subst, List, true, false}
use Rattle.cf_tasks.specs.declared.entry.Item.{Item}
use Rattle.cf_outside.specs.declared.entry.EntryKind.{EntryKind}
use Rattle.cf_outside.proofs.Readers.{SoFar, starts, goes_on, stops, has_stopped}
use Rattle.cf_outside.proofs.reader.ReaderTask.run.Goals as goal

pub loop-init : goal.loop-init
loop-init g c =
    let s = g.S.Source in
    let Q : List (Item EntryKind) → Type 0 = λ l. SoFar s.left s.faults s.ended c.args.self.source l c.args.self.source in
    record { ring = search rules; number = search rules; returned = search rules; so_far = subst Q (sym c.args.self.fresh) (starts s.left s.faults s.ended c.args.self.source) }

pub returns-then-not-read_one : goal.returns-then-not-read_one
returns-then-not-read_one g c =
    let is : c.read_one.result ≡ false = search rules in
    let e = rw is at c.read_one.ensures.step in
    let so_far = stops g.S.Source.left g.S.Source.faults g.S.Source.ended _ _ _ _ _ _ _ _ c.loop.invariant.so_far e in
    let returned = has_stopped g.S.Source.left g.S.Source.faults g.S.Source.ended _ _ _ _ _ _ _ _ c.loop.invariant.returned e in
    (c.read_one.ensures.ring.0 ∙ c.loop.invariant.ring, c.read_one.ensures.ring.1 ∙ c.loop.invariant.number, so_far, returned)

pub loop-preserved : goal.loop-preserved
loop-preserved g c =
    let is : c.read_one.result ≡ true = search rules in
    let so_far = goes_on g.S.Source.left g.S.Source.faults g.S.Source.ended _ _ _ _ _ _ c.loop.invariant.so_far (rw is at c.read_one.ensures.step) in
    let ring = c.read_one.ensures.ring in
    let i = c.loop.invariant in
    record { ring = ring.0 ∙ i.ring; number = ring.1 ∙ i.number; returned = c.read_one.ensures.kept is ∙ i.returned; so_far = so_far }
