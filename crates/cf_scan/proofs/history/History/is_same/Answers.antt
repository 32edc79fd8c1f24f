use Rattle.std.proofs.Common.{◌≡◌, ◌∙◌, subst, sym, List}
use Rattle.std.specs.Bool.{Decides}
use Rattle.std.proofs.lemmas.Slice.Eq.{slice_eq-Decides}
use Rattle.cf_scan.specs.declared.history.Entry.{Entry}
use Rattle.cf_scan.proofs.HistorySame.{same_entries}
use Rattle.cf_scan.proofs.history.History.is_same.Goals as goal

pub returns : goal.returns
returns c = rw (← c.self.view_is, ← c.other.view_is, ← c.as_slice.ensures.value, ← c.as_slice-2.ensures.value)
    (slice_eq-Decides (λ a b. same_entries a b) _ _ _ c.eq.ensures)
