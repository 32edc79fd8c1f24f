use Rattle.std.proofs.Common.{ℕ, List, ◌≡◌, ◌++◌, ◌-◌, length, IfOk, Ok}
use Rattle.std.specs.List.{flat_map, AllByRecursion}
use Rattle.cf_bytes.specs.Cut.{Read, Reads}
use Rattle.cf_bytes.specs.Lists.{list_at, with_front}
use Rattle.cf_view.proofs.items.Items.pass.Given as goal

abbrev pub invariant-loop : goal.invariant-loop
invariant-loop g l = record {
  front : List g.row.T.Denot;
  start : l.rest ≡ l.fn.cut;
  exact : (item : List ℕ → Read g.row.T.Denot g.row.E.Denot)
      → ((old : _) (r : _) (new : _) → goal.F-post g l.read old r new → Reads (λ x. x) (item old.now) r new.now)
      → with_front front (list_at item (l.count - l.counter) l.cut) ≡ list_at item l.count l.fn.cut;
  found : (spell : g.row.T.Denot → List ℕ)
      → ((old : _) (r : _) (new : _) → goal.F-post g l.read old r new → IfOk r (λ x. old.now ≡ spell x ++ new.now))
      → l.fn.cut ≡ flat_map spell front ++ l.cut;
  each : AllByRecursion (λ x. (old : _) × (new : _) × goal.F-post g l.read old (Ok x) new) front;
  len : length front ≡ l.counter;
}
