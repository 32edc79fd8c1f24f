use Rattle.std.proofs.Common.{ℕ, List, ◌≡◌, ◌++◌, ◌-◌, length, IfOk, Ok}
use Rattle.std.specs.List.{flat_map, AllByRecursion}
use Rattle.cf_bytes.specs.Cut.{Read, Gives}
use Rattle.cf_bytes.specs.Lists.{list_at, with_front}
use Rattle.cf_bytes.proofs.lists.read_list.Given as goal

abbrev pub invariant-loop : goal.invariant-loop
invariant-loop g l = record {
  exact : (item : List ℕ → Read g.row.T.Denot g.row.E.Denot)
      → ((old : _) (r : _) (new : _) → goal.F-post g l.read old r new → Gives (λ x. x) (item old.now) r new.now)
      → with_front l.items.items (list_at item (l.count - l.counter) l.cut) ≡ list_at item l.count l.fn.cut;
  found : (spell : g.row.T.Denot → List ℕ)
      → ((old : _) (r : _) (new : _) → goal.F-post g l.read old r new → IfOk r (λ x. old.now ≡ spell x ++ new.now))
      → l.fn.cut ≡ flat_map spell l.items.items ++ l.cut;
  each : AllByRecursion (λ x. (old : _) × (new : _) × goal.F-post g l.read old (Ok x) new) l.items.items;
  len : length l.items.items ≡ l.counter;
}
