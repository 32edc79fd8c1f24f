-- Which names were dialled, whatever was answered.
use Rattle.std.proofs.Common.{◌≡◌, inl, inr, ℕ, ◌+◌, ◌<◌, ◌≤◌, List, [], ◌∷◌, ◌++◌, length, take, get_or, String, string_bytes, Option, Some, None, sym, ◌∙◌, ap, subst, arith}
use Rattle.std.specs.Prelude.{IfSome}
use Rattle.std.specs.declared.alloc.Global.{Global}
use Rattle.std.proofs.lemmas.List.{take-map, length-map}
use Rattle.cf_wires.specs.Log.{Log, Told, Tally, Tells}
use Rattle.cf_run.specs.Names.{names_in}
use Rattle.cf_run.specs.Run.{HasNames, HasDialled, names_of}
use Rattle.cf_run.specs.States.{IsOneMore, IsNoMore, Dials, RunState}
use Rattle.cf_run.proofs.Turns.{names_more}

-- over new wires none was dialled
pub none_named : (t : Told) → Tells [] t → HasNames [] t
none_named t tells = by t.log tells.content where
  by : (o : Option Log) → IfSome o (λ l. l ≡ []) → IfSome o (λ log. names_of log ≡ [])
  by None h = h
  by (Some log) h = ap names_of h

pub none_dialled : (names : List (List ℕ)) (t : Told) → Tells [] t → HasDialled names t
none_dialled names t tells =
    let none : t.tally.dials ≡ 0 = ap (λ (x : Tally). x.dials) tells.counts in
    record { most = omega (arith, none); first = subst (λ (k : ℕ). HasNames (take k names) t) (sym none) (none_named t tells) }

-- the first of the names were
pub has_dialled : (names : List (String Global)) (i : ℕ) (t : Told) → i ≤ length names → t.tally.dials ≡ i → HasNames (names_in (take i names)) t → HasDialled (names_in names) t
has_dialled names i t le dials named = record {
  most = omega (arith, le, dials, length-map names string_bytes);
  first = subst (λ (k : ℕ). HasNames (take k (names_in names)) t) (sym dials) (subst (λ (called : List (List ℕ)). HasNames called t) (sym (take-map string_bytes i names)) named);
}

-- and one more, or no more
pub names_more_as : (names : List (String Global)) (i : ℕ) (name : String Global) (text : List ℕ) → i < length names → name ≡ get_or names i name → text ≡ string_bytes name
    → names_in (take i names) ++ text ∷ [] ≡ names_in (take (i + 1) names)
names_more_as names i name text lt is same = ap (λ (x : List ℕ). names_in (take i names) ++ x ∷ []) same ∙ names_more names i name lt is

pub one_dialled : (names : List (String Global)) (i : ℕ) (name : String Global) (text : List ℕ) (t u : Told) → i < length names → name ≡ get_or names i name → text ≡ string_bytes name
    → HasNames (names_in (take i names)) t → IsOneMore text t u → HasNames (names_in (take (i + 1) names)) u
one_dialled names i name text t u lt is same named more =
    subst (λ (called : List (List ℕ)). HasNames called u) (names_more_as names i name text lt is same) (more.named (names_in (take i names)) named)

pub most_dialled : (names : List (String Global)) (i : ℕ) (name : String Global) (text : List ℕ) (a b : RunState) → i < length names → name ≡ get_or names i name → text ≡ string_bytes name
    → a.told.tally.dials ≡ i → HasNames (names_in (take i names)) a.told → Dials text a b → HasDialled (names_in names) b.told
most_dialled names i name text a b lt is same dials named done = elim done.most [
  | inl more ↦ has_dialled names (i + 1) b.told (omega (arith, lt)) (more.dials ∙ ap (λ (n : ℕ). n + 1) dials) (one_dialled names i name text a.told b.told lt is same named more)
  | inr none ↦ has_dialled names i b.told (omega (arith, lt)) (none.dials ∙ dials) (none.named (names_in (take i names)) named)
]

pub dialled_on : (names : List (List ℕ)) (t u : Told) → HasDialled names t → IsNoMore t u → HasDialled names u
dialled_on names t u has none = record {
  most = omega (arith, has.most, none.dials);
  first = subst (λ (k : ℕ). HasNames (take k names) u) (sym none.dials) (none.named (take t.tally.dials names) has.first);
}
