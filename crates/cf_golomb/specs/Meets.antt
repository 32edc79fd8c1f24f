-- statement: values that are asked for (BIP 158, "Golomb-Coded Set Multi-Match").
use Rattle.std.specs.Prelude.{ℕ, ◌≤◌, ◌==◌, nat_lt, Bool, false, if◌then◌else◌, List, [], ◌∷◌, Result, Ok, Err}
use Rattle.std.specs.List.{list_any}
use Rattle.cf_bytes.specs.declared.cut.CutFault.{CutFault}
use Rattle.cf_golomb.specs.declared.fault.SetFault.{SetFault}

-- numbers that don't fall, from this one on
abbrev pub IsAscending : ℕ → List ℕ → Type 0
IsAscending low [] = Unit {0}
IsAscending low (q ∷ qs) = (low ≤ q) × IsAscending q qs

-- whether a value is among the queries
abbrev pub has : List ℕ → ℕ → Bool
has queries v = list_any (λ q. q == v) queries

-- whether one of the values is
abbrev pub hits : List ℕ → List ℕ → Bool
hits queries values = list_any (has queries) values

-- the queries from the first one on that isn't below a value
abbrev pub skip_below : ℕ → List ℕ → List ℕ
skip_below v [] = []
skip_below v (q ∷ qs) = if nat_lt q v then skip_below v qs else q ∷ qs

abbrev pub first_is : ℕ → List ℕ → Bool
first_is v [] = false
first_is v (q ∷ qs) = q == v

-- an answer that is made of what was read
abbrev pub answer_by : {X Y E : Type 0} → (X → Y) → Result X E → Result Y E
answer_by f (Ok x) = Ok (f x)
answer_by f (Err e) = Err e

-- the same where bits are left
abbrev pub seen_by : (List ℕ → Bool) → Result (List ℕ × List Bool) SetFault → Result (Bool × List Bool) SetFault
seen_by f (Ok x) = Ok (f x.0, x.1)
seen_by f (Err e) = Err e

-- the number of values
abbrev pub count_of : Result (ℕ × List ℕ) (CutFault × List ℕ) → Result ℕ CutFault
count_of (Ok x) = Ok x.0
count_of (Err e) = Err e.0
