-- statement: which entries are deliveries.
use Rattle.std.specs.Prelude.{◌≡◌, ◌==◌, ◌<◌, ◌≤◌, ℕ, zero, suc, Bool, false, ◌||◌, if◌then◌else◌, List, [], ◌∷◌, ◌++◌, length, take}
use Rattle.std.specs.Option.{ForSome}
use Rattle.cf_wires.specs.declared.event.Delivery.{Delivery}
use Rattle.cf_wires.specs.declared.event.Delivery.TheVariants as gives
use Rattle.cf_wires.specs.Log.{Told, deliveries}
use Rattle.cf_tasks.specs.declared.entry.Item.{Item}
use Rattle.cf_outside.specs.declared.entry.EntryKind.{EntryKind}
use Rattle.cf_outside.specs.declared.entry.EntryKind.TheVariants as kinds

-- the ticker, whose number is 0, gives ticks alone, and a reader its pieces and its end
abbrev pub delivery_of : ℕ → EntryKind → List Delivery
delivery_of zero (kinds.Got b) = []
delivery_of zero (kinds.Tick s) = gives.Tick s ∷ []
delivery_of zero kinds.Last = []
delivery_of (suc p) (kinds.Got b) = gives.Got (record { 0 = suc p }) b ∷ []
delivery_of (suc p) (kinds.Tick s) = []
delivery_of (suc p) kinds.Last = gives.Gone (record { 0 = suc p }) ∷ []

-- the deliveries among the entries, in order
abbrev pub given_of : List (Item EntryKind) → List Delivery
given_of [] = []
given_of (e ∷ es) = delivery_of e.from e.kind ++ given_of es

-- some bytes at least, and from a second to a day
abbrev pub IsProper : Delivery → Type 0
IsProper (gives.Got p b) = 0 < length b
IsProper (gives.Gone p) = Unit {0}
IsProper (gives.Tick s) = (1 ≤ s) × (s ≤ 86400)
IsProper gives.Ended = Unit {0}

-- a told log's deliveries are the first of those that were received, as many as were taken
abbrev pub LogGives : Told → List (Item EntryKind) → Type 0
LogGives t got = ForSome t.log (λ log. deliveries log ≡ take t.tally.taken (given_of got))

-- the bytes of one delivery, where it is p's
abbrev pub piece_in : ℕ → Delivery → List ℕ
piece_in p (gives.Got q b) = if q.0 == p then b else []
piece_in p (gives.Gone q) = []
piece_in p (gives.Tick s) = []
piece_in p gives.Ended = []

-- the pieces of p, joined
abbrev pub pieces_of : ℕ → List Delivery → List ℕ
pieces_of p [] = []
pieces_of p (d ∷ ds) = piece_in p d ++ pieces_of p ds

abbrev pub is_gone_of : ℕ → Delivery → Bool
is_gone_of p (gives.Got q b) = false
is_gone_of p (gives.Gone q) = q.0 == p
is_gone_of p (gives.Tick s) = false
is_gone_of p gives.Ended = false

-- that p has gone is among them
abbrev pub has_gone : ℕ → List Delivery → Bool
has_gone p [] = false
has_gone p (d ∷ ds) = is_gone_of p d || has_gone p ds

abbrev pub tick_in : Delivery → List ℕ
tick_in (gives.Got q b) = []
tick_in (gives.Gone q) = []
tick_in (gives.Tick s) = s ∷ []
tick_in gives.Ended = []

-- the ticks, in order
abbrev pub ticks_of : List Delivery → List ℕ
ticks_of [] = []
ticks_of (d ∷ ds) = tick_in d ++ ticks_of ds

-- ys begins with xs, as an equation
abbrev pub IsFront : {X : Type 0} → List X → List X → Type 0
IsFront xs ys = take (length xs) ys ≡ xs
