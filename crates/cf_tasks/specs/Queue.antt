-- machine: the rule of the queue.
use Rattle.std.specs.Prelude.{◌≡◌, ◌≢◌, ◌==◌, ◌<◌, ◌≤◌, ◌+◌, ℕ, true, false, List, [], ◌∷◌, ◌++◌, All, filter}
use mathlib.Core.Option.{some}
use lib.ListN.{get_elem?}
use Rattle.cf_tasks.specs.declared.entry.Item.{Item}
use Rattle.cf_tasks.specs.declared.entry.Ended.{Ended}
use Rattle.cf_tasks.specs.declared.entry.View.{View}

module _ {M : Type 0} where
  -- the entries of sender p, in order
  abbrev pub of : ℕ → List (Item M) → List (Item M)
  of p es = filter (λ (e : Item M). e.from == p) es

  -- the view of the receiver, before anything has come
  abbrev pub receiver : View M
  receiver = record { gets = true; sends = false; from = 0; sent = []; got = []; made = 0; ended = [] }

  -- the view of a new sender with the number p
  abbrev pub sender : ℕ → View M
  sender p = record { gets = false; sends = true; from = p; sent = []; got = []; made = 0; ended = [] }

  -- the view of a sender that was taken in
  abbrev pub spent : View M
  spent = record { gets = false; sends = false; from = 0; sent = []; got = []; made = 0; ended = [] }

  -- an entry of sender p
  abbrev pub entry : ℕ → M → Item M
  entry p k = record { from = p; kind = k }

  -- a view once this entry was sent
  abbrev pub with_sent : View M → Item M → View M
  with_sent v x = record v { sent = v.sent ++ x ∷ [] }

  -- a view once this entry was received
  abbrev pub with_got : View M → Item M → View M
  with_got v x = record v { got = v.got ++ x ∷ [] }

  -- a view once one sender more was made
  abbrev pub with_made : View M → View M
  with_made v = record v { made = v.made + 1 }

  -- the receiver's view once the sender with view u was taken in
  abbrev pub with_ended : View M → View M → View M
  with_ended v u = record v { ended = v.ended ++ record { from = u.from; sent = u.sent } ∷ [] }

  -- a sender's entries, of all that were received or wait, are what it sent
  abbrev pub Fits : List (Item M) → ℕ → View M → (ℕ → ℕ) → ℕ → View M → Type 0
  Fits all reader boss seat i v =
      (v.gets ≡ true → i ≡ reader)
      × (v.sends ≡ true → (seat v.from ≡ i) × (v.from < boss.made) × (of v.from all ≡ v.sent) × All (λ (e : Ended M). e.from ≢ v.from) boss.ended)

  -- the same of a sender that has ended
  abbrev pub Stays : List (Item M) → ℕ → Ended M → Type 0
  Stays all made e = (e.from < made) × (of e.from all ≡ e.sent)

  -- one pass receives, and each number has one sender
  pub record Agrees (all : List (Item M)) (reader : ℕ) (boss : View M) (seat : ℕ → ℕ) (views : List (View M)) : Type 0 where
    pub at : get_elem? views reader ≡ some boss
    pub gets : boss.gets ≡ true
    pub apart : boss.sends ≡ false
    pub each : (i : ℕ) (v : View M) → get_elem? views i ≡ some v → Fits all reader boss seat i v
    pub not_yet : (p : ℕ) → boss.made ≤ p → of p all ≡ []
    pub stays : All (Stays all boss.made) boss.ended

  -- what was received, and then what waits, agrees with what each pass knows
  abbrev pub Kept : List (Item M) → List (View M) → Type 0
  Kept items views = (reader : ℕ) × (boss : View M) × (seat : ℕ → ℕ) × Agrees (boss.got ++ items) reader boss seat views

  -- of each sender that has ended, what was received and then what waits is what it sent; of a number that has no sender yet there is nothing
  abbrev pub Accounts : View M → List (Item M) → Type 0
  Accounts v items = All (Stays (v.got ++ items) v.made) v.ended × ((p : ℕ) → v.made ≤ p → of p (v.got ++ items) ≡ [])

-- ys begins with xs
abbrev pub IsStart : {X : Type 0} → List X → List X → Type 0
IsStart {X} xs ys = (rest : List X) × (ys ≡ xs ++ rest)
