-- statement: what a link tells.
use Rattle.std.specs.Prelude.{◌≡◌, ℕ, Bool, false, not, ◌&&◌, nat_le, if◌then◌else◌, List, [], ◌∷◌, ◌++◌, length, Option, Some, None}
use Rattle.std.specs.Option.{ForSome}
use Rattle.cf_conn.specs.Told.{ConnTold}

-- what stays of a connection, and the number of the way in which it ended
pub record Given : Type 0 where
  pub end : ConnTold
  pub how : ℕ

-- a list that is told, with more at its end
abbrev pub longer_by : {X : Type 0} → Option (List X) → List X → Option (List X)
longer_by None more = None
longer_by (Some xs) more = Some (xs ++ more)

-- what a connection tells
abbrev pub told_now : {C : Type 0} → (C → Option (List ℕ)) → (C → Option (List ℕ)) → (C → Bool) → (C → ℕ) → (C → ℕ) → C → ConnTold
told_now left written ended reads writes c = record { left = left c; written = written c; ended = ended c; read_faults = reads c; write_faults = writes c }

-- nothing has passed it yet: no end was read, no call has failed, and nothing was written, where that is told
abbrev pub IsFresh : ConnTold → Type 0
IsFresh c = (c.ended ≡ false) × (c.read_faults ≡ 0) × (c.write_faults ≡ 0) × ForSome c.written (λ bytes. bytes ≡ [])

-- all that a link tells
pub record LinkTold : Type 0 where
  -- the addresses at which it began to listen, in order, where they are told
  pub addresses : Option (List (List ℕ))
  -- how many connections were accepted, and how many of them were not given back yet
  pub accepted : ℕ
  pub owed : ℕ
  -- what each told as it was accepted, in order, where that is told
  pub conns : Option (List ConnTold)
  -- what was given back, in order, where that is told
  pub given : Option (List Given)

-- all that a link tells now, put together of what each of its parts tells
abbrev pub link_now : {L : Type 0} → (L → Option (List (List ℕ))) → (L → ℕ) → (L → ℕ) → (L → Option (List ConnTold)) → (L → Option (List Given)) → L → LinkTold
link_now addresses accepted owed conns given link = record { addresses = addresses link; accepted = accepted link; owed = owed link; conns = conns link; given = given link }

-- whether a link in memory can begin to listen at an address: it doesn't listen yet, and the address has at most 255 bytes
abbrev pub can_listen : Bool → List ℕ → Bool
can_listen listens address = not listens && nat_le (length address) 255

-- the address at which it listens, if it does
abbrev pub listen_addresses : Bool → List ℕ → List (List ℕ)
listen_addresses listens address = if listens then address ∷ [] else []
