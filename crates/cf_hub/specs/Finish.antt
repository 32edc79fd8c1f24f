-- machine: what is known of each reader, and of the ticker, once they are joined.
use Rattle.std.specs.Prelude.{◌<◌, ℕ, List, Option, Some, None, All, map}
use Rattle.cf_tasks.specs.declared.entry.Item.{Item}
use Rattle.cf_tasks.specs.declared.entry.Ended.{Ended}
use Rattle.cf_tasks.specs.Queue.{of}
use Rattle.cf_outside.specs.declared.entry.EntryKind.{EntryKind}
use Rattle.cf_outside.specs.declared.reader.Reader.{Reader}
use Rattle.cf_hub.specs.Gives.{IsFront}

-- a source as it was dialled, what its reader sent of it under which number, and what it came to
pub record Read (S : Type 0) : Type 0 where
  pub number : ℕ
  pub before : S
  pub sent : List (Item EntryKind)
  pub after : S

-- a pulse as the hub got it, what the ticker sent of it, and what it came to
pub record Beat (P : Type 0) : Type 0 where
  pub before : P
  pub sent : List (Item EntryKind)
  pub after : P

-- what the receiver took in of it
abbrev pub end_of : {S : Type 0} → Read S → Ended EntryKind
end_of j = record { from = j.number; sent = j.sent }

-- whose source it is
abbrev pub whose : {S : Type 0} → Read S → ℕ × S
whose j = (j.number, j.before)

-- a reader's number and source
abbrev pub begun : {S R : Type 0} → Reader S R → ℕ × S
begun t = (t.sender.number, t.source)

-- the pulse, where there is one
abbrev pub pulse_in : {X P : Type 0} → (X → P) → Option X → Option P
pulse_in f None = None
pulse_in f (Some x) = Some (f x)

-- the numbers of readers, and of sources that were read
abbrev pub numbers_of : {S R : Type 0} → List (Reader S R) → List ℕ
numbers_of ts = map (λ t. t.sender.number) ts

-- the numbers of sources that were read
abbrev pub read_numbers : {S : Type 0} → List (Read S) → List ℕ
read_numbers js = map (λ j. j.number) js

-- each has a peer's number, and what was received of it is a beginning of what it sent
abbrev pub Fronts : {S : Type 0} → List (Item EntryKind) → List (Read S) → Type 0
Fronts got js = All (λ j. (0 < j.number) × IsFront (of j.number got) j.sent) js
