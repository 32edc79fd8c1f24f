-- machine: chains held in places, by peer.
use Rattle.std.specs.Prelude.{◌≡◌, ◌≢◌, ℕ, ◌+◌, ◌*◌, ◌<◌, ◌≤◌, false, List, [], Option, Some, None, if◌then◌else◌, slice_index_or}
use Rattle.cf_lists.specs.declared.slot.Slot.{Slot}
use Rattle.cf_headers.specs.Chain.{Chain}
use Rattle.cf_headers.specs.Heights.{common_of}
use Rattle.cf_headers.specs.Store.{Chains}

-- a peer that isn't entered
abbrev pub nobody : Slot
nobody = record { entered = false; chain = [] }

abbrev pub held_by : Slot → Option Chain
held_by s = if s.entered then Some s.chain else None

-- the chain of each peer that was entered, by its number
abbrev pub chains_in : List Slot → Chains
chains_in slots q = held_by (slice_index_or slots q nobody)

-- a place's chain, which is genesis alone where no peer is entered
abbrev pub chain_at : List Slot → ℕ → Chain
chain_at slots q = (slice_index_or slots q nobody).chain

-- the common height of two of the nine places' chains, in a table with a row for each place
abbrev pub common_in : List ℕ → ℕ → ℕ → ℕ
common_in commons p q = slice_index_or commons (9 * p + q) 0

-- a table has the common heights of all places' chains
abbrev pub AreCommons : List Slot → List ℕ → Type 0
AreCommons slots commons = (p q : ℕ) → p < 9 → q < 9 → common_in commons p q ≡ common_of (chain_at slots p) (chain_at slots q)

-- of all but this place's
abbrev pub AreCommonsBut : ℕ → List Slot → List ℕ → Type 0
AreCommonsBut place slots commons = (p q : ℕ) → p < 9 → q < 9 → p ≢ place → q ≢ place → common_in commons p q ≡ common_of (chain_at slots p) (chain_at slots q)

-- a height is the common one of two chains as far as it is below k; if it isn't, then neither is the common one
abbrev pub IsCommonUpTo : ℕ → ℕ → Chain → Chain → Type 0
IsCommonUpTo k height a b = (height < k → common_of a b ≡ height) × (k ≤ height → k ≤ common_of a b)

-- a place's row is right up to k
abbrev pub IsRowUpTo : ℕ → ℕ → List Slot → List ℕ → Type 0
IsRowUpTo k p slots commons = (q : ℕ) → q < 9 → IsCommonUpTo k (common_in commons p q) (chain_at slots p) (chain_at slots q)
