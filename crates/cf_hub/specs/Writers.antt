-- machine: what is written to peers.
use Rattle.std.specs.Prelude.{◌≡◌, ◌⊎◌, ◌≤◌, ℕ, Bool, true, false, List, [], ◌∷◌, ◌++◌, Option, Some, None, Result, Ok, Err, length, map, take, slice_set, slice_index_or}
use Rattle.std.specs.List.{sum_by, slice_get}
use Rattle.cf_bytes.specs.Outside.{with_more}
use Rattle.cf_hub.specs.Over.{connections}
use Rattle.cf_wires.specs.declared.wires.WireFail.{WireFail}
use Rattle.cf_wires.specs.declared.wires.WireFail.TheVariants as fails

-- the count of a writer that may be there
abbrev pub fault_in : {W : Type 0} → (W → ℕ) → Option W → ℕ
fault_in faults None = 0
fault_in faults (Some w) = faults w

-- their counts, added up
abbrev pub faults_in : {W : Type 0} → (W → ℕ) → List (Option W) → ℕ
faults_in faults ws = sum_by (fault_in faults) ws

module _ {W : Type 0} (written : W → Option (List ℕ)) (was_shut : W → Bool) where
  -- these bytes, and no more, were added to p's writer; every other stays as it was
  abbrev pub Adds : ℕ → List ℕ → List (Option W) → List (Option W) → Type 0
  Adds p bytes ws ws' =
      (w : W) × (w' : W) × (slice_get ws p ≡ Some (Some w)) × (ws' ≡ slice_set ws p (Some w'))
      × (written w' ≡ with_more (written w) bytes) × (was_shut w' ≡ was_shut w)

  -- what a send does: all the bytes, or the first of them, or nothing
  abbrev pub Sends : {T : Type 0} → Result T WireFail → ℕ → List ℕ → List (Option W) → List (Option W) → Type 0
  Sends (Ok x) p bytes ws ws' = Adds p bytes ws ws'
  Sends (Err fails.Failed) p bytes ws ws' = (ws' ≡ ws) ⊎ ((n : ℕ) × (n ≤ length bytes) × Adds p (take n bytes) ws ws')
  Sends (Err fails.NoMemory) p bytes ws ws' = ws' ≡ ws

  -- p's writer, where there is one, was shut, and nothing written; every other stays as it was
  abbrev pub Shuts : ℕ → List (Option W) → List (Option W) → Type 0
  Shuts p ws ws' =
      ((slice_index_or (connections ws) p false ≡ false) × (ws' ≡ ws))
      ⊎ ((w : W) × (w' : W) × (slice_get ws p ≡ Some (Some w)) × (ws' ≡ slice_set ws p (Some w'))
      × (written w' ≡ written w) × (was_shut w' ≡ true))

module _ {W : Type 0} (written : W → Option (List ℕ)) where
  -- what a writer tells, where there is one
  abbrev pub text_in : Option W → Option (Option (List ℕ))
  text_in None = None
  text_in (Some w) = Some (written w)

  -- what each of them tells, by the peers' numbers
  abbrev pub texts : List (Option W) → List (Option (Option (List ℕ)))
  texts ws = map text_in ws

module _ {W : Type 0} (was_shut : W → Bool) where
  -- the writer of each peer that isn't marked as closed isn't shut
  abbrev pub AreOpen : List Bool → List (Option W) → Type 0
  AreOpen closed ws = (p : ℕ) (w : W) → slice_get ws p ≡ Some (Some w) → slice_index_or closed p false ≡ false → was_shut w ≡ false

  -- each writer is shut
  abbrev pub AreShut : List (Option W) → Type 0
  AreShut ws = (p : ℕ) (w : W) → slice_get ws p ≡ Some (Some w) → was_shut w ≡ true

  -- what a dial does: a writer that isn't shut, or none, at the next place, or nothing
  abbrev pub Opens : {T : Type 0} → Result T WireFail → List (Option W) → List (Option W) → Type 0
  Opens (Ok x) ws ws' = (w : W) × (ws' ≡ ws ++ Some w ∷ []) × (was_shut w ≡ false)
  Opens (Err fails.Failed) ws ws' = ws' ≡ ws ++ None ∷ []
  Opens (Err fails.NoMemory) ws ws' = ws' ≡ ws
