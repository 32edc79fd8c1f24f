-- machine: who is closed for a filter that omits something: each connected peer that claims it.
use Rattle.std.specs.Prelude.{◌≡◌, ◌⊎◌, ℕ, ◌<◌, true, false, List, [], ◌∷◌, ◌++◌, None, length, map, slice_set}
use Rattle.std.specs.List.{All}
use Rattle.std.specs.List.Sorted.{IsStrictlyIncreasing}
use Rattle.cf_dispute.specs.Claims.{no_claims}
use Rattle.cf_headers.specs.Chain.{Hash, IsIn}
use Rattle.cf_peer.specs.declared.act.Act.{Act}
use Rattle.cf_peer.specs.declared.act.Act.TheVariants.{Close}
use Rattle.cf_peer.specs.declared.peer.Cause.TheVariants.{Omits}
use Rattle.cf_tables.specs.Tables.{IsSameTable}
use Rattle.cf_seek.specs.Testing.{IsClaimedAs}
use Rattle.cf_tables.specs.Trials.{IsSameTrials}
use Rattle.cf_match.specs.Verdicts.{AreSameVerdicts}
use Rattle.cf_place.specs.declared.place.Place.{Place}
use Rattle.cf_place.specs.declared.place.Place.TheVariants.{Lost}
use Rattle.cf_place.specs.declared.place.Loss.TheVariants.{Closed as ClosedFor}
use Rattle.cf_place.specs.Places.{is_here, place_at}
use Rattle.cf_hear.specs.Tracks.{IsPut}
use Rattle.cf_client.specs.Steps.{Desk}

-- a peer that omits something is closed, by its number
abbrev pub shut_act : ℕ → Act
shut_act q = Close (record { 0 = q }) Omits

abbrev pub shut_place : Place
shut_place = Lost (ClosedFor Omits)

-- the peer is connected, and claims this filter of this block
pub record IsClaimant (d : Desk) (block filter : Hash) (q : ℕ) : Type 0 where
  pub here : is_here (place_at d.places q) ≡ true
  pub claimed : IsClaimedAs d.seen.claims q block filter

-- such a peer is closed and given up; of any other nothing changes
abbrev pub ShutsOne : ℕ → Hash → Hash → Desk → Desk → Type 0
ShutsOne i block filter before now =
    ((IsClaimant before block filter i → ⊥) × (now ≡ before))
    ⊎ (IsClaimant before block filter i × IsPut before.seen now.seen i None no_claims
    × (now.places ≡ slice_set before.places i shut_place)
    × (now.acts ≡ before.acts ++ shut_act i ∷ []))

-- of the peers of lower numbers each such was closed, the lowest number first, and given up; nothing else changed
pub record ShutsBelow (n : ℕ) (block filter : Hash) (before now : Desk) : Type 0 where
  pub closed : List ℕ
  pub added : now.acts ≡ before.acts ++ map shut_act closed
  pub rising : IsStrictlyIncreasing closed
  pub below : All (λ (q : ℕ). q < n) closed
  pub claimants : (q : ℕ) → IsIn q closed → IsClaimant before block filter q
  pub all : (q : ℕ) → q < n → IsClaimant before block filter q → IsIn q closed
  pub gone : (q : ℕ) → IsIn q closed → (place_at now.places q ≡ shut_place) × (now.seen.chains q ≡ None)
      × ((at : Hash) → now.seen.claims q at ≡ None) × ((at : Hash) → now.seen.opens.filters q at ≡ false)
      × ((at : Hash) → now.seen.opens.blocks q at ≡ false)
  pub kept : (q : ℕ) → (IsIn q closed → ⊥) → (place_at now.places q ≡ place_at before.places q)
      × (now.seen.chains q ≡ before.seen.chains q)
      × ((at : Hash) → now.seen.claims q at ≡ before.seen.claims q at)
      × ((at : Hash) → now.seen.opens.filters q at ≡ before.seen.opens.filters q at)
      × ((at : Hash) → now.seen.opens.blocks q at ≡ before.seen.opens.blocks q at)
  pub count : length now.places ≡ length before.places
  pub watch : now.seen.watch ≡ before.seen.watch
  pub table : IsSameTable now.seen.table before.seen.table
  pub verdicts : AreSameVerdicts now.seen.verdicts before.seen.verdicts
  pub trials : IsSameTrials before.seen.trials now.seen.trials

-- so it is of all
abbrev pub Shuts : Hash → Hash → Desk → Desk → Type 0
Shuts block filter before now = ShutsBelow (length before.places) block filter before now
