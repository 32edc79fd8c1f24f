-- Who omits something was found out: so nobody does between two calls, and who is closed for another cause doesn't.
use Rattle.std.proofs.Common.{◌≡◌, ℕ, Option, Some, None, Bool, true, false, if◌then◌else◌, refl, ◌∙◌, ap}
use Rattle.std.specs.Prelude.{option_map}
use Rattle.cf_bytes.specs.declared.hash.Hash32.{Hash32}
use Rattle.cf_dispute.specs.declared.claim.Claim.{Claim}
use Rattle.cf_dispute.specs.Claims.{no_claims}
use Rattle.cf_peer.specs.Asking.{claims, counted}
use Rattle.cf_peer.specs.Trail.{trail}
use Rattle.cf_peer.specs.declared.mode.Mode.TheVariants.{Following}
use Rattle.cf_wires.specs.Log.{Log}
use Rattle.cf_sync.specs.Fetching.{IsOmitting, RightlyIn}
use Rattle.cf_holds.proofs.KeptTests.{holds_all}
use Rattle.cf_tracker.specs.Seen.{Seen}
use Rattle.cf_hear.specs.Exposing.{IsUnexposed}
use Rattle.cf_hear.specs.Tracks.{Tracks}
use Rattle.cf_client.specs.Blameless.{IsBlameless}

claim_of : (o : Option Claim) (hash : Hash32) → option_map (λ (c : Claim). c.hash) o ≡ Some hash → (claim : Claim)
    × (o ≡ Some claim) × (claim.hash ≡ hash)
claim_of None hash e = cc
claim_of (Some claim) hash e = (claim, refl, cc)

-- what is claimed by one who omits something
pub claimed_by : (log : Log) (p : ℕ) → (o : IsOmitting log p) → (claim : Claim)
    × (claims (counted (trail log p)) o.block ≡ Some claim) × (claim.hash ≡ o.hash)
claimed_by log p o = claim_of (claims (counted (trail log p)) o.block) o.hash o.claimed

-- it is kept of that filter that it lacks something
pub omitting_told : (s : Seen) (log : Log) (p : ℕ) → Tracks s log → RightlyIn Following log → (o : IsOmitting log p)
    → s.trials.told o.block o.hash.0 ≡ Some true
omitting_told s log p tracks right o = by (s.trials.told o.block o.hash.0) refl where
  by : (found : Option Bool) → s.trials.told o.block o.hash.0 ≡ found → s.trials.told o.block o.hash.0 ≡ Some true
  by None is = absurd (tracks.trials.told.complete o.block o.hash is o.tested)
  by (Some true) is = is
  by (Some false) is = absurd (holds_all log s.trials.paid s.trials.told right tracks.trials.paid tracks.trials.clean
      o.block o.hash is o.tested o.omits)

pub blameless_seen : (s : Seen) (log : Log) → Tracks s log → IsUnexposed s → RightlyIn Following log → IsBlameless log
blameless_seen s log tracks none right p o =
    let mine = claimed_by log p o in
    none p o.block o.hash.0 (record {
      claimed = record {
        claim = mine.0;
        mine = tracks.claimed p o.block
            ∙ ap (λ (b : Bool). (if b then claims (counted (trail log p)) else no_claims) o.block) o.there ∙ mine.1;
        this = ap (λ (h : Hash32). h.0) mine.2;
      };
      found = omitting_told s log p tracks right o;
    })
