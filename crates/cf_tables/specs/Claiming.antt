-- machine: claims that come and go.
use Rattle.std.specs.Prelude.{◌≡◌, ◌≢◌, ℕ, Some, None}
use Rattle.cf_dispute.specs.declared.claim.Claim.{Claim}
use Rattle.cf_dispute.specs.Claims.{Tables}
use Rattle.cf_headers.specs.Chain.{Hash}

-- p claims more than before, and nobody else
pub record AddsClaims (before after : Tables) (p : ℕ) : Type 0 where
  pub mine : (block : Hash) (claim : Claim) → before p block ≡ Some claim → after p block ≡ Some claim
  pub others : (q : ℕ) → q ≢ p → (block : Hash) → after q block ≡ before q block

-- the same claims
abbrev pub IsSameTables : Tables → Tables → Type 0
IsSameTables before after = (p : ℕ) (block : Hash) → after p block ≡ before p block

-- q's claims are gone, and nobody else's
pub record ForgetsClaims (before after : Tables) (q : ℕ) : Type 0 where
  pub gone : (block : Hash) → after q block ≡ None
  pub others : (p : ℕ) → p ≢ q → (block : Hash) → after p block ≡ before p block
