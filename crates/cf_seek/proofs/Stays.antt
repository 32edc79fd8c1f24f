-- Claims that are added take none away.
use Rattle.std.proofs.Common.{◌≡◌, inl, inr, ℕ, Some, sym, ◌∙◌, subst}
use Rattle.std.proofs.lemmas.Bool.{cases_eq}
use Rattle.cf_bytes.specs.declared.hash.Hash32.{Hash32}
use Rattle.cf_dispute.specs.Claims.{Tables, Claims}
use Rattle.cf_headers.specs.Chain.{Hash}
use Rattle.cf_tables.specs.Claiming.{AddsClaims}

-- who claimed something still does, where claims are added
pub claims_more : (before after : Tables) (p q : ℕ) (block : Hash) (hash : Hash32) → AddsClaims before after p → Claims before q block hash → Claims after q block hash
claims_more before after p q block hash adds c = elim (cases_eq q p) [
  | inl is1 ↦ (c.0, subst (λ (k : ℕ). after k block ≡ Some c.0) (sym is1) (adds.mine block c.0 (subst (λ (k : ℕ). before k block ≡ Some c.0) is1 c.1)), c.2)
  | inr off ↦ (c.0, adds.others q off block ∙ c.1, c.2)
]
