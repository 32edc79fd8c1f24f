-- On which blocks' filters they differ, as claims come and go.
use Rattle.std.proofs.Common.{◌≡◌, inl, inr, ℕ, None, Some, sym, ◌∙◌, ap}
use Rattle.std.proofs.lemmas.Bool.{cases_eq}
use Rattle.cf_dispute.specs.declared.claim.Claim.{Claim}
use Rattle.cf_dispute.specs.declared.claim.At.TheVariants.{Differ}
use Rattle.cf_dispute.specs.Claims.{Tables, IsAt}
use Rattle.cf_headers.specs.Chain.{Hash}
use Rattle.cf_tables.specs.Claiming.{ForgetsClaims}

pub claimed_before : (before after : Tables) (p : ℕ) → ForgetsClaims before after p → (q : ℕ) (block : Hash) (claim : Claim)
    → after q block ≡ Some claim → before q block ≡ Some claim
claimed_before before after p forgets q block claim e = elim (cases_eq q p) [
  | inl same1 ↦ (
      let no : None ≡ Some claim = sym (forgets.gone block) ∙ ap (λ (k : ℕ). after k block) (sym same1) ∙ e in
      cc no
      )
  | inr ne ↦ sym (forgets.others q ne block) ∙ e
]

-- one peer's claims are gone, and those on which they differ they differed on before
pub forgotten_differ : (before after : Tables) (p : ℕ) → ForgetsClaims before after p → (block : Hash)
    → IsAt after block Differ → IsAt before block Differ
forgotten_differ before after p forgets block d = (let c = d.1.1.1.1 in (
  d.0,
  (
    d.1.0,
    (
      d.1.1.0,
      (
        d.1.1.1.0,
        (
          (c.0.0, claimed_before before after p forgets d.0 block c.0.0 c.0.1, c.0.2),
          (c.1.0, claimed_before before after p forgets d.1.0 block c.1.0 c.1.1, c.1.2),
          c.2,
        ),
      ),
    ),
  ),
))
