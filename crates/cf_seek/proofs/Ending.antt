-- One block more of a question.
use Rattle.std.proofs.Common.{◌≡◌, inl, inr, ℕ, ◌+◌, ◌≤◌, sym, subst, arith}
use Rattle.std.specs.Prelude.{IsSome}
use Rattle.std.proofs.lemmas.Bool.{cases_lt}
use Rattle.cf_dispute.specs.Claims.{Tables}
use Rattle.cf_headers.specs.Chain.{Hash, Chain, IsAbove}
use Rattle.cf_headers.specs.Heights.{hash_at}
use Rattle.cf_seek.specs.Ends.{IsLastUnclaimed}

alone : (own : Chain) (good : Hash → Type 0) (start : ℕ) → good (hash_at own start) → (k : ℕ) → start ≤ k → k ≤ start → good (hash_at own k)
alone own good start first k up low = (let at : k ≡ start = omega (arith, up, low) in subst (λ (n : ℕ). good (hash_at own n)) (sym at) first)

more : (own : Chain) (good : Hash → Type 0) (start h : ℕ) → ((k : ℕ) → start ≤ k → k ≤ h → good (hash_at own k)) → good (hash_at own (h + 1)) → (k : ℕ) → start ≤ k → k ≤ h + 1 → good (hash_at own k)
more own good start h has next k up low = elim (cases_lt k (h + 1)) [
  | inl lt ↦ has k up (omega (arith, lt))
  | inr ge ↦ (let at : k ≡ h + 1 = omega (arith, ge, low) in subst (λ (n : ℕ). good (hash_at own n)) (sym at) next)
]

-- a question ends below a block that isn't asked about
pub unclaimed_ends : (tables : Tables) (p : ℕ) (own : Chain) (start h common : ℕ) (hash : Hash) → hash ≡ hash_at own (h + 1) → (IsAbove hash → IsSome (tables p hash)) → IsLastUnclaimed tables p own start h common
unclaimed_ends tables p own start h common hash is1 some =
    inr (inr (λ both. let there = subst (λ (x : Hash). IsAbove x → IsSome (tables p x)) is1 some both.0 in let no = subst IsSome both.1 there in cc no))
