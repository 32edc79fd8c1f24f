-- What is still to be done about a block, and along a chain.
use Rattle.std.proofs.Common.{◌≡◌, ◌≢◌, inl, inr, ℕ, ◌+◌, ◌-◌, ◌≤◌, List, [], ◌∷◌, length, drop, None, refl, sym, ◌∙◌, ap, subst, arith}
use Rattle.std.specs.Prelude.{IsSome}
use Rattle.std.proofs.lemmas.Bool.{cases_lt}
use Rattle.cf_bytes.specs.declared.hash.Hash32.{Hash32}
use Rattle.cf_dispute.specs.declared.claim.At.TheVariants.{One, Differ}
use Rattle.cf_dispute.specs.Claims.{Tables, IsAt}
use Rattle.cf_block.specs.Header.{block_hash_of, genesis_header}
use Rattle.cf_headers.specs.Chain.{Hash, Chain, tip_hash}
use Rattle.cf_headers.specs.Heights.{hash_at}
use Rattle.cf_match.specs.Verdicts.{Verdicts}
use Rattle.cf_tables.specs.declared.kind.BlockKind.{BlockKind}
use Rattle.cf_tables.specs.declared.kind.BlockKind.TheVariants.{Unclaimed, Unjudged, ToFetch, Done}
use Rattle.cf_tables.specs.Known.{ExtractTable}
use Rattle.cf_tables.specs.Wanting.{IsUnjudged, IsKind}

-- of one block two hashes alone are one, and none differ
one_alone : (tables : Tables) (block : Hash) (a b : Hash32) → IsAt tables block (One a) → IsAt tables block (One b) → a ≡ b
one_alone tables block a b at_a at_b = at_b.1 at_a.0.0 a at_a.0.1

pub none_differ : (tables : Tables) (block : Hash) (a : Hash32) → IsAt tables block (One a) → IsAt tables block Differ → ⊥
none_differ tables block a at d = d.1.1.1.1.2 (at.1 d.0 d.1.1.0 d.1.1.1.1.0 ∙ sym (at.1 d.1.0 d.1.1.1.0 d.1.1.1.1.1))

pub there_or_none : (extracts : ExtractTable) (block : Hash) → extracts block ≡ None → IsSome (extracts block) → ⊥
there_or_none extracts block none there = (let no = subst IsSome none there in cc no)

-- a block of another kind isn't unjudged
pub not_unjudged : (extracts : ExtractTable) (tables : Tables) (verdicts : Verdicts) (block : Hash) (k : BlockKind) → IsKind extracts tables verdicts block k → k ≢ Unjudged → IsUnjudged extracts tables verdicts block → ⊥
not_unjudged extracts tables verdicts block Unclaimed is1 off un = (let no = sym (is1.1 un.1.1.0.0) ∙ un.1.1.0.1.1 in cc no)
not_unjudged extracts tables verdicts block Unjudged is1 off un = off refl
not_unjudged extracts tables verdicts block ToFetch (none, inl differ) off un = none_differ tables block un.1.0 un.1.1 differ
not_unjudged extracts tables verdicts block ToFetch (none, inr hit) off un =
    let same1 : un.1.0 ≡ hit.0 = one_alone tables block un.1.0 hit.0 un.1.1 hit.1 in
    let no = sym un.1.2 ∙ ap (λ (h : Hash32). verdicts block h.0) same1 ∙ hit.2 in
    cc no
not_unjudged extracts tables verdicts block Done (inl there) off un = there_or_none extracts block un.0 there
not_unjudged extracts tables verdicts block Done (inr done) off un =
    let same1 : done.0 ≡ un.1.0 = one_alone tables block done.0 un.1.0 done.1 un.1.1 in
    let no = sym un.1.2 ∙ ap (λ (h : Hash32). verdicts block h.0) (sym same1) ∙ done.2 in
    cc no

-- one block more along a chain
pub more : (own : Chain) (good : Hash → Type 0) (h : ℕ) → ((k : ℕ) → 1 ≤ k → k ≤ h → good (hash_at own k)) → good (hash_at own (h + 1)) → (k : ℕ) → 1 ≤ k → k ≤ h + 1 → good (hash_at own k)
more own good h has next k up low = elim (cases_lt k (h + 1)) [
  | inl lt ↦ has k up (omega (arith, lt))
  | inr ge ↦ (let at : k ≡ h + 1 = omega (arith, ge, low) in subst (λ (n : ℕ). good (hash_at own n)) (sym at) next)
]

-- the lowest hash is genesis's
drop_all : {A : Type 0} (xs : List A) → drop (length xs) xs ≡ []
drop_all [] = refl
drop_all (x ∷ xs) = drop_all xs

pub first_is : (own : Chain) (hash : Hash) → hash ≡ hash_at own 0 → hash ≡ block_hash_of genesis_header
first_is own hash e =
    let n : length own - 0 ≡ length own = omega arith in
    e ∙ ap (λ (k : ℕ). tip_hash (drop k own)) n ∙ ap (λ (c : Chain). tip_hash c) (drop_all own)
