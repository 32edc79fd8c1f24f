-- What is to be asked for that is open to nobody: along a chain, and as what is kept changes.
use Rattle.std.proofs.Common.{◌≡◌, ◌≢◌, inl, inr, ℕ, ◌+◌, ◌≤◌, length, Option, Some, None, refl, sym, ◌∙◌, ap, subst, arith}
use Rattle.std.specs.Prelude.{IsSome, option_map}
use Rattle.std.proofs.lemmas.Bool.{cases_lt}
use Rattle.cf_bytes.specs.declared.hash.Hash32.{Hash32}
use Rattle.cf_dispute.specs.Claims.{Tables}
use Rattle.cf_headers.specs.Chain.{Hash, Chain}
use Rattle.cf_headers.specs.Heights.{hash_at, height_of}
use Rattle.cf_match.specs.Verdicts.{Verdicts}
use Rattle.cf_tables.specs.declared.kind.BlockKind.{BlockKind}
use Rattle.cf_tables.specs.declared.kind.BlockKind.TheVariants.{Unclaimed, Unjudged, ToFetch, Done}
use Rattle.cf_tables.specs.Known.{ExtractTable}
use Rattle.cf_tables.specs.Wanting.{IsToFetch, IsKind}
use Rattle.cf_seek.specs.Opens.{Opens}
use Rattle.cf_seek.specs.Seeking.{IsToAsk, AreToAsk}
use Rattle.cf_headers.proofs.Found.{found_low}
use Rattle.cf_tables.proofs.Told.{none_differ, not_unjudged}

-- ---- a block's kind

-- a block of another kind isn't to be fetched
pub not_to_fetch : (extracts : ExtractTable) (tables : Tables) (verdicts : Verdicts) (block : Hash) (k : BlockKind) → IsKind extracts tables verdicts block k → k ≢ ToFetch → IsToFetch extracts tables verdicts block → ⊥
not_to_fetch extracts tables verdicts block Unclaimed is1 off (none, inl differ) = (let no = sym (is1.1 differ.0) ∙ differ.1.1.1.1.0.1 in cc no)
not_to_fetch extracts tables verdicts block Unclaimed is1 off (none, inr hit) = (let no = sym (is1.1 hit.1.0.0) ∙ hit.1.0.1.1 in cc no)
not_to_fetch extracts tables verdicts block Unjudged is1 off due = not_unjudged extracts tables verdicts block ToFetch due (λ e. cc e) is1
not_to_fetch extracts tables verdicts block ToFetch is1 off due = off refl
not_to_fetch extracts tables verdicts block Done (inl there) off due = (let no = subst IsSome due.0 there in cc no)
not_to_fetch extracts tables verdicts block Done (inr done) off (none, inl differ) = none_differ tables block done.0 done.1 differ
not_to_fetch extracts tables verdicts block Done (inr done) off (none, inr hit) =
    let same1 : done.0 ≡ hit.0 = hit.1.1 done.1.0.0 done.0 done.1.0.1 in
    let no = sym hit.2 ∙ ap (λ (h : Hash32). verdicts block h.0) (sym same1) ∙ done.2 in
    cc no

-- ---- along a chain

pub to_ask_more : (extracts : ExtractTable) (tables : Tables) (verdicts : Verdicts) (opens : Opens) (own : Chain) (start h : ℕ) (hash : Hash) → AreToAsk extracts tables verdicts opens own start h → hash ≡ hash_at own (h + 1)
    → IsToAsk extracts tables verdicts opens hash → AreToAsk extracts tables verdicts opens own start (h + 1)
to_ask_more extracts tables verdicts opens own start h hash are is1 here k up low = elim (cases_lt k (h + 1)) [
  | inl lt ↦ are k up (omega (arith, lt))
  | inr ge ↦ (let at : k ≡ h + 1 = omega (arith, ge, low) in subst (λ (n : ℕ). IsToAsk extracts tables verdicts opens (hash_at own n)) (sym at) (subst (IsToAsk extracts tables verdicts opens) is1 here))
]

-- ---- the lowest height of a hash

pub placed_low : (own : Chain) (hash : Hash) (h at : ℕ) → h ≤ length own → hash_at own h ≡ hash → Some at ≡ height_of hash own → at ≤ h
placed_low own hash h at le is found =
    let w = found_low hash own h le is in
    let both : Some at ≡ Some (length w.0) = found ∙ ap (λ (o : Option Chain). option_map (λ (c : Chain). length c) o) w.1 in
    let one : at ≡ length w.0 = cc in
    omega (arith, one, w.2)

pub placed_none : (own : Chain) (hash : Hash) (h : ℕ) → h ≤ length own → hash_at own h ≡ hash → None ≡ height_of hash own → ⊥
placed_none own hash h le is found =
    let w = found_low hash own h le is in
    let no : None ≡ Some (length w.0) = found ∙ ap (λ (o : Option Chain). option_map (λ (c : Chain). length c) o) w.1 in
    cc no
