-- What is found of a filter, where something was found of it before.
use Rattle.std.proofs.Common.{◌≡◌, Option, Some, Bool, true, false, ◌&&◌, if◌then◌else◌, refl, ◌∙◌, ap}
use Rattle.std.proofs.lemmas.Bool.{and_parts}
use Rattle.cf_dispute.proofs.PutIn.{same_true}
use Rattle.cf_headers.specs.Chain.{Hash}
use Rattle.cf_headers.specs.Rules.{same}
use Rattle.cf_tables.specs.Tests.{found_too, set_test, with_test}
use Rattle.cf_tables.specs.Known.{TestResults}

-- at the same hashes the same was found before
set_joined : (told : TestResults) (at of : Hash) (lacks : Bool) (block filter : Hash)
    → set_test at of (found_too (told at of) lacks) told block filter ≡ with_test at of lacks told block filter
set_joined told at of lacks block filter = by (same at block && same of filter) refl where
  by : (t : Bool) → same at block && same of filter ≡ t
      → (if t then Some (found_too (told at of) lacks) else told block filter) ≡ (if t then Some (found_too (told block filter) lacks) else told block filter)
  by true is =
      let parts = and_parts (same at block) (same of filter) is in
      ap (λ (o : Option Bool). Some (found_too o lacks)) (ap (λ (h : Hash). told h of) (same_true at block parts.0) ∙ ap (told block) (same_true of filter parts.1))
  by false is = refl

-- what is put in is what was found before, or is now
pub set_found : (told : TestResults) (at of : Hash) (found lacks : Bool) (block filter : Hash) → found ≡ found_too (told at of) lacks
    → set_test at of found told block filter ≡ with_test at of lacks told block filter
set_found told at of found lacks block filter e = ap (λ (x : Bool). set_test at of x told block filter) e ∙ set_joined told at of lacks block filter
