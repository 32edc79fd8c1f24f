-- What `filter` writes, by whether its height is within the chain.
use Rattle.std.proofs.Common.{◌≡◌, ◌⊎◌, inl, inr, ℕ, suc, ◌<◌, ◌≤◌, true, false, nat_lt, List, length, get_or, refl, sym, ◌∙◌, ap, subst, Option, Some, None, arith}
use Rattle.std.specs.Prelude.{option_map}
use Rattle.std.proofs.lemmas.Bool.Decides.{nat_tests}
use Rattle.std.proofs.lemmas.Option.{slice_get_within, slice_get_cases}
use Rattle.cf_block.specs.declared.tx.Block.{Block}
use Rattle.cf_chain.specs.Filters.{Filtered, filters_of, filter_at}
use Rattle.cf_sync.proofs.Ranges.{filters_length}
use Rattle.cf_answers.specs.declared.status.Status.{Status}
use Rattle.cf_answers.specs.declared.status.Status.TheVariants.{NoHeight}
use Rattle.cf_answers.specs.Writing.{IsWritten}
use Rattle.cf_offline.specs.Reading.{filter_text, TellsFilter, TellsHeight}

above_by : (blocks : List Block) (height : ℕ) → filter_at blocks height ≡ None
    → ((x : Filtered) × (height < length (filters_of blocks)) × (filter_at blocks height ≡ Some x) × (get_or (filters_of blocks) height x ≡ x)) ⊎ ((length (filters_of blocks) ≤ height) × (filter_at blocks height ≡ None))
    → nat_lt (length blocks) height ≡ true
above_by blocks height none (inl h) = let both = sym none ∙ h.2 in cc
above_by blocks height none (inr h) =
    let long : length (filters_of blocks) ≡ suc (length blocks) = ap suc (filters_length blocks) in
    let high = h.0 in
    grind (arith, nat_tests)

above : (blocks : List Block) (height : ℕ) → filter_at blocks height ≡ None → nat_lt (length blocks) height ≡ true
above blocks height none = above_by blocks height none (slice_get_cases (filters_of blocks) height).1

within : (blocks : List Block) (height : ℕ) (f : Filtered) → filter_at blocks height ≡ Some f → nat_lt (length blocks) height ≡ false
within blocks height f some =
    let low = slice_get_within (filters_of blocks) height f some in
    let long : length (filters_of blocks) ≡ suc (length blocks) = ap suc (filters_length blocks) in
    grind (arith, nat_tests)

-- the lines of a block were written
tells_by : (status : Status) (before after : Option (List ℕ)) (blocks : List Block) (height : ℕ) (text : List ℕ) (o : Option Filtered) → filter_at blocks height ≡ o
    → Some text ≡ option_map filter_text o → IsWritten status before after text → TellsHeight status before after blocks height (nat_lt (length blocks) height)
tells_by status before after blocks height text None at is written = cc
tells_by status before after blocks height text (Some f) at is written =
    let same : text ≡ filter_text f = cc in
    let told : TellsFilter status before after (filter_at blocks height) = subst (TellsFilter status before after) (sym at) (subst (IsWritten status before after) same written) in
    subst (TellsHeight status before after blocks height) (sym (within blocks height f at)) told

pub tells : (status : Status) (before after : Option (List ℕ)) (blocks : List Block) (height : ℕ) (text : List ℕ) → Some text ≡ option_map filter_text (filter_at blocks height)
    → IsWritten status before after text → TellsHeight status before after blocks height (nat_lt (length blocks) height)
tells status before after blocks height text is written = tells_by status before after blocks height text (filter_at blocks height) refl is written

-- there is no such block
none_by : (o : Option Filtered) → None ≡ option_map filter_text o → o ≡ None
none_by None is = refl
none_by (Some f) is = cc

pub is_above : (tip : ℕ) (now : Option (List ℕ)) (blocks : List Block) (height : ℕ) → tip ≡ length blocks → None ≡ option_map filter_text (filter_at blocks height)
    → TellsHeight (NoHeight tip) now now blocks height (nat_lt (length blocks) height)
is_above tip now blocks height top is = subst (TellsHeight (NoHeight tip) now now blocks height) (sym (above blocks height (none_by (filter_at blocks height) is))) (top, refl)
