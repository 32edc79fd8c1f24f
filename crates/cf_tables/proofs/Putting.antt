-- What putting an extract changes, or a block's items: where none stands it is put in, and where one stands nothing changes.
use Rattle.std.proofs.Common.{◌≡◌, ℕ, Bool, true, false, List, Option, Some, None, refl, sym, ◌∙◌, ap}
use Rattle.std.specs.Prelude.{is_some, unwrap_or, if◌then◌else◌}
use Rattle.cf_headers.specs.Chain.{Hash}
use Rattle.cf_headers.specs.Rules.{same}
use Rattle.cf_scan.specs.declared.extracts.TxExtract.{TxExtract}
use Rattle.cf_tables.specs.Extracts.{put_extract, with_extract}
use Rattle.cf_tables.specs.Outputs.{Paid, put_outputs, set_outputs}
use Rattle.cf_tables.specs.Known.{ExtractTable}
use Rattle.cf_dispute.proofs.PutIn.{same_true}

none_or : {A : Type 0} (o : Option A) (x : A) → is_some o ≡ false → unwrap_or o x ≡ x
none_or None x none = refl
none_or (Some y) x none = cc none

some_or : {A : Type 0} (o : Option A) (x : A) → is_some o ≡ true → o ≡ Some (unwrap_or o x)
some_or None x some = cc some
some_or (Some y) x some = refl

-- where none stands there it is put in; where one stands nothing changes
pub put_fresh : (table : ExtractTable) (at : Hash) (x : List TxExtract) → is_some (table at) ≡ false → (hash : Hash)
    → put_extract at x table hash ≡ with_extract at x table hash
put_fresh table at x none hash = by (same at hash) refl where
  by : (b : Bool) → same at hash ≡ b → (if b then Some x else table hash) ≡ (if b then Some (unwrap_or (table hash) x) else table hash)
  by true e = ap (λ (y : List TxExtract). Some y) (sym (none_or (table hash) x (ap (λ (h : Hash). is_some (table h)) (sym (same_true at hash e)) ∙ none)))
  by false e = refl

pub kept_there : (table : ExtractTable) (at : Hash) (x : List TxExtract) → is_some (table at) ≡ true → (hash : Hash)
    → table hash ≡ with_extract at x table hash
kept_there table at x some hash = by (same at hash) refl where
  by : (b : Bool) → same at hash ≡ b → table hash ≡ (if b then Some (unwrap_or (table hash) x) else table hash)
  by true e = some_or (table hash) x (ap (λ (h : Hash). is_some (table h)) (sym (same_true at hash e)) ∙ some)
  by false e = refl

-- so it is with a block's items
pub items_fresh : (paid : Paid) (at : Hash) (x : List (List ℕ)) → is_some (paid at) ≡ false → (hash : Hash)
    → set_outputs at x paid hash ≡ put_outputs at x paid hash
items_fresh paid at x none hash = by (same at hash) refl where
  by : (b : Bool) → same at hash ≡ b → (if b then Some x else paid hash) ≡ (if b then Some (unwrap_or (paid hash) x) else paid hash)
  by true e = ap (λ (y : List (List ℕ)). Some y) (sym (none_or (paid hash) x (ap (λ (h : Hash). is_some (paid h)) (sym (same_true at hash e)) ∙ none)))
  by false e = refl

pub items_there : (paid : Paid) (at : Hash) (x : List (List ℕ)) → is_some (paid at) ≡ true → (hash : Hash)
    → paid hash ≡ put_outputs at x paid hash
items_there paid at x some hash = by (same at hash) refl where
  by : (b : Bool) → same at hash ≡ b → paid hash ≡ (if b then Some (unwrap_or (paid hash) x) else paid hash)
  by true e = some_or (paid hash) x (ap (λ (h : Hash). is_some (paid h)) (sym (same_true at hash e)) ∙ some)
  by false e = refl
