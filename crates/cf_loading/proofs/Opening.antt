-- What is known of a file that was opened and read by parts.
use Rattle.std.proofs.Common.{◌≡◌, ◌≤◌, ◌<◌, ℕ, Bool, true, false, List, length, Option, Some, None, Result, Ok, Err, refl, sym, ◌∙◌, ap, subst, arith}
use Rattle.std.specs.Prelude.{nat_lt, if◌then◌else◌, IfSome}
use Rattle.std.proofs.lemmas.Bool.Decides.{nat_tests}
use Rattle.std.specs.FinMap as finite
use Rattle.cf_bytes.specs.Files.{Named, OpenIn, OpenOf, Parts}
use Rattle.cf_conn.specs.Opened.{IsPartRead}
use Rattle.cf_conn.specs.Steps.{Steps}
use Rattle.cf_conn.proofs.Stepping.{kept, mapped}
use Rattle.cf_block.specs.declared.tx.Block.{Block}
use Rattle.cf_walk.specs.declared.cause.BadBlock.{BadBlock}
use Rattle.cf_walk.specs.declared.fault.LoadFault.{LoadFault}
use Rattle.cf_walk.specs.declared.fault.LoadFault.TheVariants as faults
use Rattle.cf_walk.specs.Files.{blocks_at, most_blocks}
use Rattle.cf_walk.specs.Striding.{ReadsAs}
use Rattle.cf_walk.proofs.Strides.{all_count}
use Rattle.cf_answers.specs.declared.status.Status.{Status}
use Rattle.cf_loading.specs.Scanning.{IsScanOf}
use Rattle.cf_loading.specs.Verdicts.{FileVerdict, Good, IsReadAs, IsUnloaded, blocks_read, blocks_verdict}

-- what one read of a source over an opened file does: it keeps the reference and the files, and reads some bytes
abbrev pub StepOf : {S F M : Type 0} → Parts F → (F → M) → (S → ℕ) → (S → F) → S → S → Type 0
StepOf parts files name at before after = (name after ≡ name before) × (files (at after) ≡ files (at before)) × IsPartRead parts (at before) (at after)

-- the reference that it holds stays
pub kept_reference : {S F M : Type 0} (parts : Parts F) (files : F → M) (name : S → ℕ) (at : S → F) (before after : S) → Steps (StepOf parts files name at) before after → name after ≡ name before
kept_reference {S} parts files name at before after steps = kept (StepOf parts files name at) (λ (s : S). name s ≡ name before) (λ a b step is. step.0 ∙ is) before after steps refl

-- what stands under each name stays
pub kept_files : {S F M : Type 0} (parts : Parts F) (files : F → M) (name : S → ℕ) (at : S → F) (before after : S) → Steps (StepOf parts files name at) before after
    → files (at after) ≡ files (at before)
kept_files {S} parts files name at before after steps = kept (StepOf parts files name at) (λ (s : S). files (at s) ≡ files (at before)) (λ a b step is. step.1 ∙ is) before after steps refl

-- the files were read by parts
pub parts_read : {S F M : Type 0} (parts : Parts F) (files : F → M) (name : S → ℕ) (at : S → F) (before after : S) → Steps (StepOf parts files name at) before after
    → Steps (IsPartRead parts) (at before) (at after)
parts_read parts files name at before after steps = mapped (StepOf parts files name at) (IsPartRead parts) at (λ a b step. step.2) before after steps

-- few enough bytes are judged by what they are read as
few_verdict : (bytes : List ℕ) → length bytes ≤ most_blocks → blocks_verdict (Some bytes) ≡ blocks_read (blocks_at bytes)
few_verdict bytes few = grind (arith, nat_tests)

-- a chain was read of the file's bytes
good_of : (o left : Option (List ℕ)) (blocks : List Block) → OpenOf o most_blocks left (Ok tt) → ((bytes : List ℕ) → left ≡ Some bytes → ReadsAs bytes (Ok blocks))
    → (blocks_verdict o ≡ Good) × IfSome o (λ bytes. blocks_at bytes ≡ Ok blocks)
good_of None left blocks opened reads = absurd opened
good_of (Some bytes) left blocks opened reads =
    let read = reads bytes opened.0 in
    (few_verdict bytes opened.1 ∙ ap blocks_read read.1, read.1)

pub good_in : (m : Named) (name : List ℕ) (left : Option (List ℕ)) (blocks : List Block) → OpenIn (Some m) name most_blocks left (Ok tt)
    → ((bytes : List ℕ) → left ≡ Some bytes → ReadsAs bytes (Ok blocks))
    → (blocks_verdict (finite.get m name) ≡ Good) × IfSome (finite.get m name) (λ bytes. blocks_at bytes ≡ Ok blocks)
good_in m name left blocks opened reads = good_of (finite.get m name) left blocks opened reads

-- none was: the file is judged so
bad_of : (X : Type 0) (o left : Option (List ℕ)) (fault : LoadFault) (status : Status) → OpenOf o most_blocks left (Ok tt) → ((bytes : List ℕ) → left ≡ Some bytes → ReadsAs bytes (Err fault))
    → IsUnloaded fault status → IsReadAs {X = X} (blocks_verdict o) (Err status)
bad_of X None left fault status opened reads told = absurd opened
bad_of X (Some bytes) left (faults.BadBlock bad) status opened reads told =
    let read = reads bytes opened.0 in
    subst (λ (s : Status). IsReadAs {X = X} (blocks_verdict (Some bytes)) (Err s)) (sym told)
    (few_verdict bytes opened.1 ∙ ap blocks_read (sym (ap blocks_at (all_count bytes opened.1)) ∙ read.0))
bad_of X (Some bytes) left faults.TooBig status opened reads told =
    let read = reads bytes opened.0 in
    let few = opened.1 in
    let many = read.0 in
    absurd (omega (arith, few, many))
bad_of X (Some bytes) left faults.ReadFault status opened reads told = subst (λ (s : Status). IsReadAs {X = X} (blocks_verdict (Some bytes)) (Err s)) (sym told) tt
bad_of X (Some bytes) left faults.NoMemory status opened reads told = subst (λ (s : Status). IsReadAs {X = X} (blocks_verdict (Some bytes)) (Err s)) (sym told) tt

pub bad_in : (X : Type 0) (m : Named) (name : List ℕ) (left : Option (List ℕ)) (fault : LoadFault) (status : Status) → OpenIn (Some m) name most_blocks left (Ok tt)
    → ((bytes : List ℕ) → left ≡ Some bytes → ReadsAs bytes (Err fault)) → IsUnloaded fault status → IsReadAs {X = X} (blocks_verdict (finite.get m name)) (Err status)
bad_in X m name left fault status opened reads told = bad_of X (finite.get m name) left fault status opened reads told

-- the same of files that are told or not
pub good_file : (files : Option Named) (name : List ℕ) (left : Option (List ℕ)) (blocks : List Block) → OpenIn files name most_blocks left (Ok tt)
    → ((bytes : List ℕ) → left ≡ Some bytes → ReadsAs bytes (Ok blocks)) → IfSome files (λ m. blocks_verdict (finite.get m name) ≡ Good)
good_file None name left blocks opened reads = tt
good_file (Some m) name left blocks opened reads = (good_in m name left blocks opened reads).0

pub blocks_in_file : (files : Option Named) (name : List ℕ) (left : Option (List ℕ)) (blocks : List Block) → OpenIn files name most_blocks left (Ok tt)
    → ((bytes : List ℕ) → left ≡ Some bytes → ReadsAs bytes (Ok blocks)) → IfSome files (λ m. IfSome (finite.get m name) (λ bytes. blocks_at bytes ≡ Ok blocks))
blocks_in_file None name left blocks opened reads = tt
blocks_in_file (Some m) name left blocks opened reads = (good_in m name left blocks opened reads).1

pub bad_file : (X : Type 0) (files : Option Named) (name : List ℕ) (left : Option (List ℕ)) (fault : LoadFault) (status : Status) → OpenIn files name most_blocks left (Ok tt)
    → ((bytes : List ℕ) → left ≡ Some bytes → ReadsAs bytes (Err fault)) → IsUnloaded fault status → IfSome files (λ m. IsReadAs {X = X} (blocks_verdict (finite.get m name)) (Err status))
bad_file X None name left fault status opened reads told = tt
bad_file X (Some m) name left fault status opened reads told = bad_in X m name left fault status opened reads told

-- a scan was told of the file's bytes
scan_of_held : (o left : Option (List ℕ)) (watch : List (List ℕ)) (text : List ℕ) → OpenOf o most_blocks left (Ok tt) → ((bytes : List ℕ) → left ≡ Some bytes → IsScanOf bytes watch text)
    → (blocks_verdict o ≡ Good) × IfSome o (λ bytes. IsScanOf bytes watch text)
scan_of_held None left watch text opened told = absurd opened
scan_of_held (Some bytes) left watch text opened told =
    let scan = told bytes opened.0 in
    (few_verdict bytes opened.1 ∙ ap blocks_read scan.read.1, scan)

pub scanned_file : (files : Option Named) (name : List ℕ) (left : Option (List ℕ)) (watch : List (List ℕ)) (text : List ℕ) → OpenIn files name most_blocks left (Ok tt)
    → ((bytes : List ℕ) → left ≡ Some bytes → IsScanOf bytes watch text) → IfSome files (λ m. blocks_verdict (finite.get m name) ≡ Good)
scanned_file None name left watch text opened told = tt
scanned_file (Some m) name left watch text opened told = (scan_of_held (finite.get m name) left watch text opened told).0

pub scan_in_file : (files : Option Named) (name : List ℕ) (left : Option (List ℕ)) (watch : List (List ℕ)) (text : List ℕ) → OpenIn files name most_blocks left (Ok tt)
    → ((bytes : List ℕ) → left ≡ Some bytes → IsScanOf bytes watch text) → IfSome files (λ m. IfSome (finite.get m name) (λ bytes. IsScanOf bytes watch text))
scan_in_file None name left watch text opened told = tt
scan_in_file (Some m) name left watch text opened told = (scan_of_held (finite.get m name) left watch text opened told).1

-- a file that was opened, and what a scan of it gives
pub ruleset scanned = (scanned_file, scan_in_file)
