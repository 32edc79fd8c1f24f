-- statement: files by their names.
use Rattle.std.specs.Prelude.{◌≡◌, ◌⊎◌, ℕ, ◌<◌, ◌≤◌, List, [], ◌∷◌, length, map, Option, Some, None, Result, Ok, Err, String, Vec, string_bytes}
use Rattle.std.specs.Global.{Global}
use Rattle.std.specs.Ordering.{nat_cmp}
use Rattle.std.specs.Cmp.Lexicographic.{slice_cmp}
use Rattle.std.specs.FinMap as finite
use Rattle.std.specs.Coded.{Coded, coded_list, coded_ℕ}
use Rattle.cf_bytes.specs.Outside.{HasRisen}
use Rattle.cf_bytes.specs.declared.outside.Failed.{Failed}
use Rattle.cf_bytes.specs.declared.files.FileFail.{FileFail}
use Rattle.cf_bytes.specs.declared.files.FileFail.TheVariants as fails

-- names, as UTF-8, and the bytes that stand under each
abbrev pub Named : Type 0
Named = finite.FinMap (slice_cmp nat_cmp) (List ℕ)

abbrev pub named_code : Coded Named
named_code = finite.code (coded_list coded_ℕ) (coded_list coded_ℕ)

abbrev pub entry_of : String Global × Vec ℕ Global → List ℕ × List ℕ
entry_of e = (string_bytes e.0, e.1.items)

-- the first entry of a name stands
abbrev pub named_of : List (String Global × Vec ℕ Global) → Named
named_of es = finite.from_entries (map entry_of es)

-- what a call does to the count of faults: it rises where the answer is Failed, and else stays
abbrev pub Counts : {X : Type 0} → Result X FileFail → ℕ → ℕ → Type 0
Counts (Err fails.Failed) before after = HasRisen before after
Counts (Err fails.TooBig) before after = after ≡ before
Counts (Err fails.NoMemory) before after = after ≡ before
Counts (Ok x) before after = after ≡ before

-- what a read of at most so many bytes answers, by what stands under the name
abbrev pub ReadOf : Option (List ℕ) → ℕ → Result (Vec ℕ Global) FileFail → Type 0
ReadOf (Some bytes) most (Ok v) = (v.items ≡ bytes) × (length bytes ≤ most)
ReadOf (Some bytes) most (Err fails.TooBig) = most < length bytes
ReadOf None most (Ok v) = ⊥
ReadOf None most (Err fails.TooBig) = ⊥
ReadOf held most (Err fails.Failed) = Unit {0}
ReadOf held most (Err fails.NoMemory) = Unit {0}

-- a read of files that are told or not
abbrev pub ReadIn : Option Named → List ℕ → ℕ → Result (Vec ℕ Global) FileFail → Type 0
ReadIn (Some m) name most r = ReadOf (finite.get m name) most r
ReadIn None name most (Ok v) = length v.items ≤ most
ReadIn None name most (Err e) = Unit {0}

-- the files that are told, with these bytes under this name
abbrev pub with_file : List ℕ → List ℕ → Option Named → Option Named
with_file name bytes None = None
with_file name bytes (Some m) = Some (finite.insert m name bytes)

-- what a call of files reads: of a name and the most bytes that are asked for, the answer, and what it leaves
abbrev pub ReadsFile : Type 0 → Type 1
ReadsFile F = F → List ℕ → ℕ → Result (Vec ℕ Global) FileFail → F → Type 0

-- the same of an opening
abbrev pub Opens : Type 0 → Type 1
Opens F = F → List ℕ → ℕ → Result (Unit {0}) FileFail → F → Type 0

-- the same of a read of some bytes of the file that was opened last, of the room that is given
abbrev pub Parts : Type 0 → Type 1
Parts F = F → ℕ → Result ℕ Failed → F → Type 0

-- the same of a write, of a name and its bytes
abbrev pub WritesFile : Type 0 → Type 1
WritesFile F = F → List ℕ → List ℕ → Result (Unit {0}) FileFail → F → Type 0

-- the file of this name was read, by one call
abbrev pub IsRead : {F : Type 0} → ReadsFile F → List ℕ → F → F → Type 0
IsRead reads name before after = (most : ℕ) × (result : Result (Vec ℕ Global) FileFail) × reads before name most result after

-- the file of this name was written, by one call
abbrev pub IsWritten : {F : Type 0} → WritesFile F → List ℕ → F → F → Type 0
IsWritten writes name before after = (bytes : List ℕ) × (result : Result (Unit {0}) FileFail) × writes before name bytes result after

-- of the files of these names the first ones were read, each once and in this order, and nothing else was asked of the files
abbrev pub AreRead : {F : Type 0} → ReadsFile F → List (List ℕ) → F → F → Type 0
AreRead reads [] before after = after ≡ before
AreRead {F} reads (name ∷ names) before after =
    (after ≡ before) ⊎ ((between : F) × IsRead reads name before between × AreRead reads names between after)

-- nothing was asked of the files, or this one file was written, by one call
abbrev pub IsAtMostWritten : {F : Type 0} → WritesFile F → Option (List ℕ) → F → F → Type 0
IsAtMostWritten writes None before after = after ≡ before
IsAtMostWritten writes (Some name) before after = (after ≡ before) ⊎ IsWritten writes name before after

-- what opening a file of at most so many bytes answers, by what stands under the name, and the bytes of it that are left then
abbrev pub OpenOf : Option (List ℕ) → ℕ → Option (List ℕ) → Result (Unit {0}) FileFail → Type 0
OpenOf (Some bytes) most left (Ok u) = (left ≡ Some bytes) × (length bytes ≤ most)
OpenOf (Some bytes) most left (Err fails.TooBig) = most < length bytes
OpenOf None most left (Ok u) = ⊥
OpenOf None most left (Err fails.TooBig) = ⊥
OpenOf held most left (Err fails.Failed) = Unit {0}
OpenOf held most left (Err fails.NoMemory) = Unit {0}

-- an opening of files that are told or not
abbrev pub OpenIn : Option Named → List ℕ → ℕ → Option (List ℕ) → Result (Unit {0}) FileFail → Type 0
OpenIn (Some m) name most left r = OpenOf (finite.get m name) most left r
OpenIn None name most left r = Unit {0}
