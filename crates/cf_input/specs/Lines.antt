-- statement: files that are read line by line.
use Rattle.std.specs.Prelude.{◌≡◌, ℕ, ◌==◌, if◌then◌else◌, List, [], ◌∷◌, Option, Result, Ok, Err}
use Rattle.std.specs.Result.{result_ok}
use Rattle.hex.specs.Hex.{decode_of}
use Rattle.cf_bytes.specs.Cut.{◌>>=◌}
use Rattle.cf_bytes.specs.declared.memory.Refused.{Refused}
use Rattle.cf_bytes.specs.declared.memory.Refused.TheVariants.{No, NoMemory}

-- lines with one byte more before the first of them
abbrev pub with_first : ℕ → List (List ℕ) → List (List ℕ)
with_first b [] = (b ∷ []) ∷ []
with_first b (line ∷ lines) = (b ∷ line) ∷ lines

-- the lines of a text, each ended by LF, which the last may lack
unfoldable pub lines_of : List ℕ → List (List ℕ)
lines_of [] = []
lines_of (b ∷ rest) = if b == 10 then [] ∷ lines_of rest else with_first b (lines_of rest)

-- what is read so far, one line after another, up to the first line that is refused
unfoldable pub read_lines : {X E : Type 0} → (X → List ℕ → Result X E) → X → List (List ℕ) → Result X E
read_lines step before [] = Ok before
read_lines step before (line ∷ lines) = step before line >>= λ after. read_lines step after lines

-- the bytes that a text spells in hexadecimal, in either case
abbrev pub bytes_of_hex : List ℕ → Option (List ℕ)
bytes_of_hex text = result_ok (decode_of text)

-- what was read, or the fault
abbrev pub GivesRead : {X Y E : Type 0} → (X → Y) → Result Y E → Result X (Refused E) → Type 0
GivesRead view read (Ok x) = read ≡ Ok (view x)
GivesRead view read (Err (No e)) = read ≡ Err e
GivesRead view read (Err NoMemory) = Unit {0}

-- what stands after a line, or the fault
abbrev pub GivesAfter : {A X E : Type 0} → Result X E → Result A (Refused E) → X → Type 0
GivesAfter read (Ok done) new = read ≡ Ok new
GivesAfter read (Err (No e)) new = read ≡ Err e
GivesAfter read (Err NoMemory) new = Unit {0}
