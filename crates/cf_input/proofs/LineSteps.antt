-- Files that are read line by line.
use Rattle.std.proofs.Common.{◌≡◌, ℕ, ◌+◌, ◌<◌, ◌==◌, Bool, true, false, List, [], ◌∷◌, length, refl, ap, sym, arith, suc}
use Rattle.std.specs.Prelude.{Result, Ok, Err}
use Rattle.std.specs.List.{before_first, after_first}
use Rattle.cf_bytes.specs.declared.memory.Refused.{Refused}
use Rattle.cf_bytes.specs.declared.memory.Refused.TheVariants.{No, NoMemory}
use Rattle.cf_input.specs.Lines.{lines_of, with_first, read_lines, GivesAfter, GivesRead}

one_more : (k : ℕ) → 1 + k ≡ suc k
one_more k = omega arith

two_more : (k : ℕ) → 1 + k + 1 ≡ suc (k + 1)
two_more k = omega arith

pub before_true : (p : ℕ → Bool) (b : ℕ) (rest : List ℕ) → p b ≡ true → before_first p (b ∷ rest) ≡ []
before_true p b rest h = rw h refl

pub before_false : (p : ℕ → Bool) (b : ℕ) (rest : List ℕ) → p b ≡ false → before_first p (b ∷ rest) ≡ b ∷ before_first p rest
before_false p b rest h = rw (h, one_more) refl

pub after_true : (p : ℕ → Bool) (b : ℕ) (rest : List ℕ) → p b ≡ true → after_first p (b ∷ rest) ≡ rest
after_true p b rest h = rw h refl

pub after_false : (p : ℕ → Bool) (b : ℕ) (rest : List ℕ) → p b ≡ false → after_first p (b ∷ rest) ≡ after_first p rest
after_false p b rest h = rw (h, two_more) refl

-- a text that isn't empty is its first line, and the lines after it
pub lines_step : (text : List ℕ) → 0 < length text → lines_of text ≡ before_first (λ b. b == 10) text ∷ lines_of (after_first (λ b. b == 10) text)
unfolding lines_of
lines_step [] some = absurd (omega arith)
lines_step (b ∷ []) some =
    elim (b == 10) as (λ t. (b == 10) ≡ t → lines_of (b ∷ []) ≡ before_first (λ b. b == 10) (b ∷ []) ∷ lines_of (after_first (λ b. b == 10) (b ∷ []))) [
      | true ↦ λ h. rw h refl
      | false ↦ λ h. rw h refl
    ] refl
lines_step (b ∷ c ∷ rest) some =
    let more = lines_step (c ∷ rest) (omega arith) in
    elim (b == 10) as (λ t. (b == 10) ≡ t → lines_of (b ∷ c ∷ rest) ≡ before_first (λ b. b == 10) (b ∷ c ∷ rest) ∷ lines_of (after_first (λ b. b == 10) (b ∷ c ∷ rest))) [
      | true ↦ λ h. rw (before_true (λ b. b == 10) b (c ∷ rest) h, after_true (λ b. b == 10) b (c ∷ rest) h, h) refl
      | false ↦ λ h. rw (before_false (λ b. b == 10) b (c ∷ rest) h, after_false (λ b. b == 10) b (c ∷ rest) h, h) (ap (with_first b) more)
    ] refl

-- nothing is left
pub lines_end : {X E : Type 0} (step : X → List ℕ → Result X E) (before : X) (text : List ℕ) (all : Result X E) → length text ≡ 0 → read_lines step before (lines_of text) ≡ all → all ≡ Ok before
unfolding lines_of read_lines
lines_end step before [] all none h = sym h
lines_end step before (b ∷ rest) all none h = absurd (omega arith)

-- a line that is taken
pub lines_on : {X E : Type 0} (step : X → List ℕ → Result X E) (before after : X) (line : List ℕ) (lines : List (List ℕ)) (all : Result X E)
    → step before line ≡ Ok after → read_lines step before (line ∷ lines) ≡ all → read_lines step after lines ≡ all
unfolding read_lines
lines_on step before after line lines all e h = rw e at h

stop_at : {X E : Type 0} (step : X → List ℕ → Result X E) (before : X) (line : List ℕ) (lines : List (List ℕ)) (all : Result X E) (e : E)
    → step before line ≡ Err e → read_lines step before (line ∷ lines) ≡ all → all ≡ Err e
unfolding read_lines
stop_at step before line lines all e is h = sym (rw is at h)

-- a line that is refused
pub lines_stop : {A X E : Type 0} (Y : Type 0) (view : A → X) (step : X → List ℕ → Result X E) (before new : X) (line : List ℕ) (lines : List (List ℕ)) (all : Result X E) (r : Refused E)
    → GivesAfter {A = Y} (step before line) (Err r) new → read_lines step before (line ∷ lines) ≡ all → GivesRead view all (Err r)
lines_stop Y view step before new line lines all (No e) is h = stop_at step before line lines all e is h
lines_stop Y view step before new line lines all NoMemory is h = tt
