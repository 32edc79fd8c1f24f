-- statement: texts made of lines.
use Rattle.std.specs.Prelude.{◌≡◌, ℕ, ◌==◌, not, true, List, [], ◌∷◌, ◌++◌}
use Rattle.std.specs.List.{list_all, flat_map}

-- no byte of a line is an LF
abbrev pub IsLine : List ℕ → Type 0
IsLine line = list_all (λ b. not (b == 10)) line ≡ true

-- each of these is a line
abbrev pub AreLines : List (List ℕ) → Type 0
AreLines [] = Unit {0}
AreLines (line ∷ lines) = IsLine line × AreLines lines

-- lines, each ended by LF
abbrev pub ended : List (List ℕ) → List ℕ
ended lines = flat_map (λ line. line ++ 10 ∷ []) lines

-- a last line that lacks its LF, where it has a byte
abbrev pub if_some : List ℕ → List (List ℕ)
if_some [] = []
if_some (b ∷ line) = (b ∷ line) ∷ []

-- the text is these lines, each ended by LF, and then a last one that isn't
pub record AreLinesOf (text : List ℕ) (lines : List (List ℕ)) (last : List ℕ) : Type 0 where
  pub each : AreLines lines
  pub plain : IsLine last
  pub spelled : text ≡ ended lines ++ last
