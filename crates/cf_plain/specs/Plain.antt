-- statement: words and watch files as they are written, with no option and no address.
use Rattle.std.specs.Prelude.{ℕ, ◌==◌, not, Bool, true, List, [], ◌∷◌, codes, map}
use Rattle.hex.specs.Hex.{encode_lower}
use Rattle.cf_input.specs.LineLaws.{ended}

-- a word that doesn't begin with `-`
abbrev pub is_plain : List ℕ → Bool
is_plain [] = true
is_plain (b ∷ word) = not (b == 45)

-- the words of `cf replay WATCH SESSION`, behind the program's own name
abbrev pub replay_words : List ℕ → List ℕ → List ℕ → List (List ℕ)
replay_words program watch session = program ∷ codes "replay" ∷ watch ∷ session ∷ []

-- the words of `cf sync WATCH PEER..`, behind the program's own name
abbrev pub sync_words : List ℕ → List ℕ → List (List ℕ) → List (List ℕ)
sync_words program watch peers = program ∷ codes "sync" ∷ watch ∷ peers

-- a watch file of scripts: each in hexadecimal, on a line of its own
abbrev pub watch_lines : List (List ℕ) → List ℕ
watch_lines scripts = ended (map encode_lower scripts)
