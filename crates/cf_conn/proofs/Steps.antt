-- One read more.
use Rattle.std.proofs.Common.{◌≡◌, ℕ, ◌+◌, List, ◌++◌, take, drop, Option, Some, None, refl, append_assoc}
use Rattle.std.proofs.lemmas.List.{drop-drop, take-append-drop, take_rest}
use Rattle.cf_conn.specs.Source.{with_front}

-- bytes from a place on are a piece and the bytes after it
pub one_piece_more : (n start : ℕ) (bytes : List ℕ)
    → take n (drop start bytes) ++ drop (start + n) bytes ≡ drop start bytes
one_piece_more n start bytes = rw (← drop-drop n start bytes) (take-append-drop n (drop start bytes))

-- what was read in two parts was read
pub read_more : (front more : List ℕ) (told : Option (List ℕ))
    → with_front front (with_front more told) ≡ with_front (front ++ more) told
read_more front more None = refl
read_more front more (Some bytes) = rw (append_assoc front more bytes) refl

-- one piece more, and the last
pub ruleset pieces = (one_piece_more, take_rest)
