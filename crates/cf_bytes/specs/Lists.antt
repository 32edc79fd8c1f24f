-- statement: fields one after another.
use Rattle.std.specs.Prelude.{ℕ, zero, suc, List, [], ◌∷◌, ◌++◌, length, Ok}
use Rattle.cf_bytes.specs.declared.cut.CutFault.{CutFault}
use Rattle.cf_bytes.specs.Cut.{Read, bytes_at, ◌>>=◌}
use Rattle.cf_bytes.specs.Compact.{compact, compact_at}

-- n items, each read as item says
unfoldable pub list_at : {X E : Type 0} → (List ℕ → Read X E) → ℕ → List ℕ → Read (List X) E
list_at item zero bytes = Ok ([], bytes)
list_at item (suc n) bytes = do
  first ← item bytes
  others ← list_at item n first.1
  Ok (first.0 ∷ others.0, others.1)

-- items that were read before, in front
abbrev pub with_front : {X E : Type 0} → List X → Read (List X) E → Read (List X) E
with_front front read = read >>= λ x. Ok (front ++ x.0, x.1)

-- bytes with their count before them, as a CompactSize
abbrev pub counted_bytes : List ℕ → List ℕ
counted_bytes text = compact (length text) ++ text

-- reading bytes with their count before them
abbrev pub counted_bytes_at : List ℕ → Read (List ℕ) CutFault
counted_bytes_at bytes = compact_at bytes >>= λ n. bytes_at n.0 n.1
