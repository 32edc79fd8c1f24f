-- statement: what a server has read, it answers before it reads on.
use Rattle.std.specs.Prelude.{◌≡◌, ◌≤◌, ℕ, ℤ, zero, suc, List, [], ◌++◌, length, Option, Some}
use Rattle.cf_conn.specs.Source.{with_front}
use Rattle.cf_block.specs.declared.tx.Block.{Block}
use Rattle.cf_server.specs.Serving.{Whole, course, most_frames, reply_bytes}

-- what is owed for the whole frames in these bytes
abbrev pub owed_for : ℤ → ℕ → List Block → List ℕ → List ℕ
owed_for moment nonce blocks taken = reply_bytes moment nonce blocks (course most_frames taken).messages

-- the most bytes of a piece
abbrev pub most_piece : ℕ
most_piece = 4096

-- So many pieces were read, of at most 4,096 bytes each, which are these bytes joined. As each was read the connection stood so that the pieces before it were taken, and all that is owed
-- for the whole frames in them was written.
unfoldable pub IsInTurn : {C : Type 0} → (C → Option (List ℕ)) → (C → Option (List ℕ)) → (List ℕ → List ℕ) → List ℕ → Option (List ℕ) → ℕ → List ℕ → Type 0
IsInTurn left written owed bytes before zero taken = taken ≡ []
IsInTurn {C} left written owed bytes before (suc n) taken =
    (earlier : List ℕ) × (piece : List ℕ) × (at : C) × (taken ≡ earlier ++ piece) × (length piece ≤ most_piece) × (Some bytes ≡ with_front earlier (left at))
    × Whole before (written at) (owed earlier) × IsInTurn left written owed bytes before n earlier

-- the same of those bytes of a source that were taken, where these are left
pub record AnswersFirst {C : Type 0} (left written : C → Option (List ℕ)) (owed : List ℕ → List ℕ) (bytes : List ℕ) (before left_now : Option (List ℕ)) : Type 0 where
  pub pieces : ℕ
  pub taken : List ℕ
  pub told : Some bytes ≡ with_front taken left_now
  pub turns : IsInTurn left written owed bytes before pieces taken
