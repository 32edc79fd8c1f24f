-- machine: what a framer lends, and how many bytes it takes of a piece.
use Rattle.std.specs.Prelude.{◌≡◌, ℕ, ◌-◌, ◌<◌, ◌≤◌, Bool, true, false, List, ◌++◌, take, length, Option, Some, None, Result, Ok, Err}
use Rattle.cf_bytes.specs.declared.cut.CutFault.{CutFault}
use Rattle.cf_bytes.specs.Cut.{Read}
use Rattle.cf_frame.specs.declared.frame.Frame.{Frame}
use Rattle.cf_frame.specs.declared.frame.FrameFault.{FrameFault}
use Rattle.cf_frame.specs.declared.header.Header.{Header}
use Rattle.cf_frame.specs.Reading.{Front, front_of, header_at, header_fault}

abbrev pub is_frame : Front → Bool
is_frame (Ok (Some x)) = true
is_frame (Ok None) = false
is_frame (Err fault) = false

-- a whole frame stands at the front
abbrev pub HasFrame : List ℕ → Type 0
HasFrame bytes = is_frame (front_of bytes) ≡ true

-- the bytes after the frame at the front, where there is one
abbrev pub behind : List ℕ → Front → List ℕ
behind bytes (Ok (Some x)) = x.1
behind bytes (Ok None) = bytes
behind bytes (Err fault) = bytes

abbrev pub after_frame : List ℕ → List ℕ
after_frame bytes = behind bytes (front_of bytes)

-- the last of the bytes are these
pub record IsEndOf (bytes rest : List ℕ) : Type 0 where
  pub text : List ℕ
  pub joined : bytes ≡ text ++ rest

-- what a reader lends, which stands anywhere where it took no frame
abbrev pub Takes : Result (Option Frame) FrameFault → List ℕ → List ℕ → Type 0
Takes (Ok (Some f)) old new = front_of old ≡ Ok (Some (f, new))
Takes (Ok None) old new = front_of old ≡ Ok None
Takes (Err fault) old new = front_of old ≡ Err fault

-- what a framer lends
abbrev pub Lends : Result (Option Frame) FrameFault → List ℕ → Type 0
Lends r bytes = Takes r bytes (after_frame bytes)

-- how many bytes lack until the header stands there, or until its payload does; none where the header is at fault
abbrev pub lacks_payload : Option FrameFault → Header → List ℕ → ℕ
lacks_payload (Some fault) h rest = 0
lacks_payload None h rest = h.len - length rest

abbrev pub lacks_by : Read Header CutFault → List ℕ → ℕ
lacks_by (Err e) bytes = 24 - length bytes
lacks_by (Ok x) bytes = lacks_payload (header_fault x.0) x.0 x.1

unfoldable pub lacks : List ℕ → ℕ
lacks bytes = lacks_by (header_at bytes) bytes

-- The bytes that are taken of a piece: the fewest with which the front is a whole frame or at fault, and all of them
-- where none are enough.
pub record IsFilled (bytes piece : List ℕ) (n : ℕ) : Type 0 where
  pub within : n ≤ length piece
  pub before : (k : ℕ) → k < n → front_of (bytes ++ take k piece) ≡ Ok None
  pub ends : n < length piece → front_of (bytes ++ take n piece) ≡ Ok None → ⊥
