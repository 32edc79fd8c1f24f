-- statement: reading a frame from the front of some bytes (Bitcoin developer reference, "Message Headers").
use Rattle.std.specs.Prelude.{◌≡◌, ℕ, nat_lt, not, if◌then◌else◌, List, ◌++◌, Option, Some, None, Result, Ok, Err}
use Rattle.std.specs.Int.{w32}
use Rattle.std.specs.Str.{bytes_eq}
use Rattle.cf_bytes.specs.declared.cut.CutFault.{CutFault}
use Rattle.cf_bytes.specs.declared.memory.Refused.{Refused}
use Rattle.cf_bytes.specs.declared.memory.Refused.TheVariants.{No, NoMemory}
use Rattle.cf_bytes.specs.Cut.{Read, bytes_at, number_at, ◌>>=◌}
use Rattle.cf_bytes.specs.Magic.{magic}
use Rattle.cf_frame.specs.declared.frame.Frame.{Frame}
use Rattle.cf_frame.specs.declared.frame.FrameFault.{FrameFault}
use Rattle.cf_frame.specs.declared.frame.FrameFault.TheVariants.{Magic, Command, Oversize, Checksum}
use Rattle.cf_frame.specs.declared.header.Header.{Header}
use Rattle.cf_frame.specs.Frame.{is_command, checksum, spelling, IsFrame}

-- the header, field by field
unfoldable pub header_at : List ℕ → Read Header CutFault
header_at bytes = do
  magic ← bytes_at 4 bytes
  command ← bytes_at 12 magic.1
  len ← number_at w32 command.1
  checksum ← bytes_at 4 len.1
  Ok (record { magic = magic.0; command = command.0; len = len.0; checksum = checksum.0 }, checksum.1)

-- the first test that a header fails
unfoldable pub header_fault : Header → Option FrameFault
header_fault h =
    if not (bytes_eq h.magic magic) then Some Magic
    else if not (is_command h.command) then Some Command
    else if nat_lt 4000000 h.len then Some Oversize
    else None

-- What stands at the front: a frame and the bytes after it, no whole frame, or the first fault. A header is
-- judged once its 24 bytes stand there, a payload once it does.
abbrev pub Front : Type 0
Front = Result (Option (Frame × List ℕ)) FrameFault

-- behind a good header: the frame, too few bytes as yet, or a payload with another checksum
abbrev pub payload_front : Header → Read (List ℕ) CutFault → Front
payload_front h (Err e) = Ok None
payload_front h (Ok p) =
    if not (bytes_eq h.checksum (checksum p.0)) then Err Checksum
    else Ok (Some (record { command = h.command; payload = p.0 }, p.1))

-- behind a header: its own fault, or else what its payload makes of it
abbrev pub judged_front : Option FrameFault → Header → List ℕ → Front
judged_front (Some fault) h rest = Err fault
judged_front None h rest = payload_front h (bytes_at h.len rest)

-- no whole frame where the header is cut off; else what the header and the bytes after it make
abbrev pub header_front : Read Header CutFault → Front
header_front (Err e) = Ok None
header_front (Ok h) = judged_front (header_fault h.0) h.0 h.1

-- what stands at the front of bytes: a frame and the rest, no whole frame yet, or the first fault
unfoldable pub front_of : List ℕ → Front
front_of bytes = header_front (header_at bytes)

-- the bytes begin with this frame, and these follow it
pub record Begins (bytes : List ℕ) (f : Frame) (more : List ℕ) : Type 0 where
  pub frame : IsFrame f
  pub spelled : bytes ≡ spelling f ++ more

-- what a framer answers, and what waits then
abbrev pub Gives : Result (Option Frame) (Refused FrameFault) → List ℕ → List ℕ → Type 0
Gives (Ok (Some f)) old new = front_of old ≡ Ok (Some (f, new))
Gives (Ok None) old new = (front_of old ≡ Ok None) × (new ≡ old)
Gives (Err (No fault)) old new = (front_of old ≡ Err fault) × (new ≡ old)
Gives (Err NoMemory) old new = new ≡ old
