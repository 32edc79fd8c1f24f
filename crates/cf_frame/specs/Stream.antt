-- statement: a stream of frames.
use Rattle.std.specs.Prelude.{◌≡◌, ℕ, zero, suc, ◌<◌, ◌≤◌, ◌^◌, false, true, List, [], ◌∷◌, ◌++◌, length, Option, Some, None, Ok, Err}
use Rattle.std.specs.Int.{w32, to_le_bytes}
use Rattle.std.specs.List.{flat_map, AllByRecursion}
use Rattle.cf_bytes.specs.Magic.{magic}
use Rattle.cf_frame.specs.declared.frame.Frame.{Frame}
use Rattle.cf_frame.specs.declared.frame.FrameFault.{FrameFault}
use Rattle.cf_frame.specs.declared.frame.FrameFault.TheVariants.{Magic, Command, Oversize, Checksum}
use Rattle.cf_frame.specs.declared.header.Header.{Header}
use Rattle.cf_frame.specs.Frame.{is_command, checksum, spelling, IsFrame}
use Rattle.cf_frame.specs.Reading.{Begins, Front, front_of}

-- no whole frame stands at the front
abbrev pub HasNoFrame : List ℕ → Type 0
HasNoFrame bytes = (f : Frame) (more : List ℕ) → ¬ (Begins bytes f more)

-- the bytes are the frames' spellings, joined, and then rest, which begins with no whole frame
pub record IsStreamOf (bytes : List ℕ) (frames : List Frame) (rest : List ℕ) : Type 0 where
  pub joined : bytes ≡ flat_map spelling frames ++ rest
  pub each : AllByRecursion IsFrame frames
  pub ends : HasNoFrame rest

-- the bytes begin with a header of these fields, right or not, and these bytes follow it
pub record HasHeader (bytes : List ℕ) (h : Header) (after : List ℕ) : Type 0 where
  pub joined : bytes ≡ h.magic ++ (h.command ++ (to_le_bytes w32 h.len ++ (h.checksum ++ after)))
  pub four : length h.magic ≡ 4
  pub twelve : length h.command ≡ 12
  pub len : h.len < 2 ^ 32
  pub sum : length h.checksum ≡ 4

-- the payload of this header stands at the front of these bytes, and has another checksum
pub record HasOtherSum (h : Header) (after : List ℕ) : Type 0 where
  pub payload : List ℕ
  pub more : List ℕ
  pub joined : after ≡ payload ++ more
  pub len : length payload ≡ h.len
  pub differs : ¬ (h.checksum ≡ checksum payload)

-- this is the first test that the header, and the bytes after it, fail
abbrev pub FailsFirst : Header → List ℕ → FrameFault → Type 0
FailsFirst h after Magic = ¬ (h.magic ≡ magic)
FailsFirst h after Command = (h.magic ≡ magic) × (is_command h.command ≡ false)
FailsFirst h after Oversize = (h.magic ≡ magic) × (is_command h.command ≡ true) × (4000000 < h.len)
FailsFirst h after Checksum = (h.magic ≡ magic) × (is_command h.command ≡ true) × (h.len ≤ 4000000) × HasOtherSum h after

-- the bytes begin with a whole header that is refused
pub record IsBad (bytes : List ℕ) (fault : FrameFault) : Type 0 where
  pub header : Header
  pub after : List ℕ
  pub has : HasHeader bytes header after
  pub fails : FailsFirst header after fault

-- the whole frames from the front, what waits behind them, and the fault by which that is bad, if it is
pub record StreamRead : Type 0 where
  pub frames : List Frame
  pub rest : List ℕ
  pub fault : Option FrameFault

-- a stream that was read, with one frame more before it
abbrev pub with_frame : Frame → StreamRead → StreamRead
with_frame f read = record read { frames = f ∷ read.frames }

-- a stream that was read, with these frames more before it
abbrev pub with_frames : List Frame → StreamRead → StreamRead
with_frames frames read = record read { frames = frames ++ read.frames }

-- a stream without a whole frame: all its bytes wait, and this is their fault, if they have one
abbrev pub no_frames : List ℕ → Option FrameFault → StreamRead
no_frames bytes fault = record { frames = []; rest = bytes; fault = fault }

-- what a stream is read as, by what stands at its front and by how the bytes behind it are read
abbrev pub from_front : (List ℕ → StreamRead) → List ℕ → Front → StreamRead
from_front next bytes (Ok (Some x)) = with_frame x.0 (next x.1)
from_front next bytes (Ok None) = no_frames bytes None
from_front next bytes (Err fault) = no_frames bytes (Some fault)

-- at most so many frames
unfoldable pub read_within : ℕ → List ℕ → StreamRead
read_within zero bytes = no_frames bytes None
read_within (suc n) bytes = from_front (read_within n) bytes (front_of bytes)

-- each frame has a byte at least
unfoldable pub read_stream : List ℕ → StreamRead
read_stream bytes = read_within (length bytes) bytes

-- what reading gives once more bytes have come, by the fault so far: after a fault nothing more is read
abbrev pub continued : Option FrameFault → StreamRead → List ℕ → StreamRead
continued None read more = with_frames read.frames (read_stream (read.rest ++ more))
continued (Some fault) read more = record read { rest = read.rest ++ more }

-- what reading gives once more bytes have come
abbrev pub read_on : StreamRead → List ℕ → StreamRead
read_on read more = continued read.fault read more
