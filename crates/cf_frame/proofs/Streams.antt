-- How streams are read.
use Rattle.std.proofs.Common.{◌≡◌, ℕ, zero, suc, ◌≤◌, ◌<◌, List, [], ◌∷◌, ◌++◌, length, Option, Some, None, Ok, Err, refl, sym, ap, ◌∙◌, arith}
use Rattle.std.proofs.lemmas.List.{append-nil}
use Rattle.cf_frame.specs.declared.frame.Frame.{Frame}
use Rattle.cf_frame.specs.declared.frame.FrameFault.{FrameFault}
use Rattle.cf_frame.specs.Frame.{spelling, IsFrame}
use Rattle.cf_frame.specs.Reading.{Front, front_of}
use Rattle.cf_frame.specs.Stream.{StreamRead, with_frame, no_frames, from_front, read_within, read_stream, read_on, continued}
use Rattle.cf_frame.proofs.Again.{again}
use Rattle.cf_frame.proofs.Stays.{stays}
use Rattle.cf_frame.proofs.Fields.{front_shorter, front_none, grows}

-- one step of reading asks for no more than what the next step gives on fewer bytes
same_front : (k j : List ℕ → StreamRead) (bytes : List ℕ) (r : Front) → front_of bytes ≡ r → ((more : List ℕ) → length more < length bytes → k more ≡ j more)
    → from_front k bytes r ≡ from_front j bytes r
same_front k j bytes (Ok (Some x)) e same = ap (with_frame x.0) (same x.1 (front_shorter bytes x.0 x.1 e))
same_front k j bytes (Ok None) e same = refl
same_front k j bytes (Err fault) e same = refl

empty_within : (n : ℕ) → read_within n [] ≡ no_frames [] None
unfolding read_within
empty_within zero = refl
empty_within (suc n) = ap (from_front (read_within n) []) front_none

-- more turns than there are bytes change nothing
same_within : (n m : ℕ) (bytes : List ℕ) → length bytes ≤ n → length bytes ≤ m → read_within n bytes ≡ read_within m bytes
unfolding read_within
same_within zero m [] hn hm = sym (empty_within m)
same_within zero m (x ∷ xs) hn hm = absurd (omega arith)
same_within (suc n) zero [] hn hm = empty_within (suc n)
same_within (suc n) zero (x ∷ xs) hn hm = absurd (omega arith)
same_within (suc n) (suc m) bytes hn hm =
    same_front (read_within n) (read_within m) bytes (front_of bytes) refl (λ more less. same_within n m more (omega arith) (omega arith))

-- one step of reading
pub stream_step : (bytes : List ℕ) → read_stream bytes ≡ from_front read_stream bytes (front_of bytes)
unfolding read_within read_stream
stream_step [] = sym (ap (from_front read_stream []) front_none)
stream_step (x ∷ xs) =
    same_front (read_within (length xs)) read_stream (x ∷ xs) (front_of (x ∷ xs)) refl (λ more less. same_within (length xs) (length more) more (omega arith) (omega arith))

-- a frame at the front is the first one
pub stream_frame : (bytes : List ℕ) (f : Frame) (more : List ℕ) → front_of bytes ≡ Ok (Some (f, more)) → read_stream bytes ≡ with_frame f (read_stream more)
stream_frame bytes f more e = stream_step bytes ∙ ap (from_front read_stream bytes) e

-- where no whole frame stands at the front, all waits
pub stream_waits : (bytes : List ℕ) → front_of bytes ≡ Ok None → read_stream bytes ≡ record { frames = []; rest = bytes; fault = None }
stream_waits bytes e = stream_step bytes ∙ ap (from_front read_stream bytes) e

pub stream_bad : (bytes : List ℕ) (fault : FrameFault) → front_of bytes ≡ Err fault → read_stream bytes ≡ record { frames = []; rest = bytes; fault = Some fault }
stream_bad bytes fault e = stream_step bytes ∙ ap (from_front read_stream bytes) e

on_more : (f : Frame) (o : Option FrameFault) (read : StreamRead) (more : List ℕ) → with_frame f (continued o read more) ≡ continued o (with_frame f read) more
on_more f None read more = refl
on_more f (Some fault) read more = refl

joined_case : (a b : List ℕ) (r : Front) → front_of a ≡ r → ((more : List ℕ) → length more < length a → read_stream (more ++ b) ≡ read_on (read_stream more) b)
    → read_stream (a ++ b) ≡ read_on (read_stream a) b
joined_case a b (Ok (Some x)) e on =
    stream_frame (a ++ b) x.0 (x.1 ++ b) (grows a x.0 x.1 b e)
    ∙ ap (with_frame x.0) (on x.1 (front_shorter a x.0 x.1 e))
    ∙ on_more x.0 (read_stream x.1).fault (read_stream x.1) b
    ∙ ap (λ read. read_on read b) (sym (stream_frame a x.0 x.1 e))
joined_case a b (Ok None) e on = sym (ap (λ read. read_on read b) (stream_waits a e))
joined_case a b (Err fault) e on = stream_bad (a ++ b) fault (stays a b fault e) ∙ sym (ap (λ read. read_on read b) (stream_bad a fault e))

joined_within : (n : ℕ) (a b : List ℕ) → length a < n → read_stream (a ++ b) ≡ read_on (read_stream a) b
joined_within zero a b few = absurd (omega arith)
joined_within (suc n) a b few = joined_case a b (front_of a) refl (λ more less. joined_within n more b (omega arith))

-- Where more bytes come after some that have no fault, the frames so far are followed by those of what waits and
-- the new bytes. A fault stays, and what comes waits behind it.
pub stream_joined : (a b : List ℕ) → read_stream (a ++ b) ≡ read_on (read_stream a) b
stream_joined a b = joined_within (suc (length a)) a b (omega arith)

pub stream_empty : read_stream [] ≡ record { frames = []; rest = []; fault = None }
stream_empty = stream_waits [] front_none

-- what was spelled is read
pub stream_of_spelling_and : (f : Frame) (more : List ℕ) → IsFrame f → read_stream (spelling f ++ more) ≡ with_frame f (read_stream more)
stream_of_spelling_and f more good = stream_frame (spelling f ++ more) f more (again f more good)

pub stream_of_spelling : (f : Frame) → IsFrame f → read_stream (spelling f) ≡ record { frames = f ∷ []; rest = []; fault = None }
stream_of_spelling f good =
    ap read_stream (sym (append-nil (spelling f))) ∙ stream_of_spelling_and f [] good ∙ ap (with_frame f) stream_empty
