-- What was written is read again: messages one after another, and a beginning of one more.
use Rattle.std.proofs.Common.{◌≡◌, ◌≢◌, ℕ, zero, suc, List, [], ◌∷◌, ◌++◌, map, Some, None, Result, Ok, Err, refl, sym, ap, ◌∙◌, subst, append_assoc, arith}
use Rattle.std.proofs.lemmas.List.{append-nil}
use Rattle.std.specs.List.{flat_map, AllByRecursion}
use Rattle.cf_bytes.specs.Cut.{IsBytes}
use Rattle.cf_frame.specs.declared.frame.Frame.{Frame}
use Rattle.cf_frame.specs.Frame.{IsFrame, spelling}
use Rattle.cf_frame.specs.Reading.{Front, front_of}
use Rattle.cf_frame.specs.Stream.{StreamRead, read_stream, with_frame, with_frames}
use Rattle.cf_frame.proofs.Again.{again as frame_again}
use Rattle.cf_frame.proofs.Relations.{begins_of, no_prefix}
use Rattle.cf_frame.proofs.Stays.{stays}
use Rattle.cf_frame.proofs.Streams.{stream_waits, stream_of_spelling_and, stream_of_spelling}
use Rattle.cf_msg.specs.declared.msg.Malformed.{Malformed}
use Rattle.cf_msg.specs.declared.msg.Msg.{Msg}
use Rattle.cf_msg.specs.Message.{frame_of}
use Rattle.cf_msg.specs.Reading.{message_of}
use Rattle.cf_msg.proofs.Table.{again, frame_fits}
use Rattle.cf_peer.specs.Acts.{bytes_of, IsSendable}
use Rattle.cf_peer.specs.Trail.{message_in, message_of_stream, spelled}
use Rattle.cf_headline.specs.Headline.{SaysAll}

-- ---- bytes

pub bytes_left : (xs ys : List ℕ) → IsBytes (xs ++ ys) → IsBytes xs
bytes_left [] ys h i = omega arith
bytes_left (x ∷ xs) ys h zero = h zero
bytes_left (x ∷ xs) ys h (suc i) = bytes_left xs ys (λ j. h (suc j)) i

pub bytes_right : (xs ys : List ℕ) → IsBytes (xs ++ ys) → IsBytes ys
bytes_right [] ys h = h
bytes_right (x ∷ xs) ys h = bytes_right xs ys (λ j. h (suc j))

pub bytes_both : (xs ys : List ℕ) → IsBytes xs → IsBytes ys → IsBytes (xs ++ ys)
bytes_both [] ys a b i = b i
bytes_both (x ∷ xs) ys a b zero = a zero
bytes_both (x ∷ xs) ys a b (suc i) = bytes_both xs ys (λ j. a (suc j)) b i

-- ---- a beginning of one frame

right_empty : (xs ys : List ℕ) → xs ++ ys ≡ [] → ys ≡ []
right_empty [] ys e = e
right_empty (x ∷ xs) ys e = absurd (let same = e in cc)

-- it is no frame yet, and no fault
begins_none : (f : Frame) (rest more : List ℕ) → IsFrame f → IsBytes rest → more ≢ [] → rest ++ more ≡ spelling f
    → front_of rest ≡ Ok None
begins_none f rest more fits are some joined = by_front (front_of rest) refl where
  by_front : (r : Front) → front_of rest ≡ r → r ≡ Ok None
  by_front (Ok None) e = refl
  by_front (Ok (Some x)) e =
      let begins = (begins_of rest x.0 x.1 are e).0 in
      let other = no_prefix x.0 f (x.1 ++ more) begins.frame fits
      (sym joined ∙ ap (λ l. l ++ more) begins.spelled ∙ append_assoc (spelling x.0) x.1 more) in
      absurd (some (right_empty x.1 more other.1))
  by_front (Err fault) e =
      let bad : front_of (rest ++ more) ≡ Err fault = stays rest more fault e in
      let good : front_of (rest ++ more) ≡ Ok (Some (f, [])) =
      ap front_of (joined ∙ sym (append-nil (spelling f))) ∙ frame_again f [] fits in
      absurd (let clash = sym bad ∙ good in cc)

-- ---- the messages of frames

-- a message that was read, or none
abbrev pub msg_of : Result Msg Malformed → List Msg
msg_of (Ok m) = m ∷ []
msg_of (Err e) = []

-- the messages that frames carry; what carries none is left out
abbrev pub messages_in : List Frame → List Msg
messages_in [] = []
messages_in (f ∷ fs) = msg_of (message_of f) ++ messages_in fs

-- each frame carries a message
abbrev pub AreRead : List Frame → Type 0
AreRead [] = Unit {0}
AreRead (f ∷ fs) = ((m : Msg) × (message_of f ≡ Ok m)) × AreRead fs

pub messages_append : (fs gs : List Frame) → messages_in (fs ++ gs) ≡ messages_in fs ++ messages_in gs
messages_append [] gs = refl
messages_append (f ∷ fs) gs =
    ap (λ x. msg_of (message_of f) ++ x) (messages_append fs gs)
    ∙ sym (append_assoc (msg_of (message_of f)) (messages_in fs) (messages_in gs))

pub read_left : (fs gs : List Frame) → AreRead (fs ++ gs) → AreRead fs
read_left [] gs h = tt
read_left (f ∷ fs) gs h = (h.0, read_left fs gs h.1)

pub read_right : (fs gs : List Frame) → AreRead (fs ++ gs) → AreRead gs
read_right [] gs h = h
read_right (f ∷ fs) gs h = read_right fs gs h.1

-- the frames of messages carry them
pub frames_say : (ms : List Msg) → AllByRecursion IsSendable ms → messages_in (map frame_of ms) ≡ ms
frames_say [] fit = refl
frames_say (m ∷ ms) fit =
    ap (λ r. msg_of r ++ messages_in (map frame_of ms)) (again m fit.0.spelled) ∙ ap (λ x. m ∷ x) (frames_say ms fit.1)

pub frames_read : (ms : List Msg) → AllByRecursion IsSendable ms → AreRead (map frame_of ms)
frames_read [] fit = tt
frames_read (m ∷ ms) fit = ((m, again m fit.0.spelled), frames_read ms fit.1)

-- ---- reading

-- messages are read one after another, and then what follows them
pub read_messages : (ms : List Msg) (rest : List ℕ) → AllByRecursion IsSendable ms
    → read_stream (flat_map bytes_of ms ++ rest) ≡ with_frames (map frame_of ms) (read_stream rest)
read_messages [] rest fit = refl
read_messages (m ∷ ms) rest fit =
    ap read_stream (append_assoc (bytes_of m) (flat_map bytes_of ms) rest)
    ∙ stream_of_spelling_and (frame_of m) (flat_map bytes_of ms ++ rest) (frame_fits m fit.0.spelled fit.0.short)
    ∙ ap (with_frame (frame_of m)) (read_messages ms rest fit.1)

-- frames, and what waits behind them
abbrev pub read_whole : List Frame → List ℕ → StreamRead
read_whole frames rest = record { frames = frames; rest = rest; fault = None }

-- bytes that say messages and a beginning of one more are read as those
pub all_read : (said : List Msg) (bytes : List ℕ) → IsBytes bytes → (s : SaysAll said bytes)
    → read_stream bytes ≡ read_whole (map frame_of said) s.says.rest
all_read said bytes are s =
    let rest : List ℕ = s.says.rest in
    let none : front_of rest ≡ Ok None =
    begins_none (frame_of s.next) rest s.more (frame_fits s.next s.fits.spelled s.fits.short)
    (bytes_right (flat_map bytes_of said) rest (subst IsBytes s.says.joined are)) s.some s.begun in
    ap read_stream s.says.joined ∙ read_messages said rest s.says.fit
    ∙ ap (with_frames (map frame_of said)) (stream_waits rest none)
    ∙ ap (λ frames. read_whole frames rest) (append-nil (map frame_of said))

-- a message alone is read again
pub spelled_again : (m : Msg) → IsSendable m → spelled (bytes_of m) ≡ Some m
spelled_again m fits =
    ap message_of_stream (stream_of_spelling (frame_of m) (frame_fits m fits.spelled fits.short))
    ∙ ap message_in (again m fits.spelled)
