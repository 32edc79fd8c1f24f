-- The course of a stream.
use Rattle.std.proofs.Common.{◌≡◌, ℕ, suc, ◌+◌, ◌-◌, ◌<◌, List, [], ◌∷◌, ◌++◌, length, Some, None, Ok, Err, refl, sym, ap, ◌∙◌, subst, arith, append_assoc}
use Rattle.std.specs.List.{flat_map, AllByRecursion}
use Rattle.std.proofs.lemmas.List.{append-nil}
use Rattle.std.proofs.lemmas.List.Concat.{flat_map-append}
use Rattle.cf_frame.specs.declared.frame.Frame.{Frame}
use Rattle.cf_frame.specs.declared.frame.FrameFault.{FrameFault}
use Rattle.cf_frame.specs.Frame.{IsFrame, spelling}
use Rattle.cf_frame.specs.Reading.{Front, front_of}
use Rattle.cf_bytes.specs.Cut.{IsBytes}
use Rattle.cf_frame.specs.Stream.{IsBad, IsStreamOf, HasNoFrame}
use Rattle.cf_frame.proofs.Again.{again}
use Rattle.cf_frame.proofs.Relations.{bad_of, begins_of, front_bad}
use Rattle.cf_msg.specs.declared.msg.Malformed.{Malformed}
use Rattle.cf_msg.specs.declared.msg.Msg.{Msg}
use Rattle.cf_msg.specs.Message.{Spells, frame_of}
use Rattle.cf_msg.specs.Reading.{message_of}
use Rattle.cf_msg.proofs.Table.{again as message_again}
use Rattle.cf_server.specs.Serving.{Stop, Waits, IsBad as StopsBad, IsMalformed, IsFull, AreSpelled, stops, with_message, course, most_frames}
use Rattle.cf_server.specs.Taking.{with_messages}
use Rattle.cf_server.proofs.Courses.{course_full, course_waits, course_bad, course_frame_alone}

-- what spells a message is read as it
spelled_read : (m : Msg) (f : Frame) → Spells m f.command f.payload → message_of f ≡ Ok m
spelled_read m f spells =
    let same : f ≡ frame_of m = (λ i. record { command = spells.command_is i; payload = spells.payload_is i }) in
    ap message_of same ∙ message_again m spells.fits

-- frames of messages at the front of bytes, so many of which may still come
course_frames : (n : ℕ) (frames : List Frame) (messages : List Msg) (rest : List ℕ) → AllByRecursion IsFrame frames → AreSpelled messages frames
    → course (length frames + n) (flat_map spelling frames ++ rest) ≡ with_messages messages (course n rest)
course_frames n [] [] rest each spelled = ap (λ k. course k rest) (omega arith)
course_frames n [] (m ∷ ms) rest each spelled = absurd spelled
course_frames n (f ∷ fs) [] rest each spelled = absurd spelled
course_frames n (f ∷ fs) (m ∷ ms) rest each spelled =
    let others = flat_map spelling fs ++ rest in
    let count : length (f ∷ fs) + n ≡ suc (length fs + n) = omega arith in
    ap (λ k. course k ((spelling f ++ flat_map spelling fs) ++ rest)) count
    ∙ ap (course (suc (length fs + n))) (append_assoc (spelling f) (flat_map spelling fs) rest)
    ∙ course_frame_alone (length fs + n) (spelling f ++ others) others f (Ok m) (again f others each.0) (spelled_read m f spelled.0)
    ∙ ap (with_message m) (course_frames n fs ms rest each.1 spelled.1)

-- the last bytes: no whole frame, and no fault
rest_waits : (rest : List ℕ) (r : Front) → front_of rest ≡ r → IsBytes rest → HasNoFrame rest → ((fault : FrameFault) → ¬ (IsBad rest fault)) → front_of rest ≡ Ok None
rest_waits rest (Ok None) e fits ends fine = e
rest_waits rest (Ok (Some x)) e fits ends fine = absurd (ends x.0 x.1 (begins_of rest x.0 x.1 fits e).0)
rest_waits rest (Err fault) e fits ends fine = absurd (fine fault (bad_of rest fault fits e))

-- the bytes after the frames are bytes
rest_fits : (bytes rest : List ℕ) (frames : List Frame) → bytes ≡ flat_map spelling frames ++ rest → AllByRecursion IsFrame frames → IsBytes bytes → IsBytes rest
rest_fits bytes rest [] e each fits = subst IsBytes e fits
rest_fits bytes rest (f ∷ fs) e each fits =
    let others = flat_map spelling fs ++ rest in
    let split : bytes ≡ spelling f ++ others = e ∙ append_assoc (spelling f) (flat_map spelling fs) rest in
    rest_fits others rest fs refl each.1 (begins_of bytes f others fits (ap front_of split ∙ again f others each.0)).1

-- so many frames are fewer than all that may come
pub course_of : (bytes rest : List ℕ) (frames : List Frame) (messages : List Msg) (n : ℕ) → bytes ≡ flat_map spelling frames ++ rest → AllByRecursion IsFrame frames → AreSpelled messages frames
    → length frames + n ≡ most_frames → course most_frames bytes ≡ with_messages messages (course n rest)
course_of bytes rest frames messages n e each spelled count =
    ap (λ k. course k bytes) (sym count) ∙ ap (course (length frames + n)) e ∙ course_frames n frames messages rest each spelled

pub course_stops : (bytes rest : List ℕ) (frames : List Frame) (messages : List Msg) (stop : Stop) → bytes ≡ flat_map spelling frames ++ rest → AllByRecursion IsFrame frames → AreSpelled messages frames
    → length frames < most_frames → ((n : ℕ) → course (suc n) rest ≡ stops stop) → course most_frames bytes ≡ record { messages = messages; stop = stop }
course_stops bytes rest frames messages stop e each spelled few last =
    let n = most_frames - suc (length frames) in
    course_of bytes rest frames messages (suc n) e each spelled (omega arith)
    ∙ ap (with_messages messages) (last n)
    ∙ ap (λ (ms : List Msg). record { messages = ms; stop = stop }) (append-nil messages)

pub stream_waits : (bytes rest : List ℕ) (frames : List Frame) (messages : List Msg) → IsBytes bytes → IsStreamOf bytes frames rest → AreSpelled messages frames → length frames < most_frames
    → ((fault : FrameFault) → ¬ (IsBad rest fault)) → course most_frames bytes ≡ record { messages = messages; stop = Waits }
stream_waits bytes rest frames messages fits stream spelled few fine =
    let waits = rest_waits rest (front_of rest) refl (rest_fits bytes rest frames stream.joined stream.each fits) stream.ends fine in
    course_stops bytes rest frames messages Waits stream.joined stream.each spelled few (λ n. course_waits n rest waits)

pub stream_bad : (bytes rest : List ℕ) (frames : List Frame) (messages : List Msg) (fault : FrameFault) → IsStreamOf bytes frames rest → AreSpelled messages frames → length frames < most_frames
    → IsBad rest fault → course most_frames bytes ≡ record { messages = messages; stop = StopsBad fault }
stream_bad bytes rest frames messages fault stream spelled few bad =
    course_stops bytes rest frames messages (StopsBad fault) stream.joined stream.each spelled few (λ n. course_bad n rest fault (front_bad rest fault bad))

front_frames : (a b : List Frame) → AllByRecursion IsFrame (a ++ b) → AllByRecursion IsFrame a × AllByRecursion IsFrame b
front_frames [] b each = (tt, each)
front_frames (f ∷ fs) b each = let more = front_frames fs b each.1 in ((each.0, more.0), more.1)

joined_frames : (bytes rest : List ℕ) (a b : List Frame) → bytes ≡ flat_map spelling (a ++ b) ++ rest → bytes ≡ flat_map spelling a ++ (flat_map spelling b ++ rest)
joined_frames bytes rest a b e = e ∙ ap (λ t. t ++ rest) (flat_map-append spelling a b) ∙ append_assoc (flat_map spelling a) (flat_map spelling b) rest

pub stream_malformed : (bytes rest : List ℕ) (frames others : List Frame) (f : Frame) (messages : List Msg) (fault : Malformed) → IsStreamOf bytes (frames ++ f ∷ others) rest
    → AreSpelled messages frames → length frames < most_frames → message_of f ≡ Err fault → course most_frames bytes ≡ record { messages = messages; stop = IsMalformed fault }
stream_malformed bytes rest frames others f messages fault stream spelled few is =
    let parts = front_frames frames (f ∷ others) stream.each in
    let more = flat_map spelling others ++ rest in
    let here : (spelling f ++ flat_map spelling others) ++ rest ≡ spelling f ++ more = append_assoc (spelling f) (flat_map spelling others) rest in
    course_stops bytes (flat_map spelling (f ∷ others) ++ rest) frames messages (IsMalformed fault) (joined_frames bytes rest frames (f ∷ others) stream.joined) parts.0 spelled few
    (λ n. ap (course (suc n)) here ∙ course_frame_alone n (spelling f ++ more) more f (Err fault) (again f more parts.1.0) is)

pub stream_full : (bytes rest : List ℕ) (frames others : List Frame) (messages : List Msg) → IsStreamOf bytes (frames ++ others) rest → AreSpelled messages frames
    → length frames ≡ most_frames → course most_frames bytes ≡ record { messages = messages; stop = IsFull }
stream_full bytes rest frames others messages stream spelled all =
    let parts = front_frames frames others stream.each in
    let more = flat_map spelling others ++ rest in
    course_of bytes more frames messages 0 (joined_frames bytes rest frames others stream.joined) parts.0 spelled (omega (arith, all))
    ∙ ap (with_messages messages) (course_full more)
    ∙ ap (λ (ms : List Msg). record { messages = ms; stop = IsFull }) (append-nil messages)
