-- What the frame at the front says, whatever follows it.
use Rattle.std.proofs.Common.{◌≡◌, ℕ, ◌<◌, true, List, ◌∷◌, ◌++◌, length, Some, None, Ok, Err, refl}
use Rattle.cf_frame.specs.declared.frame.Frame.{Frame}
use Rattle.cf_frame.specs.declared.frame.FrameFault.{FrameFault}
use Rattle.cf_frame.specs.Reading.{Front, front_of}
use Rattle.cf_frame.specs.Lending.{HasFrame, after_frame, behind, is_frame}
use Rattle.cf_frame.specs.Stream.{read_stream}
use Rattle.cf_frame.proofs.Fields.{front_shorter, grows}
use Rattle.cf_frame.proofs.Stays.{stays}
use Rattle.cf_msg.specs.declared.msg.Malformed.{Malformed}
use Rattle.cf_msg.specs.declared.msg.Msg.{Msg}
use Rattle.cf_msg.specs.Reading.{message_of}
use Rattle.cf_peer.specs.declared.peer.Cause.TheVariants.{BadFrame, Malformed as IsMalformed}
use Rattle.cf_peer.specs.Trail.{Trail, Said, part_after}
use Rattle.cf_peer.specs.Asking.{verdict}
use Rattle.cf_peer.specs.Hearing.{Faulty}
use Rattle.cf_peer.proofs.Stream.{message_leads, malformed_leads, bad_leads}

pub message_on : (old : List ℕ) (f : Frame) (m : Msg) → front_of old ≡ Ok (Some (f, after_frame old))
    → message_of f ≡ Ok m
    → (t : Trail) (more : List ℕ)
    → part_after (read_stream (old ++ more)) t ≡ part_after (read_stream (after_frame old ++ more)) (Said m ∷ t)
message_on old f m front is t more =
    message_leads (old ++ more) (after_frame old ++ more) f m t (grows old f (after_frame old) more front) is

pub malformed_on : (old : List ℕ) (f : Frame) (e : Malformed) → front_of old ≡ Ok (Some (f, after_frame old))
    → message_of f ≡ Err e
    → (t : Trail) (more : List ℕ) → verdict t ≡ None
    → Faulty t (part_after (read_stream (old ++ more)) t).trail IsMalformed
malformed_on old f e front is t more clean =
    malformed_leads (old ++ more) (after_frame old ++ more) f e t clean (grows old f (after_frame old) more front) is

pub bad_on : (old : List ℕ) (fault : FrameFault) → front_of old ≡ Err fault
    → (t : Trail) (more : List ℕ) → verdict t ≡ None
    → Faulty t (part_after (read_stream (old ++ more)) t).trail BadFrame
bad_on old fault front t more clean = bad_leads (old ++ more) fault t clean (stays old more fault front)

-- fewer bytes are left once the frame at the front is done with
frame_shorter : (bytes : List ℕ) (r : Front) → front_of bytes ≡ r → is_frame r ≡ true
    → length (behind bytes r) < length bytes
frame_shorter bytes (Ok (Some x)) e is = front_shorter bytes x.0 x.1 e
frame_shorter bytes (Ok None) e is = cc
frame_shorter bytes (Err fault) e is = cc

pub done_shorter : (bytes : List ℕ) → HasFrame bytes → length (after_frame bytes) < length bytes
done_shorter bytes has = frame_shorter bytes (front_of bytes) refl has
