-- What the bytes of one send spell.
use Rattle.std.proofs.Common.{◌≡◌, ℕ, ◌+◌, List, [], ◌∷◌, ◌++◌, length, take, Option, Some, None, Ok, Err, refl, ◌∙◌, ap, arith}
use Rattle.std.specs.Prelude.{◌≢◌}
use Rattle.std.specs.Int.{w32, to_le_bytes}
use Rattle.std.proofs.lemmas.List.{length-append, length-take}
use Rattle.cf_bytes.proofs.HashLemmas.{length-hash_of}
use Rattle.cf_bytes.specs.Hash.{hash_of}
use Rattle.cf_bytes.specs.Magic.{magic}
use Rattle.cf_frame.specs.declared.frame.Frame.{Frame}
use Rattle.cf_frame.specs.declared.frame.FrameFault.{FrameFault}
use Rattle.cf_frame.specs.Frame.{IsFrame, checksum, spelling}
use Rattle.cf_frame.specs.Reading.{Begins, Front, front_of}
use Rattle.cf_frame.specs.Stream.{StreamRead, read_stream, with_frame}
use Rattle.cf_frame.proofs.Streams.{stream_bad, stream_empty, stream_frame, stream_waits}
use Rattle.cf_msg.specs.declared.msg.Msg.{Msg}
use Rattle.cf_msg.specs.Reading.{message_of}
use Rattle.cf_peer.specs.Trail.{alone, message_in, message_of_stream, spelled}

-- a frame's bytes are 24 more than its payload's
pub spelling_size : (f : Frame) → IsFrame f → length (spelling f) ≡ 24 + length f.payload
unfolding spelling
spelling_size f is =
    let sum : length (take 4 (hash_of f.payload)) ≡ 4 = length-take 4 (hash_of f.payload) ∙ omega (arith, length-hash_of f.payload) in
    let a = length-append ((magic ++ f.command) ++ to_le_bytes w32 (length f.payload) ++ checksum f.payload) f.payload in
    let b = length-append ((magic ++ f.command) ++ to_le_bytes w32 (length f.payload)) (checksum f.payload) in
    let c = length-append (magic ++ f.command) (to_le_bytes w32 (length f.payload)) in
    let d = length-append magic f.command in
    omega (arith, a, b, c, d, is.twelve, sum)

-- nothing follows a frame of as many bytes
pub none_follows : (bytes more : List ℕ) (f : Frame) → Begins bytes f more → length bytes ≡ 24 + length f.payload → more ≡ []
none_follows bytes [] f begins size = refl
none_follows bytes (b ∷ more) f begins size =
    let e = length-append (spelling f) (b ∷ more) in
    absurd (omega (arith, e, spelling_size f begins.frame, ap length begins.spelled, size))

pub one_frame : (bytes more : List ℕ) (f : Frame) → front_of bytes ≡ Ok (Some (f, more)) → more ≡ [] → read_stream bytes ≡ record { frames = f ∷ []; rest = []; fault = None }
one_frame bytes more f e none = stream_frame bytes f more e ∙ ap (λ (s : List ℕ). with_frame f (read_stream s)) none ∙ ap (with_frame f) stream_empty

some_follow : (bytes more : List ℕ) (f : Frame) → Begins bytes f more → length bytes ≢ 24 + length f.payload → more ≢ []
some_follow bytes more f begins other none =
    let e = length-append (spelling f) more in
    other (omega (arith, e, spelling_size f begins.frame, ap length begins.spelled, ap length none))

left_over : (rest : List ℕ) (m : Option Msg) → rest ≢ [] → alone rest m ≡ None
left_over [] m some = absurd (some refl)
left_over (b ∷ rest) m some = refl

two_spell : (more : List ℕ) (f : Frame) → more ≢ [] → (r : Front) → front_of more ≡ r → message_of_stream (with_frame f (read_stream more)) ≡ None
two_spell more f some (Ok (Some x)) e = ap (λ (r : StreamRead). message_of_stream (with_frame f r)) (stream_frame more x.0 x.1 e)
two_spell more f some (Ok None) e = ap (λ (r : StreamRead). message_of_stream (with_frame f r)) (stream_waits more e) ∙ left_over more (message_in (message_of f)) some
two_spell more f some (Err fault) e = ap (λ (r : StreamRead). message_of_stream (with_frame f r)) (stream_bad more fault e) ∙ left_over more (message_in (message_of f)) some

-- a frame and more spell nothing
pub more_spells : (bytes more : List ℕ) (f : Frame) → front_of bytes ≡ Ok (Some (f, more)) → Begins bytes f more → length bytes ≢ 24 + length f.payload → spelled bytes ≡ None
more_spells bytes more f e begins other = ap message_of_stream (stream_frame bytes f more e) ∙ two_spell more f (some_follow bytes more f begins other) (front_of more) refl

pub waiting_spells : (bytes : List ℕ) → front_of bytes ≡ Ok None → spelled bytes ≡ None
waiting_spells bytes e = ap message_of_stream (stream_waits bytes e)

pub bad_spells : (bytes : List ℕ) (fault : FrameFault) → front_of bytes ≡ Err fault → spelled bytes ≡ None
bad_spells bytes fault e = ap message_of_stream (stream_bad bytes fault e)
