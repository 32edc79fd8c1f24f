-- What was sent, where it was bytes, are messages as they are written.
use Rattle.std.proofs.Common.{◌≡◌, ℕ, List, [], ◌∷◌, ◌++◌, map, Some, None, Result, Ok, Err, ◌==◌, refl, sym, ap, ◌∙◌, subst}
use Rattle.std.proofs.lemmas.List.{append-nil}
use Rattle.std.specs.List.{flat_map, AllByRecursion}
use Rattle.cf_bytes.specs.Cut.{IsBytes}
use Rattle.cf_frame.specs.declared.frame.Frame.{Frame}
use Rattle.cf_frame.specs.Frame.{IsFrame, spelling}
use Rattle.cf_frame.specs.Stream.{read_stream}
use Rattle.cf_frame.proofs.Relations.{stream_whole}
use Rattle.cf_msg.specs.declared.msg.Malformed.{Malformed}
use Rattle.cf_msg.specs.declared.msg.Msg.{Msg}
use Rattle.cf_msg.specs.Reading.{message_of}
use Rattle.cf_peer.specs.Acts.{bytes_of, IsSendable}
use Rattle.cf_peer.specs.Trail.{message_in, one_message, spelled}
use Rattle.cf_wires.specs.declared.event.Event.TheVariants.{Dialled, NotDialled, Sent, SendFailed, Closed, Took}
use Rattle.cf_wires.specs.Log.{Log}
use Rattle.cf_sync.specs.Fetching.{Rightly}
use Rattle.cf_headline.specs.Grounds.{WereBytes}
use Rattle.cf_headline.specs.Headline.{sends_to, WasSent}
use Rattle.cf_headline.proofs.Parts.{at_one}
use Rattle.cf_headline.proofs.Strings.{written}

-- a stream that is one frame and no more, and what it carries
record IsAlone (frames : List Frame) (rest : List ℕ) (m : Msg) : Type 0 where
  frame : Frame
  one : frames ≡ frame ∷ []
  none : rest ≡ []
  reads : message_of frame ≡ Ok m

one_read : (frames : List Frame) (rest : List ℕ) (m : Msg) → one_message frames rest ≡ Some m → IsAlone frames rest m
one_read [] rest m e = absurd (let clash = e in cc)
one_read (f ∷ []) [] m e = record { frame = f; one = refl; none = refl; reads = by_read (message_of f) refl } where
  by_read : (r : Result Msg Malformed) → message_of f ≡ r → message_of f ≡ Ok m
  by_read (Ok n) is =
      (let same : Some n ≡ Some m = sym (ap message_in is) ∙ e in let n_is : n ≡ m = cc in is ∙ ap (λ x. Ok x) n_is)
  by_read (Err x) is = absurd (let clash : None ≡ Some m = sym (ap message_in is) ∙ e in cc)
one_read (f ∷ []) (b ∷ rest) m e = absurd (let clash = e in cc)
one_read (f ∷ g ∷ fs) rest m e = absurd (let clash = e in cc)

-- bytes that spell one message are that message as it is written
pub record IsOne (bytes : List ℕ) (m : Msg) : Type 0 where
  pub fits : IsSendable m
  pub is : bytes_of m ≡ bytes

spelled_one : (bytes : List ℕ) (m : Msg) → IsBytes bytes → spelled bytes ≡ Some m → IsOne bytes m
spelled_one bytes m are e =
    let alone = one_read (read_stream bytes).frames (read_stream bytes).rest m e in
    let whole = stream_whole bytes are in
    let frame : IsFrame alone.frame = (subst (AllByRecursion IsFrame) alone.one whole.each).0 in
    let is : bytes ≡ spelling alone.frame =
    whole.joined ∙ ap (λ frames. flat_map spelling frames ++ (read_stream bytes).rest) alone.one
    ∙ ap (λ rest. flat_map spelling (alone.frame ∷ []) ++ rest) alone.none
    ∙ append-nil (spelling alone.frame ++ []) ∙ append-nil (spelling alone.frame) in
    let w = written alone.frame m frame (subst IsBytes is are) alone.reads in
    record { fits = w.fits; is = sym w.is ∙ sym is }

fit_last : (ms : List Msg) (m : Msg) → AllByRecursion IsSendable ms → IsSendable m
    → AllByRecursion IsSendable (ms ++ m ∷ [])
fit_last [] m all one = (one, tt)
fit_last (n ∷ ms) m all one = (all.0, fit_last ms m all.1 one)

map_last : (ms : List Msg) (m : Msg) → map bytes_of (ms ++ m ∷ []) ≡ map bytes_of ms ++ bytes_of m ∷ []
map_last [] m = refl
map_last (n ∷ ms) m = ap (λ x. bytes_of n ∷ x) (map_last ms m)

-- messages as they are written
abbrev AreMessages : List (List ℕ) → Type 0
AreMessages sends = (ms : List Msg) × (AllByRecursion IsSendable ms × (map bytes_of ms ≡ sends))

one_more : (sends : List (List ℕ)) (bytes : List ℕ) (m : Msg) → IsOne bytes m → AreMessages sends
    → AreMessages (sends ++ bytes ∷ [])
one_more sends bytes m one are = (
  are.0 ++ m ∷ [],
  (
    fit_last are.0 m are.1.0 one.fits,
    map_last are.0 m
        ∙ ap (λ l. map bytes_of are.0 ++ l ∷ []) one.is ∙ ap (λ l. l ++ bytes ∷ []) are.1.1,
  ),
)

pub sent_messages : (log : Log) (p : ℕ) → WereBytes log → Rightly log → (ms : List Msg) × WasSent ms log p
sent_messages [] p were right = ([], (tt, refl))
sent_messages (Dialled q name ∷ log) p were right =
    at_one AreMessages (q.0 == p) [] (sends_to log p) ([], (tt, refl)) (sent_messages log p were right)
sent_messages (NotDialled q name ∷ log) p were right = sent_messages log p were right
sent_messages (Sent q bytes ∷ log) p were right =
    let before = sent_messages log p were.1 right.1 in
    at_one AreMessages (q.0 == p) (sends_to log p ++ bytes ∷ []) (sends_to log p)
    (one_more (sends_to log p) bytes right.0.0 (spelled_one bytes right.0.0 were.0 right.0.1) before) before
sent_messages (SendFailed q ∷ log) p were right = sent_messages log p were right
sent_messages (Closed q ∷ log) p were right = sent_messages log p were right.1
sent_messages (Took d ∷ log) p were right = sent_messages log p were right.1
