-- What is read of a beginning of messages' frames.
use Rattle.std.proofs.Common.{◌≡◌, ℕ, List, [], ◌∷◌, ◌++◌, map, Option, Some, None, Result, Ok, Err, refl, sym, ◌∙◌, ap, subst, append_assoc}
use Rattle.std.specs.List.{AllByRecursion}
use Rattle.cf_frame.specs.declared.frame.Frame.{Frame}
use Rattle.cf_frame.specs.declared.frame.FrameFault.{FrameFault}
use Rattle.cf_frame.specs.Stream.{StreamRead, with_frame, read_stream, read_on, continued}
use Rattle.cf_frame.proofs.Streams.{stream_joined, stream_empty, stream_of_spelling_and}
use Rattle.cf_msg.specs.declared.msg.Malformed.{Malformed}
use Rattle.cf_msg.specs.declared.msg.Msg.{Msg}
use Rattle.cf_msg.specs.Message.{frame_of}
use Rattle.cf_msg.specs.Reading.{message_of}
use Rattle.cf_msg.proofs.Table.{again, frame_fits}
use Rattle.cf_peer.specs.Acts.{IsSendable}
use Rattle.cf_server.specs.Serving.{text_of}
use Rattle.cf_server.proofs.Texts.{text-nil, text-cons}

-- ---- the messages of frames

abbrev pub word_of : Result Msg Malformed → List Msg
word_of (Ok m) = m ∷ []
word_of (Err e) = []

abbrev pub words : List Frame → List Msg
words [] = []
words (f ∷ fs) = word_of (message_of f) ++ words fs

pub words_append : (xs ys : List Frame) → words (xs ++ ys) ≡ words xs ++ words ys
words_append [] ys = refl
words_append (f ∷ fs) ys = ap (λ ms. word_of (message_of f) ++ ms) (words_append fs ys) ∙ sym (append_assoc (word_of (message_of f)) (words fs) (words ys))

abbrev pub AreSendable : List Msg → Type 0
AreSendable ms = AllByRecursion IsSendable ms

pub words_again : (ms : List Msg) → AreSendable ms → words (map frame_of ms) ≡ ms
words_again [] all = refl
words_again (m ∷ ms) all = ap (λ r. word_of r ++ words (map frame_of ms)) (again m all.0.spelled) ∙ ap (λ (xs : List Msg). m ∷ xs) (words_again ms all.1)

-- each of them carries a message
abbrev pub AreMessages : List Frame → Type 0
AreMessages [] = Unit {0}
AreMessages (f ∷ fs) = ((m : Msg) × (message_of f ≡ Ok m)) × AreMessages fs

pub messages_again : (ms : List Msg) → AreSendable ms → AreMessages (map frame_of ms)
messages_again [] all = tt
messages_again (m ∷ ms) all = ((m, again m all.0.spelled), messages_again ms all.1)

pub messages_behind : (xs ys : List Frame) → AreMessages (xs ++ ys) → AreMessages ys
messages_behind [] ys all = all
messages_behind (f ∷ fs) ys all = messages_behind fs ys all.1

-- ---- the frames of messages

pub text_reads : (ms : List Msg) → AreSendable ms → read_stream (text_of ms) ≡ record { frames = map frame_of ms; rest = []; fault = None }
text_reads [] all = ap read_stream text-nil ∙ stream_empty
text_reads (m ∷ ms) all =
    ap read_stream (text-cons m ms)
    ∙ stream_of_spelling_and (frame_of m) (text_of ms) (frame_fits m all.0.spelled all.0.short)
    ∙ ap (with_frame (frame_of m)) (text_reads ms all.1)

-- a beginning of a list of frames is that of its messages
record Split (fs : List Frame) (ms : List Msg) : Type 0 where
  said : List Msg
  left : List Msg
  joined : said ++ left ≡ ms
  are : fs ≡ map frame_of said

split : (fs later : List Frame) (ms : List Msg) → fs ++ later ≡ map frame_of ms → Split fs ms
split [] later ms e = record { said = []; left = ms; joined = refl; are = refl }
split (f ∷ fs) later [] e = cc
split (f ∷ fs) later (m ∷ ms) e =
    let first : f ≡ frame_of m = cc in
    let more : fs ++ later ≡ map frame_of ms = cc in
    let w = split fs later ms more in
    record { said = m ∷ w.said; left = w.left; joined = ap (λ (xs : List Msg). m ∷ xs) w.joined; are = (λ i. first i ∷ w.are i) }

-- bytes are a beginning of the frames of messages: what is read of them is a beginning of the messages, and what waits is no bad frame
pub record Begins (ms : List Msg) (bytes : List ℕ) : Type 0 where
  pub said : List Msg
  pub left : List Msg
  pub joined : said ++ left ≡ ms
  pub frames : (read_stream bytes).frames ≡ map frame_of said
  pub clean : (read_stream bytes).fault ≡ None

record Front (r : StreamRead) (fs : List Frame) : Type 0 where
  later : List Frame
  joined : r.frames ++ later ≡ fs
  clean : r.fault ≡ None

front : (o : Option FrameFault) (r : StreamRead) (more : List ℕ) (fs : List Frame) → r.fault ≡ o → continued o r more ≡ record { frames = fs; rest = []; fault = None } → Front r fs
front None r more fs e is = record { later = (read_stream (r.rest ++ more)).frames; joined = ap (λ (x : StreamRead). x.frames) is; clean = e }
front (Some fault) r more fs e is = (let bad : r.fault ≡ None = ap (λ (x : StreamRead). x.fault) is in cc)

pub begins : (ms : List Msg) (bytes more : List ℕ) → AreSendable ms → bytes ++ more ≡ text_of ms → Begins ms bytes
begins ms bytes more all e =
    let whole : read_on (read_stream bytes) more ≡ record { frames = map frame_of ms; rest = []; fault = None } = sym (stream_joined bytes more) ∙ ap read_stream e ∙ text_reads ms all in
    let f = front (read_stream bytes).fault (read_stream bytes) more (map frame_of ms) refl whole in
    let w = split (read_stream bytes).frames f.later ms f.joined in
    record { said = w.said; left = w.left; joined = w.joined; frames = w.are; clean = f.clean }

-- all of them
pub whole_words : (ms : List Msg) (bytes : List ℕ) → AreSendable ms → bytes ≡ text_of ms → words (read_stream bytes).frames ≡ ms
whole_words ms bytes all e = ap (λ b. words (read_stream b).frames) e ∙ ap (λ (r : StreamRead). words r.frames) (text_reads ms all) ∙ words_again ms all

front_sendable : (xs ys : List Msg) → AreSendable (xs ++ ys) → AreSendable xs
front_sendable [] ys all = tt
front_sendable (m ∷ xs) ys all = (all.0, front_sendable xs ys all.1)

pub begun_sendable : (ms : List Msg) (bytes : List ℕ) → AreSendable ms → (b : Begins ms bytes) → AreSendable b.said
begun_sendable ms bytes all b = front_sendable b.said b.left (subst AreSendable (sym b.joined) all)

pub begun_words : (ms : List Msg) (bytes : List ℕ) → AreSendable ms → (b : Begins ms bytes) → words (read_stream bytes).frames ≡ b.said
begun_words ms bytes all b = ap words b.frames ∙ words_again b.said (begun_sendable ms bytes all b)

pub begun_messages : (ms : List Msg) (bytes : List ℕ) → AreSendable ms → (b : Begins ms bytes) → AreMessages (read_stream bytes).frames
begun_messages ms bytes all b = subst AreMessages (sym b.frames) (messages_again b.said (begun_sendable ms bytes all b))
