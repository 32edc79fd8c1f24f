-- One peer's part of a log is what is read of all bytes that came from it, and what was sent to it.
use Rattle.std.proofs.Common.{◌≡◌, inl, inr, ◌==◌, ℕ, suc, ◌<◌, List, [], ◌∷◌, ◌++◌, drop, Option, Some, None, Bool, true, false, if◌then◌else◌, refl, sym, ◌∙◌, ap, subst, arith, Result, Ok, Err}
use Rattle.std.specs.Prelude.{option_to_list}
use Rattle.std.proofs.lemmas.Bool.{cases_Bool, both_ways, false≢true, eqb-true}
use Rattle.std.proofs.lemmas.List.{append-nil}
use Rattle.std.proofs.Common.{append_assoc}
use Rattle.cf_frame.specs.declared.frame.Frame.{Frame}
use Rattle.cf_frame.specs.declared.frame.FrameFault.{FrameFault}
use Rattle.cf_frame.specs.Stream.{StreamRead, with_frames, read_stream, continued}
use Rattle.cf_frame.proofs.Streams.{stream_joined, stream_empty}
use Rattle.cf_msg.specs.declared.msg.Malformed.{Malformed}
use Rattle.cf_msg.specs.declared.msg.Msg.{Msg}
use Rattle.cf_msg.specs.declared.msg.Msg.TheVariants.{Version, Verack, Pong, GetHeaders, GetData, GetCfilters, GetCfheaders}
use Rattle.cf_msg.specs.Reading.{message_of}
use Rattle.cf_wires.specs.declared.event.Delivery.TheVariants.{Got, Gone, Tick, Ended}
use Rattle.cf_wires.specs.declared.event.Event.TheVariants.{Dialled, NotDialled, Sent, SendFailed, Closed, Took}
use Rattle.cf_wires.specs.declared.event.Mark.{Mark}
use Rattle.cf_wires.specs.declared.event.Mark.TheVariants as mark
use Rattle.cf_wires.specs.Log.{Log, tally_of}
use Rattle.cf_peer.specs.Trail.{Trail, Part, Lost, called_part, with_item, item_of, item_of_read, hears, hears_fault, part_after, heard_part, spelled, asks, part_of, trail, is_connected}
use Rattle.cf_peer.specs.Asking.{MayAsk}
use Rattle.cf_sync.specs.Fetching.{Rightly}
use Rattle.cf_sync.specs.Honesty.{messages_asked, messages_said, IsSpelled}
use Rattle.cf_sync.proofs.Entries.{at_either}
use Rattle.cf_played.specs.Answers.{came, told_to}
use Rattle.cf_run.specs.Run.{AreNumbered}
use Rattle.cf_demo.proofs.Beginnings.{word_of, words, words_append, AreMessages, messages_behind}

-- ---- to hear frames

said_item : (r : Result Msg Malformed) (t : Trail) → messages_said (item_of_read r ∷ t) ≡ messages_said t ++ word_of r
said_item (Ok m) t = refl
said_item (Err e) t = sym (append-nil (messages_said t))

pub said_hears : (fs : List Frame) (t : Trail) → messages_said (hears fs t) ≡ messages_said t ++ words fs
said_hears [] t = sym (append-nil (messages_said t))
said_hears (f ∷ fs) t =
    said_hears fs (item_of f ∷ t)
    ∙ ap (λ ms. ms ++ words fs) (said_item (message_of f) t)
    ∙ append_assoc (messages_said t) (word_of (message_of f)) (words fs)

asked_item : (r : Result Msg Malformed) (t : Trail) → messages_asked (item_of_read r ∷ t) ≡ messages_asked t
asked_item (Ok m) t = refl
asked_item (Err e) t = refl

pub asked_hears : (fs : List Frame) (t : Trail) → messages_asked (hears fs t) ≡ messages_asked t
asked_hears [] t = refl
asked_hears (f ∷ fs) t = asked_hears fs (item_of f ∷ t) ∙ asked_item (message_of f) t

spelled_item : (f : Frame) (t : Trail) (m : Msg) → message_of f ≡ Ok m → IsSpelled t → IsSpelled (item_of f ∷ t)
spelled_item f t m e is = subst (λ r. IsSpelled (item_of_read r ∷ t)) (sym e) is

spelled_hears : (fs : List Frame) (t : Trail) → AreMessages fs → IsSpelled t → IsSpelled (hears fs t)
spelled_hears [] t all is = is
spelled_hears (f ∷ fs) t all is = spelled_hears fs (item_of f ∷ t) all.1 (spelled_item f t all.0.0 all.0.1 is)

-- ---- what is read of all that came

-- bytes hold whole frames of messages, and nothing bad waits behind them
pub record IsClean (bytes : List ℕ) : Type 0 where
  pub fine : (read_stream bytes).fault ≡ None
  pub messages : AreMessages (read_stream bytes).frames

-- a part holds what is read of these bytes, and these messages were asked
pub record Agrees (part : Part) (bytes : List ℕ) (told : List Msg) : Type 0 where
  pub waits : part.waits ≡ (read_stream bytes).rest
  pub says : messages_said part.trail ≡ words (read_stream bytes).frames
  pub asks_these : messages_asked part.trail ≡ told
  pub spells : IsSpelled part.trail

-- after more bytes
piece_reads : (bytes piece : List ℕ) → (read_stream bytes).fault ≡ None
    → read_stream (bytes ++ piece) ≡ with_frames (read_stream bytes).frames (read_stream ((read_stream bytes).rest ++ piece))
piece_reads bytes piece e = stream_joined bytes piece ∙ ap (λ (o : Option FrameFault). continued o (read_stream bytes) piece) e

-- a stream without a fault is heard
heard_on : (r s : StreamRead) (t : Trail) (told : List Msg) (fs : List Frame) → s.fault ≡ None → messages_said t ≡ words fs → messages_asked t ≡ told → IsSpelled t → AreMessages s.frames
    → r ≡ with_frames fs s → (messages_said (part_after s t).trail ≡ words r.frames) × (messages_asked (part_after s t).trail ≡ told) × IsSpelled (part_after s t).trail
heard_on r s t told fs clean says ask spells all is =
    let P : Option FrameFault → Type 0 = λ o. (messages_said (hears_fault o (hears s.frames t)) ≡ words r.frames) × (messages_asked (hears_fault o (hears s.frames t)) ≡ told) × IsSpelled (hears_fault o (hears s.frames t)) in
    subst P (sym clean) (
      said_hears s.frames t ∙ ap (λ ms. ms ++ words s.frames) says ∙ sym (words_append fs s.frames) ∙ ap (λ (x : StreamRead). words x.frames) (sym is),
      asked_hears s.frames t ∙ ask,
      spelled_hears s.frames t all spells,
    )

hear_step : (part : Part) (bytes piece : List ℕ) (told : List Msg) → IsClean bytes → IsClean (bytes ++ piece) → Agrees part bytes told → Agrees (heard_part piece part) (bytes ++ piece) told
hear_step part bytes piece told before after a =
    let r : StreamRead = read_stream bytes in
    let s : StreamRead = read_stream (r.rest ++ piece) in
    let whole : read_stream (bytes ++ piece) ≡ with_frames r.frames s = piece_reads bytes piece before.fine in
    let fine : s.fault ≡ None = sym (ap (λ (x : StreamRead). x.fault) whole) ∙ after.fine in
    let all : AreMessages s.frames = messages_behind r.frames s.frames (subst (λ (x : StreamRead). AreMessages x.frames) whole after.messages) in
    let now : read_stream (part.waits ++ piece) ≡ s = ap (λ w. read_stream (w ++ piece)) a.waits in
    let on = heard_on (read_stream (bytes ++ piece)) s part.trail told r.frames fine a.says a.asks_these a.spells all whole in
    let here : Agrees (part_after s part.trail) (bytes ++ piece) told = record {
      waits = sym (ap (λ (x : StreamRead). x.rest) whole);
      says = on.0;
      asks_these = on.1;
      spells = on.2;
    } in
    subst (λ (x : StreamRead). Agrees (part_after x part.trail) (bytes ++ piece) told) (sym now) here

ask_step : (part : Part) (bytes : List ℕ) (told : List Msg) (o : Option Msg) → Agrees part bytes told → Agrees (record part { trail = asks o part.trail }) bytes (told ++ option_to_list o)
ask_step part bytes told None a = subst (λ ms. Agrees part bytes ms) (sym (append-nil told)) a
ask_step part bytes told (Some m) a = record { waits = a.waits; says = a.says; asks_these = ap (λ ms. ms ++ m ∷ []) a.asks_these; spells = a.spells }

lost_step : (part : Part) (bytes : List ℕ) (told : List Msg) (m : Mark) → Agrees part bytes told → Agrees (with_item (Lost m) part) bytes told
lost_step part bytes told m a = record { waits = a.waits; says = a.says; asks_these = a.asks_these; spells = a.spells }

called_step : (part : Part) → Agrees (called_part part) [] []
called_step part = record {
  waits = sym (ap (λ (r : StreamRead). r.rest) stream_empty);
  says = sym (ap (λ (r : StreamRead). words r.frames) stream_empty);
  asks_these = refl;
  spells = tt;
}

-- ---- who may be asked is there

pub asked_there : (t : Trail) (m : Msg) → MayAsk t m → is_connected t ≡ true
asked_there t (Version version services time to from nonce agent height relay) h = h.0
asked_there t Verack h = h.0
asked_there t (Pong n) h = h.0
asked_there t (GetHeaders version locator stop) h = h.0.on
asked_there t (GetData entries) h = h.0.on
asked_there t (GetCfilters filter start stop) h = h.0.on
asked_there t (GetCfheaders filter start stop) h = h.0.on
asked_there t m h = absurd h

-- ---- the log

-- before it is dialled a peer isn't there, and is told nothing
pub record IsAway (part : Part) (told : List Msg) : Type 0 where
  pub off : is_connected part.trail ≡ false
  pub none : told ≡ []

abbrev pub IsOff : Part → Type 0
IsOff part = is_connected part.trail ≡ false

off_hears : (fs : List Frame) (t : Trail) → is_connected (hears fs t) ≡ is_connected t
off_hears [] t = refl
off_hears (f ∷ fs) t = off_hears fs (item_of f ∷ t) ∙ off_item (message_of f) t where
  off_item : (r : Result Msg Malformed) (t : Trail) → is_connected (item_of_read r ∷ t) ≡ is_connected t
  off_item (Ok m) t = refl
  off_item (Err e) t = refl

off_fault : (o : Option FrameFault) (t : Trail) → is_connected (hears_fault o t) ≡ is_connected t
off_fault None t = refl
off_fault (Some fault) t = refl

pub off_read : (r : StreamRead) (t : Trail) → is_connected (part_after r t).trail ≡ is_connected t
off_read r t = off_fault r.fault (hears r.frames t) ∙ off_hears r.frames t

pub away : (log : Log) (p : ℕ) → Rightly log → AreNumbered log → (tally_of log).dials < p → IsAway (part_of log p) (told_to log p)
away [] p right numbered lt = record { off = refl; none = refl }
away (Dialled q name ∷ log) p right numbered lt =
    let before = away log p right numbered.1 (omega (arith, lt)) in
    record {
      off = at_either IsOff (q.0 == p) (called_part (part_of log p)) (part_of log p)
          (λ is. (let here = eqb-true q.0 p is in let n = numbered.0 in absurd (omega (arith, lt, here, n)))) (λ off. before.off);
      none = before.none;
    }
away (NotDialled q name ∷ log) p right numbered lt =
    let before = away log p right numbered.1 (omega (arith, lt)) in
    record { off = at_either IsOff (q.0 == p) (with_item (Lost mark.NotDialled) (part_of log p)) (part_of log p) (λ is. refl) (λ off. before.off); none = before.none }
away (Sent q bytes ∷ log) p right numbered lt =
    let before = away log p right.1 numbered lt in
    let other : q.0 == p ≡ false = elim (cases_Bool (q.0 == p)) [
      | inl is ↦ absurd (both_ways (is_connected (trail log p)) before.off (asked_there (trail log p) right.0.0 (subst (λ (k : ℕ). MayAsk (trail log k) right.0.0) (eqb-true q.0 p is) right.0.2.of_its_part)))
      | inr off ↦ off
    ] in
    record {
      off = at_either IsOff (q.0 == p) (record (part_of log p) { trail = asks (spelled bytes) (trail log p) }) (part_of log p) (λ is. absurd (both_ways (q.0 == p) other is)) (λ off. before.off);
      none = ap (λ (b : Bool). if b then told_to log p ++ option_to_list (spelled bytes) else told_to log p) other ∙ before.none;
    }
away (SendFailed q ∷ log) p right numbered lt =
    let before = away log p right numbered lt in
    record { off = at_either IsOff (q.0 == p) (with_item (Lost mark.SendFailed) (part_of log p)) (part_of log p) (λ is. refl) (λ off. before.off); none = before.none }
away (Closed q ∷ log) p right numbered lt =
    let before = away log p right.1 numbered lt in
    record { off = at_either IsOff (q.0 == p) (with_item (Lost mark.Closed) (part_of log p)) (part_of log p) (λ is. refl) (λ off. before.off); none = before.none }
away (Took (Got q piece) ∷ log) p right numbered lt =
    let before = away log p right.1 numbered lt in
    record { off = at_either IsOff (q.0 == p) (heard_part piece (part_of log p)) (part_of log p) (λ is. off_read (read_stream ((part_of log p).waits ++ piece)) (trail log p) ∙ before.off) (λ off. before.off); none = before.none }
away (Took (Gone q) ∷ log) p right numbered lt =
    let before = away log p right.1 numbered lt in
    record { off = at_either IsOff (q.0 == p) (with_item (Lost mark.Gone) (part_of log p)) (part_of log p) (λ is. refl) (λ off. before.off); none = before.none }
away (Took (Tick s) ∷ log) p right numbered lt = let before = away log p right.1 numbered lt in record { off = before.off; none = before.none }
away (Took Ended ∷ log) p right numbered lt = let before = away log p right.1 numbered lt in record { off = before.off; none = before.none }

-- ---- the part agrees with the log

-- at this moment what came from the peer is clean, and nothing came where it was told nothing
pub record IsFine (log : Log) (p : ℕ) : Type 0 where
  pub clean : IsClean (came log p)
  pub silent : told_to log p ≡ [] → came log p ≡ []

abbrev AgreesOver : Log → ℕ → Type 0
AgreesOver log p = Agrees (part_of log p) (came log p) (told_to log p)

abbrev AgreesWith : List ℕ → List Msg → Part → Type 0
AgreesWith bytes told part = Agrees part bytes told

got_either : (b : Bool) (here other : Part) (c d : List ℕ) (told : List Msg) → Agrees here c told → Agrees other d told → Agrees (if b then here else other) (if b then c else d) told
got_either true here other c d told x y = x
got_either false here other c d told x y = y

sent_either : (b : Bool) (here other : Part) (bytes : List ℕ) (c d : List Msg) → Agrees here bytes c → Agrees other bytes d → Agrees (if b then here else other) bytes (if b then c else d)
sent_either true here other bytes c d x y = x
sent_either false here other bytes c d x y = y

-- what came in all, where this piece is p's
got_clean : (b : Bool) (c d : List ℕ) → b ≡ true → IsClean (if b then c else d) → IsClean c
got_clean true c d e is = is
got_clean false c d e is = absurd (false≢true e)

pub agrees : (log : Log) (p : ℕ) → Rightly log → AreNumbered log → ((k : ℕ) → IsFine (drop k log) p) → AgreesOver log p
agrees [] p right numbered fine = record {
  waits = sym (ap (λ (r : StreamRead). r.rest) stream_empty);
  says = sym (ap (λ (r : StreamRead). words r.frames) stream_empty);
  asks_these = refl;
  spells = tt;
}
agrees (Dialled q name ∷ log) p right numbered fine =
    let before = agrees log p right numbered.1 (λ k. fine (suc k)) in
    at_either (AgreesWith (came log p) (told_to log p)) (q.0 == p) (called_part (part_of log p)) (part_of log p)
    (λ is.
    let here = eqb-true q.0 p is in
    let n = numbered.0 in
    let none : told_to log p ≡ [] = (away log p right numbered.1 (omega (arith, here, n))).none in
    let bare : came log p ≡ [] = (fine 1).silent none in
    subst (λ (b : List ℕ). Agrees (called_part (part_of log p)) b (told_to log p)) (sym bare) (subst (λ (ms : List Msg). Agrees (called_part (part_of log p)) [] ms) (sym none) (called_step (part_of log p))))
    (λ off. before)
agrees (NotDialled q name ∷ log) p right numbered fine =
    let before = agrees log p right numbered.1 (λ k. fine (suc k)) in
    at_either (AgreesWith (came log p) (told_to log p)) (q.0 == p) (with_item (Lost mark.NotDialled) (part_of log p)) (part_of log p) (λ is. lost_step (part_of log p) (came log p) (told_to log p) mark.NotDialled before) (λ off. before)
agrees (Sent q bytes ∷ log) p right numbered fine =
    let before = agrees log p right.1 numbered (λ k. fine (suc k)) in
    sent_either (q.0 == p) (record (part_of log p) { trail = asks (spelled bytes) (trail log p) }) (part_of log p) (came log p) (told_to log p ++ option_to_list (spelled bytes)) (told_to log p)
    (ask_step (part_of log p) (came log p) (told_to log p) (spelled bytes) before) before
agrees (SendFailed q ∷ log) p right numbered fine =
    let before = agrees log p right numbered (λ k. fine (suc k)) in
    at_either (AgreesWith (came log p) (told_to log p)) (q.0 == p) (with_item (Lost mark.SendFailed) (part_of log p)) (part_of log p) (λ is. lost_step (part_of log p) (came log p) (told_to log p) mark.SendFailed before) (λ off. before)
agrees (Closed q ∷ log) p right numbered fine =
    let before = agrees log p right.1 numbered (λ k. fine (suc k)) in
    at_either (AgreesWith (came log p) (told_to log p)) (q.0 == p) (with_item (Lost mark.Closed) (part_of log p)) (part_of log p) (λ is. lost_step (part_of log p) (came log p) (told_to log p) mark.Closed before) (λ off. before)
agrees (Took (Got q piece) ∷ log) p right numbered fine =
    let before = agrees log p right.1 numbered (λ k. fine (suc k)) in
    elim (cases_Bool (q.0 == p)) [
      | inl is ↦ (
          let now : IsClean (came log p ++ piece) = got_clean (q.0 == p) (came log p ++ piece) (came log p) is (fine 0).clean in
          got_either (q.0 == p) (heard_part piece (part_of log p)) (part_of log p) (came log p ++ piece) (came log p) (told_to log p)
          (hear_step (part_of log p) (came log p) piece (told_to log p) (fine 1).clean now before) before)
      | inr off ↦ rw off before
    ]
agrees (Took (Gone q) ∷ log) p right numbered fine =
    let before = agrees log p right.1 numbered (λ k. fine (suc k)) in
    at_either (AgreesWith (came log p) (told_to log p)) (q.0 == p) (with_item (Lost mark.Gone) (part_of log p)) (part_of log p) (λ is. lost_step (part_of log p) (came log p) (told_to log p) mark.Gone before) (λ off. before)
agrees (Took (Tick s) ∷ log) p right numbered fine =
    let before = agrees log p right.1 numbered (λ k. fine (suc k)) in
    record { waits = before.waits; says = before.says; asks_these = before.asks_these; spells = before.spells }
agrees (Took Ended ∷ log) p right numbered fine = agrees log p right.1 numbered (λ k. fine (suc k))
