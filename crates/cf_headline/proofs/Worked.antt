-- A run that the headline speaks of: that of an honest peer, whose filter clears its block, and a liar.
use Rattle.std.proofs.Common.{◌≡◌, ◌≢◌, inl, inr, ℕ, ◌≤◌, List, [], ◌∷◌, ◌++◌, map, length, Option, Some, None, Bool, true, false, ◌==◌, ◌||◌, refl, sym, ap, ◌∙◌, subst, append_assoc, arith}
use Rattle.std.proofs.lemmas.Bool.{both_ways, false≢true}
use Rattle.std.proofs.lemmas.List.{append-nil}
use Rattle.std.specs.List.{flat_map, AllByRecursion}
use Rattle.std.specs.Prelude.{codes}
use Rattle.cf_block.specs.declared.header.Header.{Header}
use Rattle.cf_bytes.specs.declared.peer.PeerNo.{PeerNo}
use Rattle.cf_frame.specs.declared.frame.Frame.{Frame}
use Rattle.cf_frame.specs.Frame.{IsFrame, spelling}
use Rattle.cf_frame.specs.Stream.{StreamRead, read_stream, with_frame, with_frames}
use Rattle.cf_frame.proofs.Streams.{stream_empty, stream_of_spelling, stream_of_spelling_and}
use Rattle.cf_headers.specs.Chain.{IsIn, NoHashClash}
use Rattle.cf_headers.specs.Shown.{IsShown}
use Rattle.cf_msg.specs.declared.msg.Msg.{Msg}
use Rattle.cf_msg.specs.declared.msg.Msg.TheVariants.{Verack}
use Rattle.cf_msg.specs.Message.{frame_of, is_version}
use Rattle.cf_msg.proofs.Table.{again, frame_fits}
use Rattle.cf_peer.specs.Acts.{bytes_of, IsSendable}
use Rattle.cf_peer.specs.Asking.{lists_in}
use Rattle.cf_peer.specs.Trail.{Trail, Part, called_part, heard_part, spelled, asks, part_of, trail, is_connected, is_greeted}
use Rattle.cf_scan.specs.HistoryText.{history_text}
use Rattle.cf_wires.specs.declared.event.Delivery.TheVariants.{Got, Tick}
use Rattle.cf_wires.specs.declared.event.Event.TheVariants.{Dialled, Sent, Took}
use Rattle.cf_wires.specs.Log.{Log}
use Rattle.cf_sync.specs.Example.{only_header, only_hash, chain_of_one, honest_peer, liar, our_version, its_version, false_version, question, its_headers, false_headers, ask_claims, its_claims, ask_filter, its_filter, log_1, log_2, log_3, log_4, log_5, log_6, log_7, log_8, log_9, log_10, log_11, log_12, log_13, log_14, log_15, log_16, log_17, log_18, cleared_run, other_watch}
use Rattle.cf_sync.specs.Honesty.{plain, IsPrefixOf}
use Rattle.cf_sync.specs.Sync.{strings_of}
use Rattle.cf_sync.proofs.Cleared.{cleared_asked}
use Rattle.cf_sync.proofs.Entries.{at_either}
use Rattle.cf_sync.proofs.Listed.{in_left, in_right}
use Rattle.cf_sync.proofs.TwoPeers.{IsKnown, no_clash, headers_known, filter_known, chain_known, t_11, counts_11, only_of, good_chain, cleared_quiet, says_2, says_3, says_4, says_5, says_6, heard_7, heard_8, heard_9, heard_10, heard_11}
use Rattle.cf_sync.proofs.Written.{our_sendable, its_sendable, false_sendable, verack_sendable, question_sendable, headers_sendable, none_sendable, claims_sendable, filter_sendable, ask_claims_sendable, ask_filter_sendable}
use Rattle.cf_headline.specs.Grounds.{HasWritten, WereGreeted}
use Rattle.cf_headline.specs.Headline.{bytes_from, sends_to, seconds_in, Says, StandsIn, machine, lists_of, IsHonestAt, WasHonest, IsCarried, IsString, IsServing, IsLongest}
use Rattle.cf_headline.proofs.Again.{messages_in, messages_append, msg_of, frames_say, read_messages, spelled_again}
use Rattle.cf_headline.proofs.Others.{one_list, shown_either}
use Rattle.cf_headline.proofs.Parts.{at_one}
use Rattle.cf_headline.proofs.Timely.{unmoved_piece}

-- ---- what came are messages whose strings and headers are known

record Knows (m : Msg) : Type 0 where
  strings : (bytes : List ℕ) → IsIn bytes (strings_of m) → IsKnown bytes
  headers : (h : Header) → IsShown (lists_in m) h → h ≡ only_header

record Came (bytes : List ℕ) : Type 0 where
  ms : List Msg
  fit : AllByRecursion IsSendable ms
  is : bytes ≡ flat_map bytes_of ms
  known : AllByRecursion Knows ms

none_came : Came []
none_came = record { ms = []; fit = tt; is = refl; known = tt }

flat_last : (ms : List Msg) (m : Msg) → flat_map bytes_of ms ++ bytes_of m ≡ flat_map bytes_of (ms ++ m ∷ [])
flat_last [] m = sym (append-nil (bytes_of m))
flat_last (n ∷ ms) m =
    append_assoc (bytes_of n) (flat_map bytes_of ms) (bytes_of m) ∙ ap (λ l. bytes_of n ++ l) (flat_last ms m)

all_last : (P : Msg → Type 0) (ms : List Msg) (m : Msg) → AllByRecursion P ms → P m → AllByRecursion P (ms ++ m ∷ [])
all_last P [] m all one = (one, tt)
all_last P (n ∷ ms) m all one = (all.0, all_last P ms m all.1 one)

one_came : (bytes : List ℕ) (m : Msg) → IsSendable m → Knows m → Came bytes → Came (bytes ++ bytes_of m)
one_came bytes m fits knows c = record {
  ms = c.ms ++ m ∷ [];
  fit = all_last IsSendable c.ms m c.fit fits;
  is = ap (λ l. l ++ bytes_of m) c.is ∙ flat_last c.ms m;
  known = all_last Knows c.ms m c.known knows;
}

abbrev Comes : Log → Type 0
Comes log = (q : ℕ) → Came (bytes_from log q)

comes_got : (p : PeerNo) (m : Msg) (log : Log) → IsSendable m → Knows m → Comes log
    → Comes (Took (Got p (bytes_of m)) ∷ log)
comes_got p m log fits knows before q =
    at_one Came (p.0 == q) (bytes_from log q ++ bytes_of m) (bytes_from log q)
    (one_came (bytes_from log q) m fits knows (before q)) (before q)

comes_dialled : (p : PeerNo) (name : List ℕ) (log : Log) → Comes log → Comes (Dialled p name ∷ log)
comes_dialled p name log before q = at_one Came (p.0 == q) [] (bytes_from log q) none_came (before q)

-- ---- what stands in it, or what it begins with, is among them

read_frames : (frames : List Frame) (rest : List ℕ) → AllByRecursion IsFrame frames
    → read_stream (flat_map spelling frames ++ rest) ≡ with_frames frames (read_stream rest)
read_frames [] rest each = refl
read_frames (f ∷ fs) rest each =
    ap read_stream (append_assoc (spelling f) (flat_map spelling fs) rest)
    ∙ stream_of_spelling_and f (flat_map spelling fs ++ rest) each.0
    ∙ ap (with_frame f) (read_frames fs rest each.1)

-- the messages of a stream
abbrev messages_read : StreamRead → List Msg
messages_read r = messages_in r.frames

came_read : (bytes : List ℕ) (c : Came bytes) → messages_read (read_stream bytes) ≡ c.ms
came_read bytes c =
    ap (λ l. messages_read (read_stream l)) (c.is ∙ sym (append-nil (flat_map bytes_of c.ms)))
    ∙ ap messages_read (read_messages c.ms [] c.fit)
    ∙ ap (λ r. messages_read (with_frames (map frame_of c.ms) r)) stream_empty
    ∙ ap messages_in (append-nil (map frame_of c.ms)) ∙ frames_say c.ms c.fit

stands_among : (bytes : List ℕ) (c : Came bytes) (m : Msg) → StandsIn m bytes → IsIn m c.ms
stands_among bytes c m s =
    let more : StreamRead = read_stream s.rest in
    let read : messages_read (read_stream bytes) ≡ messages_in s.frames ++ (m ∷ messages_in more.frames) =
    ap (λ l. messages_read (read_stream l)) s.joined
    ∙ ap messages_read (read_frames s.frames (bytes_of m ++ s.rest) s.each)
    ∙ ap (λ r. messages_read (with_frames s.frames r))
    (stream_of_spelling_and (frame_of m) s.rest (frame_fits m s.fits.spelled s.fits.short))
    ∙ messages_append s.frames (frame_of m ∷ more.frames)
    ∙ ap (λ r. messages_in s.frames ++ (msg_of r ++ messages_in more.frames)) (again m s.fits.spelled) in
    subst (IsIn m) (sym read ∙ came_read bytes c)
    (in_right m (messages_in s.frames) (m ∷ messages_in more.frames) (inl refl))

says_among : (bytes : List ℕ) (c : Came bytes) (ms : List Msg) → Says ms bytes → (m : Msg) → IsIn m ms → IsIn m c.ms
says_among bytes c ms s m among =
    let more : StreamRead = read_stream s.rest in
    let read : messages_read (read_stream bytes) ≡ ms ++ messages_in more.frames =
    ap (λ l. messages_read (read_stream l)) s.joined ∙ ap messages_read (read_messages ms s.rest s.fit)
    ∙ messages_append (map frame_of ms) more.frames ∙ ap (λ l. l ++ messages_in more.frames) (frames_say ms s.fit) in
    subst (IsIn m) (sym read ∙ came_read bytes c) (in_left m ms (messages_in more.frames) among)

known_of : (ms : List Msg) (m : Msg) → AllByRecursion Knows ms → IsIn m ms → Knows m
known_of [] m known among = absurd among
known_of (n ∷ ms) m known (inl is) = subst Knows (sym is) known.0
known_of (n ∷ ms) m known (inr among) = known_of ms m known.1 among

abbrev AllCome : Log → Type 0
AllCome [] = Unit {0}
AllCome (e ∷ log) = Comes (e ∷ log) × AllCome log

carried_known : (log : Log) (bytes : List ℕ) → AllCome log → IsCarried log bytes → IsKnown bytes
carried_known [] bytes all carried = absurd carried
carried_known (e ∷ log) bytes all (inl now) =
    let c = all.0 now.0 in
    (known_of c.ms now.1.0 c.known (stands_among (bytes_from (e ∷ log) now.0) c now.1.0 now.1.1.0)).strings bytes
    now.1.1.1
carried_known (e ∷ log) bytes all (inr before) = carried_known log bytes all.1 before

-- ---- the messages of this run

plain_known : (m : Msg) → strings_of m ≡ [] → lists_in m ≡ [] → Knows m
plain_known m none empty = record {
  strings = λ bytes among. absurd (subst (IsIn bytes) none among);
  headers = λ h shown. absurd (subst (λ ls. IsShown ls h) empty shown);
}

its_headers_known : Knows its_headers
its_headers_known = record { strings = headers_known; headers = told } where
  told : (h : Header) → IsShown ((only_header ∷ []) ∷ []) h → h ≡ only_header
  told h (inl (inl e)) = e
  told h (inl (inr none)) = absurd none
  told h (inr none) = absurd none

false_headers_known : Knows false_headers
false_headers_known = record { strings = λ bytes among. absurd among; headers = told } where
  told : (h : Header) → IsShown ([] ∷ []) h → h ≡ only_header
  told h (inl none) = absurd none
  told h (inr none) = absurd none

its_filter_known : Knows its_filter
its_filter_known = record { strings = filter_known; headers = λ h none. absurd none }

comes_0 : Comes []
comes_0 q = none_came

comes_2 : Comes log_2
comes_2 = comes_dialled honest_peer (codes "one") [] comes_0

comes_4 : Comes log_4
comes_4 = comes_dialled liar (codes "two") log_2 comes_2

comes_6 : Comes log_6
comes_6 = comes_got liar false_version log_4 false_sendable (plain_known false_version refl refl) comes_4

comes_8 : Comes log_8
comes_8 = comes_got liar Verack log_6 verack_sendable (plain_known Verack refl refl) comes_6

comes_9 : Comes log_9
comes_9 = comes_got liar false_headers log_8 none_sendable false_headers_known comes_8

comes_11 : Comes log_11
comes_11 = comes_got honest_peer its_version log_9 its_sendable (plain_known its_version refl refl) comes_9

comes_13 : Comes log_13
comes_13 = comes_got honest_peer Verack log_11 verack_sendable (plain_known Verack refl refl) comes_11

comes_15 : Comes log_15
comes_15 = comes_got honest_peer its_headers log_13 headers_sendable its_headers_known comes_13

comes_17 : Comes log_17
comes_17 = comes_got honest_peer its_claims log_15 claims_sendable (plain_known its_claims refl refl) comes_15

comes_18 : Comes cleared_run
comes_18 = comes_got honest_peer its_filter log_17 filter_sendable its_filter_known comes_17

all_come : AllCome cleared_run
all_come = (
  comes_18,
  (
    comes_17,
    (
      comes_17,
      (
        comes_15,
        (
          comes_15,
          (
            comes_13,
            (
              comes_13,
              (
                comes_11,
                (
                  comes_11,
                  (comes_9, (comes_8, (comes_8, (comes_6, (comes_6, (comes_4, (comes_4, (comes_2, (comes_2, tt))))))))),
                ),
              ),
            ),
          ),
        ),
      ),
    ),
  ),
)

string_known : (bytes : List ℕ) → IsString cleared_run chain_of_one bytes → IsKnown bytes
string_known bytes (inl first) = inl first
string_known bytes (inr (inl carried)) = carried_known cleared_run bytes all_come carried
string_known bytes (inr (inr own)) = chain_known bytes own

strings_apart : NoHashClash (IsString cleared_run chain_of_one)
strings_apart = record {
  apart = λ a b one two same. no_clash.apart a b (string_known a one) (string_known b two) same;
  real = λ a one zero. no_clash.real a (string_known a one) zero;
}

-- ---- nobody shows another chain

shown_in : (ms : List Msg) (h : Header) → IsShown (lists_of ms) h → (m : Msg) × (IsIn m ms × IsShown (lists_in m) h)
shown_in [] h shown = absurd shown
shown_in (n ∷ ms) h shown =
    elim (shown_either (lists_in n) (lists_of ms) h (subst (λ ls. IsShown ls h) (one_list n ms) shown)) [
      | inl now ↦ (n, (inl refl, now))
      | inr later ↦ (let w = shown_in ms h later in (w.0, (inr w.1.0, w.1.1)))
    ]

pub longest : IsLongest cleared_run chain_of_one
longest q ms other there says shows long =
    only_of other t_11 counts_11.showing refl (record {
      valid = shows.valid;
      within = shows.within;
      told = λ h among. subst (λ ls. IsShown ls h) (sym counts_11.showing) (inl (inl (told h (shows.told h among))));
    }) long
  where
    told : (h : Header) → IsShown (lists_of ms) h → h ≡ only_header
    told h shown =
        let c = comes_18 q in
        let w = shown_in ms h shown in
        (known_of c.ms w.0 c.known (says_among (bytes_from cleared_run q) c ms says w.0 w.1.0)).headers h w.1.1

-- ---- an honest moment

verack_some : bytes_of Verack ≢ []
verack_some e =
    let read =
    sym (stream_of_spelling (frame_of Verack) (frame_fits Verack verack_sendable.spelled verack_sendable.short))
    ∙ ap read_stream e ∙ stream_empty in
    let clash = ap (λ (r : StreamRead). length r.frames) read in
    absurd (omega (arith, clash))

later_seconds : (later older : Log) → seconds_in later ≤ seconds_in (later ++ older)
later_seconds [] older = omega arith
later_seconds (Took (Tick s) ∷ later) older = (let before = later_seconds later older in omega (arith, before))
later_seconds (e ∷ later) older = later_seconds later older

moment : (log : Log) (said asked : List Msg) → AllByRecursion IsSendable said → AllByRecursion IsSendable asked
    → bytes_from log 1 ≡ flat_map bytes_of said
    → map bytes_of asked ≡ sends_to log 1 → seconds_in log ≡ 0 → IsPrefixOf (plain said) (machine chain_of_one asked)
    → IsHonestAt log 1 chain_of_one
moment log said asked fit_said fit_asked came sent still follows = record {
  said = said;
  asked = asked;
  says = record {
    says = record { fit = fit_said; rest = []; joined = came ∙ sym (append-nil (flat_map bytes_of said)) };
    next = Verack;
    fits = verack_sendable;
    more = bytes_of Verack;
    some = verack_some;
    begun = refl;
  };
  sent = (fit_asked, sent);
  follows = follows;
  in_time = λ later older before joined late was.
      (let few = later_seconds later older in let none : seconds_in (later ++ older) ≡ 0 = ap seconds_in joined
      ∙ still in absurd (omega (arith, few, none, late)));
}

abbrev said_10 : List Msg
said_10 = its_version ∷ []

abbrev said_12 : List Msg
said_12 = its_version ∷ Verack ∷ []

abbrev said_14 : List Msg
said_14 = its_version ∷ Verack ∷ its_headers ∷ []

abbrev said_16 : List Msg
said_16 = its_version ∷ Verack ∷ its_headers ∷ its_claims ∷ []

abbrev said_18 : List Msg
said_18 = its_version ∷ Verack ∷ its_headers ∷ its_claims ∷ its_filter ∷ []

abbrev asked_2 : List Msg
asked_2 = our_version ∷ []

abbrev asked_11 : List Msg
asked_11 = our_version ∷ Verack ∷ []

abbrev asked_13 : List Msg
asked_13 = our_version ∷ Verack ∷ question ∷ []

abbrev asked_15 : List Msg
asked_15 = our_version ∷ Verack ∷ question ∷ ask_claims ∷ []

abbrev asked_17 : List Msg
asked_17 = our_version ∷ Verack ∷ question ∷ ask_claims ∷ ask_filter ∷ []

fit_12 : AllByRecursion IsSendable said_12
fit_12 = (its_sendable, (verack_sendable, tt))

fit_14 : AllByRecursion IsSendable said_14
fit_14 = (its_sendable, (verack_sendable, (headers_sendable, tt)))

fit_16 : AllByRecursion IsSendable said_16
fit_16 = (its_sendable, (verack_sendable, (headers_sendable, (claims_sendable, tt))))

fit_18 : AllByRecursion IsSendable said_18
fit_18 = (its_sendable, (verack_sendable, (headers_sendable, (claims_sendable, (filter_sendable, tt)))))

fits_2 : AllByRecursion IsSendable asked_2
fits_2 = (our_sendable, tt)

fits_11 : AllByRecursion IsSendable asked_11
fits_11 = (our_sendable, (verack_sendable, tt))

fits_13 : AllByRecursion IsSendable asked_13
fits_13 = (our_sendable, (verack_sendable, (question_sendable, tt)))

fits_15 : AllByRecursion IsSendable asked_15
fits_15 = (our_sendable, (verack_sendable, (question_sendable, (ask_claims_sendable, tt))))

fits_17 : AllByRecursion IsSendable asked_17
fits_17 = (our_sendable, (verack_sendable, (question_sendable, (ask_claims_sendable, (ask_filter_sendable, tt)))))

came_10 : bytes_from log_10 1 ≡ flat_map bytes_of said_10
came_10 = flat_last [] its_version

came_12 : bytes_from log_12 1 ≡ flat_map bytes_of said_12
came_12 = ap (λ l. l ++ bytes_of Verack) came_10 ∙ flat_last said_10 Verack

came_14 : bytes_from log_14 1 ≡ flat_map bytes_of said_14
came_14 = ap (λ l. l ++ bytes_of its_headers) came_12 ∙ flat_last said_12 its_headers

came_16 : bytes_from log_16 1 ≡ flat_map bytes_of said_16
came_16 = ap (λ l. l ++ bytes_of its_claims) came_14 ∙ flat_last said_14 its_claims

came_18 : bytes_from log_18 1 ≡ flat_map bytes_of said_18
came_18 = ap (λ l. l ++ bytes_of its_filter) came_16 ∙ flat_last said_16 its_filter

-- before it says anything
early : (log : Log) → bytes_from log 1 ≡ [] → map bytes_of asked_2 ≡ sends_to log 1 → seconds_in log ≡ 0
    → IsHonestAt log 1 chain_of_one
early log came sent still = moment log [] asked_2 tt fits_2 came sent still says_2.follows

honest_9 : WasHonest log_9 1 chain_of_one
honest_9 = (
  early log_9 refl refl refl,
  tt,
  (
    early log_8 refl refl refl,
    tt,
    (
      early log_7 refl refl refl,
      tt,
      (
        early log_6 refl refl refl,
        tt,
        (
          early log_5 refl refl refl,
          tt,
          (
            early log_4 refl refl refl,
            tt,
            (
              early log_3 refl refl refl,
              tt,
              (
                early log_2 refl refl refl,
                tt,
                (moment log_1 [] [] tt tt refl refl refl ([], refl), tt, tt),
              ),
            ),
          ),
        ),
      ),
    ),
  ),
)

honest_13 : WasHonest log_13 1 chain_of_one
honest_13 = (
  moment log_13 said_12 asked_13 fit_12 fits_13 came_12 refl refl says_6.follows,
  tt,
  (
    moment log_12 said_12 asked_11 fit_12 fits_11 came_12 refl refl says_5.follows,
    tt,
    (
      moment log_11 said_10 asked_11 (its_sendable, tt) fits_11 came_10 refl refl says_4.follows,
      tt,
      (moment log_10 said_10 asked_2 (its_sendable, tt) fits_2 came_10 refl refl says_3.follows, tt, honest_9),
    ),
  ),
)

honest_18 : WasHonest log_18 1 chain_of_one
honest_18 = (
  moment log_18 said_18 asked_17 fit_18 fits_17 came_18 refl refl heard_11.follows,
  tt,
  (
    moment log_17 said_16 asked_17 fit_16 fits_17 came_16 refl refl heard_10.follows,
    tt,
    (
      moment log_16 said_16 asked_15 fit_16 fits_15 came_16 refl refl heard_9.follows,
      tt,
      (
        moment log_15 said_14 asked_15 fit_14 fits_15 came_14 refl refl heard_8.follows,
        tt,
        (moment log_14 said_14 asked_13 fit_14 fits_13 came_14 refl refl heard_7.follows, tt, honest_13),
      ),
    ),
  ),
)

pub serving : IsServing cleared_run 1 chain_of_one
serving = record { good = good_chain; dialled = refl; honest = honest_18; apart = strings_apart }

-- ---- who was greeted

abbrev IsGreetedPart : Part → Type 0
IsGreetedPart part = is_connected part.trail ≡ true → is_greeted part.trail ≡ true

abbrev Greets : Log → Type 0
Greets log = (q : ℕ) → is_connected (trail log q) ≡ true → is_greeted (trail log q) ≡ true

greets_got : (p : PeerNo) (piece : List ℕ) (log : Log) → Greets log → Greets (Took (Got p piece) ∷ log)
greets_got p piece log before q =
    at_either IsGreetedPart (p.0 == q) (heard_part piece (part_of log q)) (part_of log q)
    (λ is on. let same = unmoved_piece piece (part_of log q) in same.greeted ∙ before q (sym same.on ∙ on))
    (λ off. before q)

asks_greeted : (o : Option Msg) (t : Trail) → (is_connected t ≡ true → is_greeted t ≡ true)
    → is_connected (asks o t) ≡ true → is_greeted (asks o t) ≡ true
asks_greeted None t before on = before on
asks_greeted (Some m) t before on = ap (λ b. is_version m || b) (before on) ∙ or_true (is_version m) where
  or_true : (b : Bool) → (b || true) ≡ true
  or_true true = refl
  or_true false = refl

greets_sent : (p : PeerNo) (bytes : List ℕ) (log : Log) → Greets log → Greets (Sent p bytes ∷ log)
greets_sent p bytes log before q =
    at_either IsGreetedPart (p.0 == q) (record (part_of log q) { trail = asks (spelled bytes) (trail log q) })
    (part_of log q)
    (λ is. asks_greeted (spelled bytes) (trail log q) (before q)) (λ off. before q)

-- who is dialled is sent a version at once
greets_dialled : (p : PeerNo) (name : List ℕ) (m : Msg) (log : Log) → IsSendable m → is_version m ≡ true → Greets log
    → Greets (Sent p (bytes_of m) ∷ Dialled p name ∷ log)
greets_dialled p name m log fits first before q =
    at_either IsGreetedPart (p.0 == q)
    (record (part_of (Dialled p name ∷ log) q)
    { trail = asks (spelled (bytes_of m)) (trail (Dialled p name ∷ log) q) }) (part_of (Dialled p name ∷ log) q)
    (λ is. subst (λ o. is_connected (asks o (trail (Dialled p name ∷ log) q)) ≡ true
    → is_greeted (asks o (trail (Dialled p name ∷ log) q)) ≡ true) (sym (spelled_again m fits))
    (λ on. ap (λ b. b || is_greeted (trail (Dialled p name ∷ log) q)) first))
    (λ off. at_either IsGreetedPart (p.0 == q) (called_part (part_of log q)) (part_of log q)
    (λ is on. absurd (both_ways (p.0 == q) off is)) (λ other. before q))

greets_0 : Greets []
greets_0 q on = absurd (false≢true on)

greets_4 : Greets log_4
greets_4 =
    greets_dialled liar (codes "two") our_version log_2 our_sendable refl
    (greets_dialled honest_peer (codes "one") our_version [] our_sendable refl greets_0)

greets_6 : Greets log_6
greets_6 = greets_sent liar (bytes_of Verack) log_5 (greets_got liar (bytes_of false_version) log_4 greets_4)

greets_8 : Greets log_8
greets_8 = greets_sent liar (bytes_of question) log_7 (greets_got liar (bytes_of Verack) log_6 greets_6)

greets_9 : Greets log_9
greets_9 = greets_got liar (bytes_of false_headers) log_8 greets_8

greets_11 : Greets log_11
greets_11 =
    greets_sent honest_peer (bytes_of Verack) log_10 (greets_got honest_peer (bytes_of its_version) log_9 greets_9)

greets_13 : Greets log_13
greets_13 =
    greets_sent honest_peer (bytes_of question) log_12 (greets_got honest_peer (bytes_of Verack) log_11 greets_11)

greets_15 : Greets log_15
greets_15 =
    greets_sent honest_peer (bytes_of ask_claims) log_14
    (greets_got honest_peer (bytes_of its_headers) log_13 greets_13)

greets_17 : Greets log_17
greets_17 =
    greets_sent honest_peer (bytes_of ask_filter) log_16 (greets_got honest_peer (bytes_of its_claims) log_15 greets_15)

pub were_greeted : WereGreeted cleared_run
were_greeted = (greets_17, (greets_15, (greets_13, (greets_11, (greets_9, (greets_8, (greets_6, (greets_4, tt))))))))

-- ---- what was written

pub has_written : HasWritten other_watch (history_text [] 1 only_hash.0) cleared_run
has_written =
    record { height = 1; hash = only_hash; entries = []; asked = cleared_asked; quiet = cleared_quiet; written = refl }
