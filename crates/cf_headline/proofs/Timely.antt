-- What was sent a minute ago or more is answered: so an honest peer is never late. And so it is honest by its trail.
use Rattle.std.proofs.Common.{◌≡◌, ◌≢◌, inl, inr, ℕ, pred, pos, ◌+◌, ◌-◌, ◌<◌, ◌≤◌, List, [], ◌∷◌, ◌++◌, map, take, length, Option, Some, None, Ok, Err, Bool, true, false, not, ◌&&◌, ◌||◌, if◌then◌else◌, ◌==◌, refl, sym, ap, ◌∙◌, subst, append_assoc, arith, eqb-true, length-take-le}
use Rattle.std.proofs.lemmas.Bool.{cases_lt, false≢true}
use Rattle.std.proofs.lemmas.List.{append-nil, length-map, length-reverse}
use Rattle.cf_block.specs.declared.tx.Block.{Block}
use Rattle.cf_block.specs.Header.{block_hash_of}
use Rattle.cf_chain.specs.Filters.{Filtered}
use Rattle.cf_chain.specs.Good.{IsGoodChain, headers_of}
use Rattle.cf_chain.specs.Serve.{replies, replies_to, cfilter_of}
use Rattle.cf_dispute.specs.Claims.{Table}
use Rattle.cf_frame.specs.declared.frame.Frame.{Frame}
use Rattle.cf_frame.specs.declared.frame.FrameFault.{FrameFault}
use Rattle.cf_frame.specs.Stream.{StreamRead, read_stream}
use Rattle.cf_headers.specs.Chain.{Hash, Chain, above, back_to, height_limit, NoHashClash, IsWithinLimit}
use Rattle.cf_match.specs.declared.job.Job.{Job}
use Rattle.cf_msg.specs.declared.msg.Msg.{Msg}
use Rattle.cf_msg.specs.declared.msg.Msg.TheVariants.{Version, Verack, Ping, Pong, GetHeaders, Headers, GetData, Block as BlockMessage, GetCfheaders, Cfheaders, GetCfilters, Cfilter}
use Rattle.cf_msg.specs.Message.{is_version}
use Rattle.cf_msg.specs.Reading.{message_of}
use Rattle.cf_peer.specs.Asking.{OpenRequest, NothingOpen, HeadersOpen, ClaimsOpen, FiltersOpen, BlockOpen, PingOpen, request, request_after, filters_left, filter_of, filters_asked, claims_asked, blocks_from, is_answer_of, is_wanted, is_idle, is_open, is_request, age, claims, MayAsk}
use Rattle.cf_peer.specs.Trail.{Trail, Part, Called, Said, Refused, Asked, Passed, Lost, called_part, with_item, item_of, item_of_read, hears, hears_fault, heard_part, spelled, asks, part_of, trail, is_connected, is_greeted, own, ready, has_version}
use Rattle.cf_wires.specs.declared.event.Delivery.TheVariants.{Got, Gone, Tick, Ended}
use Rattle.cf_wires.specs.declared.event.Event.{Event}
use Rattle.cf_wires.specs.declared.event.Event.TheVariants.{Dialled, NotDialled, Sent, SendFailed, Closed, Took}
use Rattle.cf_wires.specs.declared.event.Mark.TheVariants as mark
use Rattle.cf_wires.specs.Log.{Log}
use Rattle.cf_sync.specs.Fetching.{AreBytes, Rightly}
use Rattle.cf_sync.specs.Honesty.{messages_asked, messages_said, plain, Leaves, IsPrefixOf, answers, AnswersAs, InTime, IsHonestOver}
use Rattle.cf_sync.specs.Sync.{IsHashed}
use Rattle.cf_sync.proofs.Blamed.{bytes_before, clash_before, never_omits}
use Rattle.cf_sync.proofs.Chains.{headers_length}
use Rattle.cf_sync.proofs.Entries.{at_either}
use Rattle.cf_sync.proofs.HonestLemmas.{Good, honest_good, rightly_before}
use Rattle.cf_sync.proofs.Ranges.{names}
use Rattle.cf_sync.proofs.Serves.{Owes}
use Rattle.cf_sync.proofs.Settles.{setting_from}
use Rattle.cf_headline.specs.Grounds.{WereGreeted}
use Rattle.cf_headline.specs.Headline.{bytes_from, seconds_in, WasSent, machine, IsHonestAt, WasHonest}
use Rattle.cf_headline.proofs.Again.{AreRead, messages_in, all_read, frames_say, frames_read}
use Rattle.cf_headline.proofs.Parts.{at_one, from_bytes, reads, asked_is}

-- ---- a frame changes nothing of what follows

-- to be heard asks nothing, greets nobody and takes no time
pub record Unmoved (t u : Trail) : Type 0 where
  pub asked : messages_asked u ≡ messages_asked t
  pub greeted : is_greeted u ≡ is_greeted t
  pub on : is_connected u ≡ is_connected t
  pub old : age u ≡ age t

unmoved_item : (f : Frame) (t : Trail) → Unmoved t (item_of f ∷ t)
unmoved_item f t = elim (message_of f) as (λ r. Unmoved t (item_of_read r ∷ t)) [
  | Ok m ↦ record { asked = refl; greeted = refl; on = refl; old = refl }
  | Err e ↦ record { asked = refl; greeted = refl; on = refl; old = refl }
]

unmoved_hears : (fs : List Frame) (t : Trail) → Unmoved t (hears fs t)
unmoved_hears [] t = record { asked = refl; greeted = refl; on = refl; old = refl }
unmoved_hears (f ∷ fs) t =
    let one = unmoved_item f t in
    let more = unmoved_hears fs (item_of f ∷ t) in
    record {
      asked = more.asked ∙ one.asked;
      greeted = more.greeted ∙ one.greeted;
      on = more.on ∙ one.on;
      old = more.old
          ∙ one.old;
    }

unmoved_fault : (o : Option FrameFault) (t u : Trail) → Unmoved t u → Unmoved t (hears_fault o u)
unmoved_fault None t u same = same
unmoved_fault (Some fault) t u same =
    record { asked = same.asked; greeted = same.greeted; on = same.on; old = same.old }

pub unmoved_piece : (piece : List ℕ) (part : Part) → Unmoved part.trail (heard_part piece part).trail
unmoved_piece piece part =
    let r : StreamRead = read_stream (part.waits ++ piece) in
    unmoved_fault r.fault part.trail (hears r.frames part.trail) (unmoved_hears r.frames part.trail)

-- ---- the machine's answers to one message more

-- a version came before or is among these messages
abbrev pub seen_after : Bool → List Msg → Bool
seen_after seen [] = seen
seen_after seen (m ∷ ms) = seen_after (is_version m || seen) ms

seen_append : (seen : Bool) (ms : List Msg) (m : Msg)
    → seen_after seen (ms ++ m ∷ []) ≡ (is_version m || seen_after seen ms)
seen_append seen [] m = refl
seen_append seen (n ∷ ms) m = seen_append (is_version n || seen) ms m

more_replies : (blocks : List Block) (seen : Bool) (ms : List Msg) (m : Msg)
    → replies (pos 0) 0 blocks seen (ms ++ m ∷ []) ≡ replies (pos 0) 0 blocks seen ms
    ++ replies_to (pos 0) 0 blocks (seen_after seen ms) m
more_replies blocks seen [] m = append-nil (replies_to (pos 0) 0 blocks seen m)
more_replies blocks seen (n ∷ ms) m =
    ap (λ x. replies_to (pos 0) 0 blocks seen n ++ x) (more_replies blocks (is_version n || seen) ms m)
    ∙ sym (append_assoc (replies_to (pos 0) 0 blocks seen n) (replies (pos 0) 0 blocks (is_version n || seen) ms)
    (replies_to (pos 0) 0 blocks (seen_after (is_version n || seen) ms) m))

pub seen_greeted : (t : Trail) → seen_after false (messages_asked t) ≡ is_greeted t
seen_greeted [] = refl
seen_greeted (Called ∷ t) = refl
seen_greeted (Said m ∷ t) = seen_greeted t
seen_greeted (Refused c ∷ t) = seen_greeted t
seen_greeted (Asked m ∷ t) = seen_append false (messages_asked t) m ∙ ap (λ x. is_version m || x) (seen_greeted t)
seen_greeted (Passed s ∷ t) = seen_greeted t
seen_greeted (Lost w ∷ t) = seen_greeted t

-- who was greeted, and is sent what isn't answered, is to answer no more than before
silent_more : (blocks : List Block) (t : Trail) (m : Msg) → is_greeted t ≡ true
    → replies_to (pos 0) 0 blocks true m ≡ []
    → machine blocks (messages_asked (Asked m ∷ t)) ≡ machine blocks (messages_asked t)
silent_more blocks t m greeted silent =
    more_replies blocks false (messages_asked t) m
    ∙ ap (λ b. machine blocks (messages_asked t) ++ replies_to (pos 0) 0 blocks b m) (seen_greeted t ∙ greeted)
    ∙ ap (λ x. machine blocks (messages_asked t) ++ x) silent ∙ append-nil (machine blocks (messages_asked t))

-- ---- since the newest request

-- who is connected and wasn't sent a version yet was dialled no second ago
abbrev IsNew : Part → Type 0
IsNew part = is_connected part.trail ≡ true → is_greeted part.trail ≡ false → age part.trail ≡ 0

asked_new : (m : Msg) (t : Trail) → (is_connected t ≡ true → is_greeted t ≡ false → age t ≡ 0)
    → is_connected (Asked m ∷ t) ≡ true → is_greeted (Asked m ∷ t) ≡ false → age (Asked m ∷ t) ≡ 0
asked_new m t new on none = by_request (is_request m) (is_version m) none where
  by_request : (b v : Bool) → (v || is_greeted t) ≡ false → (if b then 0 else age t) ≡ 0
  by_request true v none = refl
  by_request false true none = absurd (false≢true (sym none))
  by_request false false none = new on none

asks_new : (o : Option Msg) (t : Trail) → (is_connected t ≡ true → is_greeted t ≡ false → age t ≡ 0)
    → is_connected (asks o t) ≡ true → is_greeted (asks o t) ≡ false → age (asks o t) ≡ 0
asks_new None t new = new
asks_new (Some m) t new = asked_new m t new

ungreeted_new : (log : Log) (p : ℕ) → WereGreeted log → is_connected (trail log p) ≡ true
    → is_greeted (trail log p) ≡ false → age (trail log p) ≡ 0
ungreeted_new [] p were = λ on none. refl
ungreeted_new (Dialled q name ∷ log) p were =
    at_either IsNew (q.0 == p) (called_part (part_of log p)) (part_of log p) (λ is on none. refl)
    (λ off. ungreeted_new log p were)
ungreeted_new (NotDialled q name ∷ log) p were =
    at_either IsNew (q.0 == p) (with_item (Lost mark.NotDialled) (part_of log p)) (part_of log p)
    (λ is on none. absurd (false≢true on)) (λ off. ungreeted_new log p were)
ungreeted_new (Sent q bytes ∷ log) p were =
    at_either IsNew (q.0 == p) (record (part_of log p) { trail = asks (spelled bytes) (trail log p) }) (part_of log p)
    (λ is. asks_new (spelled bytes) (trail log p) (ungreeted_new log p were)) (λ off. ungreeted_new log p were)
ungreeted_new (SendFailed q ∷ log) p were =
    at_either IsNew (q.0 == p) (with_item (Lost mark.SendFailed) (part_of log p)) (part_of log p)
    (λ is on none. absurd (false≢true on)) (λ off. ungreeted_new log p were)
ungreeted_new (Closed q ∷ log) p were =
    at_either IsNew (q.0 == p) (with_item (Lost mark.Closed) (part_of log p)) (part_of log p)
    (λ is on none. absurd (false≢true on)) (λ off. ungreeted_new log p were)
ungreeted_new (Took (Got q piece) ∷ log) p were =
    at_either IsNew (q.0 == p) (heard_part piece (part_of log p)) (part_of log p)
    (λ is on none. let same = unmoved_piece piece (part_of log p) in same.old
    ∙ ungreeted_new log p were.1 (sym same.on ∙ on) (sym same.greeted ∙ none))
    (λ off. ungreeted_new log p were.1)
ungreeted_new (Took (Gone q) ∷ log) p were =
    at_either IsNew (q.0 == p) (with_item (Lost mark.Gone) (part_of log p)) (part_of log p)
    (λ is on none. absurd (false≢true on)) (λ off. ungreeted_new log p were.1)
ungreeted_new (Took (Tick s) ∷ log) p were = λ on none. absurd (false≢true (sym none ∙ were.0 p on))
ungreeted_new (Took Ended ∷ log) p were = ungreeted_new log p were.1

-- a moment since which as many seconds have passed as a trail is old, and to what was sent by then the machine answers
-- as much
record Since (blocks : List Block) (log : Log) (p : ℕ) (t : Trail) : Type 0 where
  later : Log
  older : Log
  joined : later ++ older ≡ log
  seconds : age t ≤ seconds_in later
  same : machine blocks (messages_asked t) ≡ machine blocks (messages_asked (trail older p))

more_seconds : (e : Event) (log : Log) → seconds_in log ≤ seconds_in (e ∷ log)
more_seconds (Took (Tick s)) log = omega arith
more_seconds e log = omega arith

since_on : (blocks : List Block) (e : Event) (log : Log) (p : ℕ) (t u : Trail) → age u ≤ age t
    → machine blocks (messages_asked u) ≡ machine blocks (messages_asked t) → Since blocks log p t
    → Since blocks (e ∷ log) p u
since_on blocks e log p t u young same s = record {
  later = e ∷ s.later;
  older = s.older;
  joined = ap (λ l. e ∷ l) s.joined;
  seconds = (let more = more_seconds e s.later in let before = s.seconds in omega (arith, young, more, before));
  same = same ∙ s.same;
}

abbrev IsSince : List Block → Log → ℕ → Part → Type 0
IsSince blocks log p part = is_greeted part.trail ≡ true → Since blocks log p part.trail

lost_since : (blocks : List Block) (e : Event) (log : Log) (p : ℕ) (part : Part) (item : Part)
    → age item.trail ≡ age part.trail
    → messages_asked item.trail ≡ messages_asked part.trail → is_greeted item.trail ≡ is_greeted part.trail
    → IsSince blocks log p part → IsSince blocks (e ∷ log) p item
lost_since blocks e log p part item old asked greeted before is =
    since_on blocks e log p part.trail item.trail (omega (arith, old)) (ap (machine blocks) asked)
    (before (sym greeted ∙ is))

other_since : (blocks : List Block) (e : Event) (log : Log) (p : ℕ) (part : Part) → IsSince blocks log p part
    → IsSince blocks (e ∷ log) p part
other_since blocks e log p part before is = since_on blocks e log p part.trail part.trail (omega arith) refl (before is)

-- a request, or a version to who was just dialled
now_since : (blocks : List Block) (log : Log) (p : ℕ) (t : Trail) → t ≡ trail log p → age t ≡ 0 → Since blocks log p t
now_since blocks log p t is new = record {
  later = [];
  older = log;
  joined = refl;
  seconds = omega (arith, new);
  same = ap (λ u. machine blocks (messages_asked u)) is;
}

asked_since : (blocks : List Block) (e : Event) (log : Log) (p : ℕ) (m : Msg)
    → Asked m ∷ trail log p ≡ trail (e ∷ log) p → MayAsk (trail log p) m
    → (is_connected (trail log p) ≡ true → is_greeted (trail log p) ≡ false → age (trail log p) ≡ 0)
    → (is_greeted (trail log p) ≡ true → Since blocks log p (trail log p))
    → is_greeted (Asked m ∷ trail log p) ≡ true → Since blocks (e ∷ log) p (Asked m ∷ trail log p)
asked_since blocks e log p (Version version services time to from nonce agent height relay) is may new before greeted =
    now_since blocks (e ∷ log) p (Asked (Version version services time to from nonce agent height relay) ∷ trail log p)
    is (new may.0 may.1)
asked_since blocks e log p Verack is may new before greeted =
    since_on blocks e log p (trail log p) (Asked Verack ∷ trail log p) (omega arith)
    (silent_more blocks (trail log p) Verack greeted refl) (before greeted)
asked_since blocks e log p (Pong number) is may new before greeted =
    since_on blocks e log p (trail log p) (Asked (Pong number) ∷ trail log p) (omega arith)
    (silent_more blocks (trail log p) (Pong number) greeted refl) (before greeted)
asked_since blocks e log p (GetHeaders version locator stop) is may new before greeted =
    now_since blocks (e ∷ log) p (Asked (GetHeaders version locator stop) ∷ trail log p) is refl
asked_since blocks e log p (GetCfheaders filter start stop) is may new before greeted =
    now_since blocks (e ∷ log) p (Asked (GetCfheaders filter start stop) ∷ trail log p) is refl
asked_since blocks e log p (GetCfilters filter start stop) is may new before greeted =
    now_since blocks (e ∷ log) p (Asked (GetCfilters filter start stop) ∷ trail log p) is refl
asked_since blocks e log p (GetData entries) is may new before greeted =
    now_since blocks (e ∷ log) p (Asked (GetData entries) ∷ trail log p) is refl
asked_since blocks e log p (Ping number) is may new before greeted = absurd may
asked_since blocks e log p m is may new before greeted = absurd may

sent_since : (blocks : List Block) (e : Event) (log : Log) (p : ℕ) (o : Option Msg) (m : Msg) → o ≡ Some m
    → asks o (trail log p) ≡ trail (e ∷ log) p → MayAsk (trail log p) m
    → (is_connected (trail log p) ≡ true → is_greeted (trail log p) ≡ false → age (trail log p) ≡ 0)
    → (is_greeted (trail log p) ≡ true → Since blocks log p (trail log p))
    → is_greeted (asks o (trail log p)) ≡ true → Since blocks (e ∷ log) p (asks o (trail log p))
sent_since blocks e log p None m sent is may new before greeted = absurd (let clash = sent in cc)
sent_since blocks e log p (Some n) m sent is may new before greeted =
    asked_since blocks e log p n is (subst (MayAsk (trail log p)) (some_same n m sent) may) new before greeted
  where
    some_same : (n m : Msg) → Some n ≡ Some m → m ≡ n
    some_same n m e = cc

since : (blocks : List Block) (log : Log) (p : ℕ) → Rightly log → WereGreeted log → is_greeted (trail log p) ≡ true
    → Since blocks log p (trail log p)
since blocks [] p right were = λ greeted. absurd (false≢true greeted)
since blocks (Dialled q name ∷ log) p right were =
    at_either (IsSince blocks (Dialled q name ∷ log) p) (q.0 == p) (called_part (part_of log p)) (part_of log p)
    (λ is greeted. absurd (false≢true greeted))
    (λ off. other_since blocks (Dialled q name) log p (part_of log p) (since blocks log p right were))
since blocks (NotDialled q name ∷ log) p right were =
    at_either (IsSince blocks (NotDialled q name ∷ log) p) (q.0 == p) (with_item (Lost mark.NotDialled) (part_of log p))
    (part_of log p)
    (λ is. lost_since blocks (NotDialled q name) log p (part_of log p)
    (with_item (Lost mark.NotDialled) (part_of log p)) refl refl refl (since blocks log p right were))
    (λ off. other_since blocks (NotDialled q name) log p (part_of log p) (since blocks log p right were))
since blocks (Sent q bytes ∷ log) p right were =
    at_either (IsSince blocks (Sent q bytes ∷ log) p) (q.0 == p)
    (record (part_of log p) { trail = asks (spelled bytes) (trail log p) }) (part_of log p)
    (λ is. sent_since blocks (Sent q bytes) log p (spelled bytes) right.0.0 right.0.1
    (ap (λ b. (if b then record (part_of log p) { trail = asks (spelled bytes) (trail log p) } else part_of log
    p).trail) (sym is))
    (subst (λ (k : ℕ). MayAsk (trail log k) right.0.0) (eqb-true q.0 p is) right.0.2.of_its_part)
    (ungreeted_new log p were) (since blocks log p right.1 were))
    (λ off. other_since blocks (Sent q bytes) log p (part_of log p) (since blocks log p right.1 were))
since blocks (SendFailed q ∷ log) p right were =
    at_either (IsSince blocks (SendFailed q ∷ log) p) (q.0 == p) (with_item (Lost mark.SendFailed) (part_of log p))
    (part_of log p)
    (λ is. lost_since blocks (SendFailed q) log p (part_of log p) (with_item (Lost mark.SendFailed) (part_of log p))
    refl refl refl (since blocks log p right were))
    (λ off. other_since blocks (SendFailed q) log p (part_of log p) (since blocks log p right were))
since blocks (Closed q ∷ log) p right were =
    at_either (IsSince blocks (Closed q ∷ log) p) (q.0 == p) (with_item (Lost mark.Closed) (part_of log p))
    (part_of log p)
    (λ is. lost_since blocks (Closed q) log p (part_of log p) (with_item (Lost mark.Closed) (part_of log p)) refl refl
    refl (since blocks log p right.1 were))
    (λ off. other_since blocks (Closed q) log p (part_of log p) (since blocks log p right.1 were))
since blocks (Took (Got q piece) ∷ log) p right were =
    let same = unmoved_piece piece (part_of log p) in
    at_either (IsSince blocks (Took (Got q piece) ∷ log) p) (q.0 == p) (heard_part piece (part_of log p))
    (part_of log p)
    (λ is. lost_since blocks (Took (Got q piece)) log p (part_of log p) (heard_part piece (part_of log p)) same.old
    same.asked same.greeted (since blocks log p right.1 were.1))
    (λ off. other_since blocks (Took (Got q piece)) log p (part_of log p) (since blocks log p right.1 were.1))
since blocks (Took (Gone q) ∷ log) p right were =
    at_either (IsSince blocks (Took (Gone q) ∷ log) p) (q.0 == p) (with_item (Lost mark.Gone) (part_of log p))
    (part_of log p)
    (λ is. lost_since blocks (Took (Gone q)) log p (part_of log p) (with_item (Lost mark.Gone) (part_of log p)) refl
    refl refl (since blocks log p right.1 were.1))
    (λ off. other_since blocks (Took (Gone q)) log p (part_of log p) (since blocks log p right.1 were.1))
since blocks (Took (Tick s) ∷ log) p right were = λ greeted.
    let before = since blocks log p right.1 were.1 greeted in
    record {
      later = Took (Tick s) ∷ before.later;
      older = before.older;
      joined = ap (λ l. Took (Tick s) ∷ l) before.joined;
      seconds = (let young = before.seconds in omega (arith, young));
      same = before.same;
    }
since blocks (Took Ended ∷ log) p right were =
    other_since blocks (Took Ended) log p (part_of log p) (since blocks log p right.1 were.1)

-- ---- an open request for filters has one left

abbrev HasLeft : OpenRequest → Type 0
HasLeft (FiltersOpen left came) = left ≢ []
HasLeft _ = Unit {0}

left_after : (left : List Hash) (came : List Job) → HasLeft (filters_left left came)
left_after [] came = tt
left_after (next ∷ left) came = λ e. (let clash = e in cc)

said_left : (m : Msg) (r : OpenRequest) → HasLeft r → HasLeft (request_after m r)
said_left (Headers hs) HeadersOpen h = tt
said_left (Cfheaders filter stop previous hashes) (ClaimsOpen wanted parent blocks) h =
    at_one HasLeft (is_answer_of filter stop.0 wanted) NothingOpen (ClaimsOpen wanted parent blocks) tt tt
said_left (Cfilter filter block bytes) (FiltersOpen (next ∷ left) came) h =
    at_one HasLeft (is_answer_of filter block.0 next) (filters_left left (came ++ filter_of block bytes ∷ []))
    (FiltersOpen (next ∷ left) came)
    (left_after left (came ++ filter_of block bytes ∷ [])) h
said_left (BlockMessage b) (BlockOpen wanted) h =
    at_one HasLeft (is_wanted b wanted) NothingOpen (BlockOpen wanted) tt tt
said_left (Pong number) (PingOpen wanted) h = at_one HasLeft (number == wanted) NothingOpen (PingOpen wanted) tt tt
said_left m r h = h

item_left : (f : Frame) (t : Trail) → HasLeft (request t) → HasLeft (request (item_of f ∷ t))
item_left f t h =
    elim (message_of f) as (λ r. HasLeft (request (item_of_read r ∷ t)))
    [ Ok m ↦ said_left m (request t) h | Err e ↦ h ]

hears_left : (fs : List Frame) (t : Trail) → HasLeft (request t) → HasLeft (request (hears fs t))
hears_left [] t h = h
hears_left (f ∷ fs) t h = hears_left fs (item_of f ∷ t) (item_left f t h)

fault_left : (o : Option FrameFault) (t : Trail) → HasLeft (request t) → HasLeft (request (hears_fault o t))
fault_left None t h = h
fault_left (Some fault) t h = h

blocks_some : (start : ℕ) (part : Chain) → 1 ≤ start → start ≤ length part → blocks_from start part ≢ []
blocks_some start part low high e =
    let k : ℕ = length part - pred start in
    let count : length (blocks_from start part) ≡ k =
    length-map (above (pred start) part) block_hash_of ∙ length-reverse (take k part)
    ∙ length-take-le k part (omega arith) in
    let none : length (blocks_from start part) ≡ 0 = ap (λ (l : List Hash). length l) e in
    absurd (omega (arith, count, none, low, high))

range_left : (start : ℕ) (o : Option Chain) (part : Chain) → o ≡ Some part → 1 ≤ start → start ≤ length part
    → HasLeft (filters_asked start o)
range_left start None part e low high = tt
range_left start (Some other) part e low high =
    blocks_some start other low (subst (λ (c : Chain). start ≤ length c) (same_part other part e) high) where
      same_part : (a b : Chain) → Some a ≡ Some b → b ≡ a
      same_part a b e = cc

claims_left : (start : ℕ) (stop : Hash) (o : Option Chain) → HasLeft (claims_asked start stop o)
claims_left start stop None = tt
claims_left start stop (Some part) = tt

asked_left : (m : Msg) (t : Trail) → MayAsk t m → HasLeft (request t) → HasLeft (request (Asked m ∷ t))
asked_left (GetHeaders version locator stop) t may h = tt
asked_left (GetCfheaders filter start stop) t may h = claims_left start stop.0 (back_to stop.0 (own t))
asked_left (GetCfilters filter start stop) t may h =
    let range = may.1.0 in range_left start (back_to stop.0 (own t)) range.part range.tip range.low range.high
asked_left (GetData []) t may h = h
asked_left (GetData (entry ∷ more)) t may h = tt
asked_left (Ping number) t may h = tt
asked_left m t may h = h

abbrev LeftPart : Part → Type 0
LeftPart part = HasLeft (request part.trail)

left_all : (log : Log) (p : ℕ) → Rightly log → HasLeft (request (trail log p))
left_all [] p right = tt
left_all (Dialled q name ∷ log) p right =
    at_either LeftPart (q.0 == p) (called_part (part_of log p)) (part_of log p) (λ is. tt) (λ off. left_all log p right)
left_all (NotDialled q name ∷ log) p right =
    at_either LeftPart (q.0 == p) (with_item (Lost mark.NotDialled) (part_of log p)) (part_of log p)
    (λ is. left_all log p right) (λ off. left_all log p right)
left_all (Sent q bytes ∷ log) p right =
    at_either LeftPart (q.0 == p) (record (part_of log p) { trail = asks (spelled bytes) (trail log p) })
    (part_of log p)
    (λ is. subst (λ (o : Option Msg). HasLeft (request (asks o (trail log p)))) (sym right.0.1)
    (asked_left right.0.0 (trail log p)
    (subst (λ (k : ℕ). MayAsk (trail log k) right.0.0) (eqb-true q.0 p is) right.0.2.of_its_part)
    (left_all log p right.1)))
    (λ off. left_all log p right.1)
left_all (SendFailed q ∷ log) p right =
    at_either LeftPart (q.0 == p) (with_item (Lost mark.SendFailed) (part_of log p)) (part_of log p)
    (λ is. left_all log p right) (λ off. left_all log p right)
left_all (Closed q ∷ log) p right =
    at_either LeftPart (q.0 == p) (with_item (Lost mark.Closed) (part_of log p)) (part_of log p)
    (λ is. left_all log p right.1) (λ off. left_all log p right.1)
left_all (Took (Got q piece) ∷ log) p right =
    at_either LeftPart (q.0 == p) (heard_part piece (part_of log p)) (part_of log p)
    (λ is. let r : StreamRead = read_stream ((part_of log p).waits ++ piece) in
    fault_left r.fault (hears r.frames (trail log p)) (hears_left r.frames (trail log p) (left_all log p right.1)))
    (λ off. left_all log p right.1)
left_all (Took (Gone q) ∷ log) p right =
    at_either LeftPart (q.0 == p) (with_item (Lost mark.Gone) (part_of log p)) (part_of log p)
    (λ is. left_all log p right.1) (λ off. left_all log p right.1)
left_all (Took (Tick s) ∷ log) p right = left_all log p right.1
left_all (Took Ended ∷ log) p right = left_all log p right.1

-- ---- who owes nothing has nothing open

abbrev none_due : Bool → OpenRequest → Bool
none_due rd r = not rd || not (is_idle r)

no_filters : (filters : List Filtered) (owed : List Msg) → owed ≡ map cfilter_of filters → owed ≡ []
    → names filters ≡ []
no_filters [] owed due none = refl
no_filters (f ∷ fs) owed due none = absurd (let clash = sym none ∙ due in cc)

open_owes : (blocks : List Block) (cs : Table) (k : ℕ) (r : OpenRequest) (rd mt gr : Bool) (owed : List Msg) → gr ≡ true
    → owed ≡ [] → HasLeft r
    → Owes blocks cs rd mt gr k r owed → none_due rd r ≡ true → ⊥
open_owes blocks cs k NothingOpen true mt gr owed on none left owes waits = false≢true waits
open_owes blocks cs k HeadersOpen true mt gr owed on none left owes waits = (let clash = sym none ∙ owes.1 in cc)
open_owes blocks cs k (ClaimsOpen stop parent asked) true mt gr owed on none left owes waits =
    (let clash = sym none ∙ owes.1.due in cc)
open_owes blocks cs k (FiltersOpen some came) true mt gr owed on none left owes waits =
    left (owes.1.these ∙ no_filters owes.1.filters owed owes.1.due none)
open_owes blocks cs k (BlockOpen wanted) true mt gr owed on none left owes waits =
    (let clash = sym none ∙ owes.1.due in cc)
open_owes blocks cs k (PingOpen number) true mt gr owed on none left owes waits = absurd owes.1
open_owes blocks cs k r false true gr owed on none left owes waits = (let clash = sym none ∙ owes.2 in cc)
open_owes blocks cs k r false false true owed on none left owes waits = (let clash = sym none ∙ owes.1 in cc)
open_owes blocks cs k r false false false owed on none left owes waits = false≢true on

open_due : (b : Bool) (rd : Bool) (r : OpenRequest) → (b && none_due rd r) ≡ true → (b ≡ true) × (none_due rd r ≡ true)
open_due true rd r e = (refl, e)
open_due false rd r e = absurd (false≢true e)

leaves_length : (xs ns rest : List Msg) → Leaves xs ns rest → length ns ≡ length xs + length rest
leaves_length [] ns rest h = let e = ap (λ (l : List Msg). length l) h in omega (arith, e)
leaves_length (x ∷ xs) [] rest h = absurd h
leaves_length (x ∷ xs) (n ∷ ns) rest h = let e = leaves_length xs ns rest h.1 in omega (arith, e)

no_length : (xs : List Msg) → length xs ≡ 0 → xs ≡ []
no_length [] e = refl
no_length (x ∷ xs) e = absurd (omega (arith, e))

-- ---- an honest moment

-- at an honest moment the trail is what bytes say: each message that it said, and no fault
said_is : (log : Log) (p : ℕ) (blocks : List Block) → AreBytes log → (h : IsHonestAt log p blocks)
    → messages_said (trail log p) ≡ h.said
said_is log p blocks are h =
    let read = all_read h.said (bytes_from log p) (from_bytes log p are) h.says in
    (reads log p (ap (λ (r : StreamRead). r.fault) read)).said ∙ ap (λ (r : StreamRead). messages_in r.frames) read
    ∙ frames_say h.said h.says.says.fit

pub answers_at : (log : Log) (p : ℕ) (blocks : List Block) → AreBytes log → IsHonestAt log p blocks
    → AnswersAs blocks (trail log p)
answers_at log p blocks are h =
    let read = all_read h.said (bytes_from log p) (from_bytes log p are) h.says in
    let is = reads log p (ap (λ (r : StreamRead). r.fault) read) in
    record {
      spelled = is.whole (subst (λ (r : StreamRead). AreRead r.frames) (sym read) (frames_read h.said h.says.says.fit));
      follows =
          subst (λ ms. IsPrefixOf (plain ms) (machine blocks (messages_asked (trail log p))))
          (sym (said_is log p blocks are h))
          (subst (λ ms. IsPrefixOf (plain h.said) (machine blocks ms)) (sym (asked_is log p h.asked h.sent)) h.follows);
    }

-- so it was before
was_then : (later older : Log) (p : ℕ) (blocks : List Block) → WasHonest (later ++ older) p blocks
    → WasHonest older p blocks
was_then [] older p blocks h = h
was_then (e ∷ later) older p blocks h = was_then later older p blocks h.2

then_sent : (older : Log) (p : ℕ) (blocks : List Block) → WasHonest older p blocks
    → (ms : List Msg) × WasSent ms older p
then_sent [] p blocks h = ([], (tt, refl))
then_sent (e ∷ older) p blocks h = (h.0.asked, h.0.sent)

-- ---- an honest peer is never late

below_60 : (n : ℕ) → (60 ≤ n → ⊥) → n < 60
below_60 n never = elim (cases_lt n 60) [ inl less ↦ less | inr more ↦ absurd (never more) ]

never_late : (blocks : List Block) (s : ℕ) (log : Log) (p : ℕ) → AreBytes log → Rightly (Took (Tick s) ∷ log)
    → WereGreeted (Took (Tick s) ∷ log)
    → WasHonest (Took (Tick s) ∷ log) p blocks → Good blocks (trail log p) → is_open (trail log p) ≡ true
    → 60 ≤ age (Passed s ∷ trail log p) → ⊥
never_late blocks s log p are right were honest good waits late =
    let now : Log = Took (Tick s) ∷ log in
    let t : Trail = trail log p in
    let due = open_due (is_connected t) (ready t) (request t) waits in
    let greeted : is_greeted t ≡ true = were.0 p due.0 in
    let k = good.keeps in
    let moment = since blocks now p right were greeted in
    let sent = then_sent moment.older p blocks
    (was_then moment.later moment.older p blocks (subst (λ l. WasHonest l p blocks) (sym moment.joined) honest)) in
    let young = moment.seconds in
    let count = honest.0.in_time moment.later moment.older sent.0 moment.joined (omega (arith, late, young)) sent.1 in
    let all : machine blocks (messages_asked t) ≡ machine blocks sent.0 =
    moment.same ∙ ap (machine blocks) (asked_is moment.older p sent.0 sent.1) in
    let lengths : length (machine blocks (messages_asked t)) ≡ length (machine blocks sent.0) =
    ap (λ (l : List Msg). length l) all in
    let spoken : length (plain (messages_said t)) ≡ length (plain honest.0.said) =
    ap (λ (l : List Msg). length (plain l)) (said_is now p blocks are honest.0) in
    let left : length (machine blocks (messages_asked t)) ≡ length (plain (messages_said t)) + length k.owed =
    leaves_length (plain (messages_said t)) (answers blocks t) k.owed k.leaves in
    open_owes blocks (claims t) k.serves.stays.height (request t) (ready t) (has_version t) (is_greeted t) k.owed
    greeted
    (no_length k.owed (omega (arith, count, lengths, spoken, left))) (left_all log p right.1) k.serves.owes due.1

timely : (blocks : List Block) (e : Event) (log : Log) (p : ℕ) → AreBytes log → Rightly (e ∷ log)
    → WereGreeted (e ∷ log)
    → WasHonest (e ∷ log) p blocks → Good blocks (trail log p) → InTime e log p
timely blocks (Took (Tick s)) log p are right were honest good =
    λ waits. below_60 (age (Passed s ∷ trail log p)) (never_late blocks s log p are right were honest good waits)
timely blocks e log p are right were honest good = tt

greeted_before : (e : Event) (log : Log) → WereGreeted (e ∷ log) → WereGreeted log
greeted_before (Took d) log were = were.1
greeted_before e log were = were

pub within_limit : (blocks : List Block) → IsGoodChain blocks → IsWithinLimit (headers_of blocks)
within_limit blocks chain = subst (λ n. n ≤ height_limit) (sym (headers_length blocks)) chain.height

-- who was honest by its bytes is honest by its trail
pub honest_over : (blocks : List Block) (log : Log) (p : ℕ) → IsGoodChain blocks → AreBytes log
    → NoHashClash (IsHashed log blocks) → Rightly log
    → WereGreeted log → WasHonest log p blocks → IsHonestOver log p blocks
honest_over blocks [] p chain are clash right were honest = tt
honest_over blocks (e ∷ log) p chain are clash right were honest =
    let bytes = bytes_before e log are in
    let apart = clash_before e log blocks clash in
    let rightly = rightly_before e log right in
    let before = honest_over blocks log p chain bytes apart rightly (greeted_before e log were) honest.2 in
    let good = honest_good blocks (setting_from log blocks apart chain (within_limit blocks chain)) log p
    (never_omits log p blocks bytes apart chain.each) rightly before in
    (answers_at (e ∷ log) p blocks are honest.0, timely blocks e log p bytes right were honest good, honest.1, before)
