-- statement: one peer's part of a log, message by message, the newest first, and what can be said of it. Nothing here knows of the client.
use Rattle.std.specs.Prelude.{◌≡◌, ◌⊎◌, ℕ, pos, ◌==◌, nat_lt, Bool, true, false, ◌&&◌, ◌||◌, if◌then◌else◌, List, [], ◌∷◌, ◌++◌, codes, length, Option, Some, None, Result, Ok, Err, bit_and, is_none}
use Rattle.std.specs.List.{list_any}
use Rattle.cf_frame.specs.declared.frame.Frame.{Frame}
use Rattle.cf_frame.specs.declared.frame.FrameFault.{FrameFault}
use Rattle.cf_frame.specs.Stream.{StreamRead, read_stream}
use Rattle.cf_block.specs.declared.header.Header.{Header}
use Rattle.cf_headers.specs.Chain.{Chain, Accepted, Longer, NoLonger, Unlinked, Invalid, TooHigh, accept, back_to}
use Rattle.cf_msg.specs.declared.msg.Inventory.{Inventory}
use Rattle.cf_msg.specs.declared.msg.Malformed.{Malformed}
use Rattle.cf_msg.specs.declared.msg.Msg.{Msg}
use Rattle.cf_msg.specs.declared.msg.Msg.TheVariants.{Version, Verack, Ping, Pong, Headers, Inv}
use Rattle.cf_msg.specs.Reading.{message_of}
use Rattle.cf_msg.specs.Message.{is_version, no_address}
use Rattle.cf_wires.specs.declared.event.Delivery.{Delivery}
use Rattle.cf_wires.specs.declared.event.Delivery.TheVariants.{Got, Gone, Tick, Ended}
use Rattle.cf_wires.specs.declared.event.Event.{Event}
use Rattle.cf_wires.specs.declared.event.Event.TheVariants.{Dialled, NotDialled, Sent, SendFailed, Closed, Took}
use Rattle.cf_wires.specs.declared.event.Mark.{Mark}
use Rattle.cf_wires.specs.declared.event.Mark.TheVariants as mark
use Rattle.cf_peer.specs.declared.mode.Mode.{Mode}
use Rattle.cf_peer.specs.declared.mode.Mode.TheVariants.{Once, Following}
use Rattle.cf_peer.specs.declared.peer.Cause.{Cause}
use Rattle.cf_peer.specs.declared.peer.Cause.TheVariants.{BadFrame, Malformed as IsMalformed, Unlinked as NotLinked, InvalidHeader, TooHigh as AboveLimit}
use Rattle.cf_wires.specs.Log.{Log}

-- What may pass between the client and one peer: it was dialled; it said a message; a frame of it, or its bytes, deserve a cause; it was sent a message, be it
-- a question or a reply; so many seconds have passed; it was lost, so.
pub data Item : Type 0 where
  Called : Item
  Said : (m : Msg) → Item
  Refused : (cause : Cause) → Item
  Asked : (m : Msg) → Item
  Passed : (seconds : ℕ) → Item
  Lost : (mark : Mark) → Item

-- all that passed between the client and one peer, the newest first
abbrev pub Trail : Type 0
Trail = List Item

-- what a whole frame says: a message, or what deserves a cause
abbrev pub item_of_read : Result Msg Malformed → Item
item_of_read (Ok m) = Said m
item_of_read (Err e) = Refused IsMalformed

-- what a frame says: the message that it spells, or that it is refused
abbrev pub item_of : Frame → Item
item_of f = item_of_read (message_of f)

-- a trail once these frames have come, one after another
abbrev pub hears : List Frame → Trail → Trail
hears [] t = t
hears (f ∷ fs) t = hears fs (item_of f ∷ t)

-- a trail once the bytes behind the whole frames were judged: where they are bad, that is refused
abbrev pub hears_fault : Option FrameFault → Trail → Trail
hears_fault None t = t
hears_fault (Some fault) t = Refused BadFrame ∷ t

-- a peer's part: what was said and done, and the bytes of it that are no whole frame yet
pub record Part : Type 0 where
  pub trail : Trail
  pub waits : List ℕ

-- what a stream of bytes says
abbrev pub part_after : StreamRead → Trail → Part
part_after r t = record { trail = hears_fault r.fault (hears r.frames t); waits = r.rest }

-- a peer's part once a piece of its bytes has come behind those that wait
abbrev pub heard_part : List ℕ → Part → Part
heard_part piece part = part_after (read_stream (part.waits ++ piece)) part.trail

-- a message that was read, or none where the payload spells none
abbrev pub message_in : Result Msg Malformed → Option Msg
message_in (Ok m) = Some m
message_in (Err e) = None

-- a message, where no bytes wait behind it
abbrev pub alone : List ℕ → Option Msg → Option Msg
alone [] m = m
alone (b ∷ rest) m = None

-- the message of one frame, where there is no other and no bytes wait behind it
abbrev pub one_message : List Frame → List ℕ → Option Msg
one_message [] rest = None
one_message (f ∷ []) rest = alone rest (message_in (message_of f))
one_message (f ∷ g ∷ fs) rest = None

-- the message of a stream that is one frame and nothing more
abbrev pub message_of_stream : StreamRead → Option Msg
message_of_stream r = one_message r.frames r.rest

-- the message that bytes spell where they are one frame and nothing more
abbrev pub spelled : List ℕ → Option Msg
spelled bytes = message_of_stream (read_stream bytes)

-- a trail once a message was sent to the peer; bytes that spell none leave it as it is
abbrev pub asks : Option Msg → Trail → Trail
asks None t = t
asks (Some m) t = Asked m ∷ t

-- a part with one item more
abbrev pub with_item : Item → Part → Part
with_item i part = record part { trail = i ∷ part.trail }

-- a peer is dialled: its stream begins
abbrev pub called_part : Part → Part
called_part part = record { trail = Called ∷ part.trail; waits = [] }

-- p's part after a delivery: bytes of p are read on, p's going is its loss, and seconds pass for all peers
abbrev pub took : Delivery → ℕ → Part → Part
took (Got q piece) p part = if q.0 == p then heard_part piece part else part
took (Gone q) p part = if q.0 == p then with_item (Lost mark.Gone) part else part
took (Tick s) p part = with_item (Passed s) part
took Ended p part = part

-- p's part after one entry of the log: a dial, a send, a failed send or a close of p's, or a delivery
abbrev pub went_on : Event → ℕ → Part → Part
went_on (Dialled q name) p part = if q.0 == p then called_part part else part
went_on (NotDialled q name) p part = if q.0 == p then with_item (Lost mark.NotDialled) part else part
went_on (Sent q bytes) p part = if q.0 == p then record part { trail = asks (spelled bytes) part.trail } else part
went_on (SendFailed q) p part = if q.0 == p then with_item (Lost mark.SendFailed) part else part
went_on (Closed q) p part = if q.0 == p then with_item (Lost mark.Closed) part else part
went_on (Took d) p part = took d p part

-- the part of the peer with this number
abbrev pub part_of : Log → ℕ → Part
part_of [] p = record { trail = []; waits = [] }
part_of (e ∷ log) p = went_on e p (part_of log p)

-- what of a log passed between the client and the peer with this number
abbrev pub trail : Log → ℕ → Trail
trail log p = (part_of log p).trail

-- a message is a verack
abbrev pub is_verack : Msg → Bool
is_verack Verack = true
is_verack m = false

-- service bits 0 (the whole chain) and 6 (compact filters)
abbrev pub has_filters : ℕ → Bool
has_filters services = bit_and services 65 == 65

-- it was dialled, and nothing has cut it off
abbrev pub is_connected : Trail → Bool
is_connected [] = false
is_connected (Called ∷ t) = true
is_connected (Lost m ∷ t) = false
is_connected (_ ∷ t) = is_connected t

-- the client has sent its version
abbrev pub is_greeted : Trail → Bool
is_greeted [] = false
is_greeted (Called ∷ t) = false
is_greeted (Asked m ∷ t) = is_version m || is_greeted t
is_greeted (_ ∷ t) = is_greeted t

-- its version has come
abbrev pub has_version : Trail → Bool
has_version [] = false
has_version (Called ∷ t) = false
has_version (Said m ∷ t) = is_version m || has_version t
has_version (_ ∷ t) = has_version t

-- a verack has come after its version: the handshake is over
abbrev pub ready : Trail → Bool
ready [] = false
ready (Called ∷ t) = false
ready (Said m ∷ t) = (is_verack m && has_version t) || ready t
ready (_ ∷ t) = ready t

-- the chain that headers have made where it is longer, and else the peer's own as it was
abbrev pub longer_of : Accepted → Chain → Chain
longer_of (Longer next) own = next
longer_of _ own = own

-- a peer's own chain once it has said this: by a list of headers it may be a longer one
abbrev pub own_after : Msg → Chain → Chain
own_after (Headers hs) own = longer_of (accept hs own) own
own_after m own = own

-- a peer's own chain: the longest that its headers after the handshake have made, of several the one that was shown first
abbrev pub own : Trail → Chain
own [] = []
own (Called ∷ t) = []
own (Said m ∷ t) = if ready t then own_after m (own t) else own t
own (_ ∷ t) = own t

-- headers have come that were empty, brought no longer chain or were fewer than 2000: it has no more to tell, until there is news
abbrev pub ends_by : Accepted → List Header → Bool
ends_by (Longer next) hs = nat_lt (length hs) 2000
ends_by NoLonger hs = true
ends_by _ hs = false

-- a message is a list of headers by which the peer has no more to tell
abbrev pub ends_with : Msg → Chain → Bool
ends_with (Headers hs) own = ends_by (accept hs own) hs
ends_with m own = false

-- an entry of an `inv` tells of a block that isn't on the peer's own chain
abbrev pub is_unknown : Chain → Inventory → Bool
is_unknown own entry = (entry.kind == 2) && is_none (back_to entry.hash.0 own)

-- a message is an `inv` that tells of a block that isn't on the peer's own chain
abbrev pub is_news : Msg → Chain → Bool
is_news (Inv entries) own = list_any (is_unknown own) entries
is_news m own = false

-- a peer that was heard out still is after this message; a client that follows hears it out again after news
abbrev pub still_heard : Mode → Msg → Chain → Bool → Bool
still_heard Once m own is_heard_out = is_heard_out
still_heard Following m own is_heard_out = if is_news m own then false else is_heard_out

-- it was heard out: headers have come by which it has no more to tell (`ends_by`), and in `Following` no news since
abbrev pub is_heard_out_in : Mode → Trail → Bool
is_heard_out_in mode [] = false
is_heard_out_in mode (Called ∷ t) = false
is_heard_out_in mode (Said m ∷ t) = still_heard mode m (own t) (is_heard_out_in mode t) || (ready t && ends_with m (own t))
is_heard_out_in mode (_ ∷ t) = is_heard_out_in mode t

-- the same for a client that ends once nothing is open
abbrev pub is_heard_out : Trail → Bool
is_heard_out t = is_heard_out_in Once t

-- the cause for which headers have a peer closed
abbrev pub fault_in : Accepted → Option Cause
fault_in (Longer next) = None
fault_in NoLonger = None
fault_in Unlinked = Some NotLinked
fault_in (Invalid place fault) = Some InvalidHeader
fault_in TooHigh = Some AboveLimit

-- the first cause where there is one, and else the later
abbrev pub first : Option Cause → Option Cause → Option Cause
first (Some c) later = Some c
first None later = later

-- a peer was lost by a send that failed
abbrev pub is_failing : Mark → Bool
is_failing mark.SendFailed = true
is_failing _ = false

-- a send to it has failed since it was dialled
abbrev pub has_failed : Trail → Bool
has_failed [] = false
has_failed (Called ∷ t) = false
has_failed (Lost m ∷ t) = is_failing m || has_failed t
has_failed (_ ∷ t) = has_failed t

-- what is owed to its messages: one verack to its version, and after that one pong to each ping
abbrev pub reply_to : Msg → Trail → List Msg
reply_to (Version version services time to from nonce agent height relay) t = if has_version t then [] else Verack ∷ []
reply_to (Ping number) t = if has_version t then Pong number ∷ [] else []
reply_to m t = []

-- all replies that its messages are owed, in order
abbrev pub replies_owed : Trail → List Msg
replies_owed [] = []
replies_owed (Called ∷ t) = []
replies_owed (Said m ∷ t) = replies_owed t ++ reply_to m t
replies_owed (_ ∷ t) = replies_owed t

-- a message, where it is a reply: a verack or a pong
abbrev pub as_reply : Msg → List Msg
as_reply Verack = Verack ∷ []
as_reply (Pong number) = Pong number ∷ []
as_reply m = []

-- all replies that it was sent, in order
abbrev pub replies_sent : Trail → List Msg
replies_sent [] = []
replies_sent (Called ∷ t) = []
replies_sent (Asked m ∷ t) = replies_sent t ++ as_reply m
replies_sent (_ ∷ t) = replies_sent t

-- a message is the client's version, whatever moment and number it tells: protocol 70016, no services, no addresses,
-- its agent, height 0, no relay
abbrev pub IsClientVersion : Msg → Type 0
IsClientVersion (Version version services time to from nonce agent height relay) =
    (version ≡ pos 70016) × (services ≡ 0) × (to ≡ no_address) × (from ≡ no_address) × (agent ≡ codes "/cf:1/") × (height ≡ pos 0) × (relay ≡ Some 0)
IsClientVersion m = ⊥

-- the same message was sent to it before
abbrev pub WasAsked : Trail → Msg → Type 0
WasAsked [] m = ⊥
WasAsked (Called ∷ t) m = ⊥
WasAsked (Asked n ∷ t) m = (m ≡ n) ⊎ WasAsked t m
WasAsked (_ ∷ t) m = WasAsked t m

-- a message that replies to another at once
abbrev pub IsReply : Msg → Type 0
IsReply Verack = Unit {0}
IsReply (Pong number) = Unit {0}
IsReply m = ⊥
