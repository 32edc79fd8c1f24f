-- Who has omitted something: what leaves it so; that no words of a peer's own give that cause; and that who is connected hasn't.
use Rattle.std.proofs.Common.{◌≡◌, inl, inr, ℕ, ◌==◌, List, [], ◌∷◌, ◌++◌, length, Option, Some, None, Ok, Err, Bool, true, false, if◌then◌else◌, refl, sym, ◌∙◌}
use Rattle.std.specs.Prelude.{◌||◌}
use Rattle.std.proofs.lemmas.Bool.{false≢true, eqb-true, eq-eqb}
use Rattle.cf_block.specs.declared.tx.Block.{Block}
use Rattle.cf_bytes.specs.declared.hash.Hash32.{Hash32}
use Rattle.cf_dispute.specs.Claims.{Table, first_filter_header, header_at}
use Rattle.cf_filter.specs.Filter.{filter_hash_of}
use Rattle.cf_frame.specs.declared.frame.Frame.{Frame}
use Rattle.cf_frame.specs.declared.frame.FrameFault.{FrameFault}
use Rattle.cf_frame.specs.Stream.{read_stream}
use Rattle.cf_headers.specs.Chain.{Hash, Accepted, Longer, NoLonger, Unlinked, Invalid, TooHigh, accept}
use Rattle.cf_msg.specs.declared.msg.Msg.{Msg}
use Rattle.cf_msg.specs.declared.msg.Msg.TheVariants.{Version, Headers, Block as BlockMessage, Cfheaders, Cfilter}
use Rattle.cf_msg.specs.Reading.{message_of}
use Rattle.cf_wires.specs.declared.event.Delivery.TheVariants.{Got, Gone, Tick, Ended}
use Rattle.cf_wires.specs.declared.event.Event.{Event}
use Rattle.cf_wires.specs.declared.event.Event.TheVariants.{Dialled, NotDialled, Sent, SendFailed, Closed, Took}
use Rattle.cf_wires.specs.declared.event.Mark.TheVariants as mark
use Rattle.cf_wires.specs.Log.{Log}
use Rattle.cf_peer.specs.declared.peer.Cause.{Cause}
use Rattle.cf_peer.specs.declared.peer.Cause.TheVariants.{BadFrame, Malformed, NoFilters, WrongCount, WrongPrevious, OtherFilter, BadBlock, Omits}
use Rattle.cf_peer.specs.Trail.{Trail, Part, Called, Lost, asks, called_part, is_connected, has_failed, fault_in, first, has_filters, heard_part, hears, hears_fault, item_of, item_of_read, has_version, own, part_of, ready, spelled, trail, went_on, with_item}
use Rattle.cf_peer.specs.Asking.{OpenRequest, ClaimsOpen, FiltersOpen, BlockOpen, block_fault, claims, claims_fault, fault_of, filter_fault, hash_claimed, is_answer_of, is_committed, is_this, is_wanted, request, verdict}
use Rattle.cf_sync.specs.Blame.{HasOmitted}
use Rattle.cf_sync.proofs.Deaf.{heard_on}
use Rattle.cf_sync.proofs.Entries.{at_either}

-- ---- no words of a peer's own give this cause

-- it isn't this cause
abbrev IsNoOmission : Option Cause → Type 0
IsNoOmission o = o ≡ Some Omits → ⊥

neither : (b : Bool) (x y : Option Cause) → IsNoOmission x → IsNoOmission y → IsNoOmission (if b then x else y)
neither true x y one other = one
neither false x y one other = other

first_neither : (x y : Option Cause) → IsNoOmission x → IsNoOmission y → IsNoOmission (first x y)
first_neither (Some cause) y one other = one
first_neither None y one other = other

chain_fault : (a : Accepted) → IsNoOmission (fault_in a)
chain_fault (Longer next) = λ is. cc
chain_fault NoLonger = λ is. cc
chain_fault Unlinked = λ is. cc
chain_fault (Invalid place fault) = λ is. cc
chain_fault TooHigh = λ is. cc

claims_neither : (filter : ℕ) (stop previous : Hash) (hashes : List Hash32) (r : OpenRequest) (table : Table)
    → IsNoOmission (claims_fault filter stop previous hashes r table)
claims_neither filter stop previous hashes (ClaimsOpen wanted parent blocks) table =
    neither (is_answer_of filter stop wanted) _ None
    (neither (length blocks == length hashes) _ (Some WrongCount)
    (neither (is_this (header_at first_filter_header table parent) previous) None (Some WrongPrevious) (λ is. cc) (λ is. cc))
    (λ is. cc)) (λ is. cc)
claims_neither filter stop previous hashes r table = λ is. cc

filter_neither : (filter : ℕ) (block : Hash) (bytes : List ℕ) (r : OpenRequest) (table : Table)
    → IsNoOmission (filter_fault filter block bytes r table)
filter_neither filter block bytes (FiltersOpen (next ∷ left) came) table =
    neither (is_answer_of filter block next) _ None
    (neither (is_this (hash_claimed table next) (filter_hash_of bytes)) None (Some OtherFilter) (λ is. cc) (λ is. cc))
    (λ is. cc)
filter_neither filter block bytes (FiltersOpen [] came) table = λ is. cc
filter_neither filter block bytes r table = λ is. cc

block_neither : (b : Block) (r : OpenRequest) → IsNoOmission (block_fault b r)
block_neither b (BlockOpen wanted) =
    neither (is_wanted b wanted) _ None
    (neither (is_committed b) None (Some BadBlock) (λ is. cc) (λ is. cc)) (λ is. cc)
block_neither b r = λ is. cc

message_neither : (m : Msg) (t : Trail) → IsNoOmission (fault_of m t)
message_neither (Version version services time to from nonce agent height relay) t =
    neither (has_version t || has_filters services) None (Some NoFilters) (λ is. cc) (λ is. cc)
message_neither (Headers hs) t =
    neither (ready t) (fault_in (accept hs (own t))) None (chain_fault (accept hs (own t))) (λ is. cc)
message_neither (Cfheaders filter stop previous hashes) t =
    claims_neither filter stop.0 previous.0 hashes (request t) (claims t)
message_neither (Cfilter filter block bytes) t = filter_neither filter block.0 bytes (request t) (claims t)
message_neither (BlockMessage b) t = block_neither b (request t)
message_neither m t = λ is. cc

abbrev IsUnnamed : Trail → Type 0
IsUnnamed t = IsNoOmission (verdict t)

frame_unnamed : (f : Frame) (t : Trail) → IsUnnamed t → IsUnnamed (item_of f ∷ t)
frame_unnamed f t none = elim (message_of f) as (λ r. IsUnnamed (item_of_read r ∷ t)) [
  | Ok m ↦ first_neither (verdict t) (fault_of m t) none (message_neither m t)
  | Err e ↦ first_neither (verdict t) (Some Malformed) none (λ is. cc)
]

hears_unnamed : (fs : List Frame) (t : Trail) → IsUnnamed t → IsUnnamed (hears fs t)
hears_unnamed [] t none = none
hears_unnamed (f ∷ fs) t none = hears_unnamed fs (item_of f ∷ t) (frame_unnamed f t none)

end_unnamed : (o : Option FrameFault) (t : Trail) → IsUnnamed t → IsUnnamed (hears_fault o t)
end_unnamed None t none = none
end_unnamed (Some fault) t none = first_neither (verdict t) (Some BadFrame) none (λ is. cc)

piece_unnamed : (piece : List ℕ) (part : Part) → IsUnnamed part.trail → IsUnnamed (heard_part piece part).trail
piece_unnamed piece part none = (let r = read_stream (part.waits ++ piece) in end_unnamed r.fault
    (hears r.frames part.trail) (hears_unnamed r.frames part.trail none))

abbrev IsUnnamedPart : Part → Type 0
IsUnnamedPart part = IsUnnamed part.trail

asks_unnamed : (o : Option Msg) (t : Trail) → IsUnnamed t → IsUnnamed (asks o t)
asks_unnamed None t none = none
asks_unnamed (Some m) t none = none

went_unnamed : (e : Event) (p : ℕ) (part : Part) → IsUnnamed part.trail → IsUnnamedPart (went_on e p part)
went_unnamed (Dialled q name) p part none =
    at_either IsUnnamedPart (q.0 == p) (called_part part) part (λ is no. cc no) (λ off. none)
went_unnamed (NotDialled q name) p part none =
    at_either IsUnnamedPart (q.0 == p) (with_item (Lost mark.NotDialled) part) part (λ is. none) (λ off. none)
went_unnamed (Sent q bytes) p part none =
    at_either IsUnnamedPart (q.0 == p) (record part { trail = asks (spelled bytes) part.trail }) part
    (λ is. asks_unnamed (spelled bytes) part.trail none) (λ off. none)
went_unnamed (SendFailed q) p part none =
    at_either IsUnnamedPart (q.0 == p) (with_item (Lost mark.SendFailed) part) part (λ is. none) (λ off. none)
went_unnamed (Closed q) p part none =
    at_either IsUnnamedPart (q.0 == p) (with_item (Lost mark.Closed) part) part (λ is. none) (λ off. none)
went_unnamed (Took (Got q piece)) p part none =
    at_either IsUnnamedPart (q.0 == p) (heard_part piece part) part (λ is. piece_unnamed piece part none) (λ off. none)
went_unnamed (Took (Gone q)) p part none =
    at_either IsUnnamedPart (q.0 == p) (with_item (Lost mark.Gone) part) part (λ is. none) (λ off. none)
went_unnamed (Took (Tick s)) p part none = none
went_unnamed (Took Ended) p part none = none

-- the words of no peer give it
pub words_unnamed : (log : Log) (p : ℕ) → verdict (trail log p) ≡ Some Omits → ⊥
words_unnamed [] p is = cc is
words_unnamed (e ∷ log) p is = went_unnamed e p (part_of log p) (words_unnamed log p) is

-- ---- no send to who has omitted something has failed since

pub off_unfailed : (t : Trail) → is_connected t ≡ true → has_failed t ≡ false
off_unfailed [] on = refl
off_unfailed (Called ∷ t) on = refl
off_unfailed (Lost w ∷ t) on = absurd (false≢true on)
off_unfailed (i ∷ t) on = off_unfailed t on

frame_failed : (f : Frame) (t : Trail) → has_failed (item_of f ∷ t) ≡ has_failed t
frame_failed f t = elim (message_of f) as (λ r. has_failed (item_of_read r ∷ t) ≡ has_failed t) [ Ok m ↦ refl | Err e ↦ refl ]

hears_failed : (fs : List Frame) (t : Trail) → has_failed (hears fs t) ≡ has_failed t
hears_failed [] t = refl
hears_failed (f ∷ fs) t = hears_failed fs (item_of f ∷ t) ∙ frame_failed f t

end_failed : (o : Option FrameFault) (t : Trail) → has_failed (hears_fault o t) ≡ has_failed t
end_failed None t = refl
end_failed (Some fault) t = refl

asks_failed : (o : Option Msg) (t : Trail) → has_failed (asks o t) ≡ has_failed t
asks_failed None t = refl
asks_failed (Some m) t = refl

piece_failed : (piece : List ℕ) (part : Part) → has_failed (heard_part piece part).trail ≡ has_failed part.trail
piece_failed piece part = (let r = read_stream (part.waits ++ piece) in
    end_failed r.fault (hears r.frames part.trail) ∙ hears_failed r.frames part.trail)

abbrev IsUnfailed : Part → Type 0
IsUnfailed part = has_failed part.trail ≡ false

pub omitted_unfailed : (log : Log) (p : ℕ) → HasOmitted log p → has_failed (trail log p) ≡ false
omitted_unfailed [] p h = absurd h
omitted_unfailed (Dialled q name ∷ log) p h =
    at_either IsUnfailed (q.0 == p) (called_part (part_of log p)) (part_of log p) (λ is. refl)
    (λ off. omitted_unfailed log p h.1)
omitted_unfailed (NotDialled q name ∷ log) p h =
    at_either IsUnfailed (q.0 == p) (with_item (Lost mark.NotDialled) (part_of log p)) (part_of log p)
    (λ is. omitted_unfailed log p h) (λ off. omitted_unfailed log p h)
omitted_unfailed (Sent q bytes ∷ log) p h =
    at_either IsUnfailed (q.0 == p) (record (part_of log p) { trail = asks (spelled bytes) (trail log p) })
    (part_of log p) (λ is. asks_failed (spelled bytes) (trail log p) ∙ omitted_unfailed log p h)
    (λ off. omitted_unfailed log p h)
omitted_unfailed (SendFailed q ∷ log) p h =
    at_either IsUnfailed (q.0 == p) (with_item (Lost mark.SendFailed) (part_of log p)) (part_of log p)
    (λ is. absurd (h.0 (eqb-true q.0 p is))) (λ off. omitted_unfailed log p h.1)
omitted_unfailed (Closed q ∷ log) p (inl now) =
    let unfailed = off_unfailed (trail log p) now.1.there in
    at_either IsUnfailed (q.0 == p) (with_item (Lost mark.Closed) (part_of log p)) (part_of log p) (λ is. unfailed)
    (λ off. unfailed)
omitted_unfailed (Closed q ∷ log) p (inr before) =
    let unfailed = omitted_unfailed log p before in
    at_either IsUnfailed (q.0 == p) (with_item (Lost mark.Closed) (part_of log p)) (part_of log p) (λ is. unfailed)
    (λ off. unfailed)
omitted_unfailed (Took (Got q piece) ∷ log) p h =
    at_either IsUnfailed (q.0 == p) (heard_part piece (part_of log p)) (part_of log p)
    (λ is. piece_failed piece (part_of log p) ∙ omitted_unfailed log p h) (λ off. omitted_unfailed log p h)
omitted_unfailed (Took (Gone q) ∷ log) p h =
    at_either IsUnfailed (q.0 == p) (with_item (Lost mark.Gone) (part_of log p)) (part_of log p)
    (λ is. omitted_unfailed log p h) (λ off. omitted_unfailed log p h)
omitted_unfailed (Took (Tick s) ∷ log) p h = omitted_unfailed log p h
omitted_unfailed (Took Ended ∷ log) p h = omitted_unfailed log p h

-- ---- who has omitted something is cut off

asks_connected : (o : Option Msg) (t : Trail) → is_connected (asks o t) ≡ is_connected t
asks_connected None t = refl
asks_connected (Some m) t = refl

abbrev IsCutOff : Part → Type 0
IsCutOff part = is_connected part.trail ≡ false

pub omitted_cut_off : (log : Log) (p : ℕ) → HasOmitted log p → is_connected (trail log p) ≡ false
omitted_cut_off [] p h = absurd h
omitted_cut_off (Dialled q name ∷ log) p h =
    at_either IsCutOff (q.0 == p) (called_part (part_of log p)) (part_of log p)
    (λ is. absurd (h.0 (eqb-true q.0 p is))) (λ off. omitted_cut_off log p h.1)
omitted_cut_off (NotDialled q name ∷ log) p h =
    at_either IsCutOff (q.0 == p) (with_item (Lost mark.NotDialled) (part_of log p)) (part_of log p)
    (λ is. refl) (λ off. omitted_cut_off log p h)
omitted_cut_off (Sent q bytes ∷ log) p h =
    at_either IsCutOff (q.0 == p) (record (part_of log p) { trail = asks (spelled bytes) (trail log p) })
    (part_of log p) (λ is. asks_connected (spelled bytes) (trail log p) ∙ omitted_cut_off log p h)
    (λ off. omitted_cut_off log p h)
omitted_cut_off (SendFailed q ∷ log) p h =
    at_either IsCutOff (q.0 == p) (with_item (Lost mark.SendFailed) (part_of log p)) (part_of log p) (λ is. refl)
    (λ off. omitted_cut_off log p h.1)
omitted_cut_off (Closed q ∷ log) p (inl now) =
    at_either IsCutOff (q.0 == p) (with_item (Lost mark.Closed) (part_of log p)) (part_of log p) (λ is. refl)
    (λ off. absurd (false≢true (sym off ∙ eq-eqb q.0 p now.0)))
omitted_cut_off (Closed q ∷ log) p (inr before) =
    at_either IsCutOff (q.0 == p) (with_item (Lost mark.Closed) (part_of log p)) (part_of log p) (λ is. refl)
    (λ off. omitted_cut_off log p before)
omitted_cut_off (Took (Got q piece) ∷ log) p h =
    at_either IsCutOff (q.0 == p) (heard_part piece (part_of log p)) (part_of log p)
    (λ is. heard_on piece (part_of log p) ∙ omitted_cut_off log p h) (λ off. omitted_cut_off log p h)
omitted_cut_off (Took (Gone q) ∷ log) p h =
    at_either IsCutOff (q.0 == p) (with_item (Lost mark.Gone) (part_of log p)) (part_of log p)
    (λ is. refl) (λ off. omitted_cut_off log p h)
omitted_cut_off (Took (Tick s) ∷ log) p h = omitted_cut_off log p h
omitted_cut_off (Took Ended ∷ log) p h = omitted_cut_off log p h

-- who is connected hasn't since it was dialled
pub connected_unomitted : (log : Log) (p : ℕ) → is_connected (trail log p) ≡ true → HasOmitted log p → ⊥
connected_unomitted log p on omitted = false≢true (sym (omitted_cut_off log p omitted) ∙ on)
