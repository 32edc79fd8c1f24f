-- The run with two peers in which a dispute stands: the second shows the same chain and claims another filter of its block, which is fetched then.
use Rattle.std.proofs.Common.{◌≡◌, inl, inr, ℕ, List, [], ◌∷◌, length, Some, None, true, false, not, refl, sym, ◌∙◌, ap, subst, arith, ◌⊎◌, ◌≢◌, ◌++◌, Option}
use Rattle.std.specs.Prelude.{option_map}
use Rattle.std.proofs.lemmas.Bool.{false≢true}
use Rattle.cf_bytes.specs.Compact.{compact}
use Rattle.cf_bytes.specs.declared.hash.Hash32.{Hash32}
use Rattle.cf_block.specs.declared.tx.Block.{Block}
use Rattle.cf_block.specs.Header.{block_hash_of, genesis_header}
use Rattle.cf_dispute.specs.declared.claim.Claim.{Claim}
use Rattle.cf_dispute.specs.Claims.{Table, claim_of, no_claims, with_claim}
use Rattle.cf_headers.specs.Chain.{Chain, Accepted, back_to, IsIn, NoHashClash, no_hash}
use Rattle.cf_msg.specs.declared.msg.Msg.{Msg}
use Rattle.cf_msg.specs.declared.msg.Msg.TheVariants.{Verack, Cfheaders, Block as BlockMessage, Cfilter}
use Rattle.cf_msg.specs.Message.{payload_of}
use Rattle.cf_peer.specs.declared.mode.Mode.TheVariants.{Once}
use Rattle.cf_peer.specs.Acts.{bytes_of, IsSendable}
use Rattle.cf_peer.specs.Asking.{block_entry, is_spare, NothingOpen, ClaimsOpen, FiltersOpen, claims_asked, claims, claims_after, claims_fault, hash_claimed, fault_of, request, request_after, is_idle, is_open, verdict, counted, fetched_blocks, HasSaid, MayAsk, SameUse, IsFree, filter_fault, filter_of, filters_asked, given_filters, given_by}
use Rattle.cf_wires.specs.Log.{Log}
use Rattle.cf_wires.specs.declared.event.Mark.TheVariants as mark
use Rattle.cf_peer.specs.Trail.{Trail, Said, Asked, part_of, trail, is_connected, own, is_heard_out, longer_of, ends_by, fault_in, first, Lost, with_item}
use Rattle.cf_scan.specs.Scan.{scan_of}
use Rattle.cf_scan.specs.Watching.{IsWatch}
use Rattle.cf_bytes.specs.Hash.{hash_of}
use Rattle.cf_filter.specs.Filter.{filter_hash_of}
use Rattle.cf_filter.specs.Lacking.{output_items_of}
use Rattle.cf_headers.specs.Rules.{same}
use Rattle.cf_match.specs.declared.job.Job.{Job}
use Rattle.cf_peer.specs.declared.peer.Cause.TheVariants.{Omits}
use Rattle.cf_sync.proofs.Filters.{false_filter_hash_is, nothing_lacks}
use Rattle.cf_sync.specs.Example.{only_header, only_block, only_hash, chain_of_one, honest_peer, liar, its_version, question, its_headers, ask_claims, its_claims, false_claims, ask_filter, its_filter, fetch, its_block, false_version, its_first_filter_header, only_filter_hash, false_filter_hash, other_watch, log_8, dispute_9, dispute_10, dispute_11, dispute_12, dispute_13, dispute_14, dispute_15, dispute_16, dispute_17, dispute_18, dispute_19, dispute_20, dispute_21, disputed_run, false_answer, dispute_22, dispute_23, dispute_24, dispute_25, dispute_26}
use Rattle.cf_sync.specs.Fetching.{counted_part, IsQuiet, AreBytes, IsFetched, IsFetchedHash, IsCleared, IsDisputed, IsBlockWanted, Rightly, HasClaimed, IsAlone, IsOmitting, IsTest, IsTested, blocks_in, test_after}
use Rattle.cf_sync.proofs.Alone.{IsNoneFetching, none_filters, none_block}
use Rattle.cf_sync.specs.Honesty.{IsHonestOver, IsHonest, was_called, ShowsNoOther}
use Rattle.cf_sync.specs.Sync.{strings_of, IsHashed, HasAsked}
use Rattle.cf_dispute.proofs.PutIn.{same_from}
use Rattle.cf_sync.proofs.Chains.{same_self}
use Rattle.cf_sync.proofs.Computed.{name_is, small_bytes, version_small, false_version_small, verack_small, headers_small, claims_small, filters_small, block_small}
use Rattle.cf_sync.proofs.Counted.{same_use, said_counts}
use Rattle.cf_sync.proofs.Written.{at_rest, sent_part, got_part, spelled_is, name_length, its_sendable, verack_sendable, question_sendable, headers_sendable, claims_sendable, filter_sendable, ask_claims_sendable, ask_filter_sendable, fetch_sendable, block_sendable}
use Rattle.cf_sync.proofs.TwoPeers.{part_2, other_8, of_part, AreOfTwo, at_each, accepted, no_clash, IsKnown, SaysKnown, headers_known, chain_known, good_chain, has_room, at_log, honest_9, says_2, says_3, says_4, says_5, says_6, heard_7, heard_8, heard_9, heard_10, heard_11, own_7, other_hash, self_hash, may_ask_of, may_ask_claims, request_8, request_9, request_10, request_11, first_same, may_ask_filter, HasNone, unsaid, no_block_11, IsSpare, busy_1, right_9, open_where, counts_11, ShowsOnly, only_of, only_claim, first_byte, t_2, t_3, t_4, t_5, t_6, t_7, t_8, t_9, t_10, t_11, u_6, byte_known, genesis_byte, header_byte, tx_byte, filter_byte, zero_byte, may_ask_filter_of, WasHeard, asked_all, heard_it, off_heard}
use Rattle.cf_sync.proofs.Fetched.{heard_12, heard_13, may_fetch, counts_13, fetched_13, t_12, t_13, t_14, t_15, says_15, heard_14, heard_15, clean_15, counts_15, request_14, request_15, may_ask_again}
use Rattle.cf_sync.proofs.Cleared.{cleared_of_two, silent_agrees}

-- ---- what the second claims

false_length : length (payload_of false_claims) ≡ 98
unfolding payload_of compact
false_length = ap (λ (x : List ℕ). length (payload_of (Cfheaders 0 (record { 0 = x }) (record { 0 = its_first_filter_header }) (record { 0 = false_filter_hash } ∷ [])))) name_is

false_sendable : IsSendable false_claims
unfolding payload_of compact
false_sendable = record { spelled = (omega arith, name_length, refl, omega arith, (refl, tt)); short = omega (arith, false_length) }

answer_length : length (payload_of false_answer) ≡ 34
unfolding payload_of compact
answer_length = ap (λ (x : List ℕ). length (payload_of (Cfilter 0 (record { 0 = x }) []))) name_is

answer_sendable : IsSendable false_answer
unfolding payload_of compact
answer_sendable = record { spelled = (omega arith, name_length, omega arith); short = omega (arith, answer_length) }

abbrev false_claim : Claim
false_claim = claim_of (record { 0 = false_filter_hash }) (record { 0 = its_first_filter_header })

-- ---- the parts, moment by moment

abbrev v_7 : Trail
v_7 = Said its_headers ∷ u_6

abbrev v_8 : Trail
v_8 = Asked ask_claims ∷ v_7

abbrev v_9 : Trail
v_9 = Said false_claims ∷ v_8

abbrev v_10 : Trail
v_10 = Asked ask_filter ∷ v_9

abbrev v_11 : Trail
v_11 = Said false_answer ∷ v_10

abbrev v_12 : Trail
v_12 = Lost mark.Closed ∷ v_11

other_9 : part_of dispute_9 2 ≡ at_rest v_7
other_9 = got_part liar its_headers log_8 u_6 headers_sendable other_8

other_10 : part_of dispute_10 2 ≡ at_rest v_8
other_10 = sent_part liar ask_claims dispute_9 v_7 ask_claims_sendable other_9

other_19 : part_of dispute_19 2 ≡ at_rest v_8
other_19 = other_10

other_20 : part_of dispute_20 2 ≡ at_rest v_9
other_20 = got_part liar false_claims dispute_19 v_8 false_sendable other_19

other_22 : part_of dispute_22 2 ≡ at_rest v_9
other_22 = other_20

other_24 : part_of dispute_24 2 ≡ at_rest v_10
other_24 = sent_part liar ask_filter dispute_23 v_9 ask_filter_sendable other_22

other_26 : part_of dispute_26 2 ≡ at_rest v_11
other_26 = got_part liar false_answer dispute_25 v_10 answer_sendable other_24

other_27 : part_of disputed_run 2 ≡ at_rest v_12
other_27 = ap (with_item (Lost mark.Closed)) other_26

part_10 : part_of dispute_10 1 ≡ at_rest t_2
part_10 = part_2

part_11 : part_of dispute_11 1 ≡ at_rest t_3
part_11 = got_part honest_peer its_version dispute_10 t_2 its_sendable part_10

part_12 : part_of dispute_12 1 ≡ at_rest t_4
part_12 = sent_part honest_peer Verack dispute_11 t_3 verack_sendable part_11

part_13 : part_of dispute_13 1 ≡ at_rest t_5
part_13 = got_part honest_peer Verack dispute_12 t_4 verack_sendable part_12

part_14 : part_of dispute_14 1 ≡ at_rest t_6
part_14 = sent_part honest_peer question dispute_13 t_5 question_sendable part_13

part_15 : part_of dispute_15 1 ≡ at_rest t_7
part_15 = got_part honest_peer its_headers dispute_14 t_6 headers_sendable part_14

part_16 : part_of dispute_16 1 ≡ at_rest t_8
part_16 = sent_part honest_peer ask_claims dispute_15 t_7 ask_claims_sendable part_15

part_17 : part_of dispute_17 1 ≡ at_rest t_9
part_17 = got_part honest_peer its_claims dispute_16 t_8 claims_sendable part_16

part_18 : part_of dispute_18 1 ≡ at_rest t_10
part_18 = sent_part honest_peer ask_filter dispute_17 t_9 ask_filter_sendable part_17

part_19 : part_of dispute_19 1 ≡ at_rest t_11
part_19 = got_part honest_peer its_filter dispute_18 t_10 filter_sendable part_18

part_20 : part_of dispute_20 1 ≡ at_rest t_11
part_20 = part_19

part_21 : part_of dispute_21 1 ≡ at_rest t_12
part_21 = sent_part honest_peer fetch dispute_20 t_11 fetch_sendable part_20

part_22 : part_of dispute_22 1 ≡ at_rest t_13
part_22 = got_part honest_peer its_block dispute_21 t_12 block_sendable part_21

part_24 : part_of dispute_24 1 ≡ at_rest t_14
part_24 = sent_part honest_peer ask_filter dispute_22 t_13 ask_filter_sendable part_22

part_26 : part_of dispute_26 1 ≡ at_rest t_15
part_26 = got_part honest_peer its_filter dispute_24 t_14 filter_sendable part_24

part_27 : part_of disputed_run 1 ≡ at_rest t_15
part_27 = part_26

two_8 : AreOfTwo log_8
two_8 = (inr refl, (inr refl, (inr refl, (inr refl, (inr refl, (inr refl, (inl refl, (inl refl, tt))))))))

two_17 : AreOfTwo dispute_17
two_17 = (inl refl, (inl refl, (inl refl, (inl refl, (inl refl, (inl refl, (inl refl, (inr refl, (inr refl, two_8)))))))))

two_19 : AreOfTwo dispute_19
two_19 = (inl refl, (inl refl, two_17))

two_20 : AreOfTwo dispute_20
two_20 = (inr refl, two_19)

two_22 : AreOfTwo dispute_22
two_22 = (inl refl, (inl refl, two_20))

two_26 : AreOfTwo dispute_26
two_26 = (inr refl, (inl refl, (inr refl, (inl refl, two_22))))

two_27 : AreOfTwo disputed_run
two_27 = (inr refl, two_26)

-- what holds of both peers at the end, and of nobody, holds of each
of_each : (P : Trail → Type 0) (p : ℕ) → P t_15 → P v_12 → P [] → P (trail disputed_run p)
of_each P p here there none = at_each P disputed_run t_15 v_12 p part_27 other_27 two_27 here there none

-- ---- the strings

says_9 : SaysKnown v_9
says_9 m bytes (inl e) i = absurd (subst (λ (x : Msg). IsIn bytes (strings_of x)) e i)
says_9 m bytes (inr (inl e)) i = headers_known bytes (subst (λ (x : Msg). IsIn bytes (strings_of x)) e i)
says_9 m bytes (inr (inr (inl e))) i = absurd (subst (λ (x : Msg). IsIn bytes (strings_of x)) e i)
says_9 m bytes (inr (inr (inr (inl e)))) i = absurd (subst (λ (x : Msg). IsIn bytes (strings_of x)) e i)
says_9 m bytes (inr (inr (inr (inr none)))) i = absurd none

-- those of the run, and the filter that is none
abbrev IsKnownToo : List ℕ → Type 0
IsKnownToo bytes = IsKnown bytes ⊎ (bytes ≡ [])

false_byte : first_byte (hash_of []) ≡ 93
unfolding filter_hash_of
false_byte = ap first_byte false_filter_hash_is

known_byte : (a : List ℕ) → IsKnown a → first_byte (hash_of a) ≢ 93
known_byte a (inl i) e = (let f : 6 ≡ 93 = sym (byte_known a _ 6 i genesis_byte) ∙ e in absurd (omega (arith, f)))
known_byte a (inr (inl i)) e = (let f : 191 ≡ 93 = sym (byte_known a _ 191 i header_byte) ∙ e in absurd (omega (arith, f)))
known_byte a (inr (inr (inl i))) e = (let f : 60 ≡ 93 = sym (byte_known a _ 60 i tx_byte) ∙ e in absurd (omega (arith, f)))
known_byte a (inr (inr (inr i))) e = (let f : 164 ≡ 93 = sym (byte_known a _ 164 i filter_byte) ∙ e in absurd (omega (arith, f)))

none_byte : (a : List ℕ) → a ≡ [] → first_byte (hash_of a) ≡ 93
none_byte a i = byte_known a [] 93 i false_byte

no_clash_too : NoHashClash IsKnownToo
no_clash_too = record { apart = apart; real = real } where
  apart : (a b : List ℕ) → IsKnownToo a → IsKnownToo b → hash_of a ≡ hash_of b → a ≡ b
  apart a b (inl i) (inl j) e = no_clash.apart a b i j e
  apart a b (inl i) (inr j) e = absurd (known_byte a i (ap first_byte e ∙ none_byte b j))
  apart a b (inr i) (inl j) e = absurd (known_byte b j (sym (ap first_byte e) ∙ none_byte a i))
  apart a b (inr i) (inr j) e = i ∙ sym j

  real : (a : List ℕ) → IsKnownToo a → hash_of a ≡ no_hash → ⊥
  real a (inl i) e = no_clash.real a i e
  real a (inr i) e = (let f : 93 ≡ 0 = sym (none_byte a i) ∙ ap first_byte e ∙ zero_byte in absurd (omega (arith, f)))

abbrev SaysKnownToo : Trail → Type 0
SaysKnownToo t = (m : Msg) (bytes : List ℕ) → HasSaid t m → IsIn bytes (strings_of m) → IsKnownToo bytes

known_too : (t : Trail) → SaysKnown t → SaysKnownToo t
known_too t says m bytes said i = inl (says m bytes said i)

none_known : (bytes : List ℕ) → IsIn bytes (strings_of false_answer) → IsKnownToo bytes
none_known bytes (inl e) = inr e
none_known bytes (inr none) = absurd none

says_12 : SaysKnownToo v_12
says_12 m bytes (inl e) i = none_known bytes (subst (λ (x : Msg). IsIn bytes (strings_of x)) e i)
says_12 m bytes (inr said) i = inl (says_9 m bytes said i)

run_known : (bytes : List ℕ) → IsHashed disputed_run chain_of_one bytes → IsKnownToo bytes
run_known bytes (inl e) = inl (inl e)
run_known bytes (inr (inl received)) =
    of_each SaysKnownToo received.0 (known_too t_15 says_15) says_12 (λ m b none i. absurd none) received.1.0 bytes received.1.1 received.1.2
run_known bytes (inr (inr of_blocks)) = inl (chain_known bytes of_blocks)

pub disputed_apart : NoHashClash (IsHashed disputed_run chain_of_one)
disputed_apart = record {
  apart = λ a b i j e. no_clash_too.apart a b (run_known a i) (run_known b j) e;
  real = λ a i e. no_clash_too.real a (run_known a i) e;
}

-- ---- the first answers as its chain does

honest_10 : IsHonestOver dispute_10 1 chain_of_one
honest_10 = (at_log dispute_10 t_2 part_10 says_2, tt, tt, (at_log dispute_9 t_2 part_2 says_2, tt, tt, honest_9.3))

honest_15 : IsHonestOver dispute_15 1 chain_of_one
honest_15 = (
  at_log dispute_15 t_7 part_15 heard_7,
  tt,
  tt,
  (
    at_log dispute_14 t_6 part_14 says_6,
    tt,
    tt,
    (at_log dispute_13 t_5 part_13 says_5, tt, tt, (at_log dispute_12 t_4 part_12 says_4, tt, tt, (at_log dispute_11 t_3 part_11 says_3, tt, tt, honest_10))),
  ),
)

honest_20 : IsHonestOver dispute_20 1 chain_of_one
honest_20 = (
  at_log dispute_20 t_11 part_20 heard_11,
  tt,
  tt,
  (
    at_log dispute_19 t_11 part_19 heard_11,
    tt,
    tt,
    (at_log dispute_18 t_10 part_18 heard_10, tt, tt, (at_log dispute_17 t_9 part_17 heard_9, tt, tt, (at_log dispute_16 t_8 part_16 heard_8, tt, tt, honest_15))),
  ),
)

honest_22 : IsHonestOver dispute_22 1 chain_of_one
honest_22 = (at_log dispute_22 t_13 part_22 heard_13, tt, tt, (at_log dispute_21 t_12 part_21 heard_12, tt, tt, honest_20))

pub disputed_honest : IsHonest disputed_run 1 chain_of_one
disputed_honest = record {
  good = good_chain;
  low = has_room;
  dialled = of_part (λ t. was_called t ≡ true) (part_of disputed_run 1) t_15 part_27 refl;
  honest = (
    at_log disputed_run t_15 part_27 heard_15,
    tt,
    tt,
    (
      at_log dispute_26 t_15 part_26 heard_15,
      tt,
      tt,
      (
        at_log dispute_25 t_15 part_26 heard_15,
        tt,
        tt,
        (at_log dispute_24 t_14 part_24 heard_14, tt, tt, (at_log dispute_23 t_14 part_24 heard_14, tt, tt, honest_22)),
      ),
    ),
  );
}

-- ---- what counts of the second

chain_7 : own v_7 ≡ only_header ∷ []
chain_7 = ap (λ (a : Accepted). longer_of a []) accepted

clean_7 : verdict v_7 ≡ None
clean_7 = ap fault_in accepted

heard_out_7 : is_heard_out v_7 ≡ true
heard_out_7 = ap (λ (a : Accepted). ends_by a (only_header ∷ [])) accepted

back_only : back_to only_hash.0 (own v_7) ≡ Some (only_header ∷ [])
back_only = ap (λ (c : Chain). back_to only_hash.0 c) chain_7 ∙ rw (other_hash, self_hash) refl

may_ask : MayAsk v_7 ask_claims
may_ask = may_ask_of v_7 (record { on = refl; over = refl; idle = refl; answered = sym (same_use v_7 refl clean_7).owing }) (chain_7 ∙ sym own_7) (λ block. refl)

open_8 : request v_8 ≡ ClaimsOpen only_hash.0 (block_hash_of genesis_header) (only_hash.0 ∷ [])
open_8 = ap (λ o. claims_asked 1 only_hash.0 o) back_only

idle_9 : request v_9 ≡ NothingOpen
idle_9 = ap (λ r. request_after false_claims r) open_8 ∙ rw self_hash refl

claims_9 : claims v_9 ≡ with_claim only_hash.0 false_claim no_claims
claims_9 = ap (λ r. claims_after false_claims r no_claims) open_8 ∙ rw self_hash refl

claim_found : claims v_9 only_hash.0 ≡ Some false_claim
claim_found = ap (λ (c : Table). c only_hash.0) claims_9 ∙ rw self_hash refl

claims_fine : fault_of false_claims v_8 ≡ None
claims_fine = ap (λ r. claims_fault 0 only_hash.0 its_first_filter_header (record { 0 = false_filter_hash } ∷ []) r no_claims) open_8 ∙ rw (self_hash, same_self (block_hash_of genesis_header), first_same) refl

clean_9 : verdict v_9 ≡ None
clean_9 = ap (λ x. first x (fault_of false_claims v_8)) clean_7 ∙ claims_fine

same_8 : SameUse v_8
same_8 = same_use v_8 refl clean_7

same_9 : SameUse v_9
same_9 = same_use v_9 refl clean_9

claimed_9 : claims (counted v_9) only_hash.0 ≡ Some false_claim
claimed_9 = ap (λ (c : Table). c only_hash.0) same_9.claiming ∙ claim_found

-- ---- what was asked might be asked

no_block : (b : Block) → HasSaid v_9 (BlockMessage b) → ⊥
no_block b (inl e) = cc
no_block b (inr (inl e)) = cc
no_block b (inr (inr (inl e))) = cc
no_block b (inr (inr (inr (inl e)))) = cc
no_block b (inr (inr (inr (inr none)))) = none

none_fetched_19 : (b : Block) → IsFetched dispute_19 b → ⊥
none_fetched_19 b got =
    at_each HasNone dispute_19 t_11 v_8 got.0 part_19 other_19 two_19 (unsaid t_11 no_block_11) (unsaid v_8 (λ c said. no_block c (inr said))) (λ c i. i) b got.1

none_fetched : (b : Block) → IsFetched dispute_20 b → ⊥
none_fetched b got = at_each HasNone dispute_20 t_11 v_9 got.0 part_20 other_20 two_20 (unsaid t_11 no_block_11) (unsaid v_9 no_block) (λ c i. i) b got.1

none_open_17 : IsNoneFetching dispute_17
none_open_17 q = at_each IsSpare dispute_17 t_9 v_8 q part_17 other_10 two_17 (λ on. ap (λ r. is_spare r) request_9) (λ on. ap (λ r. is_spare r) open_8) (λ on. refl)

none_open_20 : IsNoneFetching dispute_20
none_open_20 q = at_each IsSpare dispute_20 t_11 v_9 q part_20 other_20 two_20 (λ on. ap (λ r. is_spare r) request_11) (λ on. ap (λ r. is_spare r) idle_9) (λ on. refl)

right_10 : Rightly dispute_10
right_10 = (
  (ask_claims, spelled_is ask_claims ask_claims_sendable, record { of_its_part = of_part (λ t. MayAsk t ask_claims) (part_of dispute_9 2) v_7 other_9 may_ask; wanted = tt; alone = tt }),
  (busy_1 log_8 part_2, right_9.1),
)

right_15 : Rightly dispute_15
right_15 = (
  (1, of_part (λ t. is_open t ≡ true) (part_of dispute_14 1) t_6 part_14 refl),
  (
    (question, spelled_is question question_sendable, record { of_its_part = of_part (λ t. MayAsk t question) (part_of dispute_13 1) t_5 part_13 (record { on = refl; over = refl; idle = refl; answered = refl }, refl, refl, refl, refl); wanted = tt; alone = tt }),
    (
      (1, of_part (λ t. is_open t ≡ true) (part_of dispute_12 1) t_4 part_12 refl),
      (
        (Verack, spelled_is Verack verack_sendable, record { of_its_part = of_part (λ t. MayAsk t Verack) (part_of dispute_11 1) t_3 part_11 (refl, refl, ([], refl)); wanted = tt; alone = tt }),
        (busy_1 dispute_10 part_10, right_10),
      ),
    ),
  ),
)

right_19 : Rightly dispute_19
right_19 = (
  (1, of_part (λ t. is_open t ≡ true) (part_of dispute_18 1) t_10 part_18 (open_where t_10 (FiltersOpen (only_hash.0 ∷ []) []) refl request_10 refl)),
  (
    (ask_filter, spelled_is ask_filter ask_filter_sendable, record { of_its_part = of_part (λ t. MayAsk t ask_filter) (part_of dispute_17 1) t_9 part_17 may_ask_filter; wanted = tt; alone = none_filters dispute_17 1 0 1 only_hash none_open_17 }),
    (
      (1, of_part (λ t. is_open t ≡ true) (part_of dispute_16 1) t_8 part_16 (open_where t_8 (ClaimsOpen only_hash.0 (block_hash_of genesis_header) (only_hash.0 ∷ [])) refl request_8 refl)),
      ((ask_claims, spelled_is ask_claims ask_claims_sendable, record { of_its_part = of_part (λ t. MayAsk t ask_claims) (part_of dispute_15 1) t_7 part_15 may_ask_claims; wanted = tt; alone = tt }), right_15),
    ),
  ),
)

right_22 : Rightly dispute_22
right_22 = (
  (1, of_part (λ t. is_open t ≡ true) (part_of dispute_21 1) t_12 part_21 refl),
  (
    (fetch, spelled_is fetch fetch_sendable, record { of_its_part = of_part (λ t. MayAsk t fetch) (part_of dispute_20 1) t_11 part_20 may_fetch; wanted = λ entry i got. none_fetched got.0 got.1; alone = none_block dispute_20 1 (block_entry only_hash ∷ []) none_open_20 }),
    (
      (2, of_part (λ t. is_open t ≡ true) (part_of dispute_19 2) v_8 other_19 (open_where v_8 (ClaimsOpen only_hash.0 (block_hash_of genesis_header) (only_hash.0 ∷ [])) refl open_8 refl)),
      right_19,
    ),
  ),
)

-- ---- the dispute

-- a log with what both claim
disputed_by : (log : Log) (t : Trail) → part_of log 1 ≡ at_rest t → part_of log 2 ≡ at_rest v_9 → is_connected t ≡ true → claims (counted t) only_hash.0 ≡ Some only_claim → IsDisputed log only_hash.0
disputed_by log t one two on claimed = record {
  one = 1;
  other = 2;
  there = (of_part (λ x. is_connected x ≡ true) (part_of log 1) t one on, of_part (λ x. is_connected x ≡ true) (part_of log 2) v_9 two refl);
  mine = record { 0 = only_filter_hash };
  yours = record { 0 = false_filter_hash };
  claims = (
    of_part (λ x. hash_claimed (claims (counted x)) only_hash.0 ≡ Some (record { 0 = only_filter_hash })) (part_of log 1) t one (ap (λ o. option_map (λ (c : Claim). c.hash) o) claimed),
    of_part (λ x. hash_claimed (claims (counted x)) only_hash.0 ≡ Some (record { 0 = false_filter_hash })) (part_of log 2) v_9 two (ap (λ o. option_map (λ (c : Claim). c.hash) o) claimed_9),
  );
  apart = λ e. let f : 164 ≡ 93 = ap (λ (h : Hash32). first_byte h.0) e in absurd (omega (arith, f));
}

pub disputed : IsDisputed dispute_22 only_hash.0
disputed = disputed_by dispute_22 t_13 part_22 other_22 refl counts_13.claimed

-- by its filter the block was cleared before, and now it is wanted
pub disputed_cleared : IsCleared other_watch dispute_19 only_hash.0
disputed_cleared = cleared_of_two dispute_19 v_8 part_19 other_19 two_19 (silent_agrees v_8 (ap (λ (c : Table). c only_hash.0) same_8.claiming))
    (λ got. none_fetched_19 got.0 got.1)

pub disputed_wanted : (watch : List (List ℕ)) → IsBlockWanted watch dispute_20 only_hash.0
disputed_wanted watch = ((λ got. none_fetched got.0 got.1), inl (disputed_by dispute_20 t_11 part_20 other_20 refl counts_11.claimed))

-- ---- each is asked for its filter, and the second's omits something

fetched_by_22 : IsFetched dispute_22 only_block
fetched_by_22 = (1, of_part (λ t. IsIn only_block (fetched_blocks (counted t))) (part_of dispute_22 1) t_13 part_22 fetched_13)

got_by_22 : IsFetchedHash dispute_22 only_hash.0
got_by_22 = (only_block, fetched_by_22, refl)

got_by_23 : IsFetchedHash dispute_23 only_hash.0
got_by_23 = (only_block, fetched_by_23, refl) where
  fetched_by_23 : IsFetched dispute_23 only_block
  fetched_by_23 = (1, of_part (λ t. IsIn only_block (fetched_blocks (counted t))) (part_of dispute_23 1) t_14 part_24 fetched_13)

is_fetched : IsFetched disputed_run only_block
is_fetched = (1, of_part (λ t. IsIn only_block (fetched_blocks (counted t))) (part_of disputed_run 1) t_15 part_27 fetched_15) where
  fetched_15 : IsIn only_block (fetched_blocks (counted t_15))
  fetched_15 = subst (λ (t : Trail). IsIn only_block (fetched_blocks t)) (sym (said_counts its_filter t_14 refl clean_15)) fetched_13

-- nothing but the fetched block's filter is asked for, so that it is open to nobody who might give another's
filter_alone : (log : Log) (p : ℕ) (t : Trail) → part_of log p ≡ at_rest t → own t ≡ only_header ∷ [] → IsFetchedHash log only_hash.0 → IsAlone log p ask_filter
filter_alone log p t part chain got block i none stands =
    let back : back_to only_hash.0 (own (trail log p)) ≡ Some (only_header ∷ []) = of_part (λ x. back_to only_hash.0 (own x) ≡ Some (only_header ∷ [])) (part_of log p) t part
    (ap (λ (c : Chain). back_to only_hash.0 c) (chain ∙ sym chain_7) ∙ back_only) in
    none (subst (IsFetchedHash log) (sym (this (subst (λ (o : Option Chain). IsIn block (blocks_in 1 o)) back i))) got) where
      this : IsIn block (only_hash.0 ∷ []) → block ≡ only_hash.0
      this (inl e) = e
      this (inr none_left) = absurd none_left

may_ask_liar : MayAsk v_9 ask_filter
may_ask_liar =
    let free : IsFree v_9 = record { on = refl; over = refl; idle = idle_9; answered = sym same_9.owing } in
    may_ask_filter_of v_9 false_claim free (chain_7 ∙ sym own_7) claim_found

open_10 : request v_10 ≡ FiltersOpen (only_hash.0 ∷ []) []
open_10 = ap (λ o. filters_asked 1 o) back_only

false_same : same false_filter_hash (filter_hash_of []) ≡ true
false_same = same_from false_filter_hash (filter_hash_of []) (sym false_filter_hash_is)

false_fine : fault_of false_answer v_10 ≡ None
false_fine = ap (λ r. filter_fault 0 only_hash.0 [] r (claims v_9)) open_10 ∙ rw (self_hash, claim_found, false_same) refl

clean_11 : verdict v_11 ≡ None
clean_11 = ap (λ x. first x (fault_of false_answer v_10)) clean_9 ∙ false_fine

same_11 : SameUse v_11
same_11 = same_use v_11 refl clean_11

claimed_11 : claims (counted v_11) only_hash.0 ≡ Some false_claim
claimed_11 = ap (λ (c : Table). c only_hash.0) same_11.claiming ∙ claim_found

abbrev false_job : Job
false_job = filter_of only_hash []

given_11 : given_filters (counted v_11) ≡ false_job ∷ given_filters (counted v_10)
given_11 =
    let open_there : request (counted v_10) ≡ FiltersOpen (only_hash.0 ∷ []) [] = (same_use v_10 refl clean_9).open_one ∙ open_10 in
    let by : given_by false_answer (request (counted v_10)) ≡ false_job ∷ [] =
    ap (λ r. given_by false_answer r) open_there ∙ rw self_hash refl in
    ap given_filters (said_counts false_answer v_10 refl clean_11) ∙ ap (λ (js : List Job). js ++ given_filters (counted v_10)) by

-- the second was asked after the block was fetched
is_test : IsTest dispute_25 2 only_hash.0
is_test = subst (λ (o : Option Msg). test_after true o dispute_23 only_hash.0 (IsTest dispute_23 2 only_hash.0)) (sym (spelled_is ask_filter ask_filter_sendable)) got_by_23

is_tested : IsTested dispute_26 false_job
is_tested = inl (
  is_test,
  record {
    news = false_job ∷ [];
    joined = of_part (λ t. given_filters (counted t) ≡ false_job ∷ given_filters (counted_part dispute_25 2)) (part_of dispute_26 2) v_11 other_26
        (given_11 ∙ ap (λ (js : List Job). false_job ∷ js) (sym (of_part (λ t. given_filters (counted t) ≡ given_filters (counted v_10)) (part_of dispute_25 2) v_10 other_24 refl)));
    among = inl refl;
  },
)

pub liar_omits : IsOmitting dispute_26 2
liar_omits = record {
  there = of_part (λ t. is_connected t ≡ true) (part_of dispute_26 2) v_11 other_26 refl;
  block = only_hash.0;
  hash = record { 0 = false_filter_hash };
  claimed = of_part (λ t. hash_claimed (claims (counted t)) only_hash.0 ≡ Some (record { 0 = false_filter_hash })) (part_of dispute_26 2) v_11 other_26
      (ap (λ o. option_map (λ (c : Claim). c.hash) o) claimed_11);
  tested = record { filter = false_job; tested = is_tested; of_block = refl; this = false_filter_hash_is };
  omits = record {
    body = only_block;
    fetched = (
      1,
      of_part (λ t. IsIn only_block (fetched_blocks (counted t))) (part_of dispute_26 1) t_15 part_26
          (subst (λ (t : Trail). IsIn only_block (fetched_blocks t)) (sym (said_counts its_filter t_14 refl clean_15)) fetched_13),
    );
    of_block = refl;
    lacking = nothing_lacks only_hash.0 (output_items_of only_block);
  };
}

disputed_right : Rightly disputed_run
disputed_right = (
  (Omits, inr (refl, liar_omits)),
  (
    (2, of_part (λ t. is_open t ≡ true) (part_of dispute_25 2) v_10 other_24 (open_where v_10 (FiltersOpen (only_hash.0 ∷ []) []) refl open_10 refl)),
    (
      (1, of_part (λ t. is_open t ≡ true) (part_of dispute_24 1) t_14 part_24 (open_where t_14 (FiltersOpen (only_hash.0 ∷ []) []) refl request_14 refl)),
      (
        (
          ask_filter,
          spelled_is ask_filter ask_filter_sendable,
          record {
            of_its_part = of_part (λ t. MayAsk t ask_filter) (part_of dispute_23 2) v_9 other_22 may_ask_liar;
            wanted = tt;
            alone = filter_alone dispute_23 2 v_9 other_22 chain_7 got_by_23;
          },
        ),
        (
          (
            ask_filter,
            spelled_is ask_filter ask_filter_sendable,
            record {
              of_its_part = of_part (λ t. MayAsk t ask_filter) (part_of dispute_22 1) t_13 part_22 may_ask_again;
              wanted = tt;
              alone = filter_alone dispute_22 1 t_13 part_22 own_7 got_by_22;
            },
          ),
          right_22,
        ),
      ),
    ),
  ),
)

-- ---- the end

pub disputed_quiet : IsQuiet disputed_run
disputed_quiet p = of_each (λ t. is_open t ≡ false) p (ap (λ r. not (is_idle r)) request_15) refl refl

pub disputed_alone : ShowsNoOther disputed_run chain_of_one
disputed_alone q other on shows long = of_each (ShowsOnly other) q (only_of other t_15 counts_15.showing) (λ is1 s l. absurd (false≢true is1)) (λ is1 s l. absurd (false≢true is1)) on shows long

disputed_bytes : AreBytes disputed_run
disputed_bytes = (small_bytes (bytes_of false_answer) filters_small.1, (small_bytes (bytes_of its_filter) filters_small.0, (small_bytes (bytes_of its_block) block_small, (small_bytes (bytes_of false_claims) claims_small.1, (small_bytes (bytes_of its_filter) filters_small.0, (small_bytes (bytes_of its_claims) claims_small.0, bytes_15)))))) where
  bytes_9 : AreBytes dispute_9
  bytes_9 = (small_bytes (bytes_of its_headers) headers_small, (small_bytes (bytes_of Verack) verack_small, (small_bytes (bytes_of false_version) false_version_small, tt)))

  bytes_15 : AreBytes dispute_15
  bytes_15 = (small_bytes (bytes_of its_headers) headers_small, (small_bytes (bytes_of Verack) verack_small, (small_bytes (bytes_of its_version) version_small, bytes_9)))

pub disputed_asked : (watch : List (List ℕ)) → IsWatch watch → HasAsked watch 1 only_hash (scan_of chain_of_one watch) disputed_run
disputed_asked watch fits =
    asked_all Once watch (scan_of chain_of_one watch) disputed_run t_15 part_27 refl counts_15.chain refl fits disputed_bytes disputed_right
    (record { blocks = chain_of_one; taken = (inl (is_fetched, refl), tt); history = refl })
    (λ p. of_each (WasHeard Once) p (heard_it Once t_15 counts_15.chain counts_15.claimed counts_15.heard_out)
    (off_heard Once v_12 refl) (off_heard Once [] refl))
    (inl (only_block, is_fetched, refl)) (λ block got disputed. no_dispute block disputed) where
      -- the first alone is left
      no_dispute : (block : List ℕ) → IsDisputed disputed_run block → ⊥
      no_dispute block d = d.apart (one_hash (alone d.one d.mine d.there.0 d.claims.0) (alone d.other d.yours d.there.1 d.claims.1)) where
        alone : (q : ℕ) (hash : Hash32) → is_connected (trail disputed_run q) ≡ true → HasClaimed disputed_run q block hash → hash_claimed (claims (counted t_15)) block ≡ Some hash
        alone q hash on = of_each (λ t. is_connected t ≡ true → hash_claimed (claims (counted t)) block ≡ Some hash → hash_claimed (claims (counted t_15)) block ≡ Some hash) q
            (λ is1 e. e) (λ is1. absurd (false≢true is1)) (λ is1. absurd (false≢true is1)) on

        one_hash : {a b : Hash32} → hash_claimed (claims (counted t_15)) block ≡ Some a → hash_claimed (claims (counted t_15)) block ≡ Some b → a ≡ b
        one_hash {a} {b} x y = (let both : Some a ≡ Some b = sym x ∙ y in cc)
