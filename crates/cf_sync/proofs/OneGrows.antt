-- The run of a peer whose chain grows, moment by moment: all that the follow theorem asks for is met, at both quiet
-- moments, and their texts are put.
use Rattle.std.proofs.Common.{if◌then◌else◌, ◌≡◌, ◌≢◌, inl, inr, ℕ, pos, ◌<◌, ◌≤◌, List, [], ◌∷◌, ◌++◌, length, Some, None, Bool, true, false, not, ◌==◌, refl, sym, ◌∙◌, ap, subst, arith}
use Rattle.std.specs.Fmt.{digits}
use Rattle.std.specs.Prelude.{bytes_eq}
use Rattle.std.proofs.lemmas.Bool.{cases_Bool, false≢true, eqb-true}
use Rattle.sha2.specs.Sha256.{compress, digest_bytes, first_words, hash_after, rounds, schedule, sha256}
use Rattle.cf_bytes.specs.Compact.{compact}
use Rattle.cf_bytes.specs.Hash.{hash_of}
use Rattle.cf_bytes.specs.declared.hash.Hash32.{Hash32}
use Rattle.cf_block.specs.declared.tx.Block.{Block}
use Rattle.cf_block.specs.Header.{block_hash_of, header_spelling, genesis_header}
use Rattle.cf_chain.specs.Grow.{growing_answers}
use Rattle.cf_chain.specs.Heights.{block_height}
use Rattle.cf_chain.specs.Serve.{version_reply, fork_height, most_headers}
use Rattle.cf_chain.proofs.Answering.{nothing_above}
use Rattle.cf_dispute.specs.Claims.{Table, no_claims, with_claim}
use Rattle.cf_frame.specs.Frame.{spelling}
use Rattle.cf_headers.specs.Chain.{Chain, IsIn, NoHashClash}
use Rattle.cf_headers.specs.Heights.{common_of}
use Rattle.cf_msg.specs.declared.msg.Msg.{Msg}
use Rattle.cf_msg.specs.declared.msg.Msg.TheVariants.{Verack, Headers, Block as BlockMessage}
use Rattle.cf_msg.specs.Message.{payload_of}
use Rattle.cf_msg.proofs.Sizes.{entries_size}
use Rattle.cf_wires.specs.declared.event.Delivery.TheVariants.{Got, Tick}
use Rattle.cf_wires.specs.declared.event.Event.TheVariants.{Dialled, Sent, Took}
use Rattle.cf_peer.specs.declared.mode.Mode.TheVariants.{Following}
use Rattle.cf_peer.specs.Acts.{bytes_of, IsSendable}
use Rattle.cf_wires.specs.Log.{Log}
use Rattle.cf_peer.specs.Trail.{Trail, Part, Called, Said, Asked, Passed, called_part, with_item, heard_part, spelled, asks, part_of, trail, is_connected, own, is_heard_out_in, first}
use Rattle.cf_peer.specs.Asking.{NothingOpen, ClaimsOpen, FiltersOpen, is_idle, is_spare, is_open, age, request, request_after, claims, claims_after, claims_asked, filters_asked, claims_fault, filter_fault, fault_of, verdict, counted, given_filters, given_by, filter_of, HasSaid, IsFree, block_entry, MayAskIn}
use Rattle.cf_scan.specs.HistoryText.{history_text}
use Rattle.cf_scan.specs.Watching.{IsWatch}
use Rattle.cf_sync.specs.Example.{only_header, only_hash, chain_of_one, honest_peer, our_version, its_version, question, its_headers, false_headers, ask_claims, its_claims, ask_filter, its_filter, genesis_hash, no_stop, only_filter, only_filter_hash, its_first_filter_header, other_watch, log_1, log_2}
use Rattle.cf_sync.specs.Growth.{ping_one, pong_one, news, grow_3, grow_4, grow_5, grow_6, first_quiet, grow_8, grow_9, grow_10, grow_11, grow_12, grow_13, grow_14, grow_15, grow_16, growing_run}
use Rattle.cf_sync.specs.Fetching.{IsQuiet, IsFetched, IsCleared, RightlyIn, MayTake, AreBytes, IsConnected}
use Rattle.cf_sync.specs.Honesty.{was_called}
use Rattle.cf_sync.specs.Growing.{Turn, Reaches, IsGrowingOver, IsGrowing, IsTold, OthersShowNone}
use Rattle.cf_sync.specs.Putting.{ArePut, PutsAt, WerePut, put}
use Rattle.cf_sync.specs.Sync.{strings_of, IsHashed, HasAskedIn}
use Rattle.cf_sync.proofs.Alone.{IsNoneFetching, none_filters}
use Rattle.cf_sync.proofs.Computed.{are_small, small_bytes, version_small, verack_small, headers_small, false_headers_small, claims_small, filters_small}
use Rattle.cf_sync.proofs.Counted.{same_use, said_counts}
use Rattle.cf_sync.proofs.Chains.{same_self}
use Rattle.cf_sync.proofs.TwoPeers.{IsKnown, no_clash, chain_known, headers_known, filter_known, SaysKnown, good_chain, has_room, headers_answer, claims_answer, filter_answer, accepted, of_part, other_hash, self_hash, back_only, may_ask_of, may_ask_filter_of, only_claim, hash_same, first_same, own_7, HasNone, unsaid, still_true, WasHeard, asked_all, best_is_its, heard_it, off_heard}
use Rattle.cf_sync.proofs.Written.{at_rest, spelled_is, sent_part, got_part, our_sendable, its_sendable, verack_sendable, question_sendable, headers_sendable, none_sendable, claims_sendable, filter_sendable, ask_claims_sendable, ask_filter_sendable, entry_fits}
use Rattle.cf_sync.proofs.Cleared.{AgreesWithIt, cleared_by, its_agrees, silent_agrees}

-- ---- its messages

ping_length : length (payload_of ping_one) ≡ 8
unfolding payload_of
ping_length = refl

pub ping_sendable : IsSendable ping_one
ping_sendable = record { spelled = omega arith; short = omega (arith, ping_length) }

pong_length : length (payload_of pong_one) ≡ 8
unfolding payload_of
pong_length = refl

pub pong_sendable : IsSendable pong_one
pong_sendable = record { spelled = omega arith; short = omega (arith, pong_length) }

pub news_sendable : IsSendable news
unfolding payload_of
news_sendable =
    record {
      spelled = (omega arith, (entry_fits, tt));
      short =
          omega (arith, entries_size (block_entry only_hash ∷ []) (entry_fits, tt));
    }

pong_small : are_small (bytes_of pong_one) ≡ true
unfolding first_words schedule rounds compress hash_after digest_bytes sha256 hash_of spelling payload_of compact
pong_small = refl

news_small : are_small (bytes_of news) ≡ true
unfolding first_words schedule rounds compress hash_after digest_bytes sha256 hash_of spelling payload_of compact
    block_hash_of header_spelling only_header
news_small = refl

-- ---- its part, moment by moment

abbrev v_1 : Trail
v_1 = Called ∷ []

abbrev v_2 : Trail
v_2 = Asked our_version ∷ v_1

abbrev v_3 : Trail
v_3 = Said its_version ∷ v_2

abbrev v_4 : Trail
v_4 = Asked Verack ∷ v_3

abbrev v_5 : Trail
v_5 = Said Verack ∷ v_4

abbrev v_6 : Trail
v_6 = Asked question ∷ v_5

abbrev v_7 : Trail
v_7 = Said false_headers ∷ v_6

abbrev v_8 : Trail
v_8 = Passed 5 ∷ v_7

abbrev v_9 : Trail
v_9 = Asked ping_one ∷ v_8

abbrev v_10 : Trail
v_10 = Said news ∷ v_9

abbrev v_11 : Trail
v_11 = Said pong_one ∷ v_10

abbrev v_12 : Trail
v_12 = Asked question ∷ v_11

abbrev v_13 : Trail
v_13 = Said its_headers ∷ v_12

abbrev v_14 : Trail
v_14 = Asked ask_claims ∷ v_13

abbrev v_15 : Trail
v_15 = Said its_claims ∷ v_14

abbrev v_16 : Trail
v_16 = Asked ask_filter ∷ v_15

abbrev v_17 : Trail
v_17 = Said its_filter ∷ v_16

p_1 : part_of log_1 1 ≡ at_rest v_1
p_1 = refl

p_2 : part_of log_2 1 ≡ at_rest v_2
p_2 = sent_part honest_peer our_version log_1 v_1 our_sendable p_1

p_3 : part_of grow_3 1 ≡ at_rest v_3
p_3 = got_part honest_peer its_version log_2 v_2 its_sendable p_2

p_4 : part_of grow_4 1 ≡ at_rest v_4
p_4 = sent_part honest_peer Verack grow_3 v_3 verack_sendable p_3

p_5 : part_of grow_5 1 ≡ at_rest v_5
p_5 = got_part honest_peer Verack grow_4 v_4 verack_sendable p_4

p_6 : part_of grow_6 1 ≡ at_rest v_6
p_6 = sent_part honest_peer question grow_5 v_5 question_sendable p_5

p_7 : part_of first_quiet 1 ≡ at_rest v_7
p_7 = got_part honest_peer false_headers grow_6 v_6 none_sendable p_6

p_8 : part_of grow_8 1 ≡ at_rest v_8
p_8 = ap (λ (part : Part). with_item (Passed 5) part) p_7

p_9 : part_of grow_9 1 ≡ at_rest v_9
p_9 = sent_part honest_peer ping_one grow_8 v_8 ping_sendable p_8

p_10 : part_of grow_10 1 ≡ at_rest v_10
p_10 = got_part honest_peer news grow_9 v_9 news_sendable p_9

p_11 : part_of grow_11 1 ≡ at_rest v_11
p_11 = got_part honest_peer pong_one grow_10 v_10 pong_sendable p_10

p_12 : part_of grow_12 1 ≡ at_rest v_12
p_12 = sent_part honest_peer question grow_11 v_11 question_sendable p_11

p_13 : part_of grow_13 1 ≡ at_rest v_13
p_13 = got_part honest_peer its_headers grow_12 v_12 headers_sendable p_12

p_14 : part_of grow_14 1 ≡ at_rest v_14
p_14 = sent_part honest_peer ask_claims grow_13 v_13 ask_claims_sendable p_13

p_15 : part_of grow_15 1 ≡ at_rest v_15
p_15 = got_part honest_peer its_claims grow_14 v_14 claims_sendable p_14

p_16 : part_of grow_16 1 ≡ at_rest v_16
p_16 = sent_part honest_peer ask_filter grow_15 v_15 ask_filter_sendable p_15

p_17 : part_of growing_run 1 ≡ at_rest v_17
p_17 = got_part honest_peer its_filter grow_16 v_16 filter_sendable p_16

-- nobody else was there; a tick stands in each part
abbrev IsOfOne : Log → Type 0
IsOfOne [] = Unit {0}
IsOfOne (Dialled q name ∷ log) = (q.0 ≡ 1) × IsOfOne log
IsOfOne (Sent q bytes ∷ log) = (q.0 ≡ 1) × IsOfOne log
IsOfOne (Took (Got q piece) ∷ log) = (q.0 ≡ 1) × IsOfOne log
IsOfOne (Took (Tick s) ∷ log) = IsOfOne log
IsOfOne (e ∷ log) = ⊥

abbrev ticks : Log → Trail
ticks [] = []
ticks (Took (Tick s) ∷ log) = Passed s ∷ ticks log
ticks (e ∷ log) = ticks log

none_passes : (log : Log) (k : ℕ) → (1 == k) ≡ false → IsOfOne log → part_of log k ≡ at_rest (ticks log)
none_passes [] k off h = refl
none_passes (Dialled q name ∷ log) k off h =
    ap (λ (x : Bool). if x then called_part (part_of log k) else part_of log k) (ap (λ (n : ℕ). n == k) h.0 ∙ off)
    ∙ none_passes log k off h.1
none_passes (Sent q bytes ∷ log) k off h =
    ap (λ (x : Bool). if x then record (part_of log k) { trail = asks (spelled bytes) (trail log k) } else part_of log
    k) (ap (λ (n : ℕ). n == k) h.0 ∙ off) ∙ none_passes log k off h.1
none_passes (Took (Got q piece) ∷ log) k off h =
    ap (λ (x : Bool). if x then heard_part piece (part_of log k) else part_of log k) (ap (λ (n : ℕ). n == k) h.0 ∙ off)
    ∙ none_passes log k off h.1
none_passes (Took (Tick s) ∷ log) k off h = ap (λ (part : Part). with_item (Passed s) part) (none_passes log k off h)
none_passes (e ∷ log) k off h = absurd h

-- what holds of the peer, and of nobody, holds of each
at_one : (P : Trail → Type 0) (log : Log) (here : Trail) (p : ℕ) → part_of log 1 ≡ at_rest here → IsOfOne log → P here
    → P (ticks log) → P (trail log p)
at_one P log here p one all h none = elim (cases_Bool (1 == p)) [
  | inl is1 ↦ subst (λ (k : ℕ). P (trail log k)) (eqb-true 1 p is1) (of_part P (part_of log 1) here one h)
  | inr off ↦ of_part P (part_of log p) (ticks log) (none_passes log p off all) none
]

one_7 : IsOfOne first_quiet
one_7 = (refl, (refl, (refl, (refl, (refl, (refl, (refl, tt)))))))

one_17 : IsOfOne growing_run
one_17 = (refl, (refl, (refl, (refl, (refl, (refl, (refl, (refl, (refl, one_7)))))))))

-- ---- it grows

abbrev turn : ℕ → Bool → List Msg → List Msg → Turn
turn height met left asked = record { height = height; met = met; left = left; asked = asked }

none_answer : growing_answers (pos 0) 0 [] true question ≡ false_headers ∷ []
none_answer =
    let fork = fork_height (genesis_hash ∷ []) [] in
    ap (λ hs. Headers hs ∷ []) (nothing_above (most_headers fork (block_height no_stop [])) fork)

r_2 : Reaches chain_of_one 0 v_2 (turn 0 false [] (our_version ∷ []))
r_2 = (turn 0 false [] [], refl, refl)

r_3 : Reaches chain_of_one 0 v_3 (turn 0 true (Verack ∷ []) [])
r_3 = (
  turn 0 false [] (our_version ∷ []),
  r_2,
  (
    1,
    record {
      due = version_reply (pos 0) 0 [];
      rest = Verack ∷ [];
      left = refl;
      answer = (refl, refl);
      next =
          refl;
    },
  ),
)

r_4 : Reaches chain_of_one 0 v_4 (turn 0 true (Verack ∷ []) (Verack ∷ []))
r_4 = (turn 0 true (Verack ∷ []) [], r_3, refl)

r_5 : Reaches chain_of_one 0 v_5 (turn 0 true [] (Verack ∷ []))
r_5 = (
  turn 0 true (Verack ∷ []) (Verack ∷ []),
  r_4,
  (0, record { due = Verack; rest = []; left = refl; answer = refl; next = refl }),
)

r_6 : Reaches chain_of_one 0 v_6 (turn 0 true [] (Verack ∷ question ∷ []))
r_6 = (turn 0 true [] (Verack ∷ []), r_5, refl)

r_7 : Reaches chain_of_one 0 v_7 (turn 0 true [] [])
r_7 = (
  turn 0 true [] (Verack ∷ question ∷ []),
  r_6,
  (2, record { due = false_headers; rest = []; left = none_answer; answer = refl; next = refl }),
)

r_9 : Reaches chain_of_one 0 v_9 (turn 0 true [] (ping_one ∷ []))
r_9 = (turn 0 true [] [], r_7, refl)

r_10 : Reaches chain_of_one 0 v_10 (turn 1 true [] (ping_one ∷ []))
r_10 = (
  turn 0 true [] (ping_one ∷ []),
  r_9,
  (0, record { between = refl; height = 1; up = omega arith; low = omega arith; tip = refl; next = refl }),
)

r_11 : Reaches chain_of_one 0 v_11 (turn 1 true [] [])
r_11 = (
  turn 1 true [] (ping_one ∷ []),
  r_10,
  (1, record { due = pong_one; rest = []; left = refl; answer = refl; next = refl }),
)

r_12 : Reaches chain_of_one 0 v_12 (turn 1 true [] (question ∷ []))
r_12 = (turn 1 true [] [], r_11, refl)

r_13 : Reaches chain_of_one 0 v_13 (turn 1 true [] [])
r_13 = (
  turn 1 true [] (question ∷ []),
  r_12,
  (1, record { due = its_headers; rest = []; left = headers_answer; answer = refl; next = refl }),
)

r_14 : Reaches chain_of_one 0 v_14 (turn 1 true [] (ask_claims ∷ []))
r_14 = (turn 1 true [] [], r_13, refl)

r_15 : Reaches chain_of_one 0 v_15 (turn 1 true [] [])
r_15 = (
  turn 1 true [] (ask_claims ∷ []),
  r_14,
  (1, record { due = its_claims; rest = []; left = claims_answer; answer = refl; next = refl }),
)

r_16 : Reaches chain_of_one 0 v_16 (turn 1 true [] (ask_filter ∷ []))
r_16 = (turn 1 true [] [], r_15, refl)

r_17 : Reaches chain_of_one 0 v_17 (turn 1 true [] [])
r_17 = (
  turn 1 true [] (ask_filter ∷ []),
  r_16,
  (1, record { due = its_filter; rest = []; left = filter_answer; answer = refl; next = refl }),
)

abbrev Stands : Trail → Type 0
Stands t = (s : Turn) × Reaches chain_of_one 0 t s

at_log : (log : Log) (t : Trail) → part_of log 1 ≡ at_rest t → Stands t → Stands (trail log 1)
at_log log t e h = of_part Stands (part_of log 1) t e h

grows_7 : IsGrowingOver first_quiet 1 chain_of_one 0
grows_7 = (
  at_log first_quiet v_7 p_7 (_, r_7),
  tt,
  tt,
  (
    at_log grow_6 v_6 p_6 (_, r_6),
    tt,
    tt,
    (
      at_log grow_5 v_5 p_5 (_, r_5),
      tt,
      tt,
      (
        at_log grow_4 v_4 p_4 (_, r_4),
        tt,
        tt,
        (
          at_log grow_3 v_3 p_3 (_, r_3),
          tt,
          tt,
          (at_log log_2 v_2 p_2 (_, r_2), tt, tt, (at_log log_1 v_1 p_1 (turn 0 false [] [], refl), tt, tt, tt)),
        ),
      ),
    ),
  ),
)

in_time : is_open (trail grow_8 1) ≡ true → age (trail grow_8 1) < 60
in_time = of_part (λ t. is_open t ≡ true → age t < 60) (part_of grow_8 1) v_8 p_8 (λ e. omega arith)

grows_17 : IsGrowingOver growing_run 1 chain_of_one 0
grows_17 = (
  at_log growing_run v_17 p_17 (_, r_17),
  tt,
  tt,
  (
    at_log grow_16 v_16 p_16 (_, r_16),
    tt,
    tt,
    (
      at_log grow_15 v_15 p_15 (_, r_15),
      tt,
      tt,
      (
        at_log grow_14 v_14 p_14 (_, r_14),
        tt,
        tt,
        (
          at_log grow_13 v_13 p_13 (_, r_13),
          tt,
          tt,
          (
            at_log grow_12 v_12 p_12 (_, r_12),
            tt,
            tt,
            (
              at_log grow_11 v_11 p_11 (_, r_11),
              tt,
              tt,
              (
                at_log grow_10 v_10 p_10 (_, r_10),
                tt,
                tt,
                (at_log grow_9 v_9 p_9 (_, r_9), tt, tt, (at_log grow_8 v_8 p_8 (_, r_7), in_time, tt, grows_7)),
              ),
            ),
          ),
        ),
      ),
    ),
  ),
)

pub is_growing : IsGrowing growing_run 1 chain_of_one 0
is_growing = record {
  good = good_chain;
  low = has_room;
  from = omega arith;
  dialled = of_part (λ t. was_called t ≡ true) (part_of growing_run 1) v_17 p_17 refl;
  growing = grows_17;
}

pub was_growing : IsGrowing first_quiet 1 chain_of_one 0
was_growing = record {
  good = good_chain;
  low = has_room;
  from = omega arith;
  dialled = of_part (λ t. was_called t ≡ true) (part_of first_quiet 1) v_7 p_7 refl;
  growing = grows_7;
}

pub is_told : IsTold chain_of_one 0 (trail growing_run 1) 1
is_told = of_part (λ t. IsTold chain_of_one 0 t 1) (part_of growing_run 1) v_17 p_17 (omega arith, refl)

pub was_told : IsTold chain_of_one 0 (trail first_quiet 1) 0
was_told = of_part (λ t. IsTold chain_of_one 0 t 0) (part_of first_quiet 1) v_7 p_7 refl

-- ---- the strings

says_17 : SaysKnown v_17
says_17 m bytes (inl e) i = filter_known bytes (subst (λ (x : Msg). IsIn bytes (strings_of x)) e i)
says_17 m bytes (inr (inl e)) i = absurd (subst (λ (x : Msg). IsIn bytes (strings_of x)) e i)
says_17 m bytes (inr (inr (inl e))) i = headers_known bytes (subst (λ (x : Msg). IsIn bytes (strings_of x)) e i)
says_17 m bytes (inr (inr (inr (inl e)))) i = absurd (subst (λ (x : Msg). IsIn bytes (strings_of x)) e i)
says_17 m bytes (inr (inr (inr (inr (inl e))))) i = absurd (subst (λ (x : Msg). IsIn bytes (strings_of x)) e i)
says_17 m bytes (inr (inr (inr (inr (inr (inl e)))))) i = absurd (subst (λ (x : Msg). IsIn bytes (strings_of x)) e i)
says_17 m bytes (inr (inr (inr (inr (inr (inr (inl e))))))) i = absurd (subst (λ (x : Msg). IsIn bytes (strings_of x)) e i)
says_17 m bytes (inr (inr (inr (inr (inr (inr (inr (inl e)))))))) i = absurd (subst (λ (x : Msg). IsIn bytes (strings_of x)) e i)
says_17 m bytes (inr (inr (inr (inr (inr (inr (inr (inr none)))))))) i = absurd none

-- where each peer said known strings alone, all that is hashed is known
known_in : (log : Log) → ((p : ℕ) → SaysKnown (trail log p)) → (bytes : List ℕ) → IsHashed log chain_of_one bytes → IsKnown bytes
known_in log says bytes (inl e) = inl e
known_in log says bytes (inr (inl received)) = says received.0 received.1.0 bytes received.1.1 received.1.2
known_in log says bytes (inr (inr of_blocks)) = chain_known bytes of_blocks

apart_in : (log : Log) → ((p : ℕ) → SaysKnown (trail log p)) → NoHashClash (IsHashed log chain_of_one)
apart_in log says = record {
  apart = λ a b i j e. no_clash.apart a b (known_in log says a i) (known_in log says b j) e;
  real = λ a i e. no_clash.real a (known_in log says a i) e;
}

pub growing_apart : NoHashClash (IsHashed growing_run chain_of_one)
growing_apart = apart_in growing_run (λ p. at_one SaysKnown growing_run v_17 p p_17 one_17 says_17 (λ m b none i. absurd none))

says_7 : SaysKnown v_7
says_7 m bytes said i = says_17 m bytes (inr (inr (inr (inr (inr said))))) i

pub first_apart : NoHashClash (IsHashed first_quiet chain_of_one)
first_apart = apart_in first_quiet
    (λ p. at_one SaysKnown first_quiet v_7 p p_7 one_7 says_7 (λ m b none i. absurd none))

-- ---- what was asked might be asked

again_11 : is_heard_out_in Following v_11 ≡ false
again_11 = rw other_hash refl

request_14 : request v_14 ≡ ClaimsOpen only_hash.0 (block_hash_of genesis_header) (only_hash.0 ∷ [])
request_14 = ap (λ o. claims_asked 1 only_hash.0 o) back_only

claims_15 : claims v_15 ≡ with_claim only_hash.0 only_claim no_claims
claims_15 = ap (λ r. claims_after its_claims r no_claims) request_14 ∙ rw self_hash refl

claim_found : claims v_15 only_hash.0 ≡ Some only_claim
claim_found = ap (λ (c : Table). c only_hash.0) claims_15 ∙ rw self_hash refl

request_15 : request v_15 ≡ NothingOpen
request_15 = ap (λ r. request_after its_claims r) request_14 ∙ rw self_hash refl

clean_13 : verdict v_13 ≡ None
clean_13 = rw accepted refl

claims_fine : fault_of its_claims v_14 ≡ None
claims_fine =
    ap (λ r. claims_fault 0 only_hash.0 its_first_filter_header (record { 0 = only_filter_hash } ∷ []) r no_claims)
    request_14 ∙ rw (self_hash, same_self (block_hash_of genesis_header), first_same) refl

clean_15 : verdict v_15 ≡ None
clean_15 = ap (λ x. first x (fault_of its_claims v_14)) clean_13 ∙ claims_fine

may_ask_filter : MayAskIn Following v_15 ask_filter
may_ask_filter = may_ask_filter_of v_15 only_claim
    (record { on = refl; over = refl; idle = request_15; answered = sym (same_use v_15 refl clean_15).owing }) refl
    claim_found

request_16 : request v_16 ≡ FiltersOpen (only_hash.0 ∷ []) []
request_16 = ap (λ o. filters_asked 1 o) back_only

filter_fine : fault_of its_filter v_16 ≡ None
filter_fine = ap (λ r. filter_fault 0 only_hash.0 only_filter r (claims v_15)) request_16
    ∙ rw (self_hash, claim_found, hash_same) refl

clean_17 : verdict v_17 ≡ None
clean_17 = ap (λ x. first x (fault_of its_filter v_16)) clean_15 ∙ filter_fine

request_17 : request v_17 ≡ NothingOpen
request_17 = ap (λ r. request_after its_filter r) request_16 ∙ rw self_hash refl

-- a delivery may be taken, since it is connected
there : (log : Log) (t : Trail) → part_of log 1 ≡ at_rest t → is_connected t ≡ true → MayTake Following log
there log t is on = (1, of_part (λ u. is_connected u ≡ true) (part_of log 1) t is on)

abbrev IsSpare : Trail → Type 0
IsSpare t = is_connected t ≡ true → is_spare (request t) ≡ true

none_open_15 : IsNoneFetching grow_15
none_open_15 q = at_one IsSpare grow_15 v_15 q p_15 one_17.1.1 (λ on. ap (λ r. is_spare r) request_15) (λ on. refl)

free_13 : IsFree v_13
free_13 = record { on = refl; over = refl; idle = refl; answered = sym (same_use v_13 refl clean_13).owing }

right_7 : RightlyIn Following first_quiet
right_7 = (
  there grow_6 v_6 p_6 refl,
  (
    (
      question,
      spelled_is question question_sendable,
      record {
        of_its_part = of_part (λ t. MayAskIn Following t question) (part_of grow_5 1) v_5 p_5
            (record { on = refl; over = refl; idle = refl; answered = refl }, refl, refl, refl, refl);
        wanted = tt;
        alone =
            tt;
      },
    ),
    (
      there grow_4 v_4 p_4 refl,
      (
        (
          Verack,
          spelled_is Verack verack_sendable,
          record {
            of_its_part = of_part (λ t. MayAskIn Following t Verack) (part_of grow_3 1) v_3 p_3
                (refl, refl, ([], refl));
            wanted = tt;
            alone = tt;
          },
        ),
        (
          there log_2 v_2 p_2 refl,
          (
            (
              our_version,
              spelled_is our_version our_sendable,
              record {
                of_its_part = of_part (λ t. MayAskIn Following t our_version) (part_of log_1 1) v_1 p_1
                    (refl, refl, (refl, refl, refl, refl, refl, refl, refl));
                wanted = tt;
                alone = tt;
              },
            ),
            tt,
          ),
        ),
      ),
    ),
  ),
)

right_11 : RightlyIn Following grow_11
right_11 = (
  there grow_10 v_10 p_10 refl,
  (
    there grow_9 v_9 p_9 refl,
    (
      (
        ping_one,
        spelled_is ping_one ping_sendable,
        record {
          of_its_part = of_part (λ t. MayAskIn Following t ping_one)
              (part_of grow_8 1) v_8 p_8
              (record { on = refl; over = refl; idle = refl; answered = sym (same_use v_8 refl refl).owing }, refl);
          wanted = tt;
          alone = refl;
        },
      ),
      (there first_quiet v_7 p_7 refl, right_7),
    ),
  ),
)

pub growing_right : RightlyIn Following growing_run
growing_right = (
  there grow_16 v_16 p_16 refl,
  (
    (
      ask_filter,
      spelled_is ask_filter ask_filter_sendable,
      record {
        of_its_part = of_part (λ t. MayAskIn Following t ask_filter) (part_of grow_15 1) v_15 p_15 may_ask_filter;
        wanted = tt;
        alone = none_filters grow_15 1 0 1 only_hash none_open_15;
      },
    ),
    (
      there grow_14 v_14 p_14 refl,
      (
        (
          ask_claims,
          spelled_is ask_claims ask_claims_sendable,
          record {
            of_its_part = of_part (λ t. MayAskIn Following t ask_claims) (part_of grow_13 1) v_13 p_13
                (may_ask_of v_13 free_13 refl (λ block. refl));
            wanted = tt;
            alone = tt;
          },
        ),
        (
          there grow_12 v_12 p_12 refl,
          (
            (
              question,
              spelled_is question question_sendable,
              record {
                of_its_part = of_part (λ t. MayAskIn Following t question) (part_of grow_11 1) v_11 p_11 (
                  record { on = refl; over = refl; idle = refl; answered = sym (same_use v_11 refl refl).owing },
                  again_11,
                  refl,
                  refl,
                  refl,
                );
                wanted = tt;
                alone = tt;
              },
            ),
            right_11,
          ),
        ),
      ),
    ),
  ),
)

-- ---- nothing is open at both moments

pub growing_quiet : IsQuiet growing_run
growing_quiet p = at_one (λ t. is_open t ≡ false) growing_run v_17 p p_17 one_17 (ap (λ r. not (is_idle r)) request_17) refl

pub first_is_quiet : IsQuiet first_quiet
first_is_quiet p = at_one (λ t. is_open t ≡ false) first_quiet v_7 p p_7 one_7 refl refl

-- nobody else is connected
alone_there : (log : Log) (q : ℕ) → IsOfOne log → is_connected (ticks log) ≡ false → q ≢ 1 → IsConnected log q → ⊥
alone_there log q all off other on = elim (cases_Bool (1 == q)) [
  | inl is ↦ other (sym (eqb-true 1 q is))
  | inr not_it ↦ false≢true (sym (ap (λ (part : Part). is_connected part.trail) (none_passes log q not_it all) ∙ off) ∙ on)
]

pub others_show_none : OthersShowNone growing_run 1 chain_of_one
others_show_none q other off on shows long = absurd (alone_there growing_run q one_17 refl off on)

pub others_showed_none : OthersShowNone first_quiet 1 []
others_showed_none q other off on shows long = absurd (alone_there first_quiet q one_7 refl off on)

bytes_7 : AreBytes first_quiet
bytes_7 = (
  small_bytes (bytes_of false_headers) false_headers_small,
  (small_bytes (bytes_of Verack) verack_small, (small_bytes (bytes_of its_version) version_small, tt)),
)

bytes_17 : AreBytes growing_run
bytes_17 = (
  small_bytes (bytes_of its_filter) filters_small.0,
  (
    small_bytes (bytes_of its_claims) claims_small.0,
    (
      small_bytes (bytes_of its_headers) headers_small,
      (small_bytes (bytes_of pong_one) pong_small, (small_bytes (bytes_of news) news_small, bytes_7)),
    ),
  ),
)

watch_fits : IsWatch other_watch
watch_fits = refl

heard_7 : is_heard_out_in Following (counted v_7) ≡ true
heard_7 = (same_use v_7 refl refl).hearing Following

-- it shares no block with genesis alone
abbrev SharesNone : Trail → Type 0
SharesNone t = (h : ℕ) → 1 ≤ h → h ≤ common_of (own (counted t)) [] → ⊥

none_shared : (t : Trail) → own (counted t) ≡ [] → SharesNone t
none_shared t is h one le =
    let none : common_of (own (counted t)) [] ≡ 0 = ap (λ (c : Chain). common_of c []) is in
    omega (arith, one, le, none)

apart_7 : (p : ℕ) → SharesNone (trail first_quiet p)
apart_7 p = at_one SharesNone first_quiet v_7 p p_7 one_7 (none_shared v_7 (same_use v_7 refl refl).chain) (none_shared [] refl)

pub first_asked : HasAskedIn Following other_watch 0 genesis_hash [] first_quiet
first_asked = record {
  watchable = watch_fits;
  bytes = bytes_7;
  rightly = right_7;
  told = record {
    chain = [];
    best = best_is_its first_quiet v_7 [] p_7 refl (same_use v_7 refl refl).chain refl
        (λ p on. at_one (λ t. length (own (counted t)) ≤ 0) first_quiet v_7 p p_7 one_7
        (let e = ap (λ (c : Chain). length c) (same_use v_7 refl refl).chain in omega (arith, e)) (omega arith));
    height_is = refl;
    hash_is = refl;
    scanned = record { blocks = []; taken = tt; history = refl };
  };
  asked_out = λ p on idle. record {
    heard_out = at_one (λ t. is_connected t ≡ true → is_heard_out_in Following (counted t) ≡ true) first_quiet v_7 p p_7 one_7
        (λ is1. heard_7) (λ is1. absurd (false≢true is1)) on;
    claimed = λ h one le. absurd (apart_7 p h one le);
    settled = λ h one le above no_filter no_block. absurd (apart_7 p h one le);
    tested = λ h one le above got disputed hash claims_this. absurd (apart_7 p h one le);
  };
}

heard_13 : is_heard_out_in Following v_13 ≡ true
heard_13 = rw (again_11, accepted) refl

heard_17 : is_heard_out_in Following (counted v_17) ≡ true
heard_17 = (same_use v_17 refl clean_17).hearing Following ∙ still_true (is_heard_out_in Following v_15) (still_true (is_heard_out_in Following v_13) heard_13)

chain_17 : own (counted v_17) ≡ only_header ∷ []
chain_17 = (same_use v_17 refl clean_17).chain ∙ own_7

claimed_17 : claims (counted v_17) only_hash.0 ≡ Some only_claim
claimed_17 = ap (λ (c : Table). c only_hash.0) (same_use v_17 refl clean_17).claiming ∙ claim_found

given_17 : IsIn (filter_of only_hash only_filter) (given_filters (counted v_17))
given_17 =
    let open_16 : request (counted v_16) ≡ FiltersOpen (only_hash.0 ∷ []) [] = (same_use v_16 refl clean_15).open_one
    ∙ request_16 in
    let one : counted v_17 ≡ Said its_filter ∷ counted v_16 = said_counts its_filter v_16 refl clean_17 in
    let by : given_by its_filter (request (counted v_16)) ≡ filter_of only_hash only_filter ∷ [] =
    ap (λ r. given_by its_filter r) open_16 ∙ rw self_hash refl in
    subst (λ (t : Trail). IsIn (filter_of only_hash only_filter) (given_filters t)) (sym one)
    (subst (λ js. IsIn (filter_of only_hash only_filter) (js ++ given_filters (counted v_16))) (sym by) (inl refl))

no_block : (b : Block) → HasSaid v_17 (BlockMessage b) → ⊥
no_block b (inl e) = cc
no_block b (inr (inl e)) = cc
no_block b (inr (inr (inl e))) = cc
no_block b (inr (inr (inr (inl e)))) = cc
no_block b (inr (inr (inr (inr (inl e))))) = cc
no_block b (inr (inr (inr (inr (inr (inl e)))))) = cc
no_block b (inr (inr (inr (inr (inr (inr (inl e))))))) = cc
no_block b (inr (inr (inr (inr (inr (inr (inr (inl e)))))))) = cc
no_block b (inr (inr (inr (inr (inr (inr (inr (inr none)))))))) = none

none_fetched : (b : Block) → IsFetched growing_run b → ⊥
none_fetched b got = at_one HasNone growing_run v_17 got.0 p_17 one_17 (unsaid v_17 no_block) (λ c i. i) b got.1

cleared : IsCleared other_watch growing_run only_hash.0
cleared =
    cleared_by growing_run v_17 p_17 refl claimed_17 given_17
    (λ p. at_one AgreesWithIt growing_run v_17 p p_17 one_17 (its_agrees v_17 claimed_17) (silent_agrees (Passed 5 ∷ []) refl))
    (λ got. none_fetched got.0 got.1)

pub growing_asked : HasAskedIn Following other_watch 1 only_hash [] growing_run
growing_asked =
    asked_all Following other_watch [] growing_run v_17 p_17 refl chain_17 refl watch_fits bytes_17 growing_right
    (record { blocks = record { header = only_header; txs = [] } ∷ []; taken = (inr ((λ got. none_fetched got.0 got.1), refl), tt); history = refl })
    (λ p. at_one (WasHeard Following) growing_run v_17 p p_17 one_17
    (heard_it Following v_17 chain_17 claimed_17 heard_17) (off_heard Following (Passed 5 ∷ []) refl))
    (inr cleared) (λ block got disputed. none_fetched got.0 got.1)

-- ---- the texts

-- of genesis alone, and with the block
abbrev first_text : List ℕ
first_text = history_text [] 0 genesis_hash.0

abbrev last_text : List ℕ
last_text = history_text [] 1 only_hash.0

heights_differ : (tip below : List ℕ) → bytes_eq (history_text [] 1 tip) (history_text [] 0 below) ≡ false
unfolding digits
heights_differ tip below = refl

-- while something is open to the peer nothing is put
still_put : (log : Log) (t : Trail) (texts : List (List ℕ)) → part_of log 1 ≡ at_rest t → is_open t ≡ true
    → PutsAt other_watch log texts texts
still_put log t texts is busy = record {
  at_rest = λ rests. absurd (false≢true (sym (rests.quiet 1)
      ∙ of_part (λ u. is_open u ≡ true) (part_of log 1) t is busy));
  elsewhere = λ never. refl;
}

-- at rest a text is put that is not the last one
text_put : (log : Log) (t : Trail) (height : ℕ) (hash : Hash32) (before now : List (List ℕ))
    → part_of log 1 ≡ at_rest t → is_connected t ≡ true → IsQuiet log
    → HasAskedIn Following other_watch height hash [] log → now ≡ put (history_text [] height hash.0) before
    → PutsAt other_watch log before now
text_put log t height hash before now is on quiet asked new = record {
  at_rest = λ rests. (height, (hash, ([], (asked, new))));
  elsewhere = λ never. absurd (never (record {
    quiet = quiet;
    who = 1;
    there = of_part (λ u. is_connected u ≡ true) (part_of log 1) t is on;
  }));
}

put_3 : WerePut other_watch grow_3 []
put_3 = ([], (refl, still_put log_2 v_2 [] p_2 refl))

put_5 : WerePut other_watch grow_5 []
put_5 = ([], (put_3, still_put grow_4 v_4 [] p_4 refl))

put_7 : WerePut other_watch first_quiet []
put_7 = ([], (put_5, still_put grow_6 v_6 [] p_6 refl))

put_8 : WerePut other_watch grow_8 (first_text ∷ [])
put_8 = (
  [],
  (
    put_7,
    text_put first_quiet v_7 0 genesis_hash [] (first_text ∷ []) p_7 refl first_is_quiet first_asked refl,
  ),
)

put_10 : WerePut other_watch grow_10 (first_text ∷ [])
put_10 = (first_text ∷ [], (put_8, still_put grow_9 v_9 (first_text ∷ []) p_9 refl))

put_11 : WerePut other_watch grow_11 (first_text ∷ [])
put_11 = (first_text ∷ [], (put_10, still_put grow_10 v_10 (first_text ∷ []) p_10 refl))

put_13 : WerePut other_watch grow_13 (first_text ∷ [])
put_13 = (first_text ∷ [], (put_11, still_put grow_12 v_12 (first_text ∷ []) p_12 refl))

put_15 : WerePut other_watch grow_15 (first_text ∷ [])
put_15 = (
  first_text ∷ [],
  (
    put_13,
    still_put grow_14 v_14 (first_text ∷ []) p_14 (ap (λ r. not (is_idle r)) request_14),
  ),
)

put_17 : WerePut other_watch growing_run (first_text ∷ [])
put_17 = (
  first_text ∷ [],
  (
    put_15,
    still_put grow_16 v_16 (first_text ∷ []) p_16 (ap (λ r. not (is_idle r)) request_16),
  ),
)

new_text : (last_text ∷ first_text ∷ []) ≡ put last_text (first_text ∷ [])
new_text = sym (ap (λ (same_text : Bool). if same_text then first_text ∷ [] else last_text ∷ first_text ∷ [])
    (heights_differ only_hash.0 genesis_hash.0))

pub both_put : ArePut other_watch growing_run (last_text ∷ first_text ∷ [])
both_put = (
  first_text ∷ [],
  (
    put_17,
    text_put growing_run v_17 1 only_hash (first_text ∷ []) (last_text ∷ first_text ∷ []) p_17 refl growing_quiet
        growing_asked new_text,
  ),
)
