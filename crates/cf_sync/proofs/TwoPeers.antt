-- The runs with two peers, moment by moment: one is honest, and all that was asked might be asked.
use Rattle.std.proofs.Common.{if◌then◌else◌, ◌≡◌, ◌⊎◌, inl, inr, ℕ, ◌<◌, ◌≤◌, List, [], ◌∷◌, ◌++◌, map, length, get_or, Some, None, Bool, true, false, not, ◌&&◌, ◌||◌, ◌==◌, refl, sym, ◌∙◌, ap, subst, arith}
use Rattle.std.specs.FinMap.{empty, get-empty}
use Rattle.std.proofs.lemmas.Bool.{cases_Bool, false≢true, and_parts, eqb-true}
use Rattle.cf_bytes.specs.Hash.{hash_of}
use Rattle.cf_block.specs.declared.header.Header.{Header}
use Rattle.cf_block.specs.declared.tx.Block.{Block}
use Rattle.cf_block.specs.Header.{IsHeader, header_spelling, block_hash_of, genesis_header}
use Rattle.cf_block.specs.Tx.{tx_spelling, txid_of}
use Rattle.cf_block.specs.Outpoint.{outpoint_cmp, outpoint}
use Rattle.cf_block.specs.Merkle.{nodes_within, hashed}
use Rattle.cf_block.specs.Commitment.{spelled_txs, is_coinbase_tx}
use Rattle.cf_block.specs.Output.{Output}
use Rattle.cf_block.specs.declared.tx.TxIn.{TxIn}
use Rattle.cf_bytes.specs.declared.hash.Hash32.{Hash32}
use Rattle.cf_chain.specs.Coins.{spent_outputs}
use Rattle.cf_chain.specs.Filters.{Filtered, prevouts, first_filtered}
use Rattle.cf_chain.specs.Good.{IsGoodTx, IsGoodChain}
use Rattle.cf_dispute.specs.declared.claim.Claim.{Claim}
use Rattle.cf_dispute.specs.Claims.{Table, no_claims, claim_of, with_claim, first_filter_header}
use Rattle.cf_filter.specs.Items.{items_of}
use Rattle.cf_filter.specs.Filter.{basic_filter_of, filter_hash_of}
use Rattle.cf_match.specs.declared.job.Job.{Job}
use Rattle.cf_chain.specs.Serve.{headers_reply, range_end, cfheaders_reply, cfilters_reply}
use Rattle.cf_headers.specs.Rules.{same, is_worked, is_timely}
use Rattle.cf_headers.specs.Chain.{Chain, no_hash, height_limit, past_of, fits, back_to, accept, Accepted, Longer, IsValidChain, IsIn, NoHashClash, Hash}
use Rattle.cf_headers.specs.Heights.{hash_at, common_of}
use Rattle.cf_headers.proofs.Commons.{common_own}
use Rattle.cf_headers.specs.Shown.{IsShown, Shows, IsShownSpelling}
use Rattle.cf_msg.specs.declared.msg.Msg.{Msg}
use Rattle.cf_msg.specs.declared.msg.Msg.TheVariants.{Verack, Block as BlockMessage, Cfheaders, Cfilter}
use Rattle.cf_wires.specs.declared.event.Delivery.TheVariants.{Got}
use Rattle.cf_wires.specs.declared.event.Event.TheVariants.{Dialled, Sent, Took, Closed}
use Rattle.cf_wires.specs.declared.event.Mark.TheVariants as mark
use Rattle.cf_peer.specs.declared.mode.Mode.TheVariants.{Once}
use Rattle.cf_peer.specs.Acts.{bytes_of}
use Rattle.cf_peer.specs.Asking.{OpenRequest, is_spare, NothingOpen, ClaimsOpen, FiltersOpen, claims_asked, filters_asked, filter_of, claims, claims_after, claims_fault, filter_fault, fault_of, request_after, is_idle, given_filters, given_by, HasHeader, IsFree, IsRange, request, is_committed, is_open, verdict, counted, lists, fetched_blocks, HasSaid, MayAsk, SameUse}
use Rattle.cf_wires.specs.Log.{Log}
use Rattle.cf_peer.specs.Trail.{Trail, Part, Called, Said, Asked, called_part, heard_part, spelled, asks, part_of, trail, is_connected, ready, own, is_heard_out, longer_of, ends_by, fault_in, first, Lost, with_item, is_heard_out_in}
use Rattle.cf_sync.specs.Example.{only_tx, only_header, only_block, only_hash, chain_of_one, honest_peer, liar, genesis_hash, no_stop, our_version, its_version, false_version, question, its_headers, false_headers, its_block, log_1, log_2, log_3, log_4, log_5, log_6, log_7, log_8, log_9, log_10, log_11, log_12, log_13, log_14, log_15, log_16, log_17, log_18, run_of_two, cleared_run, only_filter, only_filter_hash, its_first_filter_header, ask_claims, its_claims, ask_filter, its_filter}
use Rattle.cf_sync.specs.Fetching.{IsQuiet, IsBusy, AreBytes, IsFetched, IsConnected, Rightly, counted_part, IsBest, IsDisputed, IsFetchedHash, IsScanOver, IsSettled, RightlyIn}
use Rattle.cf_sync.proofs.Alone.{IsNoneFetching, none_filters}
use Rattle.cf_sync.specs.Honesty.{Leaves, answers, AnswersAs, IsHonestOver, IsHonest, was_called, ShowsNoOther, filters_above}
use Rattle.cf_sync.specs.Sync.{strings_of, IsOfBlocks, IsHashed, HasAskedIn}
use Rattle.cf_dispute.proofs.Genesis.{first_header_is}
use Rattle.cf_sync.proofs.Asks.{first_is}
use Rattle.cf_sync.proofs.Ranges.{filters_in, hashes_in, claims_reply, filters_reply}
use Rattle.cf_sync.proofs.Filters.{only_items, only_filter_by_name, only_filter_hash_is}
use Rattle.cf_dispute.proofs.PutIn.{same_from, same_true}
use Rattle.cf_sync.proofs.Chains.{same_self, cases_same, heads, Setting}
use Rattle.cf_sync.proofs.Serving.{next_reply}
use Rattle.cf_sync.proofs.Counted.{same_use, said_counts, counted_said, fetched_said}
use Rattle.cf_sync.proofs.Settles.{committed_is}
use Rattle.cf_sync.proofs.Computed.{genesis_is, name_is, txid_is, header_fits_type, worked, timely, previous_is_genesis, block_fits, committed, small_bytes, version_small, false_version_small, verack_small, headers_small, false_headers_small, claims_small, filters_small}
use Rattle.cf_sync.proofs.Written.{spelled_is, at_rest, sent_part, got_part, our_sendable, its_sendable, false_sendable, verack_sendable, question_sendable, headers_sendable, none_sendable, claims_sendable, filter_sendable, ask_claims_sendable, ask_filter_sendable}
use Rattle.cf_peer.specs.declared.mode.Mode.{Mode}
use Rattle.cf_scan.specs.declared.history.Entry.{Entry}
use Rattle.cf_scan.specs.Watching.{IsWatch}

-- ---- the parts, moment by moment

abbrev pub t_1 : Trail
t_1 = Called ∷ []

abbrev pub t_2 : Trail
t_2 = Asked our_version ∷ t_1

abbrev pub t_3 : Trail
t_3 = Said its_version ∷ t_2

abbrev pub t_4 : Trail
t_4 = Asked Verack ∷ t_3

abbrev pub t_5 : Trail
t_5 = Said Verack ∷ t_4

abbrev pub t_6 : Trail
t_6 = Asked question ∷ t_5

abbrev pub t_7 : Trail
t_7 = Said its_headers ∷ t_6

abbrev pub t_8 : Trail
t_8 = Asked ask_claims ∷ t_7

abbrev pub t_9 : Trail
t_9 = Said its_claims ∷ t_8

abbrev pub t_10 : Trail
t_10 = Asked ask_filter ∷ t_9

abbrev pub t_11 : Trail
t_11 = Said its_filter ∷ t_10

part_1 : part_of log_1 1 ≡ at_rest t_1
part_1 = refl

pub part_2 : part_of log_2 1 ≡ at_rest t_2
part_2 = sent_part honest_peer our_version log_1 t_1 our_sendable part_1

-- nothing passes of it while the other peer is heard
part_9 : part_of log_9 1 ≡ at_rest t_2
part_9 = part_2

part_10 : part_of log_10 1 ≡ at_rest t_3
part_10 = got_part honest_peer its_version log_9 t_2 its_sendable part_9

part_11 : part_of log_11 1 ≡ at_rest t_4
part_11 = sent_part honest_peer Verack log_10 t_3 verack_sendable part_10

part_12 : part_of log_12 1 ≡ at_rest t_5
part_12 = got_part honest_peer Verack log_11 t_4 verack_sendable part_11

part_13 : part_of log_13 1 ≡ at_rest t_6
part_13 = sent_part honest_peer question log_12 t_5 question_sendable part_12

part_14 : part_of log_14 1 ≡ at_rest t_7
part_14 = got_part honest_peer its_headers log_13 t_6 headers_sendable part_13

part_15 : part_of log_15 1 ≡ at_rest t_8
part_15 = sent_part honest_peer ask_claims log_14 t_7 ask_claims_sendable part_14

part_16 : part_of log_16 1 ≡ at_rest t_9
part_16 = got_part honest_peer its_claims log_15 t_8 claims_sendable part_15

part_17 : part_of log_17 1 ≡ at_rest t_10
part_17 = sent_part honest_peer ask_filter log_16 t_9 ask_filter_sendable part_16

pub part_18 : part_of log_18 1 ≡ at_rest t_11
part_18 = got_part honest_peer its_filter log_17 t_10 filter_sendable part_17

abbrev pub u_1 : Trail
u_1 = Called ∷ []

abbrev pub u_2 : Trail
u_2 = Asked our_version ∷ u_1

abbrev pub u_3 : Trail
u_3 = Said false_version ∷ u_2

abbrev pub u_4 : Trail
u_4 = Asked Verack ∷ u_3

abbrev pub u_5 : Trail
u_5 = Said Verack ∷ u_4

abbrev pub u_6 : Trail
u_6 = Asked question ∷ u_5

abbrev pub u_7 : Trail
u_7 = Said false_headers ∷ u_6

other_3 : part_of log_3 2 ≡ at_rest u_1
other_3 = refl

other_4 : part_of log_4 2 ≡ at_rest u_2
other_4 = sent_part liar our_version log_3 u_1 our_sendable other_3

other_5 : part_of log_5 2 ≡ at_rest u_3
other_5 = got_part liar false_version log_4 u_2 false_sendable other_4

other_6 : part_of log_6 2 ≡ at_rest u_4
other_6 = sent_part liar Verack log_5 u_3 verack_sendable other_5

other_7 : part_of log_7 2 ≡ at_rest u_5
other_7 = got_part liar Verack log_6 u_4 verack_sendable other_6

pub other_8 : part_of log_8 2 ≡ at_rest u_6
other_8 = sent_part liar question log_7 u_5 question_sendable other_7

other_9 : part_of log_9 2 ≡ at_rest u_7
other_9 = got_part liar false_headers log_8 u_6 none_sendable other_8

pub other_20 : part_of run_of_two 2 ≡ at_rest u_7
other_20 = other_9

-- what holds of a trail holds of the log
pub of_part : (P : Trail → Type 0) (part : Part) (t : Trail) → part ≡ at_rest t → P t → P part.trail
of_part P part t e h = subst (λ (x : Part). P x.trail) (sym e) h

-- nobody else was there
abbrev pub AreOfTwo : Log → Type 0
AreOfTwo [] = Unit {0}
AreOfTwo (Dialled q name ∷ log) = ((q.0 ≡ 1) ⊎ (q.0 ≡ 2)) × AreOfTwo log
AreOfTwo (Sent q bytes ∷ log) = ((q.0 ≡ 1) ⊎ (q.0 ≡ 2)) × AreOfTwo log
AreOfTwo (Took (Got q piece) ∷ log) = ((q.0 ≡ 1) ⊎ (q.0 ≡ 2)) × AreOfTwo log
AreOfTwo (Closed q ∷ log) = ((q.0 ≡ 1) ⊎ (q.0 ≡ 2)) × AreOfTwo log
AreOfTwo (e ∷ log) = ⊥

other_number : (q k : ℕ) → (1 == k) ≡ false → (2 == k) ≡ false → (q ≡ 1) ⊎ (q ≡ 2) → (q == k) ≡ false
other_number q k a b (inl e) = ap (λ (n : ℕ). n == k) e ∙ a
other_number q k a b (inr e) = ap (λ (n : ℕ). n == k) e ∙ b

none_passes : (log : Log) (k : ℕ) → (1 == k) ≡ false → (2 == k) ≡ false → AreOfTwo log → part_of log k ≡ at_rest []
none_passes [] k a b h = refl
none_passes (Dialled q name ∷ log) k a b h =
    ap (λ (x : Bool). if x then called_part (part_of log k) else part_of log k) (other_number q.0 k a b h.0) ∙ none_passes log k a b h.1
none_passes (Sent q bytes ∷ log) k a b h =
    ap (λ (x : Bool). if x then record (part_of log k) { trail = asks (spelled bytes) (trail log k) } else part_of log k) (other_number q.0 k a b h.0) ∙ none_passes log k a b h.1
none_passes (Took (Got q piece) ∷ log) k a b h =
    ap (λ (x : Bool). if x then heard_part piece (part_of log k) else part_of log k) (other_number q.0 k a b h.0) ∙ none_passes log k a b h.1
none_passes (Closed q ∷ log) k a b h =
    ap (λ (x : Bool). if x then with_item (Lost mark.Closed) (part_of log k) else part_of log k) (other_number q.0 k a b h.0) ∙ none_passes log k a b h.1
none_passes (e ∷ log) k a b h = absurd h

pub all_of_two : AreOfTwo run_of_two
all_of_two = (inl refl, (inl refl, (inl refl, (inl refl, (inl refl, (inl refl, (inl refl, (inl refl, (inl refl, (inl refl, (inl refl, (inr refl, (inr refl, (inr refl, (inr refl, (inr refl, (inr refl, (inr refl, (inl refl, (inl refl, tt))))))))))))))))))))

-- what holds of both peers at a moment, and of nobody, holds of each
pub at_each : (P : Trail → Type 0) (log : Log) (here there : Trail) (p : ℕ) → part_of log 1 ≡ at_rest here → part_of log 2 ≡ at_rest there → AreOfTwo log → P here → P there → P [] → P (trail log p)
at_each P log here there p one two all h t none = elim (cases_Bool (1 == p)) [
  | inl is1 ↦ subst (λ (k : ℕ). P (trail log k)) (eqb-true 1 p is1) (of_part P (part_of log 1) here one h)
  | inr off1 ↦ elim (cases_Bool (2 == p)) [
    | inl is2 ↦ subst (λ (k : ℕ). P (trail log k)) (eqb-true 2 p is2) (of_part P (part_of log 2) there two t)
    | inr off2 ↦ of_part P (part_of log p) [] (none_passes log p off1 off2 all) none
  ]
]

-- and in the run in which the block is cleared
pub of_cleared : (P : Trail → Type 0) (p : ℕ) → P t_11 → P u_7 → P [] → P (trail cleared_run p)
of_cleared P p here there none = at_each P cleared_run t_11 u_7 p part_18 other_20 all_of_two.1.1 here there none

-- ---- the chain of one block

linked : same only_header.previous.0 (block_hash_of genesis_header) ≡ true
linked = same_from only_header.previous.0 (block_hash_of genesis_header) previous_is_genesis

linked_back : same (block_hash_of genesis_header) only_header.previous.0 ≡ true
linked_back = same_from (block_hash_of genesis_header) only_header.previous.0 (sym previous_is_genesis)

only_fits : fits only_header [] ≡ true
only_fits = rw (linked, worked, timely) refl

pub has_room : 1 ≤ height_limit
has_room = omega arith

pub accepted : accept (only_header ∷ []) [] ≡ Longer (only_header ∷ [])
accepted = rw (linked_back, linked, worked, timely) refl

makes_coins : is_coinbase_tx only_tx ≡ true
unfolding only_tx
makes_coins = refl

good_tx : IsGoodTx empty only_tx
unfolding only_tx
good_tx = record { inputs = tt; fresh = (get-empty outpoint_cmp (outpoint (txid_of only_tx) 0), tt) }

pub good_chain : IsGoodChain chain_of_one
good_chain = record {
  headers = (only_fits, tt);
  height = omega arith;
  each = (record { spelled = block_fits; committed = committed; coinbase = (makes_coins, tt); txs = (good_tx, tt) }, tt);
}

-- ---- the strings

abbrev pub IsKnown : List ℕ → Type 0
IsKnown bytes = (bytes ≡ header_spelling genesis_header) ⊎ ((bytes ≡ header_spelling only_header) ⊎ ((bytes ≡ tx_spelling only_tx) ⊎ (bytes ≡ only_filter)))

abbrev pub first_byte : List ℕ → ℕ
first_byte bytes = get_or bytes 0 0

pub genesis_byte : first_byte (hash_of (header_spelling genesis_header)) ≡ 6
unfolding block_hash_of
genesis_byte = ap first_byte genesis_is

pub header_byte : first_byte (hash_of (header_spelling only_header)) ≡ 191
unfolding block_hash_of
header_byte = ap first_byte name_is

pub tx_byte : first_byte (hash_of (tx_spelling only_tx)) ≡ 60
unfolding txid_of
tx_byte = ap first_byte txid_is

pub filter_byte : first_byte (hash_of only_filter) ≡ 164
unfolding filter_hash_of
filter_byte = ap first_byte only_filter_hash_is

pub zero_byte : first_byte no_hash ≡ 0
unfolding no_hash
zero_byte = refl

pub byte_known : (a : List ℕ) (s : List ℕ) (n : ℕ) → a ≡ s → first_byte (hash_of s) ≡ n → first_byte (hash_of a) ≡ n
byte_known a s n e f = ap (λ x. first_byte (hash_of x)) e ∙ f

pub no_clash : NoHashClash IsKnown
no_clash = record { apart = apart; real = real } where
  bytes_of_both : (a b s t : List ℕ) (m n : ℕ) → a ≡ s → b ≡ t → first_byte (hash_of s) ≡ m → first_byte (hash_of t) ≡ n → hash_of a ≡ hash_of b → m ≡ n
  bytes_of_both a b s t m n ea eb fs ft e = sym (byte_known a s m ea fs) ∙ ap first_byte e ∙ byte_known b t n eb ft

  apart : (a b : List ℕ) → IsKnown a → IsKnown b → hash_of a ≡ hash_of b → a ≡ b
  apart a b (inl i) (inl j) e = i ∙ sym j
  apart a b (inl i) (inr (inl j)) e = absurd (let f = bytes_of_both a b _ _ 6 191 i j genesis_byte header_byte e in omega (arith, f))
  apart a b (inl i) (inr (inr (inl j))) e = absurd (let f = bytes_of_both a b _ _ 6 60 i j genesis_byte tx_byte e in omega (arith, f))
  apart a b (inl i) (inr (inr (inr j))) e = absurd (let f = bytes_of_both a b _ _ 6 164 i j genesis_byte filter_byte e in omega (arith, f))
  apart a b (inr (inl i)) (inl j) e = absurd (let f = bytes_of_both a b _ _ 191 6 i j header_byte genesis_byte e in omega (arith, f))
  apart a b (inr (inl i)) (inr (inl j)) e = i ∙ sym j
  apart a b (inr (inl i)) (inr (inr (inl j))) e = absurd (let f = bytes_of_both a b _ _ 191 60 i j header_byte tx_byte e in omega (arith, f))
  apart a b (inr (inl i)) (inr (inr (inr j))) e = absurd (let f = bytes_of_both a b _ _ 191 164 i j header_byte filter_byte e in omega (arith, f))
  apart a b (inr (inr (inl i))) (inl j) e = absurd (let f = bytes_of_both a b _ _ 60 6 i j tx_byte genesis_byte e in omega (arith, f))
  apart a b (inr (inr (inl i))) (inr (inl j)) e = absurd (let f = bytes_of_both a b _ _ 60 191 i j tx_byte header_byte e in omega (arith, f))
  apart a b (inr (inr (inl i))) (inr (inr (inl j))) e = i ∙ sym j
  apart a b (inr (inr (inl i))) (inr (inr (inr j))) e = absurd (let f = bytes_of_both a b _ _ 60 164 i j tx_byte filter_byte e in omega (arith, f))
  apart a b (inr (inr (inr i))) (inl j) e = absurd (let f = bytes_of_both a b _ _ 164 6 i j filter_byte genesis_byte e in omega (arith, f))
  apart a b (inr (inr (inr i))) (inr (inl j)) e = absurd (let f = bytes_of_both a b _ _ 164 191 i j filter_byte header_byte e in omega (arith, f))
  apart a b (inr (inr (inr i))) (inr (inr (inl j))) e = absurd (let f = bytes_of_both a b _ _ 164 60 i j filter_byte tx_byte e in omega (arith, f))
  apart a b (inr (inr (inr i))) (inr (inr (inr j))) e = i ∙ sym j

  real : (a : List ℕ) → IsKnown a → hash_of a ≡ no_hash → ⊥
  real a (inl i) e = (let f : 6 ≡ 0 = sym (byte_known a _ 6 i genesis_byte) ∙ ap first_byte e ∙ zero_byte in absurd (omega (arith, f)))
  real a (inr (inl i)) e = (let f : 191 ≡ 0 = sym (byte_known a _ 191 i header_byte) ∙ ap first_byte e ∙ zero_byte in absurd (omega (arith, f)))
  real a (inr (inr (inl i))) e = (let f : 60 ≡ 0 = sym (byte_known a _ 60 i tx_byte) ∙ ap first_byte e ∙ zero_byte in absurd (omega (arith, f)))
  real a (inr (inr (inr i))) e = (let f : 164 ≡ 0 = sym (byte_known a _ 164 i filter_byte) ∙ ap first_byte e ∙ zero_byte in absurd (omega (arith, f)))

hashed_known : (bytes : List ℕ) → IsIn bytes (hashed (spelled_txs only_block)) → IsKnown bytes
unfolding nodes_within
hashed_known bytes (inl e) = inr (inr (inl e))
hashed_known bytes (inr none) = absurd none

pub block_known : (bytes : List ℕ) → IsIn bytes (strings_of its_block) → IsKnown bytes
block_known bytes (inl e) = inr (inl e)
block_known bytes (inr i) = hashed_known bytes i

pub headers_known : (bytes : List ℕ) → IsIn bytes (strings_of its_headers) → IsKnown bytes
headers_known bytes (inl e) = inr (inl e)
headers_known bytes (inr none) = absurd none

abbrev pub SaysKnown : Trail → Type 0
SaysKnown t = (m : Msg) (bytes : List ℕ) → HasSaid t m → IsIn bytes (strings_of m) → IsKnown bytes

pub filter_known : (bytes : List ℕ) → IsIn bytes (strings_of its_filter) → IsKnown bytes
filter_known bytes (inl e) = inr (inr (inr e))
filter_known bytes (inr none) = absurd none

pub says_11 : SaysKnown t_11
says_11 m bytes (inl e) i = filter_known bytes (subst (λ (x : Msg). IsIn bytes (strings_of x)) e i)
says_11 m bytes (inr (inl e)) i = absurd (subst (λ (x : Msg). IsIn bytes (strings_of x)) e i)
says_11 m bytes (inr (inr (inl e))) i = headers_known bytes (subst (λ (x : Msg). IsIn bytes (strings_of x)) e i)
says_11 m bytes (inr (inr (inr (inl e)))) i = absurd (subst (λ (x : Msg). IsIn bytes (strings_of x)) e i)
says_11 m bytes (inr (inr (inr (inr (inl e))))) i = absurd (subst (λ (x : Msg). IsIn bytes (strings_of x)) e i)
says_11 m bytes (inr (inr (inr (inr (inr none))))) i = absurd none

pub says_7 : SaysKnown u_7
says_7 m bytes (inl e) i = absurd (subst (λ (x : Msg). IsIn bytes (strings_of x)) e i)
says_7 m bytes (inr (inl e)) i = absurd (subst (λ (x : Msg). IsIn bytes (strings_of x)) e i)
says_7 m bytes (inr (inr (inl e))) i = absurd (subst (λ (x : Msg). IsIn bytes (strings_of x)) e i)
says_7 m bytes (inr (inr (inr none))) i = absurd none

none_spent : prevouts empty only_block ≡ []
none_spent = ap (λ (b : Bool). map (λ (o : Output). o.script) (spent_outputs empty (if b then [] else map (λ (i : TxIn). i.prev) only_tx.inputs) ++ [])) makes_coins

-- its filter
filter_is : (get_or (filters_above chain_of_one) 0 first_filtered).filter ≡ only_filter
filter_is =
    ap (λ (x : List (List ℕ)). basic_filter_of (block_hash_of only_header) (items_of only_block x)) none_spent
    ∙ ap (λ (x : List (List ℕ)). basic_filter_of (block_hash_of only_header) x) only_items ∙ ap (λ (x : List ℕ). basic_filter_of x ((0x51 ∷ []) ∷ [])) name_is ∙ only_filter_by_name

pub chain_known : (bytes : List ℕ) → IsOfBlocks chain_of_one bytes → IsKnown bytes
chain_known bytes (inl of_blocks) = elim of_blocks.1 [
  | inl e ↦ block_known bytes (subst (λ (x : Block). IsIn bytes (strings_of (BlockMessage x))) e of_blocks.2)
  | inr none ↦ absurd none
]
chain_known bytes (inr of_filters) = elim of_filters.1 [
  | inl e ↦ inr (inr (inr (of_filters.2 ∙ ap (λ (f : Filtered). f.filter) e ∙ filter_is)))
  | inr none ↦ absurd none
]

cleared_known : (bytes : List ℕ) → IsHashed cleared_run chain_of_one bytes → IsKnown bytes
cleared_known bytes (inl e) = inl e
cleared_known bytes (inr (inl received)) = of_cleared SaysKnown received.0 says_11 says_7 (λ m b none i. absurd none) received.1.0 bytes received.1.1 received.1.2
cleared_known bytes (inr (inr of_blocks)) = chain_known bytes of_blocks

pub cleared_apart : NoHashClash (IsHashed cleared_run chain_of_one)
cleared_apart = record {
  apart = λ a b i j e. no_clash.apart a b (cleared_known a i) (cleared_known b j) e;
  real = λ a i e. no_clash.real a (cleared_known a i) e;
}

-- ---- what the machine of the chain answers

only_one : (h : Header) → IsShown (heads chain_of_one ∷ []) h → h ≡ only_header
only_one h (inl (inl e)) = e
only_one h (inl (inr none)) = absurd none
only_one h (inr none) = absurd none

shown_known : (bytes : List ℕ) → IsShownSpelling (heads chain_of_one ∷ []) bytes → IsKnown bytes
shown_known bytes s = elim s.known [
  | inl e ↦ inl (s.is ∙ ap header_spelling e)
  | inr i ↦ inr (inl (s.is ∙ ap header_spelling (only_one s.header i)))
]

pub setting : Setting chain_of_one
setting = record {
  valid = (only_fits, tt);
  low = has_room;
  committed = λ b i. elim i [ inl e ↦ subst (λ (x : Block). is_committed x ≡ true) (sym e) (committed_is only_block committed) | inr none ↦ absurd none ];
  apart = record {
    fit = λ h i. subst IsHeader (sym (only_one h i)) header_fits_type;
    apart = record {
      apart = λ a b i j e. no_clash.apart a b (shown_known a i) (shown_known b j) e;
      real = λ a i e. no_clash.real a (shown_known a i) e;
    };
  };
}

pub headers_answer : headers_reply (genesis_hash ∷ []) no_stop chain_of_one ≡ its_headers ∷ []
headers_answer = next_reply chain_of_one setting 0 (genesis_hash ∷ []) no_stop (omega arith) refl refl

answers_6 : answers chain_of_one t_6 ≡ its_version ∷ Verack ∷ its_headers ∷ []
answers_6 = ap (λ (x : List Msg). its_version ∷ Verack ∷ (x ++ [])) headers_answer

abbrev pub claims_said : List Msg
claims_said = cfheaders_reply 1 (range_end 2000 0 1 only_hash chain_of_one) only_hash chain_of_one

abbrev pub filters_said : List Msg
filters_said = cfilters_reply 1 (range_end 1000 0 1 only_hash chain_of_one) chain_of_one

pub claims_answer : claims_said ≡ its_claims ∷ []
claims_answer =
    claims_reply chain_of_one setting 0 1 1 only_hash refl (omega arith) (omega arith) refl (omega arith) (omega arith)
    ∙ ap (λ (x : List ℕ). Cfheaders 0 only_hash (record { 0 = x }) (hashes_in (filters_in 0 1 chain_of_one)) ∷ []) (sym first_is ∙ ap (λ (h : Hash32). h.0) first_header_is)
    ∙ ap (λ (x : List ℕ). Cfheaders 0 only_hash (record { 0 = its_first_filter_header }) (record { 0 = filter_hash_of x } ∷ []) ∷ []) filter_is
    ∙ ap (λ (x : List ℕ). Cfheaders 0 only_hash (record { 0 = its_first_filter_header }) (record { 0 = x } ∷ []) ∷ []) only_filter_hash_is

pub filter_answer : filters_said ≡ its_filter ∷ []
filter_answer =
    filters_reply chain_of_one setting 0 1 1 only_hash refl (omega arith) (omega arith) refl (omega arith) (omega arith)
    ∙ ap (λ (x : List ℕ). Cfilter 0 only_hash x ∷ []) filter_is

answers_8 : answers chain_of_one t_8 ≡ its_version ∷ Verack ∷ its_headers ∷ its_claims ∷ []
answers_8 =
    ap (λ (x : List Msg). its_version ∷ Verack ∷ (x ++ (claims_said ++ []))) headers_answer ∙ ap (λ (x : List Msg). its_version ∷ Verack ∷ its_headers ∷ (x ++ [])) claims_answer

answers_10 : answers chain_of_one t_10 ≡ its_version ∷ Verack ∷ its_headers ∷ its_claims ∷ its_filter ∷ []
answers_10 =
    ap (λ (x : List Msg). its_version ∷ Verack ∷ (x ++ (claims_said ++ (filters_said ++ [])))) headers_answer
    ∙ ap (λ (x : List Msg). its_version ∷ Verack ∷ its_headers ∷ (x ++ (filters_said ++ []))) claims_answer
    ∙ ap (λ (x : List Msg). its_version ∷ Verack ∷ its_headers ∷ its_claims ∷ (x ++ [])) filter_answer

says_1 : AnswersAs chain_of_one t_1
says_1 = record { spelled = tt; follows = ([], refl) }

pub says_2 : AnswersAs chain_of_one t_2
says_2 = record { spelled = tt; follows = (its_version ∷ Verack ∷ [], refl) }

pub says_3 : AnswersAs chain_of_one t_3
says_3 = record { spelled = tt; follows = (Verack ∷ [], ((refl, refl), refl)) }

pub says_4 : AnswersAs chain_of_one t_4
says_4 = record { spelled = tt; follows = (Verack ∷ [], ((refl, refl), refl)) }

pub says_5 : AnswersAs chain_of_one t_5
says_5 = record { spelled = tt; follows = ([], ((refl, refl), (refl, refl))) }

pub says_6 : AnswersAs chain_of_one t_6
says_6 = record { spelled = tt; follows = (its_headers ∷ [], subst (λ (ns : List Msg). Leaves (its_version ∷ Verack ∷ []) ns (its_headers ∷ [])) (sym answers_6) ((refl, refl), (refl, refl))) }

pub heard_7 : AnswersAs chain_of_one t_7
heard_7 = record { spelled = tt; follows = ([], subst (λ (ns : List Msg). Leaves (its_version ∷ Verack ∷ its_headers ∷ []) ns []) (sym answers_6) ((refl, refl), (refl, (refl, refl)))) }

pub heard_8 : AnswersAs chain_of_one t_8
heard_8 = record { spelled = tt; follows = (its_claims ∷ [], subst (λ (ns : List Msg). Leaves (its_version ∷ Verack ∷ its_headers ∷ []) ns (its_claims ∷ [])) (sym answers_8) ((refl, refl), (refl, (refl, refl)))) }

pub heard_9 : AnswersAs chain_of_one t_9
heard_9 = record { spelled = tt; follows = ([], subst (λ (ns : List Msg). Leaves (its_version ∷ Verack ∷ its_headers ∷ its_claims ∷ []) ns ([])) (sym answers_8) ((refl, refl), (refl, (refl, (refl, refl))))) }

pub heard_10 : AnswersAs chain_of_one t_10
heard_10 = record { spelled = tt; follows = (its_filter ∷ [], subst (λ (ns : List Msg). Leaves (its_version ∷ Verack ∷ its_headers ∷ its_claims ∷ []) ns (its_filter ∷ [])) (sym answers_10) ((refl, refl), (refl, (refl, (refl, refl))))) }

pub heard_11 : AnswersAs chain_of_one t_11
heard_11 = record { spelled = tt; follows = ([], subst (λ (ns : List Msg). Leaves (its_version ∷ Verack ∷ its_headers ∷ its_claims ∷ its_filter ∷ []) ns ([])) (sym answers_10) ((refl, refl), (refl, (refl, (refl, (refl, refl)))))) }

-- at a moment of the log
pub at_log : (log : Log) (t : Trail) → part_of log 1 ≡ at_rest t → AnswersAs chain_of_one t → AnswersAs chain_of_one (trail log 1)
at_log log t e h = of_part (AnswersAs chain_of_one) (part_of log 1) t e h

pub honest_9 : IsHonestOver log_9 1 chain_of_one
honest_9 = (
  at_log log_9 t_2 part_2 says_2,
  tt,
  tt,
  (
    at_log log_8 t_2 part_2 says_2,
    tt,
    tt,
    (
      at_log log_7 t_2 part_2 says_2,
      tt,
      tt,
      (
        at_log log_6 t_2 part_2 says_2,
        tt,
        tt,
        (
          at_log log_5 t_2 part_2 says_2,
          tt,
          tt,
          (
            at_log log_4 t_2 part_2 says_2,
            tt,
            tt,
            (
              at_log log_3 t_2 part_2 says_2,
              tt,
              tt,
              (at_log log_2 t_2 part_2 says_2, tt, tt, (at_log log_1 t_1 part_1 says_1, tt, tt, tt)),
            ),
          ),
        ),
      ),
    ),
  ),
)

honest_14 : IsHonestOver log_14 1 chain_of_one
honest_14 = (
  at_log log_14 t_7 part_14 heard_7,
  tt,
  tt,
  (
    at_log log_13 t_6 part_13 says_6,
    tt,
    tt,
    (at_log log_12 t_5 part_12 says_5, tt, tt, (at_log log_11 t_4 part_11 says_4, tt, tt, (at_log log_10 t_3 part_10 says_3, tt, tt, honest_9))),
  ),
)

pub honest_18 : IsHonestOver log_18 1 chain_of_one
honest_18 = (
  at_log log_18 t_11 part_18 heard_11,
  tt,
  tt,
  (
    at_log log_17 t_10 part_17 heard_10,
    tt,
    tt,
    (at_log log_16 t_9 part_16 heard_9, tt, tt, (at_log log_15 t_8 part_15 heard_8, tt, tt, honest_14)),
  ),
)

pub cleared_honest : IsHonest cleared_run 1 chain_of_one
cleared_honest = record { good = good_chain; low = has_room; dialled = of_part (λ t. was_called t ≡ true) (part_of cleared_run 1) t_11 part_18 refl; honest = honest_18 }

-- ---- what was asked might be asked

pub own_7 : own t_7 ≡ only_header ∷ []
own_7 = ap (λ (a : Accepted). longer_of a []) accepted

clean_7 : verdict t_7 ≡ None
clean_7 = ap fault_in accepted

pub other_hash : same (block_hash_of genesis_header) only_hash.0 ≡ false
other_hash = elim (cases_same (block_hash_of genesis_header) only_hash.0) [
  | inl is1 ↦ (let f : 6 ≡ 191 = sym (ap first_byte genesis_is) ∙ ap first_byte is1.0 ∙ ap first_byte name_is in absurd (omega (arith, f)))
  | inr off ↦ off.0
]

pub self_hash : same only_hash.0 only_hash.0 ≡ true
self_hash = same_self only_hash.0

pub back_only : back_to only_hash.0 (own t_7) ≡ Some (only_header ∷ [])
back_only = ap (λ (c : Chain). back_to only_hash.0 c) own_7 ∙ rw (other_hash, self_hash) refl

range_of_one : (few : ℕ) (t : Trail) → 0 < few → own t ≡ own t_7 → IsRange t 0 1 only_hash.0 few
range_of_one few t some e = record { basic = refl; part = only_header ∷ []; tip = ap (λ (c : Chain). back_to only_hash.0 c) e ∙ back_only; low = omega arith; high = omega arith; bound = omega (arith, some) }

-- of one with this chain that claims nothing
pub may_ask_of : (t : Trail) → IsFree t → own t ≡ own t_7 → ((block : List ℕ) → claims t block ≡ None) → MayAsk t ask_claims
unfolding range_of_one
may_ask_of t free e none = (free, (range_of_one 2000 t (omega arith) e, (λ block i. absurd i), λ block i c. let no : None ≡ Some c.0 = sym (none block) ∙ c.1 in cc))

pub may_ask_claims : MayAsk t_7 ask_claims
may_ask_claims = may_ask_of t_7 (record { on = refl; over = refl; idle = refl; answered = sym (same_use t_7 refl clean_7).owing }) refl (λ block. refl)

pub request_8 : request t_8 ≡ ClaimsOpen only_hash.0 (block_hash_of genesis_header) (only_hash.0 ∷ [])
request_8 = ap (λ o. claims_asked 1 only_hash.0 o) back_only

-- what it claims
abbrev pub only_claim : Claim
only_claim = claim_of (record { 0 = only_filter_hash }) (record { 0 = its_first_filter_header })

claims_9 : claims t_9 ≡ with_claim only_hash.0 only_claim no_claims
claims_9 = ap (λ r. claims_after its_claims r no_claims) request_8 ∙ rw self_hash refl

pub claim_found : claims t_9 only_hash.0 ≡ Some only_claim
claim_found = ap (λ (c : Table). c only_hash.0) claims_9 ∙ rw self_hash refl

pub request_9 : request t_9 ≡ NothingOpen
request_9 = ap (λ r. request_after its_claims r) request_8 ∙ rw self_hash refl

pub first_same : same first_filter_header.0 its_first_filter_header ≡ true
first_same = same_from first_filter_header.0 its_first_filter_header (ap (λ (h : Hash32). h.0) first_header_is)

pub claims_fine : fault_of its_claims t_8 ≡ None
claims_fine = ap (λ r. claims_fault 0 only_hash.0 its_first_filter_header (record { 0 = only_filter_hash } ∷ []) r no_claims) request_8 ∙ rw (self_hash, same_self (block_hash_of genesis_header), first_same) refl

clean_9 : verdict t_9 ≡ None
clean_9 = ap (λ x. first x (fault_of its_claims t_8)) clean_7 ∙ claims_fine

-- of one with this chain that claims a filter of its block
pub may_ask_filter_of : (t : Trail) (claim : Claim) → IsFree t → own t ≡ own t_7 → claims t only_hash.0 ≡ Some claim
    → MayAsk t ask_filter
unfolding range_of_one
may_ask_filter_of t claim free e claimed = (
  free,
  (
    range_of_one 1000 t (omega arith) e,
    λ block i. elim i [ inl is ↦ (claim, ap (λ (x : List ℕ). claims t x) is ∙ claimed) | inr none ↦ absurd none ],
  ),
)

pub may_ask_filter : MayAsk t_9 ask_filter
may_ask_filter =
    let owed_9 = same_use t_9 refl clean_9 in
    let free : IsFree t_9 = record { on = refl; over = refl; idle = request_9; answered = sym owed_9.owing } in
    may_ask_filter_of t_9 only_claim free refl claim_found

pub request_10 : request t_10 ≡ FiltersOpen (only_hash.0 ∷ []) []
request_10 = ap (λ o. filters_asked 1 o) back_only

pub hash_same : same only_filter_hash (filter_hash_of only_filter) ≡ true
hash_same = same_from only_filter_hash (filter_hash_of only_filter) (sym only_filter_hash_is)

filter_fine : fault_of its_filter t_10 ≡ None
filter_fine = ap (λ r. filter_fault 0 only_hash.0 only_filter r (claims t_9)) request_10 ∙ rw (self_hash, claim_found, hash_same) refl

pub clean_11 : verdict t_11 ≡ None
clean_11 = ap (λ x. first x (fault_of its_filter t_10)) clean_9 ∙ filter_fine

pub request_11 : request t_11 ≡ NothingOpen
request_11 = ap (λ r. request_after its_filter r) request_10 ∙ rw self_hash refl

-- before the block came none was fetched
abbrev pub HasNone : Trail → Type 0
HasNone t = (b : Block) → IsIn b (fetched_blocks (counted t)) → ⊥

pub unsaid : (t : Trail) → ((b : Block) → HasSaid t (BlockMessage b) → ⊥) → HasNone t
unsaid t none b i = none b (counted_said t (BlockMessage b) (fetched_said (counted t) b i).0)

pub no_block_11 : (b : Block) → HasSaid t_11 (BlockMessage b) → ⊥
no_block_11 b (inl e) = cc
no_block_11 b (inr (inl e)) = cc
no_block_11 b (inr (inr (inl e))) = cc
no_block_11 b (inr (inr (inr (inl e)))) = cc
no_block_11 b (inr (inr (inr (inr (inl e))))) = cc
no_block_11 b (inr (inr (inr (inr (inr none))))) = none

no_other_block : (b : Block) → HasSaid u_7 (BlockMessage b) → ⊥
no_other_block b (inl e) = cc
no_other_block b (inr (inl e)) = cc
no_other_block b (inr (inr (inl e))) = cc
no_other_block b (inr (inr (inr none))) = none

pub none_fetched : (b : Block) → IsFetched log_18 b → ⊥
none_fetched b got = at_each HasNone log_18 t_11 u_7 got.0 part_18 other_20 all_of_two.1.1 (unsaid t_11 no_block_11) (unsaid u_7 no_other_block) (λ c i. i) b got.1

-- nor were filters or a block open to anybody
abbrev pub IsSpare : Trail → Type 0
IsSpare t = is_connected t ≡ true → is_spare (request t) ≡ true

none_open_16 : IsNoneFetching log_16
none_open_16 q = at_each IsSpare log_16 t_9 u_7 q part_16 other_20 all_of_two.1.1.1.1 (λ on. ap (λ r. is_spare r) request_9) (λ on. refl) (λ on. refl)

pub busy_1 : (log : Log) → part_of log 1 ≡ at_rest t_2 → IsBusy log
busy_1 log e = (1, of_part (λ t. is_open t ≡ true) (part_of log 1) t_2 e refl)

pub right_9 : Rightly log_9
right_9 = (
  busy_1 log_8 part_2,
  (
    (question, spelled_is question question_sendable, record { of_its_part = of_part (λ t. MayAsk t question) (part_of log_7 2) u_5 other_7 (record { on = refl; over = refl; idle = refl; answered = refl }, refl, refl, refl, refl); wanted = tt; alone = tt }),
    (
      busy_1 log_6 part_2,
      (
        (Verack, spelled_is Verack verack_sendable, record { of_its_part = of_part (λ t. MayAsk t Verack) (part_of log_5 2) u_3 other_5 (refl, refl, ([], refl)); wanted = tt; alone = tt }),
        (
          busy_1 log_4 part_2,
          (
            (our_version, spelled_is our_version our_sendable, record { of_its_part = of_part (λ t. MayAsk t our_version) (part_of log_3 2) u_1 other_3 (refl, refl, (refl, refl, refl, refl, refl, refl, refl)); wanted = tt; alone = tt }),
            ((our_version, spelled_is our_version our_sendable, record { of_its_part = of_part (λ t. MayAsk t our_version) (part_of log_1 1) t_1 part_1 (refl, refl, (refl, refl, refl, refl, refl, refl, refl)); wanted = tt; alone = tt }), tt),
          ),
        ),
      ),
    ),
  ),
)

right_14 : Rightly log_14
right_14 = (
  (1, of_part (λ t. is_open t ≡ true) (part_of log_13 1) t_6 part_13 refl),
  (
    (question, spelled_is question question_sendable, record { of_its_part = of_part (λ t. MayAsk t question) (part_of log_12 1) t_5 part_12 (record { on = refl; over = refl; idle = refl; answered = refl }, refl, refl, refl, refl); wanted = tt; alone = tt }),
    (
      (1, of_part (λ t. is_open t ≡ true) (part_of log_11 1) t_4 part_11 refl),
      (
        (Verack, spelled_is Verack verack_sendable, record { of_its_part = of_part (λ t. MayAsk t Verack) (part_of log_10 1) t_3 part_10 (refl, refl, ([], refl)); wanted = tt; alone = tt }),
        (busy_1 log_9 part_2, right_9),
      ),
    ),
  ),
)

pub open_where : (t : Trail) (r : OpenRequest) → is_connected t ≡ true → request t ≡ r → is_idle r ≡ false → is_open t ≡ true
open_where t r on e busy = rw (on, e, busy) (or_true (not (ready t))) where
  or_true : (b : Bool) → (b || true) ≡ true
  or_true true = refl
  or_true false = refl

pub cleared_right : Rightly cleared_run
cleared_right = (
  (1, of_part (λ t. is_open t ≡ true) (part_of log_17 1) t_10 part_17 (open_where t_10 (FiltersOpen (only_hash.0 ∷ []) []) refl request_10 refl)),
  (
    (ask_filter, spelled_is ask_filter ask_filter_sendable, record { of_its_part = of_part (λ t. MayAsk t ask_filter) (part_of log_16 1) t_9 part_16 may_ask_filter; wanted = tt; alone = none_filters log_16 1 0 1 only_hash none_open_16 }),
    (
      (1, of_part (λ t. is_open t ≡ true) (part_of log_15 1) t_8 part_15 (open_where t_8 (ClaimsOpen only_hash.0 (block_hash_of genesis_header) (only_hash.0 ∷ [])) refl request_8 refl)),
      ((ask_claims, spelled_is ask_claims ask_claims_sendable, record { of_its_part = of_part (λ t. MayAsk t ask_claims) (part_of log_14 1) t_7 part_14 may_ask_claims; wanted = tt; alone = tt }), right_14),
    ),
  ),
)

-- ---- the end

heard_out_7 : is_heard_out t_7 ≡ true
heard_out_7 = ap (λ (a : Accepted). ends_by a (only_header ∷ [])) accepted

pub still_true : (b : Bool) → b ≡ true → (b || false) ≡ true
still_true b e = ap (λ (x : Bool). x || false) e

pub heard_out_11 : is_heard_out t_11 ≡ true
heard_out_11 = still_true (is_heard_out t_9) (still_true (is_heard_out t_7) heard_out_7)

-- what counts of the honest peer's part, in the run and in the one that is cleared
pub record Counts (t : Trail) : Type 0 where
  pub same : SameUse t
  pub chain : own (counted t) ≡ only_header ∷ []
  pub heard_out : is_heard_out (counted t) ≡ true
  pub showing : lists (counted t) ≡ (only_header ∷ []) ∷ []
  pub claimed : claims (counted t) only_hash.0 ≡ Some only_claim

pub counts_of : (t : Trail) → is_connected t ≡ true → verdict t ≡ None → own t ≡ own t_7 → is_heard_out t ≡ true → lists t ≡ (only_header ∷ []) ∷ [] → claims t ≡ claims t_9 → Counts t
counts_of t on clean chain whole shown claimed = let u = same_use t on clean in record {
  same = u;
  chain = u.chain ∙ chain ∙ own_7;
  heard_out = u.hearing Once ∙ whole;
  showing = u.showing ∙ shown;
  claimed = ap (λ (c : Table). c only_hash.0) (u.claiming ∙ claimed) ∙ claim_found;
}

pub counts_11 : Counts t_11
counts_11 = counts_of t_11 refl clean_11 refl heard_out_11 refl refl

pub given_11 : IsIn (filter_of only_hash only_filter) (given_filters (counted t_11))
given_11 =
    let open_10 : request (counted t_10) ≡ FiltersOpen (only_hash.0 ∷ []) [] = (same_use t_10 refl clean_9).open_one ∙ request_10 in
    let one : counted t_11 ≡ Said its_filter ∷ counted t_10 = said_counts its_filter t_10 refl clean_11 in
    let by : given_by its_filter (request (counted t_10)) ≡ filter_of only_hash only_filter ∷ [] = ap (λ r. given_by its_filter r) open_10 ∙ rw self_hash refl in
    subst (λ (t : Trail). IsIn (filter_of only_hash only_filter) (given_filters t)) (sym one) (subst (λ (js : List Job). IsIn (filter_of only_hash only_filter) (js ++ given_filters (counted t_10))) (sym by) (inl refl))

pub same_other : SameUse u_7
same_other = same_use u_7 refl refl

pub cleared_quiet : IsQuiet cleared_run
cleared_quiet p = of_cleared (λ t. is_open t ≡ false) p (ap (λ r. not (is_idle r)) request_11) refl refl

-- the only header makes one chain
one_chain : (chain : Chain) → IsValidChain chain → ((h : Header) → IsIn h chain → h ≡ only_header) → 1 ≤ length chain → chain ≡ only_header ∷ []
one_chain [] valid all long = absurd (omega (arith, long))
one_chain (x ∷ []) valid all long = ap (λ (h : Header). h ∷ []) (all x (inl refl))
one_chain (x ∷ y ∷ below) valid all long =
    let up : x ≡ only_header = all x (inl refl) in
    let down : y ≡ only_header = all y (inr (inl refl)) in
    let link : x.previous.0 ≡ block_hash_of y = same_true x.previous.0 (block_hash_of y) (and_parts (same x.previous.0 (block_hash_of y)) (is_worked x && is_timely (past_of (y ∷ below)) x) valid.0).0 in
    let both : block_hash_of genesis_header ≡ block_hash_of only_header = sym previous_is_genesis ∙ ap (λ (h : Header). h.previous.0) (sym up) ∙ link ∙ ap block_hash_of down in
    let f : 6 ≡ 191 = sym (ap first_byte genesis_is) ∙ ap first_byte both ∙ ap first_byte name_is in
    absurd (omega (arith, f))

abbrev pub ShowsOnly : Chain → Trail → Type 0
ShowsOnly other t = is_connected t ≡ true → Shows (lists (counted t)) other → 1 ≤ length other → other ≡ only_header ∷ []

none_shown : (other : Chain) (ls : List (List Header)) → ((h : Header) → IsShown ls h → ⊥) → Shows ls other → 1 ≤ length other → other ≡ only_header ∷ []
none_shown [] ls none shows long = absurd (omega (arith, long))
none_shown (h ∷ below) ls none shows long = absurd (none h (shows.told h (inl refl)))

pub only_of : (other : Chain) (t : Trail) → lists (counted t) ≡ (only_header ∷ []) ∷ [] → ShowsOnly other t
only_of other t showing is1 shows l = one_chain other shows.valid (λ h i. told h (subst (λ (ls : List (List Header)). IsShown ls h) showing (shows.told h i))) l where
  told : (h : Header) → IsShown ((only_header ∷ []) ∷ []) h → h ≡ only_header
  told h (inl (inl e)) = e
  told h (inl (inr none)) = absurd none
  told h (inr none) = absurd none

pub none_of : (other : Chain) → ShowsOnly other u_7
none_of other is1 shows l = none_shown other (lists (counted u_7)) (λ h i. nothing h (subst (λ (ls : List (List Header)). IsShown ls h) same_other.showing i)) shows l where
  nothing : (h : Header) → IsShown ([] ∷ []) h → ⊥
  nothing h (inl none) = none
  nothing h (inr none) = none

pub cleared_shows_no_other : ShowsNoOther cleared_run chain_of_one
cleared_shows_no_other q other on shows long = of_cleared (ShowsOnly other) q (only_of other t_11 counts_11.showing) (none_of other) (λ is1 s l. absurd (false≢true is1)) on shows long

bytes_14 : AreBytes log_14
bytes_14 = (
  small_bytes (bytes_of its_headers) headers_small,
  (
    small_bytes (bytes_of Verack) verack_small,
    (
      small_bytes (bytes_of its_version) version_small,
      (small_bytes (bytes_of false_headers) false_headers_small, (small_bytes (bytes_of Verack) verack_small, (small_bytes (bytes_of false_version) false_version_small, tt))),
    ),
  ),
)

pub cleared_bytes : AreBytes cleared_run
cleared_bytes = (small_bytes (bytes_of its_filter) filters_small.0, (small_bytes (bytes_of its_claims) claims_small.0, bytes_14))

-- the one block is all that a chain shares with this one
abbrev pub SharesIt : Trail → Type 0
SharesIt t = (h : ℕ) → 1 ≤ h → h ≤ common_of (own (counted t)) (only_header ∷ []) → hash_at (own (counted t)) h ≡ block_hash_of only_header

shares_of : (own : Chain) → own ≡ only_header ∷ [] → (h : ℕ) → 1 ≤ h → h ≤ common_of own (only_header ∷ []) → hash_at own h ≡ block_hash_of only_header
shares_of own is h one le =
    let all : common_of own (only_header ∷ []) ≡ 1 = ap (λ (c : Chain). common_of c (only_header ∷ [])) is ∙ common_own (only_header ∷ []) in
    let here : h ≡ 1 = omega (arith, one, le, all) in
    ap (λ (c : Chain). hash_at c h) is ∙ ap (hash_at (only_header ∷ [])) here

shares_none : (own : Chain) → own ≡ [] → (h : ℕ) → 1 ≤ h → h ≤ common_of own (only_header ∷ []) → hash_at own h ≡ block_hash_of only_header
shares_none own is h one le = absurd (let none : common_of own (only_header ∷ []) ≡ 0 = ap (λ (c : Chain). common_of c (only_header ∷ [])) is in omega (arith, one, le, none))

pub shares_it : (t : Trail) → own (counted t) ≡ only_header ∷ [] → SharesIt t
shares_it t is = shares_of (own (counted t)) is

pub other_shares : SharesIt u_7
other_shares = shares_none (own (counted u_7)) same_other.chain

pub nobody_shares : SharesIt []
nobody_shares = shares_none [] refl

-- a peer claims the block that its chain shares with this one
abbrev pub ClaimsIt : Trail → Type 0
ClaimsIt t = (h : ℕ) → 1 ≤ h → h ≤ common_of (own (counted t)) (only_header ∷ []) → HasHeader (counted t) (hash_at (own (counted t)) h)

pub claims_it : (t : Trail) (claim : Claim) → claims (counted t) only_hash.0 ≡ Some claim → own (counted t) ≡ only_header ∷ [] → ClaimsIt t
claims_it t claim claimed is h one le =
    let known : HasHeader (counted t) (block_hash_of only_header) = rw (other_hash, claimed) refl in
    subst (λ (x : List ℕ). HasHeader (counted t) x) (sym (shares_it t is h one le)) known

pub other_claims : ClaimsIt u_7
other_claims h one le = absurd (let none : common_of (own (counted u_7)) (only_header ∷ []) ≡ 0 = ap (λ (c : Chain). common_of c (only_header ∷ [])) same_other.chain in omega (arith, one, le, none))

pub nobody_claims : ClaimsIt []
nobody_claims h one le = absurd (omega (arith, one, le))

pub one_long : (t : Trail) → own (counted t) ≡ only_header ∷ [] → length (own (counted t)) ≤ 1
one_long t chain = let e = ap (λ (x : Chain). length x) chain in omega (arith, e)

pub other_long : length (own (counted u_7)) ≤ 1
other_long = let e = ap (λ (c : Chain). length c) same_other.chain in omega (arith, e)

-- nobody has a number below the honest peer's
pub nobody_below : (log : Log) (q : ℕ) → is_connected (trail log 0) ≡ false → q < 1 → IsConnected log q → ⊥
nobody_below log q off below on = let none : q ≡ 0 = omega (arith, below) in false≢true (sym off ∙ subst (λ (k : ℕ). is_connected (trail log k) ≡ true) none on)

-- the first peer's chain is the best, where nobody's is longer
pub best_is_its : (log : Log) (t : Trail) (chain : Chain) → part_of log 1 ≡ at_rest t → is_connected t ≡ true
    → own (counted t) ≡ chain → is_connected (trail log 0) ≡ false
    → ((p : ℕ) → IsConnected log p → length (own (counted_part log p)) ≤ length chain) → IsBest log chain
best_is_its log t chain here on is off longest = record {
  longest = longest;
  shown = inl (
    1,
    (
      of_part (λ u. is_connected u ≡ true) (part_of log 1) t here on,
      of_part (λ u. own (counted u) ≡ chain) (part_of log 1) t here is,
      λ q below on. absurd (nobody_below log q off below on),
    ),
  );
}

-- a peer was heard out; its chain isn't longer than the one block, and it claims what it shares with it
pub record IsHeard (mode : Mode) (t : Trail) : Type 0 where
  pub short : length (own (counted t)) ≤ 1
  pub heard_out : is_heard_out_in mode (counted t) ≡ true
  pub claims_all : ClaimsIt t
  pub shares : SharesIt t

abbrev pub WasHeard : Mode → Trail → Type 0
WasHeard mode t = is_connected t ≡ true → IsHeard mode t

pub heard_it : (mode : Mode) (t : Trail) → own (counted t) ≡ only_header ∷ [] → claims (counted t) only_hash.0 ≡ Some only_claim
    → is_heard_out_in mode (counted t) ≡ true → WasHeard mode t
heard_it mode t chain claimed whole on = record {
  short = one_long t chain;
  heard_out = whole;
  claims_all = claims_it t only_claim claimed chain;
  shares = shares_it t chain;
}

pub other_heard : WasHeard Once u_7
other_heard on = record { short = other_long; heard_out = same_other.hearing Once; claims_all = other_claims; shares = other_shares }

pub off_heard : (mode : Mode) (t : Trail) → is_connected t ≡ false → WasHeard mode t
off_heard mode t off on = absurd (false≢true (sym off ∙ on))

-- so all was asked that may be, where the block is settled and the peers agree on what was fetched
pub asked_all : (mode : Mode) (watch : List (List ℕ)) (entries : List Entry) (log : Log) (t : Trail) → part_of log 1 ≡ at_rest t
    → is_connected t ≡ true → own (counted t) ≡ only_header ∷ [] → is_connected (trail log 0) ≡ false → IsWatch watch → AreBytes log
    → RightlyIn mode log → IsScanOver watch log (only_header ∷ []) entries → ((p : ℕ) → WasHeard mode (trail log p))
    → IsSettled watch log only_hash.0 → ((block : Hash) → IsFetchedHash log block → IsDisputed log block → ⊥)
    → HasAskedIn mode watch 1 only_hash entries log
asked_all mode watch entries log t here on chain off fits bytes right scanned heard settled agreed = record {
  watchable = fits;
  bytes = bytes;
  rightly = right;
  told = record {
    chain = only_header ∷ [];
    best = best_is_its log t (only_header ∷ []) here on chain off (λ p on. (heard p on).short);
    height_is = refl;
    hash_is = refl;
    scanned = scanned;
  };
  asked_out = λ p on idle. record {
    heard_out = (heard p on).heard_out;
    claimed = (heard p on).claims_all;
    settled = λ h one le above no_filter no_block. subst (λ (b : Hash). IsSettled watch log b) (sym ((heard p on).shares h one le)) settled;
    tested = λ h one le above got disputed hash claims_it. absurd (agreed (hash_at (own (counted_part log p)) h) got disputed);
  };
}
