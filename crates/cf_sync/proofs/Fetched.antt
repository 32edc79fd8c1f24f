-- The longer of the runs with two peers, in which the block is fetched: the history is the honest chain's.
use Rattle.std.proofs.Common.{◌≡◌, inl, inr, ℕ, List, [], ◌∷◌, ◌++◌, map, Some, None, true, false, refl, sym, ◌∙◌, ap, subst, arith, Option}
use Rattle.std.specs.List.{flat_map}
use Rattle.std.proofs.lemmas.Bool.{false≢true}
use Rattle.std.proofs.lemmas.List.{append-nil}
use Rattle.cf_block.specs.declared.tx.Block.{Block}
use Rattle.cf_block.specs.Header.{block_hash_of}
use Rattle.cf_bytes.specs.declared.hash.Hash32.{Hash32}
use Rattle.cf_dispute.specs.Claims.{Table}
use Rattle.cf_chain.specs.Serve.{data_reply}
use Rattle.cf_headers.specs.Chain.{Chain, fits, IsIn, NoHashClash, Hash}
use Rattle.cf_msg.specs.declared.msg.Msg.{Msg}
use Rattle.cf_msg.specs.declared.msg.Msg.TheVariants.{Verack, Block as BlockMessage}
use Rattle.cf_peer.specs.Acts.{bytes_of}
use Rattle.cf_peer.specs.Asking.{is_spare, NothingOpen, FiltersOpen, BlockOpen, filters_asked, claims, filter_fault, fault_of, request_after, IsFree, request, is_wanted, is_open, block_fault, verdict, counted, fetched_blocks, fetched_by, block_entry, hashes_of, MayAsk, hash_claimed}
use Rattle.cf_wires.specs.Log.{Log}
use Rattle.cf_peer.specs.declared.mode.Mode.TheVariants.{Once}
use Rattle.cf_peer.specs.Trail.{Trail, Said, Asked, part_of, trail, is_heard_out, first}
use Rattle.cf_scan.specs.Scan.{scan_of}
use Rattle.cf_scan.specs.Watching.{IsWatch}
use Rattle.cf_sync.specs.Example.{only_header, only_block, only_hash, chain_of_one, honest_peer, its_version, its_headers, fetch, its_block, log_18, log_19, run_of_two, only_filter, its_claims, ask_filter, its_filter}
use Rattle.cf_sync.specs.Fetching.{IsQuiet, AreBytes, IsFetched, Rightly, HasClaimed, IsDisputed}
use Rattle.cf_sync.proofs.Alone.{IsNoneFetching, none_block}
use Rattle.cf_sync.specs.Honesty.{Leaves, answers, AnswersAs, IsHonest, was_called, ShowsNoOther}
use Rattle.cf_sync.specs.Sync.{strings_of, IsHashed, HasAsked}
use Rattle.cf_sync.proofs.Chains.{same_self}
use Rattle.cf_sync.proofs.Serving.{block_found}
use Rattle.cf_sync.proofs.Counted.{same_use, said_counts}
use Rattle.cf_sync.proofs.Settles.{committed_is}
use Rattle.cf_sync.proofs.Computed.{committed, small_bytes, block_small}
use Rattle.cf_sync.proofs.Written.{spelled_is, at_rest, sent_part, got_part, fetch_sendable, block_sendable}
use Rattle.cf_sync.proofs.TwoPeers.{t_9, t_11, part_18, u_7, other_20, of_part, all_of_two, at_each, has_room, good_chain, IsKnown, no_clash, block_known, SaysKnown, filter_known, says_11, says_7, chain_known, setting, headers_answer, claims_said, filters_said, claims_answer, filter_answer, at_log, honest_18, own_7, self_hash, back_only, only_claim, claim_found, may_ask_filter_of, hash_same, clean_11, request_11, none_fetched, IsSpare, cleared_right, still_true, heard_out_11, Counts, counts_of, same_other, ShowsOnly, only_of, none_of, cleared_bytes, WasHeard, asked_all, heard_it, off_heard, other_heard}

-- ---- the parts, moment by moment

abbrev pub t_12 : Trail
t_12 = Asked fetch ∷ t_11

abbrev pub t_13 : Trail
t_13 = Said its_block ∷ t_12

-- and once more its filter, after the block
abbrev pub t_14 : Trail
t_14 = Asked ask_filter ∷ t_13

abbrev pub t_15 : Trail
t_15 = Said its_filter ∷ t_14

part_19 : part_of log_19 1 ≡ at_rest t_12
part_19 = sent_part honest_peer fetch log_18 t_11 fetch_sendable part_18

part_20 : part_of run_of_two 1 ≡ at_rest t_13
part_20 = got_part honest_peer its_block log_19 t_12 block_sendable part_19

-- and at the end
of_each : (P : Trail → Type 0) (p : ℕ) → P t_13 → P u_7 → P [] → P (trail run_of_two p)
of_each P p here there none = at_each P run_of_two t_13 u_7 p part_20 other_20 all_of_two here there none

-- ---- the strings

pub says_13 : SaysKnown t_13
says_13 m bytes (inl e) i = block_known bytes (subst (λ (x : Msg). IsIn bytes (strings_of x)) e i)
says_13 m bytes (inr said) i = says_11 m bytes said i

pub says_15 : SaysKnown t_15
says_15 m bytes (inl e) i = filter_known bytes (subst (λ (x : Msg). IsIn bytes (strings_of x)) e i)
says_15 m bytes (inr said) i = says_13 m bytes said i

run_known : (bytes : List ℕ) → IsHashed run_of_two chain_of_one bytes → IsKnown bytes
run_known bytes (inl e) = inl e
run_known bytes (inr (inl received)) = of_each SaysKnown received.0 says_13 says_7 (λ m b none i. absurd none) received.1.0 bytes received.1.1 received.1.2
run_known bytes (inr (inr of_blocks)) = chain_known bytes of_blocks

pub run_apart : NoHashClash (IsHashed run_of_two chain_of_one)
run_apart = record {
  apart = λ a b i j e. no_clash.apart a b (run_known a i) (run_known b j) e;
  real = λ a i e. no_clash.real a (run_known a i) e;
}

-- ---- what the machine of the chain answers

block_answer : flat_map (data_reply chain_of_one) (block_entry only_hash ∷ []) ≡ its_block ∷ []
block_answer =
    append-nil _ ∙ ap (map (λ (b : Block). BlockMessage b)) (block_found chain_of_one setting 0 only_hash (omega arith) refl)

abbrev blocks_said : List Msg
blocks_said = flat_map (data_reply chain_of_one) (block_entry only_hash ∷ [])

answers_12 : answers chain_of_one t_12 ≡ its_version ∷ Verack ∷ its_headers ∷ its_claims ∷ its_filter ∷ its_block ∷ []
answers_12 =
    ap (λ (x : List Msg). its_version ∷ Verack ∷ (x ++ (claims_said ++ (filters_said ++ (blocks_said ++ []))))) headers_answer
    ∙ ap (λ (x : List Msg). its_version ∷ Verack ∷ its_headers ∷ (x ++ (filters_said ++ (blocks_said ++ [])))) claims_answer
    ∙ ap (λ (x : List Msg). its_version ∷ Verack ∷ its_headers ∷ its_claims ∷ (x ++ (blocks_said ++ []))) filter_answer
    ∙ ap (λ (x : List Msg). its_version ∷ Verack ∷ its_headers ∷ its_claims ∷ its_filter ∷ (x ++ [])) block_answer

answers_14 : answers chain_of_one t_14 ≡ its_version ∷ Verack ∷ its_headers ∷ its_claims ∷ its_filter ∷ its_block ∷ its_filter ∷ []
answers_14 =
    ap (λ (x : List Msg). its_version ∷ Verack ∷ (x ++ (claims_said ++ (filters_said ++ (blocks_said ++ (filters_said ++ [])))))) headers_answer
    ∙ ap (λ (x : List Msg). its_version ∷ Verack ∷ its_headers ∷ (x ++ (filters_said ++ (blocks_said ++ (filters_said ++ []))))) claims_answer
    ∙ ap (λ (x : List Msg). its_version ∷ Verack ∷ its_headers ∷ its_claims ∷ (x ++ (blocks_said ++ (filters_said ++ [])))) filter_answer
    ∙ ap (λ (x : List Msg). its_version ∷ Verack ∷ its_headers ∷ its_claims ∷ its_filter ∷ (x ++ (filters_said ++ []))) block_answer
    ∙ ap (λ (x : List Msg). its_version ∷ Verack ∷ its_headers ∷ its_claims ∷ its_filter ∷ its_block ∷ (x ++ [])) filter_answer

pub heard_12 : AnswersAs chain_of_one t_12
heard_12 = record { spelled = tt; follows = (its_block ∷ [], subst (λ (ns : List Msg). Leaves (its_version ∷ Verack ∷ its_headers ∷ its_claims ∷ its_filter ∷ []) ns (its_block ∷ [])) (sym answers_12) ((refl, refl), (refl, (refl, (refl, (refl, refl)))))) }

pub heard_13 : AnswersAs chain_of_one t_13
heard_13 = record { spelled = tt; follows = ([], subst (λ (ns : List Msg). Leaves (its_version ∷ Verack ∷ its_headers ∷ its_claims ∷ its_filter ∷ its_block ∷ []) ns ([])) (sym answers_12) ((refl, refl), (refl, (refl, (refl, (refl, (refl, refl))))))) }

pub heard_14 : AnswersAs chain_of_one t_14
heard_14 = record { spelled = tt; follows = (its_filter ∷ [], subst (λ (ns : List Msg). Leaves (its_version ∷ Verack ∷ its_headers ∷ its_claims ∷ its_filter ∷ its_block ∷ []) ns (its_filter ∷ [])) (sym answers_14) ((refl, refl), (refl, (refl, (refl, (refl, (refl, refl))))))) }

pub heard_15 : AnswersAs chain_of_one t_15
heard_15 = record { spelled = tt; follows = ([], subst (λ (ns : List Msg). Leaves (its_version ∷ Verack ∷ its_headers ∷ its_claims ∷ its_filter ∷ its_block ∷ its_filter ∷ []) ns ([])) (sym answers_14) ((refl, refl), (refl, (refl, (refl, (refl, (refl, (refl, refl)))))))) }

pub is_honest : IsHonest run_of_two 1 chain_of_one
is_honest = record {
  good = good_chain;
  low = has_room;
  dialled = of_part (λ t. was_called t ≡ true) (part_of run_of_two 1) t_13 part_20 refl;
  honest = (at_log run_of_two t_13 part_20 heard_13, tt, tt, (at_log log_19 t_12 part_19 heard_12, tt, tt, honest_18));
}

-- ---- what was asked might be asked

pub may_fetch : MayAsk t_11 fetch
may_fetch = (
  record { on = refl; over = refl; idle = request_11; answered = sym (same_use t_11 refl clean_11).owing },
  (only_hash, refl, subst (λ (c : Chain). IsIn only_hash.0 (hashes_of c)) (sym own_7) (inl refl)),
)

none_open_18 : IsNoneFetching log_18
none_open_18 q = at_each IsSpare log_18 t_11 u_7 q part_18 other_20 all_of_two.1.1 (λ on. ap (λ r. is_spare r) request_11) (λ on. refl) (λ on. refl)

pub is_right : Rightly run_of_two
is_right = (
  (1, of_part (λ t. is_open t ≡ true) (part_of log_19 1) t_12 part_19 refl),
  (
    (fetch, spelled_is fetch fetch_sendable, record { of_its_part = of_part (λ t. MayAsk t fetch) (part_of log_18 1) t_11 part_18 may_fetch; wanted = λ entry i got. none_fetched got.0 got.1; alone = none_block log_18 1 (block_entry only_hash ∷ []) none_open_18 }),
    cleared_right,
  ),
)

-- ---- the end

pub only_wanted : is_wanted only_block only_hash.0 ≡ true
only_wanted = same_self (block_hash_of only_header)

pub clean_13 : verdict t_13 ≡ None
clean_13 = ap (λ x. first x (block_fault only_block (BlockOpen only_hash.0))) clean_11 ∙ rw (only_wanted, committed_is only_block committed) refl

pub counts_13 : Counts t_13
counts_13 = counts_of t_13 refl clean_13 refl (still_true (is_heard_out t_11) heard_out_11) refl refl

-- once it was asked for its filter a second time
pub may_ask_again : MayAsk t_13 ask_filter
may_ask_again =
    let idle_13 : request t_13 ≡ NothingOpen = rw only_wanted refl in
    let owed_13 = same_use t_13 refl clean_13 in
    let free : IsFree t_13 = record { on = refl; over = refl; idle = idle_13; answered = sym owed_13.owing } in
    may_ask_filter_of t_13 only_claim free refl claim_found

pub request_14 : request t_14 ≡ FiltersOpen (only_hash.0 ∷ []) []
request_14 = ap (λ o. filters_asked 1 o) back_only

filter_fine_again : fault_of its_filter t_14 ≡ None
filter_fine_again = ap (λ r. filter_fault 0 only_hash.0 only_filter r (claims t_9)) request_14 ∙ rw (self_hash, claim_found, hash_same) refl

pub clean_15 : verdict t_15 ≡ None
clean_15 = ap (λ x. first x (fault_of its_filter t_14)) clean_13 ∙ filter_fine_again

pub request_15 : request t_15 ≡ NothingOpen
request_15 = ap (λ r. request_after its_filter r) request_14 ∙ rw self_hash refl

pub counts_15 : Counts t_15
counts_15 = counts_of t_15 refl clean_15 refl (still_true (is_heard_out t_13) (still_true (is_heard_out t_11) heard_out_11)) refl refl

pub fetched_13 : IsIn only_block (fetched_blocks (counted t_13))
fetched_13 =
    let open_12 : request (counted t_12) ≡ BlockOpen only_hash.0 = (same_use t_12 refl clean_11).open_one in
    let one : counted t_13 ≡ Said its_block ∷ counted t_12 = said_counts its_block t_12 refl clean_13 in
    let by : fetched_by its_block (request (counted t_12)) ≡ only_block ∷ [] = ap (λ r. fetched_by its_block r) open_12 ∙ rw (only_wanted, committed_is only_block committed) refl in
    subst (λ (t : Trail). IsIn only_block (fetched_blocks t)) (sym one) (subst (λ (bs : List Block). IsIn only_block (bs ++ fetched_blocks (counted t_12))) (sym by) (inl refl))

is_fetched : IsFetched run_of_two only_block
is_fetched = (1, of_part (λ t. IsIn only_block (fetched_blocks (counted t))) (part_of run_of_two 1) t_13 part_20 fetched_13)

pub is_quiet : IsQuiet run_of_two
is_quiet p = of_each (λ t. is_open t ≡ false) p (rw only_wanted refl) refl refl

pub shows_no_other : ShowsNoOther run_of_two chain_of_one
shows_no_other q other on shows long = of_each (ShowsOnly other) q (only_of other t_13 counts_13.showing) (none_of other) (λ is1 s l. absurd (false≢true is1)) on shows long

are_bytes : AreBytes run_of_two
are_bytes = (small_bytes (bytes_of its_block) block_small, cleared_bytes)

-- where one peer alone claims anything nobody differs
pub claims_alike : (t : Trail) (log : Log) (block : Hash) → ((p : ℕ) (hash : Hash32) → HasClaimed log p block hash → hash_claimed (claims (counted t)) block ≡ Some hash) → IsDisputed log block → ⊥
claims_alike t log block alone d = d.apart (one_hash (hash_claimed (claims (counted t)) block) (alone d.one d.mine d.claims.0) (alone d.other d.yours d.claims.1)) where
  one_hash : (o : Option Hash32) {a b : Hash32} → o ≡ Some a → o ≡ Some b → a ≡ b
  one_hash o {a} {b} x y = (let both : Some a ≡ Some b = sym x ∙ y in cc)

pub other_claims_nothing : (block : Hash) (hash : Hash32) → hash_claimed (claims (counted u_7)) block ≡ Some hash → ⊥
other_claims_nothing block hash e = (let none : None ≡ Some hash = sym (ap (λ (c : Table). hash_claimed c block) same_other.claiming) ∙ e in cc none)

no_dispute : (block : Hash) → IsDisputed run_of_two block → ⊥
no_dispute block = claims_alike t_13 run_of_two block (λ p hash.
    of_each (λ t. hash_claimed (claims (counted t)) block ≡ Some hash → hash_claimed (claims (counted t_13)) block ≡ Some hash) p (λ e. e) (λ e. absurd (other_claims_nothing block hash e)) (λ e. cc e))

pub has_asked : (watch : List (List ℕ)) → IsWatch watch → HasAsked watch 1 only_hash (scan_of chain_of_one watch) run_of_two
has_asked watch fits =
    asked_all Once watch (scan_of chain_of_one watch) run_of_two t_13 part_20 refl counts_13.chain refl fits are_bytes is_right
    (record { blocks = chain_of_one; taken = (inl (is_fetched, refl), tt); history = refl })
    (λ p. of_each (WasHeard Once) p (heard_it Once t_13 counts_13.chain counts_13.claimed counts_13.heard_out) other_heard (off_heard Once [] refl))
    (inl (only_block, is_fetched, refl)) (λ block got disputed. no_dispute block disputed)
