-- What is kept of filters that were tested, and of what fetched blocks pay, says what is to be tested and what was; and how it goes on.
use Rattle.std.proofs.Common.{◌≡◌, ◌⊎◌, inl, inr, ℕ, ◌≤◌, List, [], ◌∷◌, length, Option, Some, None, Bool, true, false, ◌&&◌, if◌then◌else◌, refl, sym, ◌∙◌, ap, subst, arith}
use Rattle.std.specs.Prelude.{IsSome, option_map, unwrap_or}
use Rattle.std.proofs.lemmas.Bool.{both_ways, and_from, and_parts, false≢true}
use Rattle.std.proofs.lemmas.List.{append_cancel_right}
use Rattle.cf_bytes.specs.declared.hash.Hash32.{Hash32}
use Rattle.cf_bytes.specs.declared.peer.PeerNo.{PeerNo}
use Rattle.cf_block.specs.declared.tx.Block.{Block}
use Rattle.cf_block.specs.Header.{block_hash_of}
use Rattle.cf_dispute.specs.declared.claim.At.TheVariants.{Differ}
use Rattle.cf_dispute.specs.Claims.{Tables, IsAt}
use Rattle.cf_dispute.proofs.PutIn.{same_true, same_from}
use Rattle.cf_filter.specs.Filter.{filter_hash_of}
use Rattle.cf_filter.specs.Lacking.{output_items_of, lacks}
use Rattle.cf_headers.specs.Chain.{Hash, Chain, tip_hash, lower, IsIn, IsAbove}
use Rattle.cf_headers.specs.Heights.{hash_at, common_of}
use Rattle.cf_headers.specs.Rules.{same}
use Rattle.cf_headers.proofs.Accepting.{at_height}
use Rattle.cf_headers.proofs.Stacks.{length_lower}
use Rattle.cf_match.specs.declared.job.Job.{Job}
use Rattle.cf_wires.specs.declared.event.Delivery.TheVariants.{Got, Gone, Tick, Ended}
use Rattle.cf_wires.specs.declared.event.Event.{Event}
use Rattle.cf_wires.specs.declared.event.Event.TheVariants.{Dialled, NotDialled, Sent, SendFailed, Closed, Took}
use Rattle.cf_wires.specs.Log.{Log}
use Rattle.cf_peer.specs.declared.mode.Mode.TheVariants.{Following}
use Rattle.cf_peer.specs.Asking.{fetched_blocks, given_filters}
use Rattle.cf_peer.specs.Trail.{trail, own}
use Rattle.cf_scan.specs.declared.extracts.TxExtract.{TxExtract}
use Rattle.cf_tables.specs.Outputs.{Paid, lacks_kept, put_outputs}
use Rattle.cf_tables.specs.Known.{ExtractTable, TestResults}
use Rattle.cf_seek.specs.Testing.{IsToTest, IsTrial, IsNextTrial}
use Rattle.cf_tables.specs.Tests.{found_too}
use Rattle.cf_tables.specs.Trials.{with_found}
use Rattle.cf_headers.proofs.Commons.{common_low}
use Rattle.cf_headers.proofs.Found.{back_ends, found_low}
use Rattle.cf_sync.specs.Fetching.{counted_part, IsConnected, IsDisputed, IsFetched, IsFetchedHash, IsNoPiece, IsOmission, IsSameFetched, IsTest, IsTested, IsTestedWith, IsTestOf, IsTestWanted, RightlyIn, IsTestedThrough}
use Rattle.cf_holds.specs.Known.{HoldsFetched, HoldsClaims, HoldsTests}
use Rattle.cf_holds.specs.HeldTests.{AreClean, HoldsOutputs}
use Rattle.cf_sync.proofs.Answered.{fetched_hash_stays, test_fetched}
use Rattle.cf_sync.proofs.Blamed.{tested_stays}
use Rattle.cf_sync.proofs.Grows.{fetched_before, fetched_stays}
use Rattle.cf_holds.proofs.Kept.{by_claims, claims_by, disputed_by, some_is}
use Rattle.cf_sync.proofs.Bodies.{one_body}
use Rattle.cf_sync.proofs.Plans.{only_pieces_test}
use Rattle.cf_sync.proofs.SameFetched.{same_fetched}

-- ---- what is to be tested

-- a filter that is to be tested by what is kept is to be by the log
test_by : (watch : List (List ℕ)) (l : Log) (extracts : ExtractTable) (tables : Tables) (told : TestResults) → HoldsFetched watch l extracts → HoldsClaims l tables → HoldsTests l told
    → (p : ℕ) (block : Hash) → IsToTest extracts tables told p block → IsTestWanted l p block
test_by watch l extracts tables told f h k p block is =
    let e = some_is (extracts block) is.fetched in
    let w = f.sound block e.0 e.1 in
    record {
      fetched = (w.0, w.1, w.2);
      disputed = disputed_by l tables h block is.disputed;
      hash = is.claim.hash;
      claimed = (claims_by l tables h p block is.claim.hash (is.claim, is.mine, refl)).1;
      untested = k.complete block is.claim.hash is.untested;
    }

pub trial_by : (watch : List (List ℕ)) (l : Log) (extracts : ExtractTable) (tables : Tables) (told : TestResults) → HoldsFetched watch l extracts → HoldsClaims l tables → HoldsTests l told
    → (p common height : ℕ) (block : Hash) → IsTrial extracts tables told p (own (trail l p)) common block height → IsTestOf l p height block
trial_by watch l extracts tables told f h k p common height block t =
    let a = at_height block (own (trail l p)) height t.stands in
    record {
      part = lower height (own (trail l p));
      tip = a.0;
      one = sym (length_lower height (own (trail l p)) a.1);
      wanted = test_by watch l extracts tables told f h k p block t.wanted;
    }

-- ---- what was tested

differ_by : (l : Log) (tables : Tables) → HoldsClaims l tables → (block : Hash) → IsDisputed l block → IsAt tables block Differ
differ_by l tables h block d =
    (d.one, (d.other, (d.mine, (d.yours, (by_claims l tables h d.one block d.mine d.there.0 d.claims.0, by_claims l tables h d.other block d.yours d.there.1 d.claims.1, d.apart)))))

has_extract : (watch : List (List ℕ)) (l : Log) (extracts : ExtractTable) → HoldsFetched watch l extracts → (block : Hash) → IsFetchedHash l block → IsSome (extracts block)
has_extract watch l extracts f block got = by (extracts block) refl where
  by : (o : Option (List TxExtract)) → extracts block ≡ o → IsSome (extracts block)
  by None e = absurd (f.complete block e got)
  by (Some x) e = subst IsSome (sym e) refl

some_part : (block : Hash) (part : Chain) → tip_hash part ≡ block → IsAbove block → 1 ≤ length part
some_part block [] tip above = absurd (above (sym tip))
some_part block (h ∷ below) tip above = omega arith

-- where no block is to be tested, what p claims of the disputed ones was
pub tested_through : (watch : List (List ℕ)) (l : Log) (extracts : ExtractTable) (tables : Tables) (told : TestResults) (chain : Chain) (p : ℕ)
    → HoldsFetched watch l extracts → HoldsClaims l tables → HoldsTests l told → IsConnected l p
    → IsNextTrial extracts tables told p (own (counted_part l p)) (common_of (own (counted_part l p)) chain) None → IsTestedThrough l chain p
tested_through watch l extracts tables told chain p f h k on none height up low above fetched_one disputed hash claimed = by (told block hash.0) refl where
  mine : Chain
  mine = own (counted_part l p)

  block : Hash
  block = hash_at mine height

  by : (o : Option Bool) → told block hash.0 ≡ o → IsTestedWith l block hash
  by (Some true) e = (k.lacking block hash e).0
  by (Some false) e = k.holding block hash e
  by None e =
      let within = (common_low mine chain).0 in
      let found = found_low block mine height (omega (arith, low, within)) refl in
      let c = by_claims l tables h p block hash on claimed in
      let some : 1 ≤ length found.0 = some_part block found.0 (back_ends block mine found.0 found.1) above in
      absurd (none block (length found.0) (record {
        stands = ap (λ (o : Option Chain). option_map length o) found.1;
        above = some;
        low = omega (arith, found.2, low);
        wanted = record {
          fetched = has_extract watch l extracts f block fetched_one;
          disputed = differ_by l tables h block disputed;
          claim = c.0;
          mine = c.1;
          untested = ap (λ (x : Hash32). told block x.0) c.2 ∙ e;
        };
      }))

-- ---- what was tested goes on

-- a filter was tested of a fetched block alone
tested_fetched : (l : Log) (job : Job) → IsTested l job → IsFetchedHash l job.block.0
tested_fetched [] job t = absurd t
tested_fetched (Took (Got q piece) ∷ l) job (inl new) = fetched_hash_stays (Took (Got q piece)) l job.block.0 (test_fetched l q.0 job.block.0 new.0)
tested_fetched (Took (Got q piece) ∷ l) job (inr old) = fetched_hash_stays (Took (Got q piece)) l job.block.0 (tested_fetched l job old)
tested_fetched (Took (Gone q) ∷ l) job t = fetched_hash_stays (Took (Gone q)) l job.block.0 (tested_fetched l job t)
tested_fetched (Took (Tick s) ∷ l) job t = fetched_hash_stays (Took (Tick s)) l job.block.0 (tested_fetched l job t)
tested_fetched (Took Ended ∷ l) job t = fetched_hash_stays (Took Ended) l job.block.0 (tested_fetched l job t)
tested_fetched (Dialled q name ∷ l) job t = fetched_hash_stays (Dialled q name) l job.block.0 (tested_fetched l job t)
tested_fetched (NotDialled q name ∷ l) job t = fetched_hash_stays (NotDialled q name) l job.block.0 (tested_fetched l job t)
tested_fetched (Sent q bytes ∷ l) job t = fetched_hash_stays (Sent q bytes) l job.block.0 (tested_fetched l job t)
tested_fetched (SendFailed q ∷ l) job t = fetched_hash_stays (SendFailed q) l job.block.0 (tested_fetched l job t)
tested_fetched (Closed q ∷ l) job t = fetched_hash_stays (Closed q) l job.block.0 (tested_fetched l job t)

omission_on : (e : Event) (l : Log) (block : Hash) (filter : List ℕ) → IsOmission l block filter → IsOmission (e ∷ l) block filter
omission_on e l block filter o = record { body = o.body; fetched = fetched_stays e l o.body o.fetched; of_block = o.of_block; lacking = o.lacking }

abbrev with_on : (e : Event) (l : Log) (block : Hash) (hash : Hash32) → IsTestedWith l block hash → IsTestedWith (e ∷ l) block hash
with_on e l block hash t = record { filter = t.filter; tested = tested_stays e l t.filter t.tested; of_block = t.of_block; this = t.this }

-- no filter is tested with an entry
abbrev pub TestsNone : Event → Log → Type 0
TestsNone e l = (job : Job) → IsTested (e ∷ l) job → IsTested l job

with_before : (e : Event) (l : Log) → TestsNone e l → (block : Hash) (hash : Hash32) → IsTestedWith (e ∷ l) block hash → IsTestedWith l block hash
with_before e l none block hash t = record { filter = t.filter; tested = none t.filter t.tested; of_block = t.of_block; this = t.this }

-- then what is kept stays
pub tests_stay : (e : Event) (l : Log) (told : TestResults) → TestsNone e l → HoldsTests l told → HoldsTests (e ∷ l) told
tests_stay e l told none k = record {
  lacking = λ block hash is. let w = k.lacking block hash is in (with_on e l block hash w.0, omission_on e l block w.0.filter.filter w.1);
  holding = λ block hash is. with_on e l block hash (k.holding block hash is);
  complete = λ block hash is t. k.complete block hash is (with_before e l none block hash t);
}

pub clean_stays : (e : Event) (l : Log) (paid : Paid) (told : TestResults) → TestsNone e l → AreClean l paid told → AreClean (e ∷ l) paid told
unfolding with_before
clean_stays e l paid told none clean block hash is t = clean block hash is (with_before e l none block hash t)

-- so it is with what isn't a piece
pub no_piece_tests : (e : Event) (l : Log) → IsNoPiece e → TestsNone e l
no_piece_tests e l none job t = only_pieces_test e l job none t

-- ---- one filter more is tested

too_true : (o : Option Bool) (v : Bool) → found_too o v ≡ true → (o ≡ Some true) ⊎ (v ≡ true)
too_true None v e = inr e
too_true (Some true) v e = inl refl
too_true (Some false) v e = inr e

too_false : (o : Option Bool) (v : Bool) → found_too o v ≡ false → ((o ≡ Some false) ⊎ (o ≡ None)) × (v ≡ false)
too_false None v e = (inr refl, e)
too_false (Some true) v e = absurd (false≢true (sym e))
too_false (Some false) v e = (inl refl, e)

module _ (q : PeerNo) (piece : List ℕ) (l : Log) (told : TestResults) (paid : Paid) (job : Job) (k : HoldsTests l told) (clean : AreClean l paid told) (outputs : HoldsOutputs l paid)
    (test : IsTest l q.0 job.block.0) (given_is : given_filters (counted_part (Took (Got q piece) ∷ l) q.0) ≡ job ∷ given_filters (counted_part l q.0)) where
  abbrev e : Event
  e = Took (Got q piece)

  abbrev found : Bool
  found = lacks_kept job.block.0 job.filter (paid job.block.0)

  abbrev hit : Hash → Hash32 → Bool
  hit block hash = same job.block.0 block && same (filter_hash_of job.filter) hash.0

  now : IsTested (e ∷ l) job
  now = inl (test, record { news = job ∷ []; joined = given_is; among = inl refl })

  abbrev mine : (block : Hash) (hash : Hash32) → hit block hash ≡ true → IsTestedWith (e ∷ l) block hash
  mine block hash is = record {
    filter = job;
    tested = now;
    of_block = same_true job.block.0 block (and_parts (same job.block.0 block) (same (filter_hash_of job.filter) hash.0) is).0;
    this = same_true (filter_hash_of job.filter) hash.0 (and_parts (same job.block.0 block) (same (filter_hash_of job.filter) hash.0) is).1;
  }

  -- the block's body, and what was found by it
  paid_is : (b : Block) × IsFetched l b × (block_hash_of b.header ≡ job.block.0) × (found ≡ lacks job.block.0 (output_items_of b) job.filter)
  paid_is = by (paid job.block.0) refl where
    by : (o : Option (List (List ℕ))) → paid job.block.0 ≡ o
        → (b : Block) × IsFetched l b × (block_hash_of b.header ≡ job.block.0) × (lacks_kept job.block.0 job.filter (paid job.block.0) ≡ lacks job.block.0 (output_items_of b) job.filter)
    by None is = absurd (outputs.complete job.block.0 is (test_fetched l q.0 job.block.0 test))
    by (Some items) is =
        let w = outputs.sound job.block.0 items is in
        (w.0, w.1, w.2, ap (lacks_kept job.block.0 job.filter) is ∙ ap (λ (xs : List (List ℕ)). lacks job.block.0 xs job.filter) w.3)

  only : (j : Job) → IsTested (e ∷ l) j → IsTested l j ⊎ (j ≡ job)
  only j (inr old) = inl old
  only j (inl new) =
      let one : new.1.news ≡ job ∷ [] = append_cancel_right new.1.news (job ∷ []) (given_filters (counted_part l q.0)) (sym new.1.joined ∙ given_is) in
      by (subst (λ (js : List Job). IsIn j js) one new.1.among) where
        by : IsIn j (job ∷ []) → IsTested l j ⊎ (j ≡ job)
        by (inl is) = inr is
        by (inr none) = absurd none

  abbrev was : (block : Hash) (hash : Hash32) (t : IsTestedWith (e ∷ l) block hash) → IsTested l t.filter → IsTestedWith l block hash
  was block hash t old = record { filter = t.filter; tested = old; of_block = t.of_block; this = t.this }

  -- one that isn't it was tested before
  was_else : (block : Hash) (hash : Hash32) → hit block hash ≡ false → (t : IsTestedWith (e ∷ l) block hash) → IsTested l t.filter
  was_else block hash off t = elim (only t.filter t.tested) [
    | inl old ↦ old
    | inr this ↦ absurd (both_ways (hit block hash) off (and_from (same job.block.0 block) (same (filter_hash_of job.filter) hash.0)
        (same_from job.block.0 block (sym (ap (λ (j : Job). j.block.0) this) ∙ t.of_block))
        (same_from (filter_hash_of job.filter) hash.0 (sym (ap (λ (j : Job). filter_hash_of j.filter) this) ∙ t.this))))
  ]

  clean_old : (block : Hash) (hash : Hash32) → (told block hash.0 ≡ Some false) ⊎ (told block hash.0 ≡ None) → (t : IsTestedWith (e ∷ l) block hash) → IsTested l t.filter
      → lacks_kept block t.filter.filter (paid block) ≡ false
  clean_old block hash (inl is) t old = clean block hash is (was block hash t old)
  clean_old block hash (inr none) t old = absurd (k.complete block hash none (was block hash t old))

  clean_new : (block : Hash) (hash : Hash32) → found ≡ false → (t : IsTestedWith (e ∷ l) block hash) → t.filter ≡ job → lacks_kept block t.filter.filter (paid block) ≡ false
  clean_new block hash off t this =
      let here : job.block.0 ≡ block = sym (ap (λ (j : Job). j.block.0) this) ∙ t.of_block in
      subst (λ (b : Hash). lacks_kept b t.filter.filter (paid b) ≡ false) here (ap (λ (j : Job). lacks_kept job.block.0 j.filter (paid job.block.0)) this ∙ off)

  lacking_of : (block : Hash) (hash : Hash32) (s : Bool) → hit block hash ≡ s → (if s then Some (found_too (told block hash.0) found) else told block hash.0) ≡ Some true
      → (t : IsTestedWith (e ∷ l) block hash) × IsOmission (e ∷ l) block t.filter.filter
  lacking_of block hash false off is = (let w = k.lacking block hash is in (with_on e l block hash w.0, omission_on e l block w.0.filter.filter w.1))
  lacking_of block hash true on is = elim (too_true (told block hash.0) found (let f : found_too (told block hash.0) found ≡ true = cc in f)) [
    | inl before ↦ (let w = k.lacking block hash before in (with_on e l block hash w.0, omission_on e l block w.0.filter.filter w.1))
    | inr here ↦ (
        let t = mine block hash on in (
          t,
          record {
            body = paid_is.0;
            fetched = fetched_stays e l paid_is.0 paid_is.1;
            of_block = paid_is.2 ∙ t.of_block;
            lacking = (λ i. lacks (sym t.of_block i) (output_items_of paid_is.0) job.filter) ∙ sym paid_is.3 ∙ here;
          },
        )
        )
  ]

  holding_of : (block : Hash) (hash : Hash32) (s : Bool) → hit block hash ≡ s → (if s then Some (found_too (told block hash.0) found) else told block hash.0) ≡ Some false → IsTestedWith (e ∷ l) block hash
  holding_of block hash true on is = mine block hash on
  holding_of block hash false off is = with_on e l block hash (k.holding block hash is)

  clean_of : (block : Hash) (hash : Hash32) (s : Bool) → hit block hash ≡ s → (if s then Some (found_too (told block hash.0) found) else told block hash.0) ≡ Some false
      → (t : IsTestedWith (e ∷ l) block hash) → lacks_kept block t.filter.filter (paid block) ≡ false
  clean_of block hash true on is t =
      let f = too_false (told block hash.0) found (let f : found_too (told block hash.0) found ≡ false = cc in f) in
      elim (only t.filter t.tested) [
        | inl old ↦ clean_old block hash f.0 t old
        | inr this ↦ clean_new block hash f.1 t this
      ]
  clean_of block hash false off is t = clean_old block hash (inl is) t (was_else block hash off t)

  complete_of : (block : Hash) (hash : Hash32) (s : Bool) → hit block hash ≡ s → (if s then Some (found_too (told block hash.0) found) else told block hash.0) ≡ None → IsTestedWith (e ∷ l) block hash → ⊥
  complete_of block hash true on is t = cc
  complete_of block hash false off is t = k.complete block hash is (was block hash t (was_else block hash off t))

  -- with what was found of one filter that came, what is kept stays right
  tests_now : HoldsTests (Took (Got q piece) ∷ l) (with_found paid job told)
  tests_now = record {
    lacking = λ block hash is. lacking_of block hash (hit block hash) refl is;
    holding = λ block hash is. holding_of block hash (hit block hash) refl is;
    complete = λ block hash is t. complete_of block hash (hit block hash) refl is t;
  }

  clean_now : AreClean (Took (Got q piece) ∷ l) paid (with_found paid job told)
  clean_now block hash is t = clean_of block hash (hit block hash) refl is t

pub one_tested : (q : PeerNo) (piece : List ℕ) (l : Log) (told : TestResults) (paid : Paid) (job : Job) → HoldsTests l told → AreClean l paid told → HoldsOutputs l paid → IsTest l q.0 job.block.0
    → given_filters (counted_part (Took (Got q piece) ∷ l) q.0) ≡ job ∷ given_filters (counted_part l q.0)
    → HoldsTests (Took (Got q piece) ∷ l) (with_found paid job told) × AreClean (Took (Got q piece) ∷ l) paid (with_found paid job told)
one_tested q piece l told paid job k clean outputs test given_is =
    (tests_now q piece l told paid job k clean outputs test given_is, clean_now q piece l told paid job k clean outputs test given_is)

-- ---- what fetched blocks pay

pub outputs_stay : (e : Event) (l : Log) (paid : Paid) → IsSameFetched (e ∷ l) l → HoldsOutputs l paid → HoldsOutputs (e ∷ l) paid
outputs_stay e l paid none h = record {
  sound = λ hash items is. let w = h.sound hash items is in (w.0, fetched_stays e l w.0 w.1, w.2, w.3);
  complete = λ hash is got. h.complete hash is (got.0, same_fetched (e ∷ l) l none got.0 got.1, got.2);
}

pub outputs_grow : (p : PeerNo) (piece : List ℕ) (l : Log) (paid : Paid) (b : Block) → fetched_blocks (counted_part (Took (Got p piece) ∷ l) p.0) ≡ b ∷ fetched_blocks (counted_part l p.0) → HoldsOutputs l paid
    → HoldsOutputs (Took (Got p piece) ∷ l) (put_outputs (block_hash_of b.header) (output_items_of b) paid)
outputs_grow p piece l paid b brings h = record {
  sound = λ hash items is. sound_of hash items (same (block_hash_of b.header) hash) (paid hash) refl refl is;
  complete = λ hash is got. complete_of hash (same (block_hash_of b.header) hash) refl is got;
} where
  sound_of : (hash : Hash) (items : List (List ℕ)) (s : Bool) (o : Option (List (List ℕ))) → same (block_hash_of b.header) hash ≡ s → paid hash ≡ o
      → (if s then Some (unwrap_or o (output_items_of b)) else o) ≡ Some items
      → (c : Block) × IsFetched (Took (Got p piece) ∷ l) c × (block_hash_of c.header ≡ hash) × (items ≡ output_items_of c)
  sound_of hash items true None on none is =
      (b, (p.0, subst (λ (bs : List Block). IsIn b bs) (sym brings) (inl refl)), same_true (block_hash_of b.header) hash on, (let e : items ≡ output_items_of b = cc in e))
  sound_of hash items true (Some old) on there is =
      let w = h.sound hash items (there ∙ is) in (w.0, fetched_stays (Took (Got p piece)) l w.0 w.1, w.2, w.3)
  sound_of hash items false o off there is = (let w = h.sound hash items (there ∙ is) in (w.0, fetched_stays (Took (Got p piece)) l w.0 w.1, w.2, w.3))

  complete_of : (hash : Hash) (s : Bool) → same (block_hash_of b.header) hash ≡ s → (if s then Some (unwrap_or (paid hash) (output_items_of b)) else paid hash) ≡ None
      → IsFetchedHash (Took (Got p piece) ∷ l) hash → ⊥
  complete_of hash true on is got = cc
  complete_of hash false off is got = elim (fetched_before (Took (Got p piece)) l got.0 got.1) [
    | inl old ↦ h.complete hash is (got.0, old, got.2)
    | inr new ↦ elim (subst (λ (bs : List Block). IsIn got.0 bs) brings new) [
      | inl this ↦ both_ways (same (block_hash_of b.header) hash) off (same_from (block_hash_of b.header) hash (sym (ap (λ (c : Block). block_hash_of c.header) this) ∙ got.2))
      | inr old ↦ h.complete hash is (got.0, (p.0, old), got.2)
    ]
  ]

-- ---- items of more blocks

-- a filter that was tested is of a block that was fetched before the entry
tested_then : (e : Event) (l : Log) (job : Job) → IsTested (e ∷ l) job → IsFetchedHash l job.block.0
tested_then (Took (Got q piece)) l job (inl new) = test_fetched l q.0 job.block.0 new.0
tested_then (Took (Got q piece)) l job (inr old) = tested_fetched l job old
tested_then (Took (Gone q)) l job t = tested_fetched l job t
tested_then (Took (Tick s)) l job t = tested_fetched l job t
tested_then (Took Ended) l job t = tested_fetched l job t
tested_then (Dialled q name) l job t = tested_fetched l job t
tested_then (NotDialled q name) l job t = tested_fetched l job t
tested_then (Sent q bytes) l job t = tested_fetched l job t
tested_then (SendFailed q) l job t = tested_fetched l job t
tested_then (Closed q) l job t = tested_fetched l job t

-- where the items of fetched blocks stay, what is told stays right
pub clean_on : (e : Event) (l : Log) (paid kept : Paid) (told : TestResults) → HoldsOutputs l paid → ((hash : Hash) → IsSome (paid hash) → kept hash ≡ paid hash)
    → AreClean (e ∷ l) paid told → AreClean (e ∷ l) kept told
clean_on e l paid kept told outputs same1 clean block hash is t =
    let got : IsFetchedHash l block = subst (λ (x : Hash). IsFetchedHash l x) t.of_block (tested_then e l t.filter t.tested) in
    ap (lacks_kept block t.filter.filter) (same1 block (has_items (paid block) refl got)) ∙ clean block hash is t where
      has_items : (o : Option (List (List ℕ))) → paid block ≡ o → IsFetchedHash l block → IsSome (paid block)
      has_items None none got = absurd (outputs.complete block none got)
      has_items (Some items) there got = subst IsSome (sym there) refl

-- ---- what is told of a filter that was tested

lacks_alike : (a b : Hash) (x y : Block) → a ≡ b → x ≡ y → (filter : List ℕ) → lacks b (output_items_of y) filter ≡ true → lacks a (output_items_of x) filter ≡ true
lacks_alike a b x y e one filter h = (λ k. lacks (e k) (output_items_of (one k)) filter) ∙ h

-- where it is told that it lacks nothing, it is no omission
pub holds_all : (l : Log) (paid : Paid) (told : TestResults) → RightlyIn Following l
    → HoldsOutputs l paid → AreClean l paid told
    → (block : Hash) (hash : Hash32) → told block hash.0 ≡ Some false → (t : IsTestedWith l block hash) → IsOmission l block t.filter.filter → ⊥
holds_all l paid told right outputs clean block hash is t o = by (paid block) refl where
  by : (found : Option (List (List ℕ))) → paid block ≡ found → ⊥
  by None none = outputs.complete block none (o.body, o.fetched, o.of_block)
  by (Some items) there =
      let w = outputs.sound block items there in
      let one : w.0 ≡ o.body = one_body l right w.0 o.body w.1 o.fetched (w.2 ∙ sym o.of_block) in
      let off : lacks block (output_items_of w.0) t.filter.filter ≡ false =
      ap (λ (xs : List (List ℕ)). lacks block xs t.filter.filter) (sym w.3) ∙ ap (lacks_kept block t.filter.filter) (sym there) ∙ clean block hash is t in
      both_ways (lacks block (output_items_of w.0) t.filter.filter) off (lacks_alike block block w.0 o.body refl one t.filter.filter o.lacking)
