-- A peer is asked for no filters a second time.
use Rattle.std.proofs.Common.{◌≡◌, ◌⊎◌, inl, inr, ℕ, List, [], ◌∷◌, ◌++◌, length, Option, Some, None, Bool, true, false, ◌==◌, if◌then◌else◌, refl, sym, ◌∙◌, ap, subst, arith}
use Rattle.std.specs.Prelude.{option_map}
use Rattle.std.proofs.lemmas.List.{length-append}
use Rattle.std.proofs.lemmas.Bool.{cases_Bool, and_parts, false≢true}
use Rattle.cf_bytes.specs.declared.hash.Hash32.{Hash32}
use Rattle.cf_dispute.specs.declared.claim.Claim.{Claim}
use Rattle.cf_dispute.specs.Claims.{Table, claim_of, with_claim, with_claims}
use Rattle.cf_filter.specs.Filter.{filter_hash_of}
use Rattle.cf_headers.specs.Rules.{same}
use Rattle.cf_headers.specs.Chain.{Hash, Chain, back_to, IsIn, NoHashClash}
use Rattle.cf_match.specs.declared.job.Job.{Job}
use Rattle.cf_msg.specs.declared.msg.Inventory.{Inventory}
use Rattle.cf_msg.specs.declared.msg.Msg.{Msg}
use Rattle.cf_msg.specs.declared.msg.Msg.TheVariants.{Ping, Pong, GetHeaders, Headers, GetData, Block as BlockMessage, GetCfheaders, Cfheaders, GetCfilters, Cfilter}
use Rattle.cf_peer.specs.declared.peer.Cause.TheVariants.{OtherFilter}
use Rattle.cf_peer.specs.declared.mode.Mode.TheVariants.{Following}
use Rattle.cf_wires.specs.Log.{Log}
use Rattle.cf_peer.specs.Trail.{Trail, Part, Called, Said, Refused, Asked, Passed, Lost, part_of, trail, is_connected, own, WasAsked}
use Rattle.cf_peer.specs.Asking.{OpenRequest, NothingOpen, HeadersOpen, ClaimsOpen, FiltersOpen, BlockOpen, is_answer_of, is_this, is_wanted, blocks_from, block_below, claims_asked, filters_asked, filters_left, filter_of, filter_fault, claims, claims_after, given_filters, given_by, hash_claimed, request, request_for, request_after, fault_of, verdict, counted, lists, IsClaimed, MayAskIn, PingOpen}
use Rattle.cf_sync.specs.Fetching.{AreBytes, IsConnected, IsFetchedHash, IsFilterWanted, IsGiven, AreFiltersWanted, MaySendIn, RightlyIn, blocks_in}
use Rattle.cf_sync.specs.Planned.{Alike, IsPlanned, is_untold}
use Rattle.cf_sync.specs.Sync.{IsHashed}
use Rattle.cf_dispute.proofs.PutIn.{same_true}
use Rattle.cf_sync.proofs.Answered.{came_given}
use Rattle.cf_sync.proofs.Chains.{cases_same}
use Rattle.cf_sync.proofs.Counted.{first_none, same_use}
use Rattle.cf_sync.proofs.Fresh.{since_asked, stays_open}
use Rattle.cf_sync.proofs.FreshClaims.{IsShownRange, block_again, range_asked, range_said}
use Rattle.cf_sync.proofs.Listed.{in_left, in_right, in_either}
use Rattle.cf_sync.proofs.Remembers.{AskedRightlyIn, asked_rightly_in}
use Rattle.cf_sync.proofs.Grows.{said_gives}

-- ---- what is claimed of a block stays as it is

-- claims of other blocks
one_leaves : (x : Hash) (claim : Claim) (table : Table) (block : Hash) → (x ≡ block → ⊥) → with_claim x claim table block ≡ table block
one_leaves x claim table block other = elim (cases_same x block) [
  | inl here ↦ absurd (other here.0)
  | inr off ↦ ap (λ (b : Bool). if b then Some claim else table block) off.0
]

with_leaves : (previous : Hash32) (blocks : List Hash) (hashes : List Hash32) (table : Table) (block : Hash) → (IsIn block blocks → ⊥) → with_claims previous blocks hashes table block ≡ table block
with_leaves previous [] hashes table block other = refl
with_leaves previous (x ∷ blocks) [] table block other = refl
with_leaves previous (x ∷ blocks) (h ∷ hashes) table block other =
    with_leaves (claim_of h previous).header blocks hashes (with_claim x (claim_of h previous) table) block (λ i. other (inr i)) ∙ one_leaves x (claim_of h previous) table block (λ e. other (inl (sym e)))

-- a question for claims that is open after a message was open before it, and nothing was claimed
abbrev WasOpen : Msg → OpenRequest → Table → Hash → Hash → List Hash → Type 0
WasOpen m r table stop parent blocks = (r ≡ ClaimsOpen stop parent blocks) × ((block : Hash) → claims_after m r table block ≡ table block)

open_before : (m : Msg) (r : OpenRequest) (table : Table) (stop parent : Hash) (blocks : List Hash) → request_after m r ≡ ClaimsOpen stop parent blocks → WasOpen m r table stop parent blocks
open_before (Headers hs) HeadersOpen table stop parent blocks e = cc
open_before (Cfheaders filter at previous hashes) (ClaimsOpen wanted below left) table stop parent blocks e = by (is_answer_of filter at.0 wanted) e where
  by : (b : Bool) → (if b then NothingOpen else ClaimsOpen wanted below left) ≡ ClaimsOpen stop parent blocks
      → (ClaimsOpen wanted below left ≡ ClaimsOpen stop parent blocks) × ((block : Hash) → (if b then with_claims previous left hashes table else table) block ≡ table block)
  by true f = cc
  by false f = (f, λ block. refl)
open_before (Cfilter filter block bytes) (FiltersOpen (next ∷ left) came) table stop parent blocks e = by (is_answer_of filter block.0 next) left e where
  by : (b : Bool) (more : List Hash) → (if b then filters_left more (came ++ filter_of block bytes ∷ []) else FiltersOpen (next ∷ left) came) ≡ ClaimsOpen stop parent blocks
      → WasOpen (Cfilter filter block bytes) (FiltersOpen (next ∷ left) came) table stop parent blocks
  by true [] f = cc
  by true (x ∷ more) f = cc
  by false more f = cc
open_before (BlockMessage b) (BlockOpen wanted) table stop parent blocks e = by (is_wanted b wanted) e where
  by : (x : Bool) → (if x then NothingOpen else BlockOpen wanted) ≡ ClaimsOpen stop parent blocks → WasOpen (BlockMessage b) (BlockOpen wanted) table stop parent blocks
  by true f = cc
  by false f = cc
open_before (Pong number) (PingOpen wanted) table stop parent blocks e = by (number == wanted) e where
  by : (x : Bool) → (if x then NothingOpen else PingOpen wanted) ≡ ClaimsOpen stop parent blocks → WasOpen (Pong number) (PingOpen wanted) table stop parent blocks
  by true f = cc
  by false f = cc
open_before (Pong number) NothingOpen table stop parent blocks e = (e, λ block. refl)
open_before (Pong number) HeadersOpen table stop parent blocks e = (e, λ block. refl)
open_before (Pong number) (ClaimsOpen wanted below left) table stop parent blocks e = (e, λ block. refl)
open_before (Pong number) (FiltersOpen left came) table stop parent blocks e = (e, λ block. refl)
open_before (Pong number) (BlockOpen wanted) table stop parent blocks e = (e, λ block. refl)
open_before m r table stop parent blocks e = (e, λ block. refl)

-- of the blocks whose claims are asked for none is claimed
abbrev pub AreFresh : Trail → Type 0
AreFresh t = (stop parent : Hash) (blocks : List Hash) → request t ≡ ClaimsOpen stop parent blocks → (block : Hash) → IsIn block blocks → IsClaimed t block → ⊥

asked_fresh : (m : Msg) (t : Trail) → MayAskIn Following t m → AreFresh t → AreFresh (Asked m ∷ t)
asked_fresh (GetHeaders version locator at) t may fresh stop parent blocks e block i claimed = absurd (let no : HeadersOpen ≡ ClaimsOpen stop parent blocks = e in cc)
asked_fresh (GetCfheaders filter start at) t may fresh stop parent blocks e block i claimed =
    let now : ClaimsOpen at.0 (block_below start may.1.0.part) (blocks_from start may.1.0.part) ≡ ClaimsOpen stop parent blocks = sym (ap (λ o. claims_asked start at.0 o) may.1.0.tip) ∙ e in
    let these : blocks_from start may.1.0.part ≡ blocks = cc in
    may.1.2 block (subst (λ (bs : List Hash). IsIn block bs) (sym these) i) claimed
asked_fresh (GetCfilters filter start at) t may fresh stop parent blocks e block i claimed =
    absurd (let no : FiltersOpen (blocks_from start may.1.0.part) [] ≡ ClaimsOpen stop parent blocks = sym (ap (λ o. filters_asked start o) may.1.0.tip) ∙ e in cc)
asked_fresh (GetData entries) t may fresh stop parent blocks e block i claimed =
    absurd (let no : BlockOpen may.1.0.0 ≡ ClaimsOpen stop parent blocks = sym (ap (λ (es : List Inventory). request_for (GetData es) (own t) (request t)) may.1.1) ∙ e in cc)
asked_fresh (Ping number) t may fresh stop parent blocks e block i claimed = absurd (let no : PingOpen number ≡ ClaimsOpen stop parent blocks = e in cc)
asked_fresh m t may fresh stop parent blocks e block i claimed = fresh stop parent blocks e block i claimed

pub are_fresh : (t : Trail) → is_connected t ≡ true → verdict t ≡ None → AskedRightlyIn Following t → AreFresh t
are_fresh [] on clean right stop parent blocks e block i claimed = absurd (false≢true on)
are_fresh (Called ∷ t) on clean right stop parent blocks e block i claimed = absurd (let no : NothingOpen ≡ ClaimsOpen stop parent blocks = e in cc)
are_fresh (Said m ∷ t) on clean right stop parent blocks e block i claimed =
    let w = open_before m (request t) (claims t) stop parent blocks e in
    are_fresh t on (first_none (verdict t) (fault_of m t) clean).0 right stop parent blocks w.0 block i (claimed.0, sym (w.1 block) ∙ claimed.1)
are_fresh (Refused c ∷ t) on clean right stop parent blocks e block i claimed = absurd (let no = (first_none (verdict t) (Some c) clean).1 in cc)
are_fresh (Asked m ∷ t) on clean right stop parent blocks e block i claimed = asked_fresh m t right.0 (are_fresh t on clean right.1) stop parent blocks e block i claimed
are_fresh (Passed s ∷ t) on clean right stop parent blocks e block i claimed = are_fresh t on clean right stop parent blocks e block i claimed
are_fresh (Lost w ∷ t) on clean right stop parent blocks e block i claimed = absurd (false≢true on)

answered : (b : Bool) (previous : Hash32) (blocks : List Hash) (hashes : List Hash32) (table : Table) (block : Hash) (claim : Claim) → (IsIn block blocks → ⊥) → table block ≡ Some claim
    → (if b then with_claims previous blocks hashes table else table) block ≡ Some claim
answered true previous blocks hashes table block claim other is = with_leaves previous blocks hashes table block other ∙ is
answered false previous blocks hashes table block claim other is = is

claim_stays : (m : Msg) (t : Trail) → AreFresh t → (block : Hash) (claim : Claim) → claims t block ≡ Some claim → claims (Said m ∷ t) block ≡ Some claim
claim_stays m t fresh block claim is = by m (request t) fresh where
  by : (n : Msg) (r : OpenRequest) → ((stop parent : Hash) (blocks : List Hash) → r ≡ ClaimsOpen stop parent blocks → (x : Hash) → IsIn x blocks → IsClaimed t x → ⊥) → claims_after n r (claims t) block ≡ Some claim
  by (Cfheaders filter at previous hashes) (ClaimsOpen wanted parent blocks) none =
      answered (is_answer_of filter at.0 wanted) previous blocks hashes (claims t) block claim (λ i. none wanted parent blocks refl block i (claim, is)) is
  by n r none = is

-- ---- since it was asked for filters of a range

-- the filter is the one that it claims of its block
abbrev pub IsItsOwn : Trail → Job → Type 0
IsItsOwn t job = (claim : Claim) × (claims t job.block.0 ≡ Some claim) × (claim.hash.0 ≡ filter_hash_of job.filter)

-- some of the filters came; all of them were given
pub record AreComing (t : Trail) (blocks : List Hash) : Type 0 where
  pub left : List Hash
  pub came : List Job
  pub is : request t ≡ FiltersOpen left came
  pub true_ones : (job : Job) → IsIn job came → IsItsOwn t job
  pub each : (block : Hash) → IsIn block blocks → ((job : Job) × IsIn job came × (job.block.0 ≡ block)) ⊎ IsIn block left

-- a message gives all of them
abbrev pub AreGivenBy : Msg → Trail → List Hash → Type 0
AreGivenBy m t blocks = (block : Hash) → IsIn block blocks → (job : Job) × IsIn job (given_by m (request t)) × (job.block.0 ≡ block) × IsItsOwn (Said m ∷ t) job

abbrev AreGiven : Trail → List Hash → Type 0
AreGiven t blocks = (block : Hash) → IsIn block blocks → (job : Job) × IsIn job (given_filters (counted t)) × (job.block.0 ≡ block) × IsItsOwn t job

abbrev Since : Trail → ℕ → Hash → Type 0
Since t start stop =
    (w : IsShownRange (lists t) start stop) × (AreComing t (blocks_from start w.part) ⊎ AreGiven t (blocks_from start w.part))

pub its_own : (m : Msg) (t : Trail) → AreFresh t → (job : Job) → IsItsOwn t job → IsItsOwn (Said m ∷ t) job
its_own m t fresh job w = (w.0, claim_stays m t fresh job.block.0 w.0 w.1, w.2)

this_is : (o : Option Hash32) (hash : Hash) → (if is_this o hash then None else Some OtherFilter) ≡ None → (h : Hash32) × (o ≡ Some h) × (h.0 ≡ hash)
this_is None hash e = cc
this_is (Some h) hash e = elim (cases_Bool (same h.0 hash)) [
  | inl is1 ↦ (h, refl, same_true h.0 hash is1)
  | inr off ↦ absurd (let no : Some OtherFilter ≡ None = sym (ap (λ (b : Bool). if b then None else Some OtherFilter) off) ∙ e in cc)
]

claim_by : (o : Option Claim) (h : Hash32) → option_map (λ (c : Claim). c.hash) o ≡ Some h → (c : Claim) × (o ≡ Some c) × (c.hash ≡ h)
claim_by None h e = cc
claim_by (Some c) h e = (c, refl, cc)

-- a filter that isn't refused and answers what is open is the one that the peer claims
pub answer_own : (filter : ℕ) (block : Hash32) (bytes : List ℕ) (t : Trail) (next : Hash) (left : List Hash) (came : List Job) → verdict (Said (Cfilter filter block bytes) ∷ t) ≡ None
    → request t ≡ FiltersOpen (next ∷ left) came → is_answer_of filter block.0 next ≡ true → IsItsOwn t (filter_of block bytes)
answer_own filter block bytes t next left came clean e answer =
    let fine : (if is_this (hash_claimed (claims t) next) (filter_hash_of bytes) then None else Some OtherFilter) ≡ None =
    sym (ap (λ (b : Bool). if b then (if is_this (hash_claimed (claims t) next) (filter_hash_of bytes) then None else Some OtherFilter) else None) answer)
    ∙ sym (ap (λ r. filter_fault filter block.0 bytes r (claims t)) e) ∙ (first_none (verdict t) (fault_of (Cfilter filter block bytes) t) clean).1 in
    let h = this_is (hash_claimed (claims t) next) (filter_hash_of bytes) fine in
    let c = claim_by (claims t next) h.0 h.1 in
    (c.0, ap (claims t) (same_true block.0 next (and_parts (filter == 0) (same block.0 next) answer).1) ∙ c.1, ap (λ (x : Hash32). x.0) c.2 ∙ h.2)

one_of : (came : List Job) (last job : Job) → came ++ last ∷ [] ≡ job ∷ [] → job ≡ last
one_of [] last job e = cc
one_of (x ∷ came) last job e = absurd (omega (arith, ap length e, length-append came (last ∷ [])))

-- where a message gives one filter, that is the one that came with it, and the peer claims it
pub one_given : (filter : ℕ) (block : Hash32) (bytes : List ℕ) (t : Trail) (job : Job) → verdict (Said (Cfilter filter block bytes) ∷ t) ≡ None
    → given_by (Cfilter filter block bytes) (request t) ≡ job ∷ [] → (job ≡ filter_of block bytes) × IsItsOwn t job
one_given filter block bytes t job clean gives = by (request t) refl gives where
  m : Msg
  m = Cfilter filter block bytes

  by : (r : OpenRequest) → request t ≡ r → given_by m r ≡ job ∷ [] → (job ≡ filter_of block bytes) × IsItsOwn t job
  by NothingOpen e g = cc
  by HeadersOpen e g = cc
  by (ClaimsOpen stop parent blocks) e g = cc
  by (BlockOpen wanted) e g = cc
  by (PingOpen number) e g = cc
  by (FiltersOpen [] came) e g = cc
  by (FiltersOpen (next ∷ y ∷ left) came) e g = cc
  by (FiltersOpen (next ∷ []) came) e g = elim (cases_Bool (is_answer_of filter block.0 next)) [
    | inl answer ↦ (
        let is : job ≡ filter_of block bytes = one_of came (filter_of block bytes) job
        (sym (ap (λ (b : Bool). if b then came ++ filter_of block bytes ∷ [] else []) answer) ∙ g) in
        (is, subst (IsItsOwn t) (sym is) (answer_own filter block bytes t next [] came clean e answer))
        )
    | inr other ↦ absurd (let no : [] ≡ job ∷ [] = sym (ap (λ (b : Bool). if b then came ++ filter_of block bytes ∷ [] else []) other) ∙ g in cc)
  ]

-- the next filter has come, and what it was asked for is open with one fewer, or all was given
next_came : (filter : ℕ) (block : Hash32) (bytes : List ℕ) (t : Trail) (next : Hash) (more : List Hash) (came : List Job) (blocks : List Hash) → is_connected t ≡ true → verdict (Said (Cfilter filter block bytes) ∷ t) ≡ None
    → AreFresh t → request t ≡ FiltersOpen (next ∷ more) came → is_answer_of filter block.0 next ≡ true → ((job : Job) → IsIn job came → IsItsOwn t job)
    → ((x : Hash) → IsIn x blocks → ((job : Job) × IsIn job came × (job.block.0 ≡ x)) ⊎ IsIn x (next ∷ more))
    → AreComing (Said (Cfilter filter block bytes) ∷ t) blocks ⊎ AreGivenBy (Cfilter filter block bytes) t blocks
next_came filter block bytes t next more came blocks on clean fresh e answer true_ones each = by more refl where
  m : Msg
  m = Cfilter filter block bytes

  job : Job
  job = filter_of block bytes

  all : List Job
  all = came ++ job ∷ []

  block_is : block.0 ≡ next
  block_is = same_true block.0 next (and_parts (filter == 0) (same block.0 next) answer).1

  mine : IsItsOwn t job
  mine = answer_own filter block bytes t next more came clean e answer

  all_own : (j : Job) → IsIn j all → IsItsOwn (Said m ∷ t) j
  all_own j i = elim (in_either j came (job ∷ []) i) [
    | inl before ↦ its_own m t fresh j (true_ones j before)
    | inr this ↦ elim this [ inl is ↦ its_own m t fresh j (subst (IsItsOwn t) (sym is) mine) | inr none ↦ absurd none ]
  ]

  among : (x : Hash) → IsIn x blocks → ((j : Job) × IsIn j all × (j.block.0 ≡ x)) ⊎ IsIn x more
  among x i = elim (each x i) [
    | inl w ↦ inl (w.0, in_left w.0 came (job ∷ []) w.1, w.2)
    | inr this ↦ elim this [ inl is ↦ inl (job, in_right job came (job ∷ []) (inl refl), block_is ∙ sym is) | inr later ↦ inr later ]
  ]

  now_open : (left : List Hash) → more ≡ left → request (Said m ∷ t) ≡ filters_left left all
  now_open left is = ap (λ r. request_after m r) e ∙ ap (λ (b : Bool). if b then filters_left more all else FiltersOpen (next ∷ more) came) answer ∙ ap (λ (l : List Hash). filters_left l all) is

  by : (left : List Hash) → more ≡ left → AreComing (Said m ∷ t) blocks ⊎ AreGivenBy m t blocks
  by [] is =
      let gives : given_by m (request t) ≡ all =
      ap (λ r. given_by m r) e ∙ ap (λ (l : List Hash). given_by m (FiltersOpen (next ∷ l) came)) is ∙ ap (λ (b : Bool). if b then all else []) answer in
      inr (λ x i. elim (among x i) [
        | inl w ↦ (w.0, subst (λ (js : List Job). IsIn w.0 js) (sym gives) w.1, w.2, all_own w.0 w.1)
        | inr later ↦ absurd (subst (λ (l : List Hash). IsIn x l) is later)
      ])
  by (y ∷ left) is = inl (record { left = more; came = all; is = now_open (y ∷ left) is ∙ ap (λ (l : List Hash). FiltersOpen l all) (sym is); true_ones = all_own; each = among })

-- one that isn't the next leaves all as it is
stays_coming : (m : Msg) (t : Trail) (blocks : List Hash) (w : AreComing t blocks) → AreFresh t → request_after m (FiltersOpen w.left w.came) ≡ FiltersOpen w.left w.came → AreComing (Said m ∷ t) blocks
stays_coming m t blocks w fresh same = record {
  left = w.left;
  came = w.came;
  is = ap (λ r. request_after m r) w.is ∙ same;
  true_ones = λ job i. its_own m t fresh job (w.true_ones job i);
  each = w.each;
}

pub coming_said : (m : Msg) (t : Trail) (blocks : List Hash) → is_connected t ≡ true → verdict (Said m ∷ t) ≡ None → AreFresh t → AreComing t blocks → AreComing (Said m ∷ t) blocks ⊎ AreGivenBy m t blocks
coming_said (Cfilter filter block bytes) t blocks on clean fresh w = by w.left refl where
  by : (left : List Hash) → w.left ≡ left → AreComing (Said (Cfilter filter block bytes) ∷ t) blocks ⊎ AreGivenBy (Cfilter filter block bytes) t blocks
  by [] is = inl (stays_coming (Cfilter filter block bytes) t blocks w fresh
      (ap (λ (l : List Hash). request_after (Cfilter filter block bytes) (FiltersOpen l w.came)) is ∙ ap (λ (l : List Hash). FiltersOpen l w.came) (sym is)))
  by (next ∷ more) is = elim (cases_Bool (is_answer_of filter block.0 next)) [
    | inl on1 ↦ next_came filter block bytes t next more w.came blocks on clean fresh (w.is ∙ ap (λ (l : List Hash). FiltersOpen l w.came) is) on1 w.true_ones
        (λ x i. elim (w.each x i) [ inl got ↦ inl got | inr later ↦ inr (subst (λ (l : List Hash). IsIn x l) is later) ])
    | inr off ↦ inl (stays_coming (Cfilter filter block bytes) t blocks w fresh
        (ap (λ (l : List Hash). request_after (Cfilter filter block bytes) (FiltersOpen l w.came)) is
        ∙ ap (λ (b : Bool). if b then filters_left more (w.came ++ filter_of block bytes ∷ []) else FiltersOpen (next ∷ more) w.came) off ∙ ap (λ (l : List Hash). FiltersOpen l w.came) (sym is)))
  ]
coming_said (Headers hs) t blocks on clean fresh w = inl (stays_coming (Headers hs) t blocks w fresh refl)
coming_said (Cfheaders filter at previous hashes) t blocks on clean fresh w = inl (stays_coming (Cfheaders filter at previous hashes) t blocks w fresh refl)
coming_said (BlockMessage b) t blocks on clean fresh w = inl (stays_coming (BlockMessage b) t blocks w fresh refl)
coming_said m t blocks on clean fresh w = inl (stays_coming m t blocks w fresh refl)

given_said : (m : Msg) (t : Trail) (blocks : List Hash) → is_connected t ≡ true → verdict (Said m ∷ t) ≡ None → AreFresh t → AreGiven t blocks → AreGiven (Said m ∷ t) blocks
given_said m t blocks on clean fresh all block i =
    let w = all block i in
    (w.0, subst (λ (js : List Job). IsIn w.0 js) (sym (said_gives m t on clean)) (in_right w.0 (given_by m (request t)) (given_filters (counted t)) w.1), w.2, its_own m t fresh w.0 w.3)

after_said : (m : Msg) (t : Trail) (start : ℕ) (stop : Hash) → is_connected t ≡ true → verdict (Said m ∷ t) ≡ None → AreFresh t → Since t start stop → Since (Said m ∷ t) start stop
after_said m t start stop on clean fresh w = (
  range_said m t start stop w.0,
  elim w.1 [
    | inl coming ↦ elim (coming_said m t (blocks_from start w.0.part) on clean fresh coming) [
      | inl more ↦ inl more
      | inr now ↦ inr (λ x i. (let g = now x i in (g.0, subst (λ (js : List Job). IsIn g.0 js) (sym (said_gives m t on clean)) (in_left g.0 (given_by m (request t)) (given_filters (counted t)) g.1), g.2, g.3)))
    ]
    | inr all ↦ inr (given_said m t (blocks_from start w.0.part) on clean fresh all)
  ],
)

-- all are to come
pub coming_first : (filter start : ℕ) (stop : Hash32) (t : Trail) (part : Chain) → back_to stop.0 (own t) ≡ Some part
    → AreComing (Asked (GetCfilters filter start stop) ∷ t) (blocks_from start part)
coming_first filter start stop t part tip = record {
  left = blocks_from start part;
  came = [];
  is = ap (λ o. filters_asked start o) tip;
  true_ones = λ job i. absurd i;
  each = λ block i. inr i;
}

-- a question and time leave it so
pub coming_asked : (m : Msg) (t : Trail) (blocks : List Hash) → MayAskIn Following t m → AreComing t blocks → AreComing (Asked m ∷ t) blocks
coming_asked m t blocks may c = record {
  left = c.left;
  came = c.came;
  is = stays_open Following m t (FiltersOpen c.left c.came) may (λ no. cc no) c.is;
  true_ones = c.true_ones;
  each = c.each;
}

pub coming_passed : (s : ℕ) (t : Trail) (blocks : List Hash) → AreComing t blocks → AreComing (Passed s ∷ t) blocks
coming_passed s t blocks c = record { left = c.left; came = c.came; is = c.is; true_ones = c.true_ones; each = c.each }

has_since : (t : Trail) → is_connected t ≡ true → verdict t ≡ None → AskedRightlyIn Following t → (filter start : ℕ) (stop : Hash32) → WasAsked t (GetCfilters filter start stop) → Since t start stop.0
has_since t on clean right filter start stop =
    since_asked Following (GetCfilters filter start stop) (λ u. Since u start stop.0)
    (λ u on clean may. (range_asked u filter start stop.0 1000 on clean may.1.0, inl (coming_first filter start stop u may.1.0.part may.1.0.tip)))
    (λ m u on clean right. after_said m u start stop.0 on clean (are_fresh u on (first_none (verdict u) (fault_of m u) clean).0 right))
    (λ m u may w. (w.0, elim w.1 [ inl c ↦ inl (coming_asked m u (blocks_from start w.0.part) may c) | inr all ↦ inr all ]))
    (λ s u w. (w.0, elim w.1 [ inl c ↦ inl (coming_passed s u (blocks_from start w.0.part) c) | inr all ↦ inr all ])) t on clean right

-- ---- so it isn't asked for them again

-- wanted by a log in which p's part is the same
filters_not_by : (planned log : Log) (p : ℕ) → RightlyIn Following log → AreBytes log → NoHashClash (IsHashed log []) → IsConnected log p → verdict (trail log p) ≡ None
    → part_of planned p ≡ part_of log p
    → (filter start : ℕ) (stop : Hash32) → MaySendIn Following log p (GetCfilters filter start stop) → AreFiltersWanted planned p start stop.0 → WasAsked (trail log p) (GetCfilters filter start stop) → ⊥
filters_not_by planned log p right bytes clash on clean one filter start stop may needed was =
    let t : Trail = trail log p in
    let w = has_since t on clean (asked_rightly_in Following log p right) filter start stop was in
    let range = may.of_its_part.1.0 in
    elim w.1 [
      | inl c ↦ absurd (let no : FiltersOpen c.left c.came ≡ NothingOpen = sym c.is ∙ may.of_its_part.0.idle in cc)
      | inr all ↦ (
          let x = block_again log p filter start stop.0 1000 bytes clash on clean w.0 range in
          let got = all x.0 x.1 in
          let among : IsIn x.0 (blocks_in start (back_to stop.0 (own t))) =
          subst (λ (o : Option Chain). IsIn x.0 (blocks_in start o)) (sym range.tip) x.2 in
          let wanted : IsFilterWanted planned p x.0 = needed x.0 (subst (λ (q : Part). IsIn x.0 (blocks_in start (back_to stop.0 (own q.trail)))) (sym one) among) in
          let claimed : hash_claimed (claims (counted t)) x.0 ≡ Some wanted.1.0 =
          subst (λ (q : Part). hash_claimed (claims (counted q.trail)) x.0 ≡ Some wanted.1.0) one wanted.1.1.1 in
          let mine : Some got.3.0.hash ≡ Some wanted.1.0 =
          sym (ap (λ (o : Option Claim). option_map (λ (c : Claim). c.hash) o) (sym (ap (claims t) got.2) ∙ got.3.1)) ∙ sym (ap (λ (c : Table). hash_claimed c x.0) (same_use t on clean).claiming) ∙ claimed in
          let hash : got.3.0.hash ≡ wanted.1.0 = cc in
          let gave : IsGiven planned got.0 =
          came_given planned p got.0 (subst (λ (q : Part). IsIn got.0 (given_filters (counted q.trail))) (sym one) got.1)
          (λ fetched. wanted.0 (subst (λ (b : Hash). IsFetchedHash planned b) got.2 fetched)) in
          wanted.1.1.2 (got.0, gave, got.2, sym got.3.2 ∙ ap (λ (h : Hash32). h.0) hash)
          )
    ]

pub filters_not_again : (log : Log) (p : ℕ) → RightlyIn Following log → AreBytes log → NoHashClash (IsHashed log []) → IsConnected log p → verdict (trail log p) ≡ None
    → (filter start : ℕ) (stop : Hash32) → MaySendIn Following log p (GetCfilters filter start stop) → AreFiltersWanted log p start stop.0 → WasAsked (trail log p) (GetCfilters filter start stop) → ⊥
filters_not_again log p right bytes clash on clean = filters_not_by log log p right bytes clash on clean refl

-- p, which is connected, has the same part in the log of a client that isn't told yet of some failed sends
pub same_part : (planned log : Log) (p : ℕ) → IsConnected log p → IsPlanned planned log → is_untold log p ≡ false → part_of planned p ≡ part_of log p
same_part planned log p on is told = by (is.told p told) where
  by : Alike (part_of planned p) (part_of log p) → part_of planned p ≡ part_of log p
  by (inl same) = same
  by (inr off) = absurd (false≢true (sym off.1 ∙ on))

-- nor where such a client wants them
pub filters_not_planned : (planned log : Log) (p : ℕ) → RightlyIn Following log → AreBytes log → NoHashClash (IsHashed log []) → IsConnected log p → verdict (trail log p) ≡ None
    → IsPlanned planned log → is_untold log p ≡ false
    → (filter start : ℕ) (stop : Hash32) → MaySendIn Following log p (GetCfilters filter start stop) → AreFiltersWanted planned p start stop.0 → WasAsked (trail log p) (GetCfilters filter start stop) → ⊥
filters_not_planned planned log p right bytes clash on clean is told =
    filters_not_by planned log p right bytes clash on clean (same_part planned log p on is told)
