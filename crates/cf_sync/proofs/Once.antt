-- What stands in an open request stands in none of another connected peer.
use Rattle.std.proofs.Common.{◌≡◌, ◌⊎◌, inl, inr, ℕ, List, [], ◌∷◌, ◌++◌, map, Option, Some, None, Ok, Err, Bool, true, false, ◌==◌, ◌&&◌, if◌then◌else◌, refl, sym, ◌∙◌, ap, subst}
use Rattle.std.proofs.lemmas.Bool.{cases_Bool, and_parts, false≢true, eqb-true}
use Rattle.cf_bytes.specs.declared.hash.Hash32.{Hash32}
use Rattle.cf_bytes.specs.declared.peer.PeerNo.{PeerNo}
use Rattle.cf_frame.specs.declared.frame.Frame.{Frame}
use Rattle.cf_frame.specs.declared.frame.FrameFault.{FrameFault}
use Rattle.cf_frame.specs.Stream.{StreamRead, read_stream}
use Rattle.cf_headers.specs.Chain.{Hash, Chain, IsIn, back_to}
use Rattle.cf_match.specs.declared.job.Job.{Job}
use Rattle.cf_msg.specs.declared.msg.Inventory.{Inventory}
use Rattle.cf_msg.specs.declared.msg.Msg.{Msg}
use Rattle.cf_msg.specs.declared.msg.Msg.TheVariants.{GetHeaders, Headers, GetData, Block as BlockMessage, GetCfheaders, Cfheaders, GetCfilters, Cfilter, Ping, Pong}
use Rattle.cf_msg.specs.Reading.{message_of}
use Rattle.cf_wires.specs.declared.event.Delivery.TheVariants.{Got, Gone, Tick, Ended}
use Rattle.cf_wires.specs.declared.event.Event.{Event}
use Rattle.cf_wires.specs.declared.event.Event.TheVariants.{Dialled, NotDialled, Sent, SendFailed, Closed, Took}
use Rattle.cf_wires.specs.declared.event.Mark.TheVariants as mark
use Rattle.cf_wires.specs.Log.{Log}
use Rattle.cf_peer.specs.declared.mode.Mode.TheVariants.{Following}
use Rattle.cf_peer.specs.Trail.{Trail, Part, Said, Asked, Lost, called_part, with_item, item_of, item_of_read, hears, hears_fault, part_after, heard_part, spelled, asks, part_of, trail, is_connected, own}
use Rattle.cf_peer.specs.Asking.{OpenRequest, NothingOpen, HeadersOpen, ClaimsOpen, FiltersOpen, BlockOpen, PingOpen, request, request_for, request_after, filter_of, claims_asked, filters_asked, is_wanted, is_committed, is_answer_of, block_entry, fault_of, verdict, counts, counted, fetched_blocks, fetched_by}
use Rattle.cf_sync.specs.Fetching.{RightlyIn, IsConnected, IsFetched, IsFetchedHash, IsWanted, IsFilterOpen, IsBlockOpen, MaySendIn, filters_open, blocks_open, blocks_in}
use Rattle.cf_sync.proofs.Entries.{at_either}
use Rattle.cf_sync.proofs.Modes.{rightly_before_in}
use Rattle.std.specs.Prelude.{is_none}
use Rattle.cf_block.specs.declared.tx.Block.{Block}
use Rattle.cf_block.specs.Header.{block_hash_of}
use Rattle.cf_peer.specs.declared.peer.Cause.{Cause}
use Rattle.cf_dispute.proofs.PutIn.{same_true}
use Rattle.cf_sync.proofs.Counted.{first_none, same_use}
use Rattle.cf_sync.proofs.Grows.{fetched_before, fetched_stays}
use Rattle.cf_sync.proofs.Listed.{in_either}

-- ---- a message takes away at most

either : (P : OpenRequest → Type 0) (b : Bool) (x y : OpenRequest) → (b ≡ true → P x) → (b ≡ false → P y) → P (if b then x else y)
either P true x y is off = is refl
either P false x y is off = off refl

-- in the one request stand no other filters and no other blocks than in the other
record IsWithin (r other : OpenRequest) : Type 0 where
  filters : (block : Hash) → IsIn block (filters_open r) → IsIn block (filters_open other)
  blocks : (block : Hash) → IsIn block (blocks_open r) → IsIn block (blocks_open other)

within_itself : (r : OpenRequest) → IsWithin r r
within_itself r = record { filters = λ block i. i; blocks = λ block i. i }

-- one that ends
nothing_within : (b : Bool) (r : OpenRequest) → IsWithin (if b then NothingOpen else r) r
nothing_within true r = record { filters = λ block i. absurd i; blocks = λ block i. absurd i }
nothing_within false r = within_itself r

-- the filter that came moves over
pub moved : (came : List Job) (j : Job) (next : Hash) (left : List Hash) (block : Hash) → j.block.0 ≡ next → IsIn block (map (λ (j : Job). j.block.0) (came ++ j ∷ []) ++ left) → IsIn block (map (λ (j : Job). j.block.0) came ++ next ∷ left)
moved [] j next left block e (inl f) = inl (f ∙ e)
moved [] j next left block e (inr i) = inr i
moved (c ∷ came) j next left block e (inl f) = inl f
moved (c ∷ came) j next left block e (inr i) = inr (moved came j next left block e i)

pub moved_back : (came : List Job) (j : Job) (next : Hash) (left : List Hash) (block : Hash) → j.block.0 ≡ next → IsIn block (map (λ (j : Job). j.block.0) came ++ next ∷ left) → IsIn block (map (λ (j : Job). j.block.0) (came ++ j ∷ []) ++ left)
moved_back [] j next left block e (inl f) = inl (f ∙ sym e)
moved_back [] j next left block e (inr i) = inr i
moved_back (c ∷ came) j next left block e (inl f) = inl f
moved_back (c ∷ came) j next left block e (inr i) = inr (moved_back came j next left block e i)

pub answered : (filter : ℕ) (a b : Hash) → is_answer_of filter a b ≡ true → a ≡ b
answered filter a b e = same_true a b (and_parts (filter == 0) _ e).1

said_within : (m : Msg) (r : OpenRequest) → IsWithin (request_after m r) r
said_within (Headers hs) HeadersOpen = nothing_within true HeadersOpen
said_within (Headers hs) r = within_itself r
said_within (Cfheaders filter stop previous hashes) (ClaimsOpen wanted parent bs) =
    nothing_within (is_answer_of filter stop.0 wanted) (ClaimsOpen wanted parent bs)
said_within (Cfheaders filter stop previous hashes) r = within_itself r
said_within (Cfilter filter b bytes) (FiltersOpen [] came) = within_itself (FiltersOpen [] came)
said_within (Cfilter filter b bytes) (FiltersOpen (next ∷ []) came) =
    nothing_within (is_answer_of filter b.0 next) (FiltersOpen (next ∷ []) came)
said_within (Cfilter filter b bytes) (FiltersOpen (next ∷ x ∷ left) came) =
    either (λ r. IsWithin r (FiltersOpen (next ∷ x ∷ left) came)) (is_answer_of filter b.0 next)
    (FiltersOpen (x ∷ left) (came ++ filter_of b bytes ∷ [])) (FiltersOpen (next ∷ x ∷ left) came)
    (λ is1. record {
      filters = λ block j. moved came (filter_of b bytes) next (x ∷ left) block (answered filter b.0 next is1) j;
      blocks = λ block j. j;
    })
    (λ off. within_itself (FiltersOpen (next ∷ x ∷ left) came))
said_within (Cfilter filter b bytes) r = within_itself r
said_within (BlockMessage b) (BlockOpen wanted) = nothing_within (is_wanted b wanted) (BlockOpen wanted)
said_within (BlockMessage b) r = within_itself r
said_within (Pong number) (PingOpen wanted) = nothing_within (number == wanted) (PingOpen wanted)
said_within (Pong number) r = within_itself r
said_within m r = within_itself r

pub blocks_said : (m : Msg) (r : OpenRequest) (block : Hash) → IsIn block (blocks_open (request_after m r)) → IsIn block (blocks_open r)
blocks_said m r = (said_within m r).blocks

pub filters_said : (m : Msg) (r : OpenRequest) (block : Hash) → IsIn block (filters_open (request_after m r)) → IsIn block (filters_open r)
filters_said m r = (said_within m r).filters

-- ---- what is asked is open to nobody

-- a block is open to nobody, and wasn't fetched
abbrev IsNewBlock : Log → Hash → Type 0
IsNewBlock log block = (IsBlockOpen log block → ⊥) × (IsFetchedHash log block → ⊥)

-- a filter is, where the block wasn't fetched
abbrev IsUnfetched : Log → Hash → Type 0
IsUnfetched log block = IsFetchedHash log block → ⊥

abbrev IsNewFilter : Log → Hash → Type 0
IsNewFilter log block = IsUnfetched log block → IsFilterOpen log block → ⊥

-- neither filters nor blocks stand in a request for claims, nor blocks in one for filters
bare_claims : (start : ℕ) (stop : Hash) (o : Option Chain)
    → (filters_open (claims_asked start stop o) ≡ []) × (blocks_open (claims_asked start stop o) ≡ [])
bare_claims start stop None = (refl, refl)
bare_claims start stop (Some part) = (refl, refl)

no_blocks_in : (start : ℕ) (o : Option Chain) → blocks_open (filters_asked start o) ≡ []
no_blocks_in start None = refl
no_blocks_in start (Some part) = refl

blocks_asked : (log : Log) (p : ℕ) (m : Msg) (block : Hash) → MaySendIn Following log p m → IsIn block (blocks_open (request_for m (own (trail log p)) (request (trail log p))))
    → IsIn block (blocks_open (request (trail log p))) ⊎ IsNewBlock log block
blocks_asked log p (GetHeaders version locator stop) block may i = absurd i
blocks_asked log p (GetCfheaders filter start stop) block may i =
    absurd (subst (λ (bs : List Hash). IsIn block bs) (bare_claims start stop.0 (back_to stop.0 (own (trail log p)))).1 i)
blocks_asked log p (GetCfilters filter start stop) block may i =
    absurd (subst (λ (bs : List Hash). IsIn block bs) (no_blocks_in start (back_to stop.0 (own (trail log p)))) i)
blocks_asked log p (GetData entries) block may i =
    let at : Hash32 = may.of_its_part.1.0 in
    let is : entries ≡ block_entry at ∷ [] = may.of_its_part.1.1 in
    let j = subst (λ (es : List Inventory). IsIn block (blocks_open (request_for (GetData es) (own (trail log p)) (request (trail log p))))) is i in
    elim j [
      | inl e ↦ (
          let first : IsIn (block_entry at) entries = subst (λ (es : List Inventory). IsIn (block_entry at) es) (sym is) (inl refl) in
          inr (λ stands. may.alone (block_entry at) first (subst (IsBlockOpen log) e stands), λ got. fresh entries at first may.wanted (subst (IsFetchedHash log) e got))
          )
      | inr none ↦ absurd none
    ] where
      fresh : (entries : List Inventory) (at : Hash32) → IsIn (block_entry at) entries → IsWanted log (GetData entries) → IsFetchedHash log at.0 → ⊥
      fresh entries at first wanted got = wanted (block_entry at) first got
blocks_asked log p (Ping number) block may i = absurd i
blocks_asked log p m block may i = inl i

filters_asked_new : (log : Log) (p : ℕ) (m : Msg) (block : Hash) → MaySendIn Following log p m → IsIn block (filters_open (request_for m (own (trail log p)) (request (trail log p))))
    → IsIn block (filters_open (request (trail log p))) ⊎ IsNewFilter log block
filters_asked_new log p (GetHeaders version locator stop) block may i = absurd i
filters_asked_new log p (GetCfheaders filter start stop) block may i =
    absurd (subst (λ (bs : List Hash). IsIn block bs) (bare_claims start stop.0 (back_to stop.0 (own (trail log p)))).0 i)
filters_asked_new log p (GetCfilters filter start stop) block may i = by (back_to stop.0 (own (trail log p))) (λ b. may.alone b) i where
  by : (o : Option Chain) → ((b : Hash) → IsIn b (blocks_in start o) → IsNewFilter log b) → IsIn block (filters_open (filters_asked start o)) → IsIn block (filters_open (request (trail log p))) ⊎ IsNewFilter log block
  by None alone i = absurd i
  by (Some part) alone i = inr (alone block i)
filters_asked_new log p (GetData entries) block may i =
    let at : Hash32 = may.of_its_part.1.0 in
    let is : entries ≡ block_entry at ∷ [] = may.of_its_part.1.1 in
    let j = subst (λ (es : List Inventory). IsIn block (filters_open (request_for (GetData es) (own (trail log p)) (request (trail log p))))) is i in
    absurd j
filters_asked_new log p (Ping number) block may i = absurd i
filters_asked_new log p m block may i = inl i

-- ---- along a log

pub still_connected : (fs : List Frame) (t : Trail) → is_connected (hears fs t) ≡ true → is_connected t ≡ true
still_connected [] t on = on
still_connected (f ∷ fs) t on = by (message_of f) (still_connected fs (item_of f ∷ t) on) where
  by : (r : _) → is_connected (item_of_read r ∷ t) ≡ true → is_connected t ≡ true
  by (Ok m) on = on
  by (Err e) on = on

-- a peer's part, in which a block stands in what is open
abbrev pub StandsIn : (OpenRequest → List Hash) → Trail → Hash → Type 0
StandsIn what t block = (is_connected t ≡ true) × IsIn block (what (request t))

-- a message was sent, which asks for something that was open to nobody
record JustAsked (Free : Log → Hash → Type 0) (e : Event) (log : Log) (p : ℕ) (block : Hash) : Type 0 where
  who : PeerNo
  bytes : List ℕ
  is : e ≡ Sent who bytes
  here : who.0 ≡ p
  free : Free log block

module _ (what : OpenRequest → List Hash) (none : (block : Hash) → IsIn block (what NothingOpen) → ⊥) (said : (m : Msg) (r : OpenRequest) (block : Hash) → IsIn block (what (request_after m r)) → IsIn block (what r))
    (Free : Log → Hash → Type 0)
    (new : (log : Log) (p : ℕ) (m : Msg) (block : Hash) → MaySendIn Following log p m → IsIn block (what (request_for m (own (trail log p)) (request (trail log p)))) → IsIn block (what (request (trail log p))) ⊎ Free log block) where
  in_heard : (fs : List Frame) (t : Trail) (block : Hash) → IsIn block (what (request (hears fs t))) → IsIn block (what (request t))
  in_heard [] t block i = i
  in_heard (f ∷ fs) t block i = by (message_of f) (in_heard fs (item_of f ∷ t) block i) where
    by : (r : _) → IsIn block (what (request (item_of_read r ∷ t))) → IsIn block (what (request t))
    by (Ok m) i = said m (request t) block i
    by (Err e) i = i

  in_read : (r : StreamRead) (t : Trail) (block : Hash) → StandsIn what (part_after r t).trail block → StandsIn what t block
  in_read r t block s = by r.fault s where
    by : (o : Option FrameFault) → StandsIn what (hears_fault o (hears r.frames t)) block → StandsIn what t block
    by None s = (still_connected r.frames t s.0, in_heard r.frames t block s.1)
    by (Some fault) s = (still_connected r.frames t s.0, in_heard r.frames t block s.1)

  abbrev Before : Event → Log → ℕ → Hash → Part → Type 0
  Before e log p block part = StandsIn what part.trail block → StandsIn what (trail log p) block ⊎ JustAsked Free e log p block

  stood : (e : Event) (log : Log) (p : ℕ) (block : Hash) → RightlyIn Following (e ∷ log) → StandsIn what (trail (e ∷ log) p) block → StandsIn what (trail log p) block ⊎ JustAsked Free e log p block
  stood (Dialled q name) log p block right st =
      at_either (Before (Dialled q name) log p block) (q.0 == p) (called_part (part_of log p)) (part_of log p) (λ is s. absurd (none block s.1)) (λ off s. inl s) st
  stood (NotDialled q name) log p block right st =
      at_either (Before (NotDialled q name) log p block) (q.0 == p) (with_item (Lost mark.NotDialled) (part_of log p)) (part_of log p) (λ is s. absurd (false≢true s.0)) (λ off s. inl s) st
  stood (SendFailed q) log p block right st =
      at_either (Before (SendFailed q) log p block) (q.0 == p) (with_item (Lost mark.SendFailed) (part_of log p)) (part_of log p) (λ is s. absurd (false≢true s.0)) (λ off s. inl s) st
  stood (Closed q) log p block right st =
      at_either (Before (Closed q) log p block) (q.0 == p) (with_item (Lost mark.Closed) (part_of log p)) (part_of log p) (λ is s. absurd (false≢true s.0)) (λ off s. inl s) st
  stood (Took (Got q piece)) log p block right st =
      at_either (Before (Took (Got q piece)) log p block) (q.0 == p) (heard_part piece (part_of log p)) (part_of log p)
      (λ is s. inl (in_read (read_stream ((part_of log p).waits ++ piece)) (trail log p) block s)) (λ off s. inl s) st
  stood (Took (Gone q)) log p block right st =
      at_either (Before (Took (Gone q)) log p block) (q.0 == p) (with_item (Lost mark.Gone) (part_of log p)) (part_of log p) (λ is s. absurd (false≢true s.0)) (λ off s. inl s) st
  stood (Took (Tick n)) log p block right st = inl st
  stood (Took Ended) log p block right st = inl st
  stood (Sent q bytes) log p block right st =
      at_either (Before (Sent q bytes) log p block) (q.0 == p) (record (part_of log p) { trail = asks (spelled bytes) (trail log p) }) (part_of log p)
      (λ is s.
      let e : q.0 ≡ p = eqb-true q.0 p is in
      let t : StandsIn what (Asked right.0.0 ∷ trail log p) block = subst (λ (o : Option Msg). StandsIn what (asks o (trail log p)) block) right.0.1 s in
      elim (new log p right.0.0 block (subst (λ (k : ℕ). MaySendIn Following log k right.0.0) e right.0.2) t.1) [
        | inl i ↦ inl (t.0, i)
        | inr free ↦ inr (record { who = q; bytes = bytes; is = refl; here = e; free = free })
      ])
      (λ off s. inl s) st

  -- two requests that are open hold no block of which this is so now, and was so before
  one_of : (Live : Log → Hash → Type 0) → ((e : Event) (log : Log) (block : Hash) → Live (e ∷ log) block → Live log block)
      → ((log : Log) (block : Hash) → Live log block → Free log block → (q : ℕ) → StandsIn what (trail log q) block → ⊥)
      → (log : Log) → RightlyIn Following log → (p q : ℕ) (block : Hash) → Live log block → StandsIn what (trail log p) block → StandsIn what (trail log q) block → p ≡ q
  one_of Live before apart [] right p q block live s t = absurd (false≢true s.0)
  one_of Live before apart (e ∷ log) right p q block live s t =
      let lived : Live log block = before e log block live in
      elim (stood e log p block right s) [
        | inl a ↦ elim (stood e log q block right t) [
          | inl b ↦ one_of Live before apart log (rightly_before_in Following e log right) p q block lived a b
          | inr b ↦ absurd (apart log block lived b.free p a)
        ]
        | inr a ↦ elim (stood e log q block right t) [
          | inl b ↦ absurd (apart log block lived a.free q b)
          | inr b ↦ (let both : Sent a.who a.bytes ≡ Sent b.who b.bytes = sym a.is ∙ b.is in let same : a.who ≡ b.who = cc in sym a.here ∙ ap (λ (k : PeerNo). k.0) same ∙ b.here)
        ]
      ]

abbrev IsAny : Log → Hash → Type 0
IsAny log block = Unit {0}

one_block_at : (log : Log) → RightlyIn Following log → (p q : ℕ) (block : Hash) → StandsIn blocks_open (trail log p) block → StandsIn blocks_open (trail log q) block → p ≡ q
one_block_at log right p q block s t =
    one_of blocks_open (λ b i. i) blocks_said IsNewBlock blocks_asked IsAny (λ e l b any. tt) (λ l b any free n st. free.0 (n, st)) log right p q block tt s t

pub one_block : (log : Log) → RightlyIn Following log → (p q : ℕ) (block : Hash) → IsConnected log p → IsConnected log q → IsIn block (blocks_open (request (trail log p))) → IsIn block (blocks_open (request (trail log q))) → p ≡ q
one_block log right p q block on there i j = one_block_at log right p q block (on, i) (there, j)

unfetched_before : (e : Event) (log : Log) (block : Hash) → IsUnfetched (e ∷ log) block → IsUnfetched log block
unfetched_before e log block none got = none (got.0, fetched_stays e log got.0 got.1, got.2)

pub one_filter : (log : Log) → RightlyIn Following log → (p q : ℕ) (block : Hash) → (IsFetchedHash log block → ⊥) → IsConnected log p → IsConnected log q
    → IsIn block (filters_open (request (trail log p))) → IsIn block (filters_open (request (trail log q))) → p ≡ q
one_filter log right p q block none on there i j =
    one_of filters_open (λ b i. i) filters_said IsNewFilter filters_asked_new IsUnfetched unfetched_before (λ l b live free n s. free live (n, s)) log right p q block none (on, i) (there, j)

-- ---- what is open wasn't fetched

pub in_if : (t : Bool) (b c : Block) → IsIn b (if t then c ∷ [] else []) → b ≡ c
in_if true b c (inl e) = e
in_if true b c (inr none) = absurd none
in_if false b c none = absurd none

-- a message brings the block that is open, and then none is
by_message : (m : Msg) (r : OpenRequest) (b : Block) → IsIn b (fetched_by m r) → IsIn (block_hash_of b.header) (blocks_open r) × ((x : Hash) → IsIn x (blocks_open (request_after m r)) → ⊥)
by_message (BlockMessage c) NothingOpen b i = absurd i
by_message (BlockMessage c) HeadersOpen b i = absurd i
by_message (BlockMessage c) (ClaimsOpen stop parent bs) b i = absurd i
by_message (BlockMessage c) (FiltersOpen left came) b i = absurd i
by_message (BlockMessage c) (BlockOpen wanted) b i = elim (cases_Bool (is_wanted c wanted)) [
  | inl is1 ↦ (
    inl (ap (λ (x : Block). block_hash_of x.header) (in_if (is_wanted c wanted && is_committed c) b c i) ∙ same_true (block_hash_of c.header) wanted is1),
    λ x j. subst (λ (t : Bool). IsIn x (blocks_open (if t then NothingOpen else BlockOpen wanted))) is1 j,
  )
  | inr off ↦ absurd (subst (λ (t : Bool). IsIn b (if t && is_committed c then c ∷ [] else [])) off i)
]
by_message m r b i = absurd i

none_when : (o : Option Cause) → is_none o ≡ true → o ≡ None
none_when None e = refl
none_when (Some c) e = absurd (false≢true e)

abbrev pub Brings : Trail → Trail → Block → Type 0
Brings t u b = IsIn b (fetched_blocks (counted t)) ⊎ (StandsIn blocks_open t (block_hash_of b.header) × ((x : Hash) → IsIn x (blocks_open (request u)) → ⊥))

pub said_brings : (m : Msg) (t : Trail) (b : Block) → IsIn b (fetched_blocks (counted (Said m ∷ t))) → Brings t (Said m ∷ t) b
said_brings m t b i = elim (cases_Bool (counts m t)) [
  | inl is1 ↦ elim (in_either b (fetched_by m (request (counted t))) (fetched_blocks (counted t)) (subst (λ (x : Bool). IsIn b (fetched_blocks (if x then Said m ∷ counted t else counted t))) is1 i)) [
    | inl new ↦ (
        let on = and_parts (is_connected t) (is_none (verdict (Said m ∷ t))) is1 in
        let clean : verdict (Said m ∷ t) ≡ None = none_when (verdict (Said m ∷ t)) on.1 in
        let same_part = same_use t on.0 (first_none (verdict t) (fault_of m t) clean).0 in
        let w = by_message m (request t) b (subst (λ (r : OpenRequest). IsIn b (fetched_by m r)) same_part.open_one new) in
        inr ((on.0, w.0), w.1)
        )
    | inr old ↦ inl old
  ]
  | inr off ↦ inl (subst (λ (x : Bool). IsIn b (fetched_blocks (if x then Said m ∷ counted t else counted t))) off i)
]

in_frames : (fs : List Frame) (t : Trail) (block : Hash) → IsIn block (blocks_open (request (hears fs t))) → IsIn block (blocks_open (request t))
in_frames = in_heard blocks_open (λ b i. i) blocks_said IsNewBlock blocks_asked

pub frames_bring : (fs : List Frame) (t : Trail) (b : Block) → IsIn b (fetched_blocks (counted (hears fs t))) → Brings t (hears fs t) b
frames_bring [] t b i = inl i
frames_bring (f ∷ fs) t b i = elim (frames_bring fs (item_of f ∷ t) b i) [
  | inl old ↦ elim (item (message_of f) old) [ inl o ↦ inl o | inr w ↦ inr (w.0, λ x j. w.1 x (in_frames fs (item_of f ∷ t) x j)) ]
  | inr w ↦ inr (back (message_of f) w.0, w.1)
] where
  item : (r : _) → IsIn b (fetched_blocks (counted (item_of_read r ∷ t))) → Brings t (item_of_read r ∷ t) b
  item (Ok m) j = said_brings m t b j
  item (Err e) j = inl j

  back : (r : _) → StandsIn blocks_open (item_of_read r ∷ t) (block_hash_of b.header) → StandsIn blocks_open t (block_hash_of b.header)
  back (Ok m) s = (s.0, blocks_said m (request t) (block_hash_of b.header) s.1)
  back (Err e) s = s

read_brings : (r : StreamRead) (t : Trail) (b : Block) → IsIn b (fetched_blocks (counted (part_after r t).trail)) → Brings t (part_after r t).trail b
read_brings r t b i = by r.fault i where
  by : (o : Option FrameFault) → IsIn b (fetched_blocks (counted (hears_fault o (hears r.frames t)))) → Brings t (hears_fault o (hears r.frames t)) b
  by None i = frames_bring r.frames t b i
  by (Some fault) i = frames_bring r.frames t b i

-- what was fetched now stood open to a peer, to which no block is open any more
abbrev pub IsNewOf : Event → Log → Block → Type 0
IsNewOf e log b = (k : ℕ) × (StandsIn blocks_open (trail log k) (block_hash_of b.header) × ((x : Hash) → IsIn x (blocks_open (request (trail (e ∷ log) k))) → ⊥))

pub newly : (e : Event) (log : Log) (b : Block) → IsFetched (e ∷ log) b → IsFetched log b ⊎ IsNewOf e log b
newly (Took (Got q piece)) log b got = elim (by (q.0 == got.0) got.1) [ inl i ↦ inl (got.0, i) | inr w ↦ inr (got.0, w) ] where
  by : (x : Bool) → IsIn b (fetched_blocks (counted (if x then heard_part piece (part_of log got.0) else part_of log got.0).trail))
      → IsIn b (fetched_blocks (counted (trail log got.0)))
      ⊎ (StandsIn blocks_open (trail log got.0) (block_hash_of b.header)
      × ((y : Hash) → IsIn y (blocks_open (request (if x then heard_part piece (part_of log got.0) else part_of log got.0).trail)) → ⊥))
  by true i = read_brings (read_stream ((part_of log got.0).waits ++ piece)) (trail log got.0) b i
  by false i = inl i
newly e log b got = elim (fetched_before e log b got) [ inl old ↦ inl old | inr none ↦ absurd none ]

pub open_unfetched : (log : Log) → RightlyIn Following log → (p : ℕ) (block : Hash) → StandsIn blocks_open (trail log p) block → IsFetchedHash log block → ⊥
open_unfetched [] right p block s got = absurd (false≢true s.0)
open_unfetched (e ∷ log) right p block s got =
    let st = stood blocks_open (λ b i. i) blocks_said IsNewBlock blocks_asked e log p block right s in
    elim (newly e log got.0 got.1) [
      | inl old ↦ elim st [
        | inl was ↦ open_unfetched log (rightly_before_in Following e log right) p block was (got.0, old, got.2)
        | inr just ↦ just.free.1 (got.0, old, got.2)
      ]
      | inr new ↦ (
          let there : StandsIn blocks_open (trail log new.0) block = subst (StandsIn blocks_open (trail log new.0)) got.2 new.1.0 in
          elim st [
            | inl was ↦ (
                let same_peer : p ≡ new.0 = one_block_at log (rightly_before_in Following e log right) p new.0 block was there in
                new.1.1 block (subst (λ (k : ℕ). IsIn block (blocks_open (request (trail (e ∷ log) k)))) same_peer s.1)
                )
            | inr just ↦ just.free.0 (new.0, there)
          ]
          )
    ]
