-- What is open to a peer, message by message.
use Rattle.std.proofs.Common.{◌≡◌, ◌≢◌, ◌⊎◌, inl, inr, ℕ, List, [], ◌∷◌, ◌++◌, Bool, true, false, if◌then◌else◌, refl, sym, ◌∙◌, ap, subst}
use Rattle.std.specs.Prelude.{◌&&◌, ◌||◌}
use Rattle.std.proofs.lemmas.Bool.{and_parts, both_ways, cases_Bool, false_from_ne_true, false≢true}
use Rattle.cf_bytes.specs.declared.hash.Hash32.{Hash32}
use Rattle.cf_block.specs.declared.header.Header.{Header}
use Rattle.cf_block.specs.declared.tx.Block.{Block}
use Rattle.cf_block.specs.Header.{block_hash_of}
use Rattle.cf_dispute.proofs.PutIn.{same_true, same_from}
use Rattle.cf_headers.specs.Chain.{Hash, IsIn}
use Rattle.cf_headers.specs.Rules.{same}
use Rattle.cf_match.specs.declared.job.Job.{Job}
use Rattle.cf_msg.specs.declared.msg.Inventory.{Inventory}
use Rattle.cf_msg.specs.declared.msg.Msg.{Msg}
use Rattle.cf_msg.specs.declared.msg.Msg.TheVariants.{Pong, Headers, Inv, Block as BlockMessage, Cfheaders, Cfilter}
use Rattle.cf_peer.specs.declared.peer.Peer.{Peer}
use Rattle.cf_peer.specs.declared.peer.Request.TheVariants.{Handshake}
use Rattle.cf_wires.specs.Log.{Log}
use Rattle.cf_peer.specs.Trail.{Trail, Said, Asked, is_connected, ready, trail}
use Rattle.cf_peer.specs.Asking.{OpenRequest, NothingOpen, HeadersOpen, ClaimsOpen, FiltersOpen, BlockOpen, PingOpen, age, filter_of, given_by, is_answer_of, is_wanted, request, request_after}
use Rattle.cf_peer.specs.Peer.{Holds, aged, awaits, is_block_of, is_idle_peer, is_nothing, is_plain}
use Rattle.cf_peer.proofs.Peers.{awaits_is, idle_request}
use Rattle.cf_seek.specs.Opens.{Opens, IsBlockFree, IsFilterFree}
use Rattle.cf_seek.specs.Opening.{Closes, IsSameElse, IsSameOpens}
use Rattle.cf_sync.specs.Fetching.{blocks_open, filters_open}
use Rattle.cf_holds.specs.Known.{HoldsOpens, OpensAt}
use Rattle.cf_holds.proofs.KeptOpens.{opens_closed, opens_same}
use Rattle.cf_sync.proofs.Once.{answered, blocks_said, filters_said, moved_back}

-- ---- what is kept of it

pub opens_self : (opens : Opens) → IsSameOpens opens opens
opens_self opens = record { filters = λ q block. refl; blocks = λ q block. refl }

pub else_self : (opens : Opens) (p : ℕ) → IsSameElse opens opens p
else_self opens p = record { filters = λ q ne block. refl; blocks = λ q ne block. refl }

pub else_of : (before after : Opens) (p : ℕ) → IsSameOpens before after → IsSameElse before after p
else_of before after p same = record { filters = λ q ne block. same.filters q block; blocks = λ q ne block. same.blocks q block }

pub else_then : (a b c : Opens) (p : ℕ) → IsSameElse a b p → IsSameElse b c p → IsSameElse a c p
else_then a b c p one two = record {
  filters = λ q ne block. two.filters q ne block ∙ one.filters q ne block;
  blocks = λ q ne block. two.blocks q ne block ∙ one.blocks q ne block;
}

-- the same is open to p
pub opens_on : (before after : Opens) (p : ℕ) (t : Trail) → IsSameOpens before after → OpensAt before p t → OpensAt after p t
opens_on before after p t same at = record {
  filters = λ block is. at.filters block (sym (same.filters p block) ∙ is);
  all_filters = λ block on i. same.filters p block ∙ at.all_filters block on i;
  blocks = λ block is. at.blocks block (sym (same.blocks p block) ∙ is);
  all_blocks = λ block on i. same.blocks p block ∙ at.all_blocks block on i;
}

-- others' go on as before, and p's is closed
pub closes_then : (a b c : Opens) (p : ℕ) → IsSameElse a b p → Closes b c p → Closes a c p
closes_then a b c p one two = record { filters = two.filters; blocks = two.blocks; others = else_then a b c p one two.others }

pub closed_on : (before after : Opens) (p : ℕ) → IsSameOpens before after → Closes before before p → Closes before after p
closed_on before after p same closed = record {
  filters = λ block. same.filters p block ∙ closed.filters block;
  blocks = λ block. same.blocks p block ∙ closed.blocks block;
  others = else_of before after p same;
}

-- nothing is open to who isn't connected
pub closes_off : (opens : Opens) (p : ℕ) (t : Trail) → OpensAt opens p t → is_connected t ≡ false → Closes opens opens p
closes_off opens p t at off = record {
  filters = λ block. false_from_ne_true (opens.filters p block) (λ is. both_ways (is_connected t) off (at.filters block is).0);
  blocks = λ block. false_from_ne_true (opens.blocks p block) (λ is. both_ways (is_connected t) off (at.blocks block is).0);
  others = else_self opens p;
}

-- what is open to p is told by its part alone
one_way : (a b : Bool) → (a ≡ true → b ≡ true) → (b ≡ true → a ≡ true) → a ≡ b
one_way true b forth back = sym (forth refl)
one_way false true forth back = back refl
one_way false false forth back = refl

filters_at : (a b : Opens) (p : ℕ) (t : Trail) → OpensAt a p t → OpensAt b p t → (block : Hash) → a.filters p block ≡ b.filters p block
filters_at a b p t x y block = one_way (a.filters p block) (b.filters p block)
    (λ is. let w = x.filters block is in y.all_filters block w.0 w.1) (λ is. let w = y.filters block is in x.all_filters block w.0 w.1)

blocks_at : (a b : Opens) (p : ℕ) (t : Trail) → OpensAt a p t → OpensAt b p t → (block : Hash) → a.blocks p block ≡ b.blocks p block
blocks_at a b p t x y block = one_way (a.blocks p block) (b.blocks p block)
    (λ is. let w = x.blocks block is in y.all_blocks block w.0 w.1) (λ is. let w = y.blocks block is in x.all_blocks block w.0 w.1)

-- ---- what is open by a log

-- a hash is one of these
abbrev among : Hash → List Hash → Bool
among block [] = false
among block (x ∷ xs) = same block x || among block xs

is_among : (block : Hash) (xs : List Hash) → IsIn block xs → among block xs ≡ true
is_among block [] i = absurd i
is_among block (x ∷ xs) (inl e) = ap (λ (b : Bool). b || among block xs) (same_from block x e)
is_among block (x ∷ xs) (inr i) = or_right (same block x) (among block xs) (is_among block xs i) where
  or_right : (a b : Bool) → b ≡ true → (a || b) ≡ true
  or_right true b e = refl
  or_right false b e = e

in_among : (block : Hash) (xs : List Hash) → among block xs ≡ true → IsIn block xs
in_among block [] e = absurd (false≢true e)
in_among block (x ∷ xs) e = elim (cases_Bool (same block x)) [
  | inl is ↦ inl (same_true block x is)
  | inr off ↦ inr (in_among block xs (sym (ap (λ (b : Bool). b || among block xs) off) ∙ e))
]

abbrev pub opens_by : Log → Opens
opens_by log = record {
  filters = λ q block. is_connected (trail log q) && among block (filters_open (request (trail log q)));
  blocks = λ q block. is_connected (trail log q) && among block (blocks_open (request (trail log q)));
}

both_true : (a b : Bool) → a ≡ true → b ≡ true → (a && b) ≡ true
both_true true b is also = also
both_true false b is also = absurd (false≢true is)

pub holds_by : (log : Log) → HoldsOpens log (opens_by log)
holds_by log q = record {
  filters = λ block is. (let w = and_parts (is_connected (trail log q)) (among block (filters_open (request (trail log q)))) is in (w.0, in_among block _ w.1));
  all_filters = λ block on i. both_true (is_connected (trail log q)) _ on (is_among block (filters_open (request (trail log q))) i);
  blocks = λ block is. (let w = and_parts (is_connected (trail log q)) (among block (blocks_open (request (trail log q)))) is in (w.0, in_among block _ w.1));
  all_blocks = λ block on i. both_true (is_connected (trail log q)) _ on (is_among block (blocks_open (request (trail log q))) i);
}

-- nobody was dialled yet
pub holds_none : (opens : Opens) → ((block : Hash) → IsFilterFree opens block) → ((block : Hash) → IsBlockFree opens block) → HoldsOpens [] opens
holds_none opens filters blocks q = record {
  filters = λ block is. absurd (both_ways (opens.filters q block) (filters block q) is);
  all_filters = λ block on i. absurd (false≢true on);
  blocks = λ block is. absurd (both_ways (opens.blocks q block) (blocks block q) is);
  all_blocks = λ block on i. absurd (false≢true on);
}

-- who keeps the same of others keeps what their parts tell
pub else_by : (log next : Log) (before after : Opens) (p : ℕ) → HoldsOpens log before → ((q : ℕ) → q ≢ p → trail next q ≡ trail log q) → IsSameElse before after p
    → IsSameElse (opens_by next) after p
else_by log next before after p holds parts others = record {
  filters = λ q ne block. others.filters q ne block
      ∙ filters_at before (opens_by next) q (trail next q) (subst (OpensAt before q) (sym (parts q ne)) (holds q)) (holds_by next q) block;
  blocks = λ q ne block. others.blocks q ne block
      ∙ blocks_at before (opens_by next) q (trail next q) (subst (OpensAt before q) (sym (parts q ne)) (holds q)) (holds_by next q) block;
}

-- ---- what is asked

-- a question about neither filters nor a block
pub opens_asked : (opens : Opens) (p : ℕ) (m : Msg) (t : Trail) → filters_open (request (Asked m ∷ t)) ≡ filters_open (request t)
    → blocks_open (request (Asked m ∷ t)) ≡ blocks_open (request t) → OpensAt opens p t → OpensAt opens p (Asked m ∷ t)
opens_asked opens p m t filters blocks at =
    opens_same opens p t (Asked m ∷ t) at refl
    (λ block i. subst (λ (xs : List Hash). IsIn block xs) filters i) (λ block i. subst (λ (xs : List Hash). IsIn block xs) (sym filters) i)
    (λ block i. subst (λ (xs : List Hash). IsIn block xs) blocks i) (λ block i. subst (λ (xs : List Hash). IsIn block xs) (sym blocks) i)

-- the same stands in what is open
pub opens_kept : (opens : Opens) (p : ℕ) (t u : Trail) → is_connected u ≡ is_connected t → request u ≡ request t → OpensAt opens p t → OpensAt opens p u
opens_kept opens p t u on e at =
    opens_same opens p t u at on
    (λ block i. subst (λ (r : OpenRequest). IsIn block (filters_open r)) e i) (λ block i. subst (λ (r : OpenRequest). IsIn block (filters_open r)) (sym e) i)
    (λ block i. subst (λ (r : OpenRequest). IsIn block (blocks_open r)) e i) (λ block i. subst (λ (r : OpenRequest). IsIn block (blocks_open r)) (sym e) i)

-- ---- messages that leave it

-- a message leaves what stands in an open request
abbrev pub Leaves : Msg → OpenRequest → Type 0
Leaves m r =
    ((block : Hash) → IsIn block (filters_open r) → IsIn block (filters_open (request_after m r)))
    × ((block : Hash) → IsIn block (blocks_open r) → IsIn block (blocks_open (request_after m r)))

-- what is open to p stays, with one message more that leaves it
pub opens_said : (opens : Opens) (p : ℕ) (m : Msg) (t : Trail) → Leaves m (request t) → OpensAt opens p t → OpensAt opens p (Said m ∷ t)
opens_said opens p m t leaves at =
    opens_same opens p t (Said m ∷ t) at refl (λ block. filters_said m (request t) block) leaves.0 (λ block. blocks_said m (request t) block) leaves.1

-- the request is the same
leaves_same : (m : Msg) (r : OpenRequest) → request_after m r ≡ r → Leaves m r
leaves_same m r e = (
  λ block i. subst (λ (x : OpenRequest). IsIn block (filters_open x)) (sym e) i,
  λ block i. subst (λ (x : OpenRequest). IsIn block (blocks_open x)) (sym e) i,
)

-- headers and claims stand beside it
leaves_headers : (hs : List Header) (r : OpenRequest) → Leaves (Headers hs) r
leaves_headers hs NothingOpen = (λ block i. i, λ block i. i)
leaves_headers hs HeadersOpen = (λ block i. i, λ block i. i)
leaves_headers hs (ClaimsOpen stop parent blocks) = (λ block i. i, λ block i. i)
leaves_headers hs (FiltersOpen left came) = (λ block i. i, λ block i. i)
leaves_headers hs (BlockOpen wanted) = (λ block i. i, λ block i. i)
leaves_headers hs (PingOpen number) = (λ block i. i, λ block i. i)

leaves_claims : (filter : ℕ) (stop previous : Hash32) (hashes : List Hash32) (r : OpenRequest) → Leaves (Cfheaders filter stop previous hashes) r
leaves_claims filter stop previous hashes NothingOpen = (λ block i. i, λ block i. i)
leaves_claims filter stop previous hashes HeadersOpen = (λ block i. i, λ block i. i)
leaves_claims filter stop previous hashes (ClaimsOpen wanted parent blocks) = (λ block i. absurd i, λ block i. absurd i)
leaves_claims filter stop previous hashes (FiltersOpen left came) = (λ block i. i, λ block i. i)
leaves_claims filter stop previous hashes (BlockOpen wanted) = (λ block i. i, λ block i. i)
leaves_claims filter stop previous hashes (PingOpen number) = (λ block i. i, λ block i. i)

pub opens_headers : (opens : Opens) (p : ℕ) (hs : List Header) (t : Trail) → OpensAt opens p t → OpensAt opens p (Said (Headers hs) ∷ t)
opens_headers opens p hs t at = opens_said opens p (Headers hs) t (leaves_headers hs (request t)) at

pub opens_claims : (opens : Opens) (p filter : ℕ) (stop previous : Hash32) (hashes : List Hash32) (t : Trail) → OpensAt opens p t
    → OpensAt opens p (Said (Cfheaders filter stop previous hashes) ∷ t)
opens_claims opens p filter stop previous hashes t at =
    opens_said opens p (Cfheaders filter stop previous hashes) t (leaves_claims filter stop previous hashes (request t)) at

-- a pong may end a ping, and nothing else that is open
leaves_pong : (number : ℕ) (r : OpenRequest) → Leaves (Pong number) r
leaves_pong number NothingOpen = (λ block i. i, λ block i. i)
leaves_pong number HeadersOpen = (λ block i. i, λ block i. i)
leaves_pong number (ClaimsOpen stop parent blocks) = (λ block i. i, λ block i. i)
leaves_pong number (FiltersOpen left came) = (λ block i. i, λ block i. i)
leaves_pong number (BlockOpen wanted) = (λ block i. i, λ block i. i)
leaves_pong number (PingOpen wanted) = (λ block i. absurd i, λ block i. absurd i)

leaves_plain : (m : Msg) (r : OpenRequest) → is_plain m ≡ true → Leaves m r
leaves_plain (Pong number) r plain = leaves_pong number r
leaves_plain (Headers hs) r plain = cc plain
leaves_plain (BlockMessage b) r plain = cc plain
leaves_plain (Cfheaders filter stop previous hashes) r plain = cc plain
leaves_plain (Cfilter filter block bytes) r plain = cc plain
leaves_plain m r plain = leaves_same m r refl

pub opens_plain : (opens : Opens) (p : ℕ) (m : Msg) (t : Trail) → is_plain m ≡ true → OpensAt opens p t → OpensAt opens p (Said m ∷ t)
opens_plain opens p m t plain at = opens_said opens p m t (leaves_plain m (request t) plain) at

pub opens_news : (opens : Opens) (p : ℕ) (entries : List Inventory) (t : Trail) → OpensAt opens p t
    → OpensAt opens p (Said (Inv entries) ∷ t)
opens_news opens p entries t at = opens_said opens p (Inv entries) t (leaves_same (Inv entries) (request t) refl) at

-- ---- a block

-- one that isn't open to p
off_wanted : (b : Block) (wanted : Hash) (h : Hash32) → h.0 ≡ block_hash_of b.header → same wanted h.0 ≡ false → is_wanted b wanted ≡ false
off_wanted b wanted h is off = elim (cases_Bool (is_wanted b wanted)) [
  | inl on ↦ absurd (both_ways (same wanted h.0) off (same_from wanted h.0 (sym (is ∙ same_true (block_hash_of b.header) wanted on))))
  | inr no_more ↦ no_more
]

other_same : (b : Block) (wanted : Hash) → is_wanted b wanted ≡ false → request_after (BlockMessage b) (BlockOpen wanted) ≡ BlockOpen wanted
other_same b wanted e = rw e refl

pub opens_other : (opens : Opens) (p : ℕ) (peer : Peer) (b : Block) (h : Hash32) (t : Trail) → Holds peer t → awaits peer h ≡ false → h.0 ≡ block_hash_of b.header
    → OpensAt opens p t → OpensAt opens p (Said (BlockMessage b) ∷ t)
opens_other opens p peer b h t holds e is at =
    opens_said opens p (BlockMessage b) t
    (leaves_same (BlockMessage b) (request t) (by (ready t) (request t) (age t) (sym (ap (is_block_of h) holds.open_one) ∙ e) holds.orderly)) at where
      by : (on : Bool) (r : OpenRequest) (a : ℕ) → is_block_of h (if on then aged r a else Handshake a) ≡ false → (on ≡ false → r ≡ NothingOpen) → request_after (BlockMessage b) r ≡ r
      by on NothingOpen a off orderly = refl
      by on HeadersOpen a off orderly = refl
      by on (ClaimsOpen stop parent blocks) a off orderly = refl
      by on (FiltersOpen left came) a off orderly = refl
      by on (PingOpen number) a off orderly = refl
      by true (BlockOpen wanted) a off orderly = other_same b wanted (off_wanted b wanted h is off)
      by false (BlockOpen wanted) a off orderly = (let none = orderly refl in cc)

-- the one that is open to p
pub block_ends : (peer : Peer) (b : Block) (h : Hash32) (t : Trail) → Holds peer t → awaits peer h ≡ true → h.0 ≡ block_hash_of b.header
    → request (Said (BlockMessage b) ∷ t) ≡ NothingOpen
block_ends peer b h t holds e is =
    ap (request_after (BlockMessage b)) (awaits_is peer t h holds e)
    ∙ ap (λ (w : Bool). if w then NothingOpen else BlockOpen h.0) (same_from (block_hash_of b.header) h.0 (sym is))

-- ---- a filter

nothing_with : (came : List Job) (j : Job) → came ++ j ∷ [] ≡ [] → ⊥
nothing_with [] j e = cc
nothing_with (c ∷ came) j e = cc

-- by one with which its batch isn't whole, the same stands in it
left_by : (P : OpenRequest → Type 0) (b : Bool) (x y : OpenRequest) → (b ≡ true → P x) → (b ≡ false → P y) → P (if b then x else y)
left_by P true x y is off = is refl
left_by P false x y is off = off refl

leaves_filter : (filter : ℕ) (block : Hash32) (bytes : List ℕ) (r : OpenRequest) → given_by (Cfilter filter block bytes) r ≡ [] → Leaves (Cfilter filter block bytes) r
leaves_filter filter block bytes NothingOpen none = (λ b i. i, λ b i. i)
leaves_filter filter block bytes HeadersOpen none = (λ b i. i, λ b i. i)
leaves_filter filter block bytes (ClaimsOpen stop parent blocks) none = (λ b i. i, λ b i. i)
leaves_filter filter block bytes (FiltersOpen [] came) none = (λ b i. i, λ b i. i)
leaves_filter filter block bytes (FiltersOpen (next ∷ []) came) none = (
  λ b i. left_by (λ (r : OpenRequest). IsIn b (filters_open r)) (is_answer_of filter block.0 next) NothingOpen (FiltersOpen (next ∷ []) came)
      (λ is. absurd (nothing_with came (filter_of block bytes) (sym (ap (λ (x : Bool). if x then came ++ filter_of block bytes ∷ [] else []) is) ∙ none))) (λ off. i),
  λ b i. absurd i,
)
leaves_filter filter block bytes (FiltersOpen (next ∷ x ∷ left) came) none = (
  λ b i. left_by (λ (r : OpenRequest). IsIn b (filters_open r)) (is_answer_of filter block.0 next) (FiltersOpen (x ∷ left) (came ++ filter_of block bytes ∷ []))
      (FiltersOpen (next ∷ x ∷ left) came)
      (λ is. moved_back came (filter_of block bytes) next (x ∷ left) b (answered filter block.0 next is) i) (λ off. i),
  λ b i. absurd i,
)
leaves_filter filter block bytes (BlockOpen wanted) none = (λ b i. i, λ b i. i)
leaves_filter filter block bytes (PingOpen number) none = (λ b i. i, λ b i. i)

pub opens_filter : (opens : Opens) (p filter : ℕ) (block : Hash32) (bytes : List ℕ) (t : Trail) → given_by (Cfilter filter block bytes) (request t) ≡ [] → OpensAt opens p t
    → OpensAt opens p (Said (Cfilter filter block bytes) ∷ t)
opens_filter opens p filter block bytes t none at = opens_said opens p (Cfilter filter block bytes) t (leaves_filter filter block bytes (request t) none) at

-- one that ends its batch, or leaves it
ends_or_leaves : (filter : ℕ) (block : Hash32) (bytes : List ℕ) (r : OpenRequest)
    → (request_after (Cfilter filter block bytes) r ≡ NothingOpen) ⊎ (given_by (Cfilter filter block bytes) r ≡ [])
ends_or_leaves filter block bytes NothingOpen = inr refl
ends_or_leaves filter block bytes HeadersOpen = inr refl
ends_or_leaves filter block bytes (ClaimsOpen stop parent blocks) = inr refl
ends_or_leaves filter block bytes (FiltersOpen [] came) = inr refl
ends_or_leaves filter block bytes (FiltersOpen (next ∷ []) came) = elim (cases_Bool (is_answer_of filter block.0 next)) [
  | inl on ↦ inl (ap (λ (x : Bool). if x then NothingOpen else FiltersOpen (next ∷ []) came) on)
  | inr off ↦ inr (ap (λ (x : Bool). if x then came ++ filter_of block bytes ∷ [] else []) off)
]
ends_or_leaves filter block bytes (FiltersOpen (next ∷ x ∷ left) came) = inr refl
ends_or_leaves filter block bytes (BlockOpen wanted) = inr refl
ends_or_leaves filter block bytes (PingOpen number) = inr refl

-- a filter of what may be a whole batch: nothing is open to p then, or what was open stays
pub opens_whole : (before after : Opens) (p : ℕ) (old new : Peer) (filter : ℕ) (block : Hash32) (bytes : List ℕ) (t : Trail) → Holds old t
    → Holds new (Said (Cfilter filter block bytes) ∷ t) → (is_idle_peer new ≡ true → Closes before after p) → (is_idle_peer new ≡ false → IsSameOpens before after)
    → OpensAt before p t → OpensAt after p (Said (Cfilter filter block bytes) ∷ t)
opens_whole before after p old new filter block bytes t was now closes same at =
    let m : Msg = Cfilter filter block bytes in
    let u : Trail = Said m ∷ t in
    elim (cases_Bool (is_idle_peer new)) [
      | inl idle ↦ opens_closed before after p u (closes idle) (λ on. (idle_request new u now idle).1)
      | inr busy ↦ opens_on before after p u (same busy) (elim (ends_or_leaves filter block bytes (request t)) [
        | inr none ↦ opens_filter before p filter block bytes t none at
        | inl ends ↦ elim (cases_Bool (ready t)) [
          | inl over ↦ absurd (both_ways (is_idle_peer new) busy
              (ap is_nothing now.open_one ∙ ap (λ (x : Bool). is_nothing (if x then aged (request u) (age u) else Handshake (age u))) over
              ∙ ap (λ (r : OpenRequest). is_nothing (aged r (age u))) ends))
          | inr early ↦ opens_filter before p filter block bytes t (ap (given_by m) (was.orderly early)) at
        ]
      ])
    ]
