-- A peer is asked for no claims a second time.
use Rattle.std.proofs.Common.{◌≡◌, ◌⊎◌, inl, inr, ℕ, zero, suc, pred, ◌-◌, ◌<◌, ◌≤◌, List, [], ◌∷◌, length, take, Option, Some, None, Bool, true, false, ◌==◌, if◌then◌else◌, refl, sym, ◌∙◌, ap, subst, arith}
use Rattle.std.proofs.lemmas.Bool.{cases_Bool, eqb-true}
use Rattle.std.proofs.lemmas.List.{length-map, length-reverse, length-take}
use Rattle.cf_bytes.specs.declared.hash.Hash32.{Hash32}
use Rattle.cf_block.specs.declared.header.Header.{Header}
use Rattle.cf_block.specs.Header.{block_hash_of}
use Rattle.cf_dispute.specs.declared.claim.Claim.{Claim}
use Rattle.cf_dispute.specs.Claims.{Table, claim_of, with_claim, with_claims, first_filter_header, header_at}
use Rattle.cf_headers.specs.Rules.{same}
use Rattle.cf_headers.specs.Chain.{Hash, Chain, back_to, above, IsIn, IsValidChain, NoHashClash}
use Rattle.cf_headers.specs.Shown.{Shows, AreApart}
use Rattle.cf_headers.proofs.ChainLaws.{back_in, part_valid}
use Rattle.cf_headers.proofs.Longest.{same_chain}
use Rattle.cf_msg.specs.declared.msg.Msg.{Msg}
use Rattle.cf_msg.specs.declared.msg.Msg.TheVariants.{Pong, Headers, Block as BlockMessage, GetCfheaders, Cfheaders, Cfilter}
use Rattle.cf_peer.specs.declared.peer.Cause.{Cause}
use Rattle.cf_peer.specs.declared.peer.Cause.TheVariants.{WrongCount, WrongPrevious}
use Rattle.cf_peer.specs.declared.mode.Mode.TheVariants.{Following}
use Rattle.cf_wires.specs.Log.{Log}
use Rattle.cf_peer.specs.Trail.{Trail, Said, Asked, trail, is_connected, own, WasAsked}
use Rattle.cf_peer.specs.Asking.{OpenRequest, NothingOpen, ClaimsOpen, is_answer_of, is_this, blocks_from, block_below, claims_asked, claims, claims_after, claims_fault, request, request_after, fault_of, verdict, lists, IsClaimed, IsRange, MayAskIn}
use Rattle.cf_sync.specs.Fetching.{AreBytes, IsConnected, MaySendIn, RightlyIn}
use Rattle.cf_sync.specs.Sync.{IsHashed}
use Rattle.cf_sync.proofs.Chains.{cases_same}
use Rattle.cf_sync.proofs.Counted.{first_none, same_use}
use Rattle.cf_sync.proofs.Fresh.{shown_more, own_is_shown, since_asked, stays_open}
use Rattle.cf_sync.proofs.Listed.{in_right}
use Rattle.cf_sync.proofs.Remembers.{AskedRightlyIn, asked_rightly_in}
use Rattle.cf_headers.proofs.Found.{back_ends}
use Rattle.cf_sync.proofs.Settles.{shown_apart}

-- ---- claims stay, and an answer claims all that was asked for

abbrev IsThere : Table → Hash → Type 0
IsThere table block = (claim : Claim) × (table block ≡ Some claim)

one_keeps : (x : Hash) (claim : Claim) (table : Table) (block : Hash) → IsThere table block → IsThere (with_claim x claim table) block
one_keeps x claim table block there = by (same x block) where
  by : (b : Bool) → (c : Claim) × ((if b then Some claim else table block) ≡ Some c)
  by true = (claim, refl)
  by false = there

one_puts : (x : Hash) (claim : Claim) (table : Table) (block : Hash) → block ≡ x → IsThere (with_claim x claim table) block
one_puts x claim table block e = elim (cases_same x block) [
  | inl here ↦ (claim, ap (λ (b : Bool). if b then Some claim else table block) here.1)
  | inr off ↦ absurd (off.1 (sym e))
]

with_keeps : (previous : Hash32) (blocks : List Hash) (hashes : List Hash32) (table : Table) (block : Hash) → IsThere table block → IsThere (with_claims previous blocks hashes table) block
with_keeps previous [] hashes table block there = there
with_keeps previous (x ∷ blocks) [] table block there = there
with_keeps previous (x ∷ blocks) (h ∷ hashes) table block there =
    with_keeps (claim_of h previous).header blocks hashes (with_claim x (claim_of h previous) table) block (one_keeps x (claim_of h previous) table block there)

with_has : (previous : Hash32) (blocks : List Hash) (hashes : List Hash32) (table : Table) (block : Hash) → length blocks ≡ length hashes → IsIn block blocks → IsThere (with_claims previous blocks hashes table) block
with_has previous [] hashes table block e i = absurd i
with_has previous (x ∷ blocks) [] table block e i = absurd (omega (arith, e))
with_has previous (x ∷ blocks) (h ∷ hashes) table block e (inl is) =
    with_keeps (claim_of h previous).header blocks hashes (with_claim x (claim_of h previous) table) block (one_puts x (claim_of h previous) table block is)
with_has previous (x ∷ blocks) (h ∷ hashes) table block e (inr i) =
    with_has (claim_of h previous).header blocks hashes (with_claim x (claim_of h previous) table) block (omega (arith, e)) i

keeps_after : (m : Msg) (r : OpenRequest) (table : Table) (block : Hash) → IsThere table block → IsThere (claims_after m r table) block
keeps_after (Cfheaders filter stop previous hashes) (ClaimsOpen wanted parent blocks) table block there = by (is_answer_of filter stop.0 wanted) where
  by : (b : Bool) → (c : Claim) × ((if b then with_claims previous blocks hashes table else table) block ≡ Some c)
  by true = with_keeps previous blocks hashes table block there
  by false = there
keeps_after m r table block there = there

counts_same : (n m : ℕ) (o : Option Cause) → (if n == m then o else Some WrongCount) ≡ None → n ≡ m
counts_same n m o e = by (n == m) refl e where
  by : (b : Bool) → (n == m) ≡ b → (if b then o else Some WrongCount) ≡ None → n ≡ m
  by true is f = eqb-true n m is
  by false is f = cc

-- ---- since it was asked for claims of a range

-- a range of a chain that these lists show, from a height up to a hash
pub record IsShownRange (ls : List (List Header)) (start : ℕ) (stop : Hash) : Type 0 where
  pub chain : Chain
  pub shown : Shows ls chain
  pub part : Chain
  pub tip : back_to stop chain ≡ Some part
  pub low : 1 ≤ start
  pub high : start ≤ length part

abbrev pub range_said : (m : Msg) (t : Trail) (start : ℕ) (stop : Hash) → IsShownRange (lists t) start stop
    → IsShownRange (lists (Said m ∷ t)) start stop
range_said m t start stop w =
    record { chain = w.chain; shown = shown_more m t w.chain w.shown; part = w.part; tip = w.tip; low = w.low; high = w.high }

abbrev pub range_asked : (t : Trail) (filter start : ℕ) (stop : Hash) (few : ℕ) → is_connected t ≡ true → verdict t ≡ None
    → IsRange t filter start stop few → IsShownRange (lists t) start stop
range_asked t filter start stop few on clean r =
    record { chain = own t; shown = own_is_shown t on clean; part = r.part; tip = r.tip; low = r.low; high = r.high }

abbrev Since : Trail → ℕ → Hash → Type 0
Since t start stop =
    (w : IsShownRange (lists t) start stop)
    × ((request t ≡ ClaimsOpen stop (block_below start w.part) (blocks_from start w.part))
    ⊎ ((block : Hash) → IsIn block (blocks_from start w.part) → IsClaimed t block))

abbrev HasMoved : Msg → Trail → Hash → Hash → List Hash → Type 0
HasMoved m t stop parent blocks = (request (Said m ∷ t) ≡ ClaimsOpen stop parent blocks) ⊎ ((block : Hash) → IsIn block blocks → IsClaimed (Said m ∷ t) block)

moved : (m : Msg) (t : Trail) (stop parent : Hash) (blocks : List Hash) → fault_of m t ≡ None → request t ≡ ClaimsOpen stop parent blocks → HasMoved m t stop parent blocks
moved (Cfheaders filter stop' previous hashes) t stop parent blocks clean e = elim (cases_Bool (is_answer_of filter stop'.0 stop)) [
  | inl on ↦ (
      let fine : (if length blocks == length hashes then (if is_this (header_at first_filter_header (claims t) parent) previous.0 then None else Some WrongPrevious) else Some WrongCount) ≡ None =
      sym (ap (λ (b : Bool). if b then (if length blocks == length hashes then (if is_this (header_at first_filter_header (claims t) parent) previous.0 then None else Some WrongPrevious) else Some WrongCount) else None) on)
      ∙ sym (ap (λ r. claims_fault filter stop'.0 previous.0 hashes r (claims t)) e) ∙ clean in
      let n : length blocks ≡ length hashes = counts_same (length blocks) (length hashes) _ fine in
      inr (λ block i.
      let w = with_has previous blocks hashes (claims t) block n i in
      (w.0, ap (λ r. claims_after (Cfheaders filter stop' previous hashes) r (claims t) block) e ∙ ap (λ (b : Bool). (if b then with_claims previous blocks hashes (claims t) else claims t) block) on ∙ w.1))
      )
  | inr off ↦ inl (ap (λ r. request_after (Cfheaders filter stop' previous hashes) r) e ∙ ap (λ (b : Bool). if b then NothingOpen else ClaimsOpen stop parent blocks) off)
]
moved (Headers hs) t stop parent blocks clean e = inl (ap (λ r. request_after (Headers hs) r) e)
moved (Cfilter filter block bytes) t stop parent blocks clean e = inl (ap (λ r. request_after (Cfilter filter block bytes) r) e)
moved (BlockMessage b) t stop parent blocks clean e = inl (ap (λ r. request_after (BlockMessage b) r) e)
moved (Pong number) t stop parent blocks clean e = inl (ap (λ r. request_after (Pong number) r) e)
moved m t stop parent blocks clean e = inl e

after_said : (m : Msg) (t : Trail) (start : ℕ) (stop : Hash) → fault_of m t ≡ None → Since t start stop → Since (Said m ∷ t) start stop
after_said m t start stop clean w = (
  range_said m t start stop w.0,
  elim w.1 [
    | inl e ↦ moved m t stop (block_below start w.0.part) (blocks_from start w.0.part) clean e
    | inr all ↦ inr (λ block i. keeps_after m (request t) (claims t) block (all block i))
  ],
)

has_since : (t : Trail) → is_connected t ≡ true → verdict t ≡ None → AskedRightlyIn Following t → (filter start : ℕ) (stop : Hash32) → WasAsked t (GetCfheaders filter start stop) → Since t start stop.0
has_since t on clean right filter start stop =
    since_asked Following (GetCfheaders filter start stop) (λ u. Since u start stop.0)
    (λ u on clean may. (range_asked u filter start stop.0 2000 on clean may.1.0, inl (ap (λ o. claims_asked start stop.0 o) may.1.0.tip)))
    (λ m u on clean right. after_said m u start stop.0 (first_none (verdict u) (fault_of m u) clean).1)
    asked (λ s u w. w) t on clean right where
      asked : (m : Msg) (u : Trail) → MayAskIn Following u m → Since u start stop.0 → Since (Asked m ∷ u) start stop.0
      asked m u may w = (
        w.0,
        elim w.1 [
          | inl e ↦ inl (stays_open Following m u (ClaimsOpen stop.0 (block_below start w.0.part) (blocks_from start w.0.part)) may (λ no. cc no) e)
          | inr all ↦ inr all
        ],
      )

-- ---- so it isn't asked for them again

pred_low : (start n : ℕ) → 1 ≤ start → start ≤ n → pred start < n
pred_low zero n low high = absurd (omega (arith, low))
pred_low (suc k) n low high = omega (arith, high)

some_block : (start : ℕ) (part : Chain) → 1 ≤ start → start ≤ length part → (block : Hash) × IsIn block (blocks_from start part)
some_block start part low high = by (blocks_from start part) count where
  count : 1 ≤ length (blocks_from start part)
  count =
      let a = length-map (above (pred start) part) block_hash_of in
      let b = length-reverse (take (length part - pred start) part) in
      let c = length-take (length part - pred start) part in
      let d : pred start < length part = pred_low start (length part) low high in
      omega (arith, a, b, c, d)

  by : (xs : List Hash) → 1 ≤ length xs → (block : Hash) × IsIn block xs
  by [] some = absurd (omega (arith, some))
  by (x ∷ xs) some = (x, inl refl)

-- two parts of shown chains with one tip are one
one_part : (t : Trail) (a b p q : Chain) (stop : Hash) → AreApart (lists t) → Shows (lists t) a → Shows (lists t) b → back_to stop a ≡ Some p → back_to stop b ≡ Some q → p ≡ q
one_part t a b p q stop apart sa sb e f =
    let x = back_in stop a p e in
    let y = back_in stop b q f in
    same_chain (lists t) p q apart (part_valid x.0 p (subst IsValidChain (sym x.1) sa.valid)) (part_valid y.0 q (subst IsValidChain (sym y.1) sb.valid))
    (λ h i. sa.told h (subst (λ (c : Chain). IsIn h c) x.1 (in_right h x.0 p i))) (λ h i. sb.told h (subst (λ (c : Chain). IsIn h c) y.1 (in_right h y.0 q i)))
    (back_ends stop a p e ∙ sym (back_ends stop b q f))

-- a block of the range that it was asked for; one that it may be asked for by the same words has it too
pub block_again : (log : Log) (p filter start : ℕ) (stop : Hash) (few : ℕ) → AreBytes log → NoHashClash (IsHashed log [])
    → IsConnected log p → verdict (trail log p) ≡ None → (w : IsShownRange (lists (trail log p)) start stop)
    (r : IsRange (trail log p) filter start stop few)
    → (block : Hash) × IsIn block (blocks_from start w.part) × IsIn block (blocks_from start r.part)
block_again log p filter start stop few bytes clash on clean w r =
    let t : Trail = trail log p in
    let apart : AreApart (lists t) = subst AreApart (same_use t on clean).showing (shown_apart log p [] bytes clash) in
    let one : w.part ≡ r.part = one_part t w.chain (own t) w.part r.part stop apart w.shown (own_is_shown t on clean) w.tip r.tip in
    let x = some_block start w.part w.low w.high in
    (x.0, x.1, subst (λ (c : Chain). IsIn x.0 (blocks_from start c)) one x.1)

pub claims_not_again : (log : Log) (p : ℕ) → RightlyIn Following log → AreBytes log → NoHashClash (IsHashed log []) → IsConnected log p → verdict (trail log p) ≡ None
    → (filter start : ℕ) (stop : Hash32) → MaySendIn Following log p (GetCfheaders filter start stop) → WasAsked (trail log p) (GetCfheaders filter start stop) → ⊥
claims_not_again log p right bytes clash on clean filter start stop may was =
    let w = has_since (trail log p) on clean (asked_rightly_in Following log p right) filter start stop was in
    elim w.1 [
      | inl e ↦ absurd (
          let no : ClaimsOpen stop.0 (block_below start w.0.part) (blocks_from start w.0.part) ≡ NothingOpen =
          sym e ∙ may.of_its_part.0.idle in
          cc
          )
      | inr all ↦ (
          let x = block_again log p filter start stop.0 2000 bytes clash on clean w.0 may.of_its_part.1.0 in
          may.of_its_part.1.2 x.0 x.2 (all x.0 x.1)
          )
    ]
