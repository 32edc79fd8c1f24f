-- What is open to a peer agrees with what it claims.
use Rattle.std.proofs.Common.{◌≡◌, ◌≢◌, inl, inr, ℕ, zero, suc, ◌+◌, ◌-◌, ◌<◌, ◌≤◌, List, [], ◌∷◌, ◌++◌, map, length, take, get_or, set, Option, Some, None, Bool, if◌then◌else◌, refl, sym, ◌∙◌, ap, subst, arith}
use Rattle.std.proofs.Math.Path.{fun_ext}
use Rattle.std.proofs.Math.Logic.{∥∥₁_elim}
use Rattle.std.proofs.Props.{props}
use Rattle.std.proofs.lemmas.Grind.{common_steps}
use Rattle.std.specs.Prelude.{IsSome, pred, option_map}
use Rattle.std.proofs.lemmas.Bool.{cases_eq, cases_Bool, both_ways}
use Rattle.std.proofs.lemmas.List.{length-map, length-reverse}
use Rattle.cf_bytes.specs.declared.hash.Hash32.{Hash32}
use Rattle.cf_block.specs.Header.{block_hash_of, genesis_header}
use Rattle.cf_dispute.specs.declared.claim.Claim.{Claim}
use Rattle.cf_dispute.specs.Claims.{Table, Tables, first_filter_header, header_at}
use Rattle.cf_dispute.proofs.PutIn.{same_from}
use Rattle.cf_headers.specs.Chain.{Hash, Chain, above, lower, IsIn, IsAbove}
use Rattle.cf_headers.specs.Heights.{hash_at}
use Rattle.cf_headers.specs.Rules.{same}
use Rattle.cf_peer.specs.declared.peer.Peer.{Peer}
use Rattle.cf_peer.specs.declared.peer.Request.{Request}
use Rattle.cf_peer.specs.declared.peer.Request.TheVariants.{Nothing, Handshake, Headers as HeadersAsked, Claims as ClaimsAsked, Filters as FiltersAsked, Block as BlockAsked, Ping as PingAsked}
use Rattle.cf_peer.specs.Peer.{IsRight}
use Rattle.cf_hear.proofs.Wishes.{in_span}
use Rattle.cf_seek.proofs.Stops.{parent_is}
use Rattle.cf_tables.proofs.Told.{first_is}
use Rattle.cf_seek.specs.declared.spans.Span.{Span}
use Rattle.cf_seek.specs.Ends.{AreUnclaimed}
use Rattle.cf_seek.specs.Spans.{IsSpan}
use Rattle.cf_tables.specs.Wanting.{AreClaimed}
use Rattle.cf_place.specs.declared.place.Place.{Place}
use Rattle.cf_place.specs.declared.place.Place.TheVariants.{Here, Lost}
use Rattle.cf_place.specs.Places.{nobody}
use Rattle.cf_client.specs.Settled.{IsRightAt, AreRight}
use Rattle.cf_client.proofs.Standing.{set_is, push_is}

-- ---- it has one proof

right_prop : (r : Request) (table : Table) → IsProp (IsRight r table)
right_prop Nothing table = hlevel props
right_prop (Handshake age) table = hlevel props
right_prop (HeadersAsked age) table = hlevel props
right_prop (ClaimsAsked range age) table = hlevel props
right_prop (FiltersAsked batch age) table = hlevel props
right_prop (BlockAsked block age) table = hlevel props
right_prop (PingAsked number age) table = hlevel props

place_prop : (place : Place) (table : Table) → IsProp (IsRightAt place table)
place_prop (Here peer) table = right_prop peer.request table
place_prop (Lost loss) table = hlevel props

rights_prop : (places : List Place) (tables : Tables) → IsProp (AreRight places tables)
rights_prop places tables = hlevel place_prop

-- so it can be taken out
pub right_of : (places : List Place) (tables : Tables) → ∥ AreRight places tables ∥₁ → AreRight places tables
right_of places tables truncated = ∥∥₁_elim truncated (rights_prop places tables) (λ r. r)

-- ---- places that are set

right_other : (places : List Place) (i p : ℕ) (s : Place) → p ≢ i → get_or (set places i s) p nobody ≡ get_or places p nobody
right_other places i p s other = grind (arith, common_steps)

pub right_set : (places : List Place) (before after : Tables) (i : ℕ) (s : Place) → i < length places → ((q : ℕ) → q ≢ i → (block : Hash) → after q block ≡ before q block) → IsRightAt s (after i)
    → AreRight places before → AreRight (set places i s) after
right_set places before after i s lt others here right = λ q. elim (cases_eq q i) [
  | inl same ↦ subst (λ (k : ℕ). IsRightAt (get_or (set places i s) k nobody) (after k)) (sym same) (subst (λ (x : Place). IsRightAt x (after i)) (sym (set_is places i s lt)) here)
  | inr other ↦ subst (λ (x : Place). IsRightAt x (after q)) (sym (right_other places i q s other))
      (subst (λ (t : Table). IsRightAt (get_or places q nobody) t) (sym (fun_ext (others q other))) (right q))
]

push_past : (places : List Place) (p : ℕ) (s : Place) → p ≢ length places → get_or (places ++ s ∷ []) p nobody ≡ get_or places p nobody
push_past places p s other = grind (arith, common_steps)

pub right_push : (places : List Place) (before after : Tables) (s : Place) → ((q : ℕ) (block : Hash) → after q block ≡ before q block) → IsRightAt s (after (length places)) → AreRight places before
    → AreRight (places ++ s ∷ []) after
right_push places before after s same here right = λ q. elim (cases_eq q (length places)) [
  | inl last ↦ subst (λ (k : ℕ). IsRightAt (get_or (places ++ s ∷ []) k nobody) (after k)) (sym last) (subst (λ (x : Place). IsRightAt x (after (length places))) (sym (push_is places (length places) s refl)) here)
  | inr other ↦ subst (λ (x : Place). IsRightAt x (after q)) (sym (push_past places q s other)) (subst (λ (t : Table). IsRightAt (get_or places q nobody) t) (sym (fun_ext (same q))) (right q))
]

pub right_first : (tables : Tables) → AreRight (nobody ∷ []) tables
right_first tables = right_push [] tables tables nobody (λ q block. refl) tt (λ q. tt)

pub right_at : (places : List Place) (tables : Tables) (p : ℕ) (peer : Peer) → get_or places p nobody ≡ Here peer → AreRight places tables → IsRight peer.request (tables p)
right_at places tables p peer here right = subst (λ (x : Place). IsRightAt x (tables p)) here (right p)

-- ---- what is asked for agrees

-- the filter header at a block is known where it is genesis or claimed
pub header_known : (table : Table) (block : Hash) → (IsAbove block → IsSome (table block)) → IsSome (header_at first_filter_header table block)
header_known table block claimed = elim (cases_Bool (same (block_hash_of genesis_header) block)) [
  | inl is ↦ subst IsSome (sym (ap (λ (b : Bool). if b then Some first_filter_header else option_map (λ (c : Claim). c.header) (table block)) is)) refl
  | inr off ↦ (
      let c = some_is (table block) (claimed (λ e. both_ways (same (block_hash_of genesis_header) block) off (same_from (block_hash_of genesis_header) block (sym e)))) in
      subst IsSome (sym (ap (λ (b : Bool). if b then Some first_filter_header else option_map (λ (c : Claim). c.header) (table block)) off ∙ ap (option_map (λ (c : Claim). c.header)) c.1)) refl)
] where
  some_is : (o : Option Claim) → IsSome o → (c : Claim) × (o ≡ Some c)
  some_is None s = cc s
  some_is (Some c) s = (c, refl)

below_start : (n : ℕ) → 1 ≤ n → pred n + 1 ≡ n
below_start zero le = absurd (omega (arith, le))
below_start (suc n) le = omega arith

from_start : (n h : ℕ) → pred n < h → n ≤ h
from_start zero h lt = omega arith
from_start (suc n) h lt = omega (arith, lt)

-- a run of blocks none of which is claimed, on one that is
pub claims_right : (tables : Tables) (p : ℕ) (own : Chain) (end : ℕ) (span : Span) (age : ℕ) → 1 ≤ span.start → end ≤ length own → IsSpan own span.start end span
    → AreClaimed tables p own (span.start - 1) → AreUnclaimed tables p own span.start end
    → IsRight (ClaimsAsked (record { stop = span.stop; parent = span.parent; blocks = span.blocks.items }) age) (tables p)
claims_right tables p own end span age one low sp claimed fresh =
    let top : ℕ = length sp.part in
    let within : top ≤ length own = (let a = sp.high in omega (arith, a, low)) in
    let up : pred span.start < top = (let a = sp.low in let b = below_start span.start one in omega (arith, a, b)) in
    let at : span.parent.0 ≡ hash_at own (pred span.start) = sp.parent ∙ part_at own sp.part top (pred span.start) sp.is up within in
    let few : pred span.start ≤ span.start - 1 = (let b = below_start span.start one in omega (arith, b)) in (
      header_known (tables p) span.parent.0 (λ above. subst (λ (x : Hash). IsSome (tables p x)) (sym at) (mine (pred span.start) few (subst IsAbove at above))),
      λ block i.
          let w = in_span own sp.part top (pred span.start) block sp.is within (subst (λ (xs : List Hash). IsIn block xs) sp.blocks i) in
          ap (tables p) w.3 ∙ (fresh w.0 (let v = w.1 in from_start span.start w.0 v) (let v = w.2 in let a = sp.high in omega (arith, v, a))).1,
    ) where
      part_at : (chain part : Chain) (top h : ℕ) → part ≡ lower top chain → h < top → top ≤ length chain → hash_at part h ≡ hash_at chain h
      part_at chain part top h is lt low = (let e : suc h - 1 ≡ h = omega arith in sym (parent_is chain top (suc h) part is (omega (arith, lt)) low) ∙ ap (hash_at chain) e)

      genesis_out : (own : Chain) → IsAbove (hash_at own 0) → ⊥
      genesis_out own above = above (first_is own (hash_at own 0) refl)

      mine : (h : ℕ) → h ≤ span.start - 1 → IsAbove (hash_at own h) → IsSome (tables p (hash_at own h))
      mine zero le above = absurd (genesis_out own above)
      mine (suc h) le above = claimed (suc h) (omega arith) le above

above_length : (k : ℕ) (chain : Chain) → k ≤ length chain → length (above k chain) ≡ length chain - k
above_length k chain le = length-reverse (take (length chain - k) chain) ∙ length_taken chain (length chain - k) (omega arith) where
  length_taken : (xs : Chain) (n : ℕ) → n ≤ length xs → length (take n xs) ≡ n
  length_taken xs n le = grind (arith, common_steps)

-- filters of some blocks
pub filters_right : (own : Chain) (end : ℕ) (span : Span) → 1 ≤ span.start → IsSpan own span.start end span → 0 < length span.blocks.items
filters_right own end span one sp =
    let some : length (map (λ (h : Hash32). h.0) span.blocks.items) ≡ length sp.part - pred span.start
    = ap length sp.blocks ∙ length-map (above (pred span.start) sp.part) block_hash_of ∙ above_length (pred span.start) sp.part (let a = sp.low in let b = below_start span.start one in omega (arith, a, b)) in
    let all : length (map (λ (h : Hash32). h.0) span.blocks.items) ≡ length span.blocks.items = length-map span.blocks.items (λ (h : Hash32). h.0) in
    let b = below_start span.start one in
    let a = sp.low in
    omega (arith, some, all, a, b)
