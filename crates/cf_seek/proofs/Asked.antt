-- The marks of a peer that was asked.
use Rattle.std.proofs.Common.{◌≡◌, inl, inr, zero, suc, ℕ, ◌+◌, ◌-◌, ◌<◌, ◌≤◌, false, true, List, [], ◌∷◌, length, map, get_or, take, drop, reverse, Option, Some, None, refl, sym, ◌∙◌, ap, subst, arith}
use Rattle.std.specs.Prelude.{IsSome, pred}
use Rattle.std.proofs.lemmas.Bool.{cases_lt}
use Rattle.std.proofs.lemmas.List.{length-reverse}
use Rattle.cf_bytes.specs.declared.peer.PeerNo.{PeerNo}
use Rattle.cf_block.specs.declared.header.Header.{Header}
use Rattle.cf_block.specs.Header.{block_hash_of, genesis_header}
use Rattle.cf_dispute.specs.Claims.{Tables}
use Rattle.cf_dispute.specs.Tables.{blocks_of}
use Rattle.cf_headers.specs.Chain.{Hash, Chain, IsIn, above}
use Rattle.cf_headers.specs.Heights.{hash_at, height_of}
use Rattle.cf_headers.specs.Store.{Chains, own_of}
use Rattle.cf_match.specs.Verdicts.{Verdicts}
use Rattle.cf_seek.specs.declared.cursors.Marks.{Marks}
use Rattle.cf_seek.specs.declared.spans.Span.{Span}
use Rattle.cf_seek.specs.declared.spans.Wish.{Wish}
use Rattle.cf_seek.specs.declared.spans.Wish.TheVariants.{Nothing, Claims, Filters, Block, Test}
use Rattle.cf_seek.specs.Cursors.{marks_at, reached_to}
use Rattle.cf_seek.specs.Opens.{Opens}
use Rattle.cf_seek.specs.Opening.{OpensFilters}
use Rattle.cf_seek.specs.Seeking.{MoreOpens}
use Rattle.cf_seek.specs.Spans.{asked_marks, IsAskedFor, IsSpan, MayBePut}
use Rattle.cf_seek.specs.Tracking.{AreMarked, IsMarked}
use Rattle.cf_tables.specs.Known.{ExtractTable}
use Rattle.cf_seek.proofs.Along.{hash_of_next}
use Rattle.cf_seek.proofs.Marked.{opened_marked}
use Rattle.cf_seek.proofs.Opening.{opened, up_marked}
use Rattle.cf_seek.proofs.SoughtStays.{sought_opens}
use Rattle.cf_seek.proofs.Stops.{above_part}

-- an element of a list is among those from a place on, up to another
among : (xs : List Header) (k top i : ℕ) (d : Header) → k ≤ i → i < top → i < length xs
    → IsIn (block_hash_of (get_or xs i d)) (map block_hash_of (drop k (take top xs)))
among [] k top i d low lt in_xs = absurd (omega (arith, in_xs))
among (x ∷ xs) k zero i d low lt in_xs = absurd (omega (arith, lt))
among (x ∷ xs) zero (suc top) zero d low lt in_xs = inl refl
among (x ∷ xs) zero (suc top) (suc i) d low lt in_xs = inr (among xs zero top i d (omega arith) (omega (arith, lt)) (omega (arith, in_xs)))
among (x ∷ xs) (suc k) (suc top) zero d low lt in_xs = absurd (omega (arith, low))
among (x ∷ xs) (suc k) (suc top) (suc i) d low lt in_xs = among xs k top i d (omega (arith, low)) (omega (arith, lt)) (omega (arith, in_xs))

above_one : (n : ℕ) → 1 ≤ n → (i : ℕ) × (n ≡ i + 1)
above_one zero le = absurd (omega (arith, le))
above_one (suc i) le = (i, omega arith)

-- each block of a question stands in it
in_span : (own : Chain) (start end h : ℕ) (span : Span) → (is : IsSpan own start end span) → 1 ≤ start → start ≤ h → h ≤ length is.part
    → length is.part ≤ length own → IsIn (hash_at own h) (blocks_of span.blocks.items)
in_span own start end h span is up low high within =
    let at = above_one h (omega (arith, up, low)) in
    let i = at.0 in
    let e : h ≡ i + 1 = at.1 in
    let d : Header = get_or (reverse own) i genesis_header in
    let here = among (reverse own) (pred start) (length is.part) i d
    (omega (arith, low, e, up)) (omega (arith, high, e)) (omega (arith, high, e, within, length-reverse own)) in
    let rest : map block_hash_of (drop (pred start) (take (length is.part) (reverse own))) ≡ blocks_of span.blocks.items =
    ap (map block_hash_of) (sym (above_part own (length is.part) (pred start)))
    ∙ ap (λ (c : Chain). map block_hash_of (above (pred start) c)) (sym is.is) ∙ sym is.blocks in
    subst (λ (x : Hash). IsIn x (blocks_of span.blocks.items)) (sym (ap (hash_at own) e ∙ hash_of_next own i d (omega (arith, high, e, within))))
    (subst (IsIn (block_hash_of (get_or (reverse own) i d))) rest here)

-- the marks of one peer
reached : (extracts : ExtractTable) (tables : Tables) (verdicts : Verdicts) (opens now : Opens) (p : ℕ) (own : Chain) (span : Span) (marks : Marks)
    → MayBePut extracts tables verdicts opens p own (Filters span) → OpensFilters opens now p (blocks_of span.blocks.items) → MoreOpens opens now
    → IsMarked extracts tables verdicts now p own marks → IsMarked extracts tables verdicts now p own (reached_to (height_of span.stop.0 own) marks)
reached extracts tables verdicts opens now p own span marks may put more m =
    let want = may.asks.0 in
    let end = may.asks.1.0 in
    let is : IsSpan own span.start end span = may.asks.1.1.0 in
    let low : end ≤ may.common = may.asks.1.1.1 in
    let long : may.common ≤ length own = may.low in
    let top = length is.part in
    let high : top ≤ end = is.high in
    let first : 1 ≤ span.start = want.1 in
    let on = m.on in
    let s = m.seeks in
    let t = m.passes in
    let here : IsMarked extracts tables verdicts now p own (reached_to (Some top) marks) = record {
      on = omega (arith, on, high, low, long);
      seeks = omega (arith, s);
      passes = omega (arith, t);
      claimed = λ h up le above. elim (cases_lt marks.claimed h) [
        | inl past ↦ want.0 h up (omega (arith, past, le, high, low)) above
        | inr within ↦ m.claimed h up within above
      ];
      sought = λ h up le ask. elim (cases_lt marks.sought h) [
        | inl past ↦ elim (cases_lt h span.start) [
          | inl below ↦ sought_opens extracts tables verdicts opens now own (span.start - 1) more want.3 h up (omega (arith, below)) ask
          | inr from ↦ (
              let there = put.there (hash_at own h) (in_span own span.start end h span is first from (omega (arith, past, le))
              (omega (arith, high, low, long))) in
              let no : true ≡ false = sym there ∙ ask.free p in cc no
              )
        ]
        | inr within ↦ m.sought h up within ask
      ];
      passed = m.passed;
    } in
    subst (λ (o : Option ℕ). IsMarked extracts tables verdicts now p own (reached_to o marks)) (sym (ap (λ (o : Option Chain). height_by o) is.tip)) here where
      height_by : Option Chain → Option ℕ
      height_by None = None
      height_by (Some c) = Some (length c)

-- what a peer was asked for is open, and its marks rose
pub asked_marked : (chains : Chains) (extracts : ExtractTable) (tables : Tables) (verdicts : Verdicts) (opens now : Opens)
    (cursors next : List Marks) (p : PeerNo) (wish : Wish)
    → IsSome (chains p.0) → MayBePut extracts tables verdicts opens p.0 (own_of chains p) wish → IsAskedFor p.0 wish opens now → MoreOpens opens now
    → next ≡ asked_marks (own_of chains p) cursors p.0 wish
    → ∥ AreMarked chains extracts tables verdicts opens cursors ∥₁ → ∥ AreMarked chains extracts tables verdicts now next ∥₁
asked_marked chains extracts tables verdicts opens now cursors next p wish some may asked more is t =
    subst (λ (xs : List Marks). ∥ AreMarked chains extracts tables verdicts now xs ∥₁) (sym is) (by wish may asked) where
      more_now : ∥ AreMarked chains extracts tables verdicts now cursors ∥₁
      more_now = opened_marked chains extracts tables verdicts opens now cursors more t

      by : (w : Wish) → MayBePut extracts tables verdicts opens p.0 (own_of chains p) w → IsAskedFor p.0 w opens now
          → ∥ AreMarked chains extracts tables verdicts now (asked_marks (own_of chains p) cursors p.0 w) ∥₁
      by Nothing may asked = more_now
      by (Claims span) may asked = more_now
      by (Filters span) may asked =
          up_marked chains extracts tables verdicts now cursors p (reached_to (height_of span.stop.0 (own_of chains p)) (marks_at cursors p.0)) some
          (reached extracts tables verdicts opens now p.0 (own_of chains p) span (marks_at cursors p.0) may asked more
          (opened chains extracts tables verdicts now cursors p some more_now)) more_now
      by (Block hash) may asked = more_now
      by (Test trial) may asked = more_now
