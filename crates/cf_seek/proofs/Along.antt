-- Along a chain.
use Rattle.std.proofs.Common.{◌≡◌, inl, inr, zero, ℕ, suc, ◌+◌, ◌-◌, ◌<◌, ◌≤◌, List, [], ◌∷◌, ◌++◌, length, get_or, take, drop, reverse, Option, Some, None, refl, sym, ◌∙◌, ap, subst, arith}
use Rattle.std.specs.Prelude.{IsSome, unwrap_or, fold}
use Rattle.std.proofs.lemmas.Bool.{cases_lt}
use Rattle.std.proofs.lemmas.List.{length-reverse, length-drop, reverse-append, reverse-reverse, drop_more}
use Rattle.std.proofs.lemmas.Grind.{take_at_read}
use Rattle.cf_bytes.specs.declared.hash.Hash32.{Hash32}
use Rattle.cf_bytes.specs.declared.peer.PeerNo.{PeerNo}
use Rattle.cf_block.specs.declared.header.Header.{Header}
use Rattle.cf_block.specs.Header.{block_hash_of}
use Rattle.cf_dispute.specs.Tables.{blocks_of}
use Rattle.cf_headers.specs.Chain.{Hash, Chain, IsIn, lower, tip_hash}
use Rattle.cf_headers.specs.Heights.{hash_at}
use Rattle.cf_headers.specs.Store.{Chains, rank, IsBest}
use Rattle.cf_headers.proofs.Stacks.{lower_reverse}
use Rattle.cf_scan.specs.Scan.{Scanned}
use Rattle.cf_scan.specs.Extracts.{after_placed}
use Rattle.cf_tables.specs.Tables.{placed_one, placed_by}
use Rattle.cf_tables.specs.Known.{ExtractTable}
use Rattle.cf_seek.specs.Tracking.{AreAmong, IsBestChain, best_chain}

-- ---- the best chain

ranked : (o : Option Chain) → 0 < rank o → IsSome o
ranked None h = absurd (omega (arith, h))
ranked (Some own) h = refl

pub best_entered : (chains : Chains) (p : PeerNo) → IsBest chains (Some p) → IsSome (chains p.0)
best_entered chains p best = ranked (chains p.0) best.0

some_is : (o : Option Chain) → IsSome o → o ≡ Some (unwrap_or o [])
some_is None some = cc some
some_is (Some own) some = refl

pub best_is : (chains : Chains) (best : Option PeerNo) → IsBest chains best → IsBestChain chains (best_chain chains best)
best_is chains None best = inr (best, refl)
best_is chains (Some p) best = inl (p, best, some_is (chains p.0) (best_entered chains p best))

pub hash_top : (own : Chain) (h : ℕ) → h ≡ length own → hash_at own h ≡ tip_hash own
hash_top own h is =
    let none : length own - h ≡ 0 = omega (arith, is) in
    ap (λ (n : ℕ). tip_hash (drop n own)) none

-- ---- the history

-- the hash at a height is that of the header there
pub hash_of_next : (own : Chain) (i : ℕ) (d : Header) → i < length own → hash_at own (i + 1) ≡ block_hash_of (get_or (reverse own) i d)
hash_of_next own i d lt =
    let xs = reverse own in
    let x = get_or xs i d in
    let lt2 : i < length xs = omega (arith, lt, length-reverse own) in
    let low : lower (i + 1) own ≡ reverse (take (i + 1) xs) = ap (lower (i + 1)) (sym (reverse-reverse own)) ∙ lower_reverse (i + 1) xs in
    ap tip_hash (low ∙ ap reverse (take_at_read xs i d lt2).1 ∙ reverse-append (take i xs) (x ∷ []))

-- the extracts of the blocks at and above a height, of which the first is told
pub told_more : (table : ExtractTable) (own : Chain) (i : ℕ) (hash : Hash) (d : Header) → i < length own → hash ≡ hash_at own (i + 1)
    → placed_by table (i + 1) (drop i (reverse own)) ≡ placed_one (i + 1) (table hash) ++ placed_by table (i + 1 + 1) (drop (i + 1) (reverse own))
told_more table own i hash d lt is =
    let xs = reverse own in
    let x = get_or xs i d in
    let lt2 : i < length xs = omega (arith, lt, length-reverse own) in
    let up : suc (i + 1) ≡ i + 1 + 1 = omega arith in
    ap (placed_by table (i + 1)) (drop_more xs i d lt2)
    ∙ ap (λ (n : ℕ). placed_one (i + 1) (table (block_hash_of x)) ++ placed_by table n (drop (i + 1) xs)) up
    ∙ ap (λ (y : Hash). placed_one (i + 1) (table y) ++ placed_by table (i + 1 + 1) (drop (i + 1) xs)) (sym (is ∙ hash_of_next own i d lt))

fold_append : {A B : Type 0} (f : A → B → A) (a : A) (xs ys : List B) → fold f a (xs ++ ys) ≡ fold f (fold f a xs) ys
fold_append f a [] ys = refl
fold_append f a (x ∷ xs) ys = fold_append f (f a x) xs ys

-- a step of the history
pub told_step : (table : ExtractTable) (own : Chain) (i : ℕ) (hash : Hash) (before next whole : Scanned) (d : Header) → i < length own → hash ≡ hash_at own (i + 1)
    → next ≡ fold after_placed before (placed_one (i + 1) (table hash))
    → fold after_placed before (placed_by table (i + 1) (drop i (reverse own))) ≡ whole
    → fold after_placed next (placed_by table (i + 1 + 1) (drop (i + 1) (reverse own))) ≡ whole
told_step table own i hash before next whole d lt is more left =
    ap (λ (s : Scanned). fold after_placed s (placed_by table (i + 1 + 1) (drop (i + 1) (reverse own)))) more
    ∙ sym (fold_append after_placed before (placed_one (i + 1) (table hash)) (placed_by table (i + 1 + 1) (drop (i + 1) (reverse own))))
    ∙ ap (fold after_placed before) (sym (told_more table own i hash d lt is))
    ∙ left

none_left : {A : Type 0} (xs : List A) → length xs ≡ 0 → xs ≡ []
none_left [] e = refl
none_left (x ∷ xs) e = absurd (omega (arith, e))

pub told_all : (table : ExtractTable) (own : Chain) (i : ℕ) (s whole : Scanned) → length own ≤ i
    → fold after_placed s (placed_by table (i + 1) (drop i (reverse own))) ≡ whole → s ≡ whole
told_all table own i s whole past left =
    let none : length (drop i (reverse own)) ≡ 0 = omega (arith, past, length-drop i (reverse own), length-reverse own) in
    sym (ap (λ (xs : List Header). fold after_placed s (placed_by table (i + 1) xs)) (none_left (drop i (reverse own)) none)) ∙ left

-- ---- a chain that goes along blocks

in_at : (xs : List Hash32) (i : ℕ) (d : Hash32) → i < length xs → IsIn (get_or xs i d).0 (blocks_of xs)
in_at [] i d lt = absurd (omega (arith, lt))
in_at (x ∷ xs) zero d lt = inl refl
in_at (x ∷ xs) (suc i) d lt = inr (in_at xs i d (omega (arith, lt)))

pub along_more : (own : Chain) (from height : ℕ) (blocks : List Hash32) (i : ℕ) (d : Hash32) → i < length blocks → hash_at own (height + 1) ≡ (get_or blocks i d).0
    → AreAmong own from height blocks → AreAmong own from (height + 1) blocks
along_more own from height blocks i d lt next along h up low = elim (cases_lt height h) [
  | inl here ↦ (
      let at : h ≡ height + 1 = omega (arith, here, low) in
      subst (λ (x : Hash). IsIn x (blocks_of blocks)) (sym (ap (hash_at own) at ∙ next)) (in_at blocks i d lt)
      )
  | inr below ↦ along h up below
]
