-- Making a chain, a block at a time.
use Rattle.std.proofs.Common.{◌≡◌, ℕ, suc, ◌+◌, ◌-◌, ◌<◌, ◌≤◌, true, false, nat_lt, List, [], ◌∷◌, ◌++◌, length, get_or, refl, sym, ◌∙◌, ap, subst, append_assoc, arith}
use Rattle.std.proofs.lemmas.Bool.{ltb-true, ltb-false}
use Rattle.std.proofs.lemmas.List.{length-append}
use Rattle.std.specs.Prelude.{pos, map, ◌*◌}
use Rattle.cf_bytes.specs.declared.hash.Hash32.{Hash32}
use Rattle.cf_block.specs.declared.header.Header.{Header}
use Rattle.cf_block.specs.declared.tx.Tx.{Tx}
use Rattle.cf_block.specs.Tx.{tx_spelling}
use Rattle.cf_block.specs.Merkle.{merkle_root_of, txids}
use Rattle.cf_block.specs.declared.tx.Block.{Block}
use Rattle.cf_make.specs.declared.tipped.Tip.{Tip}
use Rattle.cf_make.specs.Mined.{is_met, NoneMeets}
use Rattle.cf_make.specs.Made.{tip_of, genesis_tip, tip_after, made_header, max_tries, made_txs, IsMadeBlock, AreMade, IsExtension, StopsAt}

-- one nonce more
pub none_more : (h : Header) (n : ℕ) → NoneMeets h n → is_met h n ≡ false → NoneMeets h (n + 1)
none_more h n none not k lt =
    elim (nat_lt k n) as (λ b. nat_lt k n ≡ b → is_met h k ≡ false) [
      | true ↦ λ e. none k (ltb-true k n e)
      | false ↦ λ e. let is : k ≡ n = omega (arith, lt, ltb-false k n e) in ap (is_met h) is ∙ not
    ] refl

pub last_tip : (t : Tip) (xs : List Block) (d : Block) → 1 ≤ length xs → tip_after t xs ≡ tip_of (get_or xs (length xs - 1) d)
last_tip t [] d h = absurd (omega (arith, h))
last_tip t (x ∷ []) d h = refl
last_tip t (x ∷ y ∷ ys) d h =
    let e : suc (length (y ∷ ys) - 1) ≡ length (x ∷ y ∷ ys) - 1 = omega arith in
    last_tip (tip_of x) (y ∷ ys) d (omega arith) ∙ ap (λ (i : ℕ). tip_of (get_or (x ∷ y ∷ ys) i d)) e

pub tip_append : (t : Tip) (xs ys : List Block) → tip_after t (xs ++ ys) ≡ tip_after (tip_after t xs) ys
tip_append t [] ys = refl
tip_append t (x ∷ xs) ys = tip_append (tip_of x) xs ys

-- one block more
made_more : (seed height : ℕ) (t : Tip) (xs : List Block) (b : Block) → AreMade seed height t xs → IsMadeBlock seed (height + length xs) (tip_after t xs) b → AreMade seed height t (xs ++ b ∷ [])
made_more seed height t [] b all one = let e : height + 0 ≡ height = omega arith in (subst (λ (k : ℕ). IsMadeBlock seed k t b) e one, tt)
made_more seed height t (x ∷ xs) b all one =
    let e : height + suc (length xs) ≡ suc height + length xs = omega arith in
    (all.0, made_more seed (suc height) (tip_of x) xs b all.1 (subst (λ (k : ℕ). IsMadeBlock seed k (tip_after (tip_of x) xs) b) e one))

pub one_more : (base whole : List Block) (seed i height : ℕ) (t : Tip) (b : Block) → IsExtension base seed i whole → height ≡ length base + i → t ≡ tip_after genesis_tip whole
    → IsMadeBlock seed (height + 1) t b → IsExtension base seed (i + 1) (whole ++ b ∷ [])
one_more base whole seed i height t b e at tip one =
    let above : t ≡ tip_after (tip_after genesis_tip base) e.more = tip ∙ ap (tip_after genesis_tip) e.joined ∙ tip_append genesis_tip base e.more in
    let k : height + 1 ≡ suc (length base) + length e.more = omega (arith, at, e.count) in
    let made : IsMadeBlock seed (suc (length base) + length e.more) (tip_after (tip_after genesis_tip base) e.more) b =
    subst (λ (u : Tip). IsMadeBlock seed (suc (length base) + length e.more) u b) above (subst (λ (n : ℕ). IsMadeBlock seed n t b) k one) in
    record {
      more = e.more ++ b ∷ [];
      joined = ap (λ (s : List Block). s ++ b ∷ []) e.joined ∙ append_assoc base e.more (b ∷ []);
      count = let n : length (e.more ++ b ∷ []) ≡ length e.more + 1 = length-append e.more (b ∷ []) in omega (arith, n, e.count);
      made = made_more seed (suc (length base)) (tip_after genesis_tip base) e.more b e.made made;
    }

-- the blocks so far, and no nonce for the next
pub stops : (base whole : List Block) (seed i n height h : ℕ) (t : Tip) → IsExtension base seed i whole → i < n → height ≡ length base + i → t ≡ tip_after genesis_tip whole
    → h ≡ height + 1 → NoneMeets (made_header seed (height + 1) t) max_tries → StopsAt base seed n h
stops base whole seed i n height h t e lt at tip is none =
    let above : t ≡ tip_after genesis_tip (base ++ e.more) = tip ∙ ap (tip_after genesis_tip) e.joined in
    let unmined : NoneMeets (made_header seed h (tip_after genesis_tip (base ++ e.more))) max_tries =
    subst (λ (u : Tip). NoneMeets (made_header seed h u) max_tries) above (subst (λ (k : ℕ). NoneMeets (made_header seed k t) max_tries) (sym is) none) in
    record {
      below = e.more;
      extends = record { more = e.more; joined = refl; count = refl; made = e.made };
      at = omega (arith, is, at, e.count);
      within = omega (arith, lt, e.count);
      unmined = unmined;
    }

-- the header that the code fills in
pub header_is : (seed height : ℕ) (t : Tip) (root : Hash32) (txs : List Tx) → txs ≡ made_txs seed height t.coin → root.0 ≡ merkle_root_of (txids (map tx_spelling txs))
    → record { version = pos 4; previous = t.hash; root = root; time = 1296688602 + 600 * height; bits = 0x207fffff; nonce = 0 } ≡ made_header seed height t
unfolding made_header
header_is seed height t root txs is e =
    let r : root.0 ≡ merkle_root_of (txids (map tx_spelling (made_txs seed height t.coin))) = e ∙ ap (λ (l : List Tx). merkle_root_of (txids (map tx_spelling l))) is in
    λ i. record { version = pos 4; previous = t.hash; root = record { 0 = r i }; time = 1296688602 + 600 * height; bits = 0x207fffff; nonce = 0 }
