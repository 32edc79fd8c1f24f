-- Filters whose headers aren't known, beside those of the whole chain.
use Rattle.std.proofs.Common.{◌≡◌, ℕ, zero, suc, ◌+◌, ◌<◌, ◌≤◌, List, [], ◌∷◌, map, length, take, drop, sym, ◌∙◌, ap, add-one, arith}
use Rattle.std.proofs.lemmas.List.{drop_all}
use Rattle.std.specs.FinMap.{empty}
use Rattle.std.specs.List.{AllZip, range_with_len}
use Rattle.cf_block.specs.declared.tx.Block.{Block}
use Rattle.cf_chain.specs.Coins.{CoinMap, after_block, coins_after}
use Rattle.cf_chain.specs.Filters.{Filtered, filtered, filtered_on}
use Rattle.cf_index.specs.declared.block_filter.BareFilter.{BareFilter}
use Rattle.cf_index.specs.Bare.{IsBare, IsBareAt}
use Rattle.cf_index.specs.Checked.{prevouts_in}
use Rattle.cf_index.proofs.Walking.{took_at, block_more, coins_step}

-- a part of them that doesn't depend on the header before
module _ (p : BareFilter → List ℕ) (q : Filtered → List ℕ)
    (same : (scripts : List (List ℕ)) (b : Block) (f : BareFilter) (previous : List ℕ) → IsBare scripts b f → p f ≡ q (filtered scripts previous b)) where
  pub bare_from : (blocks : List Block) (spent : List (List (List ℕ))) (previous : List ℕ) (i n : ℕ) (rest : List BareFilter)
      → spent ≡ prevouts_in empty blocks → i + n ≡ length blocks → AllZip (IsBareAt blocks spent) (range_with_len i n) rest
      → map p rest ≡ map q (filtered_on (coins_after empty (take i blocks)) previous (drop i blocks))
  bare_from blocks spent previous i zero [] taken all h =
      let past : length blocks ≤ i = omega (arith, all) in
      let coins : CoinMap = coins_after empty (take i blocks) in
      ap (λ (l : List Block). map q (filtered_on coins previous l)) (sym (drop_all i blocks past))
  bare_from blocks spent previous i zero (f ∷ rest) taken all h = absurd h
  bare_from blocks spent previous i (suc n) [] taken all h = absurd h
  bare_from blocks spent previous i (suc n) (f ∷ rest) taken all h =
      let r = h.0 in
      let b = r.0 in
      let scripts = r.1 in
      let lt : i < length blocks = omega (arith, all) in
      let coins : CoinMap = coins_after empty (take i blocks) in
      let took = took_at blocks spent i b b scripts scripts lt taken r.2 r.3 in
      let next : Filtered = filtered scripts previous b in
      let one : p f ≡ q next = same scripts b f previous r.4 in
      let left : (i + 1) + n ≡ length blocks = omega (arith, all) in
      let after : coins_after empty (take (i + 1) blocks) ≡ after_block coins b =
      ap (λ (k : ℕ). coins_after empty (take k blocks)) (add-one i) ∙ coins_step empty blocks i b lt ∙ ap (after_block coins) (sym r.2) in
      let others = bare_from blocks spent next.header (i + 1) n rest taken left h.1 in
      ap (λ (l : List (List ℕ)). p f ∷ l) (others ∙ ap (λ (m : CoinMap). map q (filtered_on m next.header (drop (i + 1) blocks))) after)
      ∙ ap (λ (x : List ℕ). x ∷ map q (filtered_on (after_block coins b) next.header (drop (i + 1) blocks))) one
      ∙ ap (λ (l : List (List ℕ)). q (filtered l previous b) ∷ map q (filtered_on (after_block coins b) (filtered l previous b).header (drop (i + 1) blocks))) took
      ∙ ap (λ (l : List Block). map q (filtered_on coins previous l)) (sym (block_more blocks i b b lt r.2))
