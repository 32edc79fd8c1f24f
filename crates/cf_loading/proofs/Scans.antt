-- The blocks that a walk gives are scanned one by one.
use Rattle.std.proofs.Common.{◌≡◌, ℕ, suc, ◌+◌, ◌-◌, ◌<◌, List, [], ◌∷◌, ◌++◌, length, sym, ◌∙◌, ap, arith, length-append}
use Rattle.std.specs.Prelude.{fold}
use Rattle.cf_block.specs.declared.tx.Block.{Block}
use Rattle.cf_chain.specs.Good.{headers_of}
use Rattle.cf_headers.specs.Chain.{tip_hash}
use Rattle.cf_walk.specs.declared.walk.Walk.{Walk}
use Rattle.cf_walk.specs.Judging.{StandsOn}
use Rattle.cf_scan.specs.Scan.{Scanned, unscanned}
use Rattle.cf_scan.specs.Extracts.{after_placed, extracts_of, placed_from}
use Rattle.cf_scan.specs.Extract.{extract_of}
use Rattle.cf_scan.specs.HistoryText.{history_text}
use Rattle.cf_scan.proofs.HistoryLaws.{history_is_scan}
use Rattle.cf_loading.specs.Scanning.{scan_text}

-- a number of blocks that stand fits
pub few_blocks : (w : Walk) (blocks : List Block) → StandsOn w.judge blocks → length blocks < 4294967296
few_blocks w blocks s = omega (arith, s.good.height)

-- one block more
placed_more : (watch : List (List ℕ)) (height : ℕ) (s : Scanned) (blocks : List Block) (b : Block) (n : ℕ) → n ≡ height + length blocks
    → fold after_placed s (placed_from height (blocks ++ b ∷ []) watch) ≡ after_placed (fold after_placed s (placed_from height blocks watch)) (record { height = n; extract = extract_of b watch })
placed_more watch height s [] b n is =
    let same : height ≡ n = omega (arith, is) in λ i. after_placed s (record { height = same i; extract = extract_of b watch })
placed_more watch height s (x ∷ xs) b n is = placed_more watch (suc height) (after_placed s (record { height = height; extract = extract_of x watch })) xs b n (omega (arith, is))

pub scanned_more : (watch : List (List ℕ)) (ledger more : Scanned) (blocks : List Block) (b : Block) → ledger ≡ fold after_placed unscanned (extracts_of blocks watch)
    → more ≡ after_placed ledger (record { height = length (blocks ++ b ∷ []); extract = extract_of b watch }) → more ≡ fold after_placed unscanned (extracts_of (blocks ++ b ∷ []) watch)
scanned_more watch ledger more blocks b so_far is =
    is ∙ ap (λ (s : Scanned). after_placed s (record { height = length (blocks ++ b ∷ []); extract = extract_of b watch })) so_far
    ∙ sym (placed_more watch 1 unscanned blocks b (length (blocks ++ b ∷ [])) (omega (arith, length-append blocks (b ∷ []))))

-- the text at the end
pub text_so : (watch : List (List ℕ)) (ledger : Scanned) (blocks : List Block) (height : ℕ) (tip text : List ℕ) → ledger ≡ fold after_placed unscanned (extracts_of blocks watch)
    → height ≡ length blocks → tip ≡ tip_hash (headers_of blocks) → text ≡ history_text ledger.entries height tip → text ≡ scan_text watch blocks
text_so watch ledger blocks height tip text so_far many last is =
    is ∙ ap (λ n. history_text ledger.entries n tip) many ∙ ap (λ hash. history_text ledger.entries (length blocks) hash) last
    ∙ ap (λ entries. history_text entries (length blocks) (tip_hash (headers_of blocks))) (ap (λ (s : Scanned). s.entries) so_far ∙ history_is_scan blocks watch)
