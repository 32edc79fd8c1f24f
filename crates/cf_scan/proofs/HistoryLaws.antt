-- The history of extracts is the plain scan of their blocks, and idle blocks may be left out.
use Rattle.std.proofs.Common.{◌≡◌, ℕ, ◌+◌, ◌<◌, suc, Bool, true, false, not, cond, List, [], ◌∷◌, ◌++◌, length, get_or, take, map, refl, sym, ◌∙◌, ap, append-nil, None, arith}
use Rattle.std.specs.Prelude.{fold, filter, ◌||◌, ◌==◌, if◌then◌else◌}
use Rattle.std.specs.Option.{option_to_list}
use Rattle.std.specs.List.{AllByRecursion}
use Rattle.std.specs.FinMap.{get}
use Rattle.cf_block.specs.declared.tx.OutPoint.{OutPoint}
use Rattle.cf_block.specs.declared.tx.Tx.{Tx}
use Rattle.cf_block.specs.declared.tx.Block.{Block}
use Rattle.cf_block.specs.Output.{Output}
use Rattle.cf_block.specs.Outpoint.{outpoint, spends_of}
use Rattle.cf_block.specs.Tx.{txid_of}
use Rattle.cf_scan.specs.Coins.{WatchedMap}
use Rattle.cf_scan.specs.Watching.{is_watched}
use Rattle.cf_scan.specs.Scan.{Scanned, unscanned, Taking, take_one, take_out, put_one, watched_after, touches, entry_of, after_change, made_from, after_tx, scan_from, scan_of}
use Rattle.cf_scan.specs.Extracts.{placed_from, extracts_of, coin_of, after_extract, after_placed, history_of}
use Rattle.cf_scan.specs.Extract.{pays_from, tx_extract_of, extract_of}
use Rattle.cf_scan.specs.Idle.{IsIdleTx, IsIdle, LeavesOutIdle}
use Rattle.cf_block.proofs.Outpoints.{outpoint_total, outpoint_same}
use Rattle.cf_scan.proofs.Totals.{remove_absent}

-- the outputs that are kept are the coins that are made
coins_made : (i : ℕ) (txid : List ℕ) (watch : List (List ℕ)) (os : List Output) → map (coin_of txid) (pays_from i watch os) ≡ made_from i txid watch os
coins_made i txid watch [] = refl
coins_made i txid watch (o ∷ os) =
    elim (is_watched watch o.script) as (λ b.
    map (coin_of txid) ((if b then record { index = i; output = o } ∷ [] else []) ++ pays_from (suc i) watch os)
    ≡ (if b then (outpoint txid i, o.value) ∷ [] else []) ++ made_from (suc i) txid watch os) [
      | true ↦ ap (λ rest. (outpoint txid i, o.value) ∷ rest) (coins_made (suc i) txid watch os)
      | false ↦ coins_made (suc i) txid watch os
    ]

-- what is kept of a transaction does what the transaction does
extract_tx : (watch : List (List ℕ)) (height : ℕ) (s : Scanned) (t : Tx) → after_extract height s (tx_extract_of watch t) ≡ after_tx watch height s t
unfolding after_extract
extract_tx watch height s t = ap (after_change height s (txid_of t) (spends_of t)) (coins_made 0 (txid_of t) watch t.outputs)

extract_txs : (watch : List (List ℕ)) (height : ℕ) (s : Scanned) (ts : List Tx)
    → fold (after_extract height) s (map (tx_extract_of watch) ts) ≡ fold (after_tx watch height) s ts
extract_txs watch height s [] = refl
extract_txs watch height s (t ∷ ts) =
    ap (λ n. fold (after_extract height) n (map (tx_extract_of watch) ts)) (extract_tx watch height s t)
    ∙ extract_txs watch height (after_tx watch height s t) ts

pub extract_block : (watch : List (List ℕ)) (height : ℕ) (s : Scanned) (b : Block)
    → after_placed s (record { height = height; extract = extract_of b watch }) ≡ fold (after_tx watch height) s b.txs
unfolding after_placed
extract_block watch height s b = extract_txs watch height s b.txs

scan_by_extracts : (watch : List (List ℕ)) (height : ℕ) (s : Scanned) (blocks : List Block)
    → fold after_placed s (placed_from height blocks watch) ≡ scan_from height watch s blocks
scan_by_extracts watch height s [] = refl
scan_by_extracts watch height s (b ∷ bs) =
    ap (λ n. fold after_placed n (placed_from (suc height) bs watch)) (extract_block watch height s b)
    ∙ scan_by_extracts watch (suc height) (fold (after_tx watch height) s b.txs) bs

pub history_is_scan : (blocks : List Block) (watch : List (List ℕ)) → history_of (extracts_of blocks watch) ≡ scan_of blocks watch
history_is_scan blocks watch = ap (λ s. s.entries) (scan_by_extracts watch 1 unscanned blocks)

-- what names no coin takes none out
takes_none : (values : List ℕ) (coins : WatchedMap) (ps : List OutPoint) → AllByRecursion (λ p. get coins p ≡ None) ps → fold take_one (values, coins) ps ≡ (values, coins)
takes_none values coins [] h = refl
takes_none values coins (p ∷ ps) h =
    ap (λ (t : Taking). fold take_one t ps) (λ i. ((ap (λ o. values ++ option_to_list o) h.0 ∙ append-nil values) i, remove_absent outpoint_total outpoint_same coins p h.0 i))
    ∙ takes_none values coins ps h.1

-- outputs to other scripts make no coin
pub makes_none : (i : ℕ) (txid : List ℕ) (watch : List (List ℕ)) (os : List Output) → AllByRecursion (λ o. is_watched watch o.script ≡ false) os → made_from i txid watch os ≡ []
makes_none i txid watch [] h = refl
makes_none i txid watch (o ∷ os) h =
    ap (λ b. (if b then (outpoint txid i, o.value) ∷ [] else []) ++ made_from (suc i) txid watch os) h.0 ∙ makes_none (suc i) txid watch os h.1

pub idle_change : (height : ℕ) (s : Scanned) (txid : List ℕ) (spends : List OutPoint) (made : List (OutPoint × ℕ))
    → AllByRecursion (λ p. get s.coins p ≡ None) spends → made ≡ [] → after_change height s txid spends made ≡ s
unfolding after_change touches watched_after take_out
idle_change height s txid spends made names makes =
    let none : fold take_one ([], s.coins) spends ≡ ([], s.coins) = takes_none [] s.coins spends names in
    let untouched : touches s.coins spends made ≡ false = λ i. not (length (none i).0 == 0) || not (length (makes i) == 0) in
    let stay : watched_after s.coins spends made ≡ s.coins = λ i. fold put_one (none i).1 (makes i) in
    let entries : s.entries ++ (if touches s.coins spends made then entry_of height txid s.coins spends made ∷ [] else []) ≡ s.entries =
    ap (λ b. s.entries ++ (if b then entry_of height txid s.coins spends made ∷ [] else [])) untouched ∙ append-nil s.entries in
    λ i. record { entries = entries i; coins = stay i }

idle_txs : (watch : List (List ℕ)) (height : ℕ) (s : Scanned) (ts : List Tx) → AllByRecursion (IsIdleTx s.coins watch) ts → fold (after_tx watch height) s ts ≡ s
idle_txs watch height s [] h = refl
idle_txs watch height s (t ∷ ts) h =
    ap (λ n. fold (after_tx watch height) n ts) (idle_change height s (txid_of t) (spends_of t) _ h.0.spends (makes_none 0 (txid_of t) watch t.outputs h.0.pays))
    ∙ idle_txs watch height s ts h.1

-- each block from this height on whose height isn't kept is idle
abbrev LeavesOut : (ℕ → Bool) → ℕ → Scanned → List Block → List (List ℕ) → Type 0
LeavesOut keep height s blocks watch =
    (k : ℕ) (d : Block) → k < length blocks → keep (height + k) ≡ false → IsIdle (scan_from height watch s (take k blocks)).coins watch (get_or blocks k d)

left_out : (keep : ℕ → Bool) (height : ℕ) (s : Scanned) (blocks : List Block) (watch : List (List ℕ)) → LeavesOut keep height s blocks watch
    → fold after_placed s (filter (λ p. keep p.height) (placed_from height blocks watch)) ≡ scan_from height watch s blocks
left_out keep height s [] watch h = refl
left_out keep height s (b ∷ bs) watch h =
    let rest : fold after_placed (fold (after_tx watch height) s b.txs) (filter (λ p. keep p.height) (placed_from (suc height) bs watch))
    ≡ scan_from (suc height) watch (fold (after_tx watch height) s b.txs) bs =
    left_out keep (suc height) (fold (after_tx watch height) s b.txs) bs watch (λ k d lt unkept. h (suc k) d (omega arith) (ap keep (omega arith) ∙ unkept)) in
    elim (keep height) as (λ k. (k ≡ false → IsIdle s.coins watch b)
    → fold after_placed s (cond k (record { height = height; extract = extract_of b watch } ∷ filter (λ p. keep p.height) (placed_from (suc height) bs watch)) (filter (λ p. keep p.height) (placed_from (suc height) bs watch)))
    ≡ scan_from (suc height) watch (fold (after_tx watch height) s b.txs) bs) [
      | true ↦ λ idle. ap (λ n. fold after_placed n (filter (λ p. keep p.height) (placed_from (suc height) bs watch))) (extract_block watch height s b) ∙ rest
      | false ↦ λ idle.
          ap (λ n. fold after_placed n (filter (λ p. keep p.height) (placed_from (suc height) bs watch))) (sym (idle_txs watch height s b.txs (idle refl))) ∙ rest
    ] (λ unkept. h 0 b (omega arith) (ap keep (omega arith) ∙ unkept))

pub history_without_idle : (keep : ℕ → Bool) (blocks : List Block) (watch : List (List ℕ)) → LeavesOutIdle keep blocks watch
    → history_of (filter (λ p. keep p.height) (extracts_of blocks watch)) ≡ scan_of blocks watch
history_without_idle keep blocks watch h =
    ap (λ s. s.entries) (left_out keep 1 unscanned blocks watch (λ k d lt unkept. h k d lt (ap keep (omega arith) ∙ unkept)))
