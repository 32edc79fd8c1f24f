-- The balance of a scan is the sum of the watched coins.
use Rattle.std.proofs.Common.{◌≡◌, ℕ, ◌≤◌, suc, Bool, true, false, not, List, [], ◌∷◌, ◌++◌, length, refl, sym, ◌∙◌, ap, append-nil, length-append, Some, None, arith}
use Rattle.std.specs.Prelude.{fold, ◌||◌, ◌==◌, if◌then◌else◌}
use Rattle.std.specs.Option.{option_to_list}
use Rattle.std.specs.FinMap.{get, remove}
use Rattle.std.proofs.lemmas.Bool.Decides.{nat_tests}
use Rattle.cf_block.specs.declared.tx.OutPoint.{OutPoint}
use Rattle.cf_block.specs.declared.tx.Tx.{Tx}
use Rattle.cf_block.specs.declared.tx.Block.{Block}
use Rattle.cf_block.specs.Outpoint.{spends_of}
use Rattle.cf_block.specs.Tx.{txid_of}
use Rattle.cf_scan.specs.declared.history.Entry.{Entry}
use Rattle.cf_scan.specs.Coins.{WatchedMap, total}
use Rattle.cf_scan.specs.Scan.{Scanned, unscanned, take_one, take_out, watched_after, touches, entry_of, after_change, made_from, after_tx, scan_from, scan_of, watched_coins, balance_of}
use Rattle.cf_block.proofs.Outpoints.{outpoint_total, outpoint_same}
use Rattle.cf_scan.proofs.Totals.{remove_absent, sum_of-empty}

taken_more : (values : List ℕ) (coins : WatchedMap) (ps : List OutPoint) → length values ≤ length (fold take_one (values, coins) ps).0
taken_more values coins [] = omega arith
taken_more values coins (p ∷ ps) =
    let rest : length (values ++ option_to_list (get coins p)) ≤ length (fold take_one (values ++ option_to_list (get coins p), remove coins p) ps).0 =
    taken_more (values ++ option_to_list (get coins p)) (remove coins p) ps in
    omega (arith, rest, length-append values (option_to_list (get coins p)))

-- where no value is taken out all coins stay
none_taken : (values : List ℕ) (coins : WatchedMap) (ps : List OutPoint) → length (fold take_one (values, coins) ps).0 ≡ length values → (fold take_one (values, coins) ps).1 ≡ coins
none_taken values coins [] h = refl
none_taken values coins (p ∷ ps) h =
    elim (get coins p) as (λ x. get coins p ≡ x → length (fold take_one (values ++ option_to_list x, remove coins p) ps).0 ≡ length values
    → (fold take_one (values ++ option_to_list x, remove coins p) ps).1 ≡ coins) [
      | None ↦ λ is same. none_taken (values ++ []) (remove coins p) ps (same ∙ ap length (sym (append-nil values))) ∙ remove_absent outpoint_total outpoint_same coins p is
      | Some v ↦ λ is same.
          let more : length (values ++ v ∷ []) ≤ length (fold take_one (values ++ v ∷ [], remove coins p) ps).0 = taken_more (values ++ v ∷ []) (remove coins p) ps in
          absurd (omega (arith, same, more, length-append values (v ∷ [])))
    ] refl h

none_left : (b : Bool) → not b ≡ false → b ≡ true
none_left true h = refl
none_left false h = cc

both_false : (a b : Bool) → (a || b) ≡ false → (a ≡ false) × (b ≡ false)
both_false false b h = (refl, h)
both_false true b h = (h, cc)

is_zero : (a : ℕ) → (a == 0) ≡ true → a ≡ 0
is_zero a h = grind (arith, nat_tests)

neither : (a b : ℕ) → (not (a == 0) || not (b == 0)) ≡ false → (a ≡ 0) × (b ≡ 0)
neither a b h =
    let both = both_false (not (a == 0)) (not (b == 0)) h in
    (is_zero a (none_left (a == 0) both.0), is_zero b (none_left (b == 0) both.1))

-- a transaction that takes nothing out and puts nothing in leaves the coins as they are
untouched : (coins : WatchedMap) (spends : List OutPoint) (made : List (OutPoint × ℕ)) → touches coins spends made ≡ false → watched_after coins spends made ≡ coins
unfolding touches watched_after take_out
untouched coins spends [] h = none_taken [] coins spends (neither (length (fold take_one ([], coins) spends).0) 0 h).0
untouched coins spends (c ∷ made) h =
    let some : length (c ∷ made) ≡ 0 = (neither (length (fold take_one ([], coins) spends).0) (length (c ∷ made)) h).1 in
    absurd (omega (arith, some))

balance_more : (es : List Entry) (e : Entry) → balance_of (es ++ e ∷ []) ≡ e.balance
balance_more [] e = refl
balance_more (x ∷ []) e = refl
balance_more (x ∷ y ∷ ys) e = balance_more (y ∷ ys) e

abbrev IsBalanced : Scanned → Type 0
IsBalanced s = balance_of s.entries ≡ total s.coins

balanced_change : (height : ℕ) (s : Scanned) (txid : List ℕ) (spends : List OutPoint) (made : List (OutPoint × ℕ))
    → IsBalanced s → IsBalanced (after_change height s txid spends made)
unfolding after_change entry_of
balanced_change height s txid spends made h =
    elim (touches s.coins spends made) as (λ b. touches s.coins spends made ≡ b
    → balance_of (s.entries ++ (if b then entry_of height txid s.coins spends made ∷ [] else [])) ≡ total (watched_after s.coins spends made)) [
      | true ↦ λ is. balance_more s.entries (entry_of height txid s.coins spends made)
      | false ↦ λ is. ap balance_of (append-nil s.entries) ∙ h ∙ ap total (sym (untouched s.coins spends made is))
    ] refl

balanced_txs : (watch : List (List ℕ)) (height : ℕ) (s : Scanned) (ts : List Tx) → IsBalanced s → IsBalanced (fold (after_tx watch height) s ts)
balanced_txs watch height s [] h = h
balanced_txs watch height s (t ∷ ts) h =
    balanced_txs watch height (after_tx watch height s t) ts (balanced_change height s (txid_of t) (spends_of t) (made_from 0 (txid_of t) watch t.outputs) h)

balanced_scan : (height : ℕ) (watch : List (List ℕ)) (s : Scanned) (blocks : List Block) → IsBalanced s → IsBalanced (scan_from height watch s blocks)
balanced_scan height watch s [] h = h
balanced_scan height watch s (b ∷ bs) h =
    balanced_scan (suc height) watch (fold (after_tx watch height) s b.txs) bs (balanced_txs watch height s b.txs h)

pub balance_is_total : (blocks : List Block) (watch : List (List ℕ)) → balance_of (scan_of blocks watch) ≡ total (watched_coins blocks watch)
balance_is_total blocks watch = balanced_scan 1 watch unscanned blocks (sym (sum_of-empty outpoint_total))
