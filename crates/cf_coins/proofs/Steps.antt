-- The check of transactions, a step at a time, and what it says.
use Rattle.std.proofs.Common.{◌≡◌, ℕ, suc, ◌+◌, ◌<◌, true, false, List, [], ◌∷◌, ◌++◌, length, get_or, drop, refl, sym, ◌∙◌, ap, subst, arith, add-one, Option, Some, None, Result, Ok, Err}
use Rattle.std.specs.Prelude.{fold, is_some, IsTrue, not, ◌||◌, if◌then◌else◌}
use Rattle.std.specs.List.{list_any}
use Rattle.std.proofs.Math.Seq.{drop-cons}
use Rattle.std.proofs.lemmas.List.{append_assoc, map-append}
use Rattle.std.specs.FinMap.{get, insert, remove}
use Rattle.cf_bytes.specs.Cut.{◌>>=◌}
use Rattle.cf_bytes.specs.declared.memory.Refused.{Refused}
use Rattle.cf_bytes.specs.declared.memory.Refused.TheVariants.{No, NoMemory}
use Rattle.cf_block.specs.declared.tx.OutPoint.{OutPoint}
use Rattle.cf_block.specs.declared.tx.Tx.{Tx}
use Rattle.cf_block.specs.Output.{Output}
use Rattle.cf_block.specs.Outpoint.{outpoint, spends_of}
use Rattle.cf_block.specs.Commitment.{is_coinbase_tx}
use Rattle.cf_block.specs.Tx.{txid_of}
use Rattle.cf_chain.specs.Coins.{CoinMap, without, with_outputs, after_tx, spent_outputs as spent_of, spent_by}
use Rattle.cf_chain.specs.Good.{AllStand, NoneStands, IsGoodTx, AreGoodTxs, NoCoinbases, HasOneCoinbase}
use Rattle.cf_coins.specs.declared.fault.CoinFault.{CoinFault}
use Rattle.cf_coins.specs.declared.fault.CoinFault.TheVariants.{NoCoinbase, SecondCoinbase, Exists}
use Rattle.cf_coins.specs.Spending.{scripts_of, found, take_all, put_all, spend, spend_all, coinbase_fault, unless_fault, spend_txs, Refuses}

pub txs_more : (coins : CoinMap) (ts : List Tx) (i : ℕ) (d : Tx) → i < length ts
    → spend_all coins (drop i ts) ≡ (spend coins (get_or ts i d) >>= λ c. spend_all c (drop (i + 1) ts))
unfolding spend_all
txs_more coins ts i d lt = rw (add-one, drop-cons ts i d) refl

pub txs_done : (coins : CoinMap) (ts : List Tx) → length ts ≡ 0 → spend_all coins ts ≡ Ok coins
unfolding spend_all
txs_done coins [] is = refl
txs_done coins (t ∷ ts) is = absurd (omega arith)

pub txs_fault : (coins : CoinMap) (before : Result CoinMap CoinFault) (t d : Tx) (ts : List Tx) (i : ℕ) (e : Refused CoinFault) → before ≡ spend_all coins (drop i ts) → i < length ts → t ≡ get_or ts i d
    → Refuses (spend coins t) e → Refuses before e
txs_fault coins before t d ts i (No f) start lt is h = start ∙ txs_more coins ts i d lt ∙ ap (λ r. r >>= λ c. spend_all c (drop (i + 1) ts)) (ap (spend coins) (sym is) ∙ h)
txs_fault coins before t d ts i NoMemory start lt is h = tt

pub txs_next : (coins new : CoinMap) (t d : Tx) (ts : List Tx) (i : ℕ) → i < length ts → t ≡ get_or ts i d → spend coins t ≡ Ok new → spend_all coins (drop i ts) ≡ spend_all new (drop (i + 1) ts)
txs_next coins new t d ts i lt is h = txs_more coins ts i d lt ∙ ap (λ r. r >>= λ c. spend_all c (drop (i + 1) ts)) (ap (spend coins) (sym is) ∙ h)

-- ---- what the check says

takes : (coins : CoinMap) (ps : List OutPoint) → AllStand coins ps → take_all coins ps ≡ Ok (without coins ps)
takes coins [] h = refl
takes coins (p ∷ ps) h = at (get coins p) h.0 ∙ takes (remove coins p) ps h.1
  where
    at : (x : Option Output) → IsTrue (is_some x) → (found p x (remove coins p) >>= λ c. take_all c ps) ≡ take_all (remove coins p) ps
    at None h = cc
    at (Some o) h = refl

puts : (txid : List ℕ) (i : ℕ) (coins : CoinMap) (os : List Output) → NoneStands txid i coins os → put_all txid i coins os ≡ Ok (with_outputs txid i coins os)
puts txid i coins [] h = refl
puts txid i coins (o ∷ os) h =
    ap (λ x. if is_some x then Err (Exists (outpoint txid i)) else put_all txid (suc i) (insert coins (outpoint txid i) o) os) h.0
    ∙ puts txid (suc i) (insert coins (outpoint txid i) o) os h.1

spends : (coins : CoinMap) (t : Tx) → IsGoodTx coins t → spend coins t ≡ Ok (after_tx coins t)
unfolding spend
spends coins t h =
    ap (λ r. r >>= λ c. put_all (txid_of t) 0 c t.outputs) (takes coins (spends_of t) h.inputs) ∙ puts (txid_of t) 0 (without coins (spends_of t)) t.outputs h.fresh

spends_all : (coins : CoinMap) (ts : List Tx) → AreGoodTxs coins ts → spend_all coins ts ≡ Ok (fold after_tx coins ts)
unfolding spend_all
spends_all coins [] h = refl
spends_all coins (t ∷ ts) h = ap (λ r. r >>= λ c. spend_all c ts) (spends coins t h.0) ∙ spends_all (after_tx coins t) ts h.1

none_later : (ts : List Tx) → NoCoinbases ts → list_any is_coinbase_tx ts ≡ false
none_later [] h = refl
none_later (t ∷ ts) h = ap (λ b. b || list_any is_coinbase_tx ts) h.0 ∙ none_later ts h.1

one_coinbase : (b : List Tx) → HasOneCoinbase b → coinbase_fault b ≡ None
one_coinbase [] h = absurd h
one_coinbase (t ∷ ts) h =
    ap (λ x. if not x then Some NoCoinbase else if list_any is_coinbase_tx ts then Some SecondCoinbase else None) h.0
    ∙ ap (λ x. if x then Some SecondCoinbase else None) (none_later ts h.1)

pub passes : (coins : CoinMap) (b : List Tx) → HasOneCoinbase b → AreGoodTxs coins b → spend_txs coins b ≡ Ok (fold after_tx coins b)
unfolding spend_txs
passes coins b one good = ap (λ f. unless_fault f (spend_all coins b)) (one_coinbase b one) ∙ spends_all coins b good

-- and back
took : (coins new : CoinMap) (ps : List OutPoint) → take_all coins ps ≡ Ok new → AllStand coins ps × (new ≡ without coins ps)
took coins new [] h = (tt, cc)
took coins new (p ∷ ps) h =
    elim (get coins p) as (λ x. (found p x (remove coins p) >>= λ c. take_all c ps) ≡ Ok new → (IsTrue (is_some x) × AllStand (remove coins p) ps) × (new ≡ without (remove coins p) ps)) [
      | None ↦ λ h. cc
      | Some o ↦ λ h. let r = took (remove coins p) new ps h in ((refl, r.0), r.1)
    ] h

put_is : (txid : List ℕ) (i : ℕ) (coins new : CoinMap) (os : List Output) → put_all txid i coins os ≡ Ok new → NoneStands txid i coins os × (new ≡ with_outputs txid i coins os)
put_is txid i coins new [] h = (tt, cc)
put_is txid i coins new (o ∷ os) h =
    elim (get coins (outpoint txid i)) as (λ x. (if is_some x then Err (Exists (outpoint txid i)) else put_all txid (suc i) (insert coins (outpoint txid i) o) os) ≡ Ok new
    → ((x ≡ None) × NoneStands txid (suc i) (insert coins (outpoint txid i) o) os) × (new ≡ with_outputs txid (suc i) (insert coins (outpoint txid i) o) os)) [
      | None ↦ λ h. let r = put_is txid (suc i) (insert coins (outpoint txid i) o) new os h in ((refl, r.0), r.1)
      | Some x ↦ λ h. cc
    ] h

pub spend_gave : (coins new : CoinMap) (t : Tx) → spend coins t ≡ Ok new → IsGoodTx coins t × (new ≡ after_tx coins t)
unfolding spend
spend_gave coins new t h =
    elim (take_all coins (spends_of t)) as (λ r. take_all coins (spends_of t) ≡ r → (r >>= λ c. put_all (txid_of t) 0 c t.outputs) ≡ Ok new → IsGoodTx coins t × (new ≡ after_tx coins t)) [
      | Ok c ↦ λ e h.
          let a = took coins c (spends_of t) e in
          let b = put_is (txid_of t) 0 c new t.outputs h in
          let fresh : NoneStands (txid_of t) 0 (without coins (spends_of t)) t.outputs = subst (λ (m : CoinMap). NoneStands (txid_of t) 0 m t.outputs) a.1 b.0 in
          (record { inputs = a.0; fresh = fresh }, b.1 ∙ ap (λ (m : CoinMap). with_outputs (txid_of t) 0 m t.outputs) a.1)
      | Err f ↦ λ e h. cc
    ] refl h

pub spent_all : (coins new : CoinMap) (ts : List Tx) → spend_all coins ts ≡ Ok new → AreGoodTxs coins ts × (new ≡ fold after_tx coins ts)
unfolding spend_all
spent_all coins new [] h = (tt, cc)
spent_all coins new (t ∷ ts) h =
    elim (spend coins t) as (λ r. spend coins t ≡ r → (r >>= λ c. spend_all c ts) ≡ Ok new → AreGoodTxs coins (t ∷ ts) × (new ≡ fold after_tx coins (t ∷ ts))) [
      | Ok c ↦ λ e h.
          let a = spend_gave coins c t e in
          let b = spent_all c new ts h in
          let others : AreGoodTxs (after_tx coins t) ts = subst (λ (m : CoinMap). AreGoodTxs m ts) a.1 b.0 in
          ((a.0, others), b.1 ∙ ap (λ (m : CoinMap). fold after_tx m ts) a.1)
      | Err f ↦ λ e h. cc
    ] refl h

no_later : (ts : List Tx) → list_any is_coinbase_tx ts ≡ false → NoCoinbases ts
no_later [] h = tt
no_later (t ∷ ts) h =
    elim (is_coinbase_tx t) as (λ b. (b || list_any is_coinbase_tx ts) ≡ false → (b ≡ false) × NoCoinbases ts) [ true ↦ λ h. cc | false ↦ λ h. (refl, no_later ts h) ] h

one : (b : List Tx) → coinbase_fault b ≡ None → HasOneCoinbase b
one [] h = cc
one (t ∷ ts) h =
    let later = no_later ts in
    elim (is_coinbase_tx t) as (λ b. (if not b then Some NoCoinbase else if list_any is_coinbase_tx ts then Some SecondCoinbase else None) ≡ None → (b ≡ true) × NoCoinbases ts) [
      | true ↦ elim (list_any is_coinbase_tx ts) as (λ a. (a ≡ false → NoCoinbases ts) → (if a then Some SecondCoinbase else None) ≡ None → (true ≡ true) × NoCoinbases ts) [
        | true ↦ λ l h. cc
        | false ↦ λ l h. (refl, l refl)
      ] later
      | false ↦ λ h. cc
    ] h

pub good : (coins new : CoinMap) (b : List Tx) → spend_txs coins b ≡ Ok new → HasOneCoinbase b × AreGoodTxs coins b × (new ≡ fold after_tx coins b)
unfolding spend_txs
good coins new b h =
    elim (coinbase_fault b) as (λ f. coinbase_fault b ≡ f → unless_fault f (spend_all coins b) ≡ Ok new → HasOneCoinbase b × AreGoodTxs coins b × (new ≡ fold after_tx coins b)) [
      | None ↦ λ e h. let r = spent_all coins new b h in (one b e, r.0, r.1)
      | Some f ↦ λ e h. cc
    ] refl h

-- a transaction, by its two parts
pub spend_fault : (coins : CoinMap) (t : Tx) (e : Refused CoinFault) → Refuses (take_all coins (spends_of t)) e → Refuses (spend coins t) e
unfolding spend
spend_fault coins t (No f) h = ap (λ r. r >>= λ c. put_all (txid_of t) 0 c t.outputs) h
spend_fault coins t NoMemory h = tt

pub spend_is : (coins c : CoinMap) (t : Tx) → take_all coins (spends_of t) ≡ Ok c → spend coins t ≡ put_all (txid_of t) 0 c t.outputs
unfolding spend
spend_is coins c t h = ap (λ r. r >>= λ c. put_all (txid_of t) 0 c t.outputs) h

-- ---- what was spent

pub txs_spent : (front more all : List (List ℕ)) (coins new : CoinMap) (t d : Tx) (ts : List Tx) (i : ℕ) → i < length ts → t ≡ get_or ts i d → spend coins t ≡ Ok new
    → more ≡ front ++ scripts_of (spent_of coins (spends_of t))
    → front ++ scripts_of (spent_by coins (drop i ts)) ≡ all
    → more ++ scripts_of (spent_by new (drop (i + 1) ts)) ≡ all
txs_spent front more all coins new t d ts i lt is h e so_far =
    let step : spent_by coins (drop i ts) ≡ spent_of coins (spends_of (get_or ts i d)) ++ spent_by (after_tx coins (get_or ts i d)) (drop (i + 1) ts) = rw (add-one, drop-cons ts i d) refl in
    let same : spent_of coins (spends_of (get_or ts i d)) ++ spent_by (after_tx coins (get_or ts i d)) (drop (i + 1) ts) ≡ spent_of coins (spends_of t) ++ spent_by (after_tx coins t) (drop (i + 1) ts) =
    ap (λ (x : Tx). spent_of coins (spends_of x) ++ spent_by (after_tx coins x) (drop (i + 1) ts)) (sym is) in
    let after : spent_by new (drop (i + 1) ts) ≡ spent_by (after_tx coins t) (drop (i + 1) ts) = ap (λ (c : CoinMap). spent_by c (drop (i + 1) ts)) (spend_gave coins new t h).1 in
    let rest : List Output = spent_by (after_tx coins t) (drop (i + 1) ts) in
    ap (λ l. l ++ scripts_of (spent_by new (drop (i + 1) ts))) e ∙ ap (λ (l : List Output). (front ++ scripts_of (spent_of coins (spends_of t))) ++ scripts_of l) after
    ∙ append_assoc front (scripts_of (spent_of coins (spends_of t))) (scripts_of rest)
    ∙ ap (λ l. front ++ l) (sym (map-append (λ (o : Output). o.script) (spent_of coins (spends_of t)) rest))
    ∙ ap (λ (l : List Output). front ++ scripts_of l) (sym (step ∙ same)) ∙ so_far
