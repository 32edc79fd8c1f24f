-- Transactions are judged alike by coins that are the same under the names that they touch.
use Rattle.std.proofs.Common.{◌≡◌, ℕ, suc, ◌+◌, ◌<◌, Bool, true, false, cond, List, [], ◌∷◌, ◌++◌, length, get_or, drop, refl, sym, ◌∙◌, ap, subst, arith, add-one, Option, Some, None, Result, Ok, Err}
use Rattle.std.specs.Prelude.{is_some, if◌then◌else◌}
use Rattle.std.specs.Ordering.{eq_by_cmp}
use Rattle.std.specs.Cmp.{eq_by_cmp_equiv}
use Rattle.std.specs.FinMap.{empty, get, insert, remove, get-empty, get-insert, get-remove}
use Rattle.std.proofs.Math.Seq.{drop-cons}
use Rattle.std.proofs.lemmas.List.{append_assoc}
use Rattle.cf_bytes.specs.Cut.{◌>>=◌}
use Rattle.cf_bytes.specs.declared.memory.Refused.{Refused}
use Rattle.cf_bytes.specs.declared.memory.Refused.TheVariants.{No, NoMemory}
use Rattle.cf_block.specs.declared.tx.OutPoint.{OutPoint}
use Rattle.cf_block.specs.declared.tx.Tx.{Tx}
use Rattle.cf_block.specs.Output.{Output}
use Rattle.cf_block.specs.Outpoint.{outpoint, outpoint_cmp, spends_of}
use Rattle.cf_block.specs.Tx.{txid_of}
use Rattle.cf_chain.specs.Coins.{CoinMap}
use Rattle.cf_block.proofs.Outpoints.{outpoint_total, same_name}
use Rattle.cf_coins.specs.declared.fault.CoinFault.{CoinFault}
use Rattle.cf_coins.specs.declared.fault.CoinFault.TheVariants.{Exists}
use Rattle.cf_coins.specs.Spending.{found, take_all, put_all, spend, spend_all, coinbase_fault, unless_fault, spend_txs, Refuses}
use Rattle.cf_coins.specs.Touching.{places, names_of, touched_outpoints, with_found, with_named}

-- ---- the same under names

abbrev SameUnder : CoinMap → CoinMap → List OutPoint → Type 0
SameUnder a b [] = Unit {0}
SameUnder a b (p ∷ ps) = (get a p ≡ get b p) × SameUnder a b ps

removed_same : (a b : CoinMap) (k p : OutPoint) → get a p ≡ get b p → get (remove a k) p ≡ get (remove b k) p
removed_same a b k p same =
    get-remove outpoint_total a k p ∙ ap (λ (x : Option Output). cond (eq_by_cmp outpoint_cmp p k) None x) same
    ∙ sym (get-remove outpoint_total b k p)

inserted_same : (a b : CoinMap) (k : OutPoint) (o : Output) (p : OutPoint) → get a p ≡ get b p → get (insert a k o) p ≡ get (insert b k o) p
inserted_same a b k o p same =
    get-insert outpoint_total a k o p ∙ ap (λ (x : Option Output). cond (eq_by_cmp outpoint_cmp p k) (Some o) x) same
    ∙ sym (get-insert outpoint_total b k o p)

all_removed : (a b : CoinMap) (k : OutPoint) (ps : List OutPoint) → SameUnder a b ps → SameUnder (remove a k) (remove b k) ps
all_removed a b k [] same = tt
all_removed a b k (p ∷ ps) same = (removed_same a b k p same.0, all_removed a b k ps same.1)

all_inserted : (a b : CoinMap) (k : OutPoint) (o : Output) (ps : List OutPoint) → SameUnder a b ps → SameUnder (insert a k o) (insert b k o) ps
all_inserted a b k o [] same = tt
all_inserted a b k o (p ∷ ps) same = (inserted_same a b k o p same.0, all_inserted a b k o ps same.1)

-- ---- judged alike

-- one fault, or coins that are the same under these names
abbrev Alike : Result CoinMap CoinFault → Result CoinMap CoinFault → List OutPoint → Type 0
Alike (Ok a) (Ok b) ps = SameUnder a b ps
Alike (Err f) (Err g) ps = f ≡ g
Alike r s ps = ⊥

take_alike : (a b : CoinMap) (ps qs : List OutPoint) → SameUnder a b (ps ++ qs) → Alike (take_all a ps) (take_all b ps) qs
take_alike a b [] qs same = same
take_alike a b (p ∷ ps) qs same =
    by_coin (get a p) (get b p) same.0 (take_alike (remove a p) (remove b p) ps qs (all_removed a b p (ps ++ qs) same.1)) where
      by_coin : (x y : Option Output) → x ≡ y → Alike (take_all (remove a p) ps) (take_all (remove b p) ps) qs
          → Alike (found p x (remove a p) >>= λ c. take_all c ps) (found p y (remove b p) >>= λ c. take_all c ps) qs
      by_coin None None is rest = refl
      by_coin (Some o) (Some q) is rest = rest
      by_coin None (Some q) is rest = cc
      by_coin (Some o) None is rest = cc

put_alike : (txid : List ℕ) (i : ℕ) (a b : CoinMap) (os : List Output) (qs : List OutPoint) → SameUnder a b (places txid i os ++ qs)
    → Alike (put_all txid i a os) (put_all txid i b os) qs
put_alike txid i a b [] qs same = same
put_alike txid i a b (o ∷ os) qs same =
    by_coin (get a (outpoint txid i)) (get b (outpoint txid i)) same.0
    (put_alike txid (suc i) (insert a (outpoint txid i) o) (insert b (outpoint txid i) o) os qs
    (all_inserted a b (outpoint txid i) o (places txid (suc i) os ++ qs) same.1)) where
      by_coin : (x y : Option Output) → x ≡ y
          → Alike (put_all txid (suc i) (insert a (outpoint txid i) o) os) (put_all txid (suc i) (insert b (outpoint txid i) o) os) qs
          → Alike (if is_some x then Err (Exists (outpoint txid i)) else put_all txid (suc i) (insert a (outpoint txid i) o) os)
          (if is_some y then Err (Exists (outpoint txid i)) else put_all txid (suc i) (insert b (outpoint txid i) o) os) qs
      by_coin None None is rest = rest
      by_coin (Some x) (Some y) is rest = refl
      by_coin None (Some y) is rest = cc
      by_coin (Some x) None is rest = cc

then_alike : (r s : Result CoinMap CoinFault) (f : CoinMap → Result CoinMap CoinFault) (ps qs : List OutPoint) → Alike r s ps
    → ((c d : CoinMap) → SameUnder c d ps → Alike (f c) (f d) qs) → Alike (r >>= f) (s >>= f) qs
then_alike (Ok c) (Ok d) f ps qs alike next = next c d alike
then_alike (Err x) (Err y) f ps qs alike next = alike
then_alike (Ok c) (Err y) f ps qs alike next = absurd alike
then_alike (Err x) (Ok d) f ps qs alike next = absurd alike

spend_alike : (a b : CoinMap) (t : Tx) (qs : List OutPoint) → SameUnder a b (names_of t ++ qs) → Alike (spend a t) (spend b t) qs
unfolding spend names_of
spend_alike a b t qs same =
    let made : List OutPoint = places (txid_of t) 0 t.outputs in
    let split : SameUnder a b (spends_of t ++ (made ++ qs)) = subst (λ (ps : List OutPoint). SameUnder a b ps) (append_assoc (spends_of t) made qs) same in
    then_alike (take_all a (spends_of t)) (take_all b (spends_of t)) (λ c. put_all (txid_of t) 0 c t.outputs) (made ++ qs) qs
    (take_alike a b (spends_of t) (made ++ qs) split)
    (λ c d rest. put_alike (txid_of t) 0 c d t.outputs qs rest)

all_alike : (a b : CoinMap) (ts : List Tx) → SameUnder a b (touched_outpoints ts) → Alike (spend_all a ts) (spend_all b ts) []
unfolding spend_all touched_outpoints
all_alike a b [] same = tt
all_alike a b (t ∷ ts) same =
    then_alike (spend a t) (spend b t) (λ c. spend_all c ts) (touched_outpoints ts) [] (spend_alike a b t (touched_outpoints ts) same)
    (λ c d rest. all_alike c d ts rest)

txs_alike : (a b : CoinMap) (ts : List Tx) → SameUnder a b (touched_outpoints ts) → Alike (spend_txs a ts) (spend_txs b ts) []
unfolding spend_txs
txs_alike a b ts same = by_fault (coinbase_fault ts) (all_alike a b ts same) where
  by_fault : (f : Option CoinFault) → Alike (spend_all a ts) (spend_all b ts) []
      → Alike (unless_fault f (spend_all a ts)) (unless_fault f (spend_all b ts)) []
  by_fault None alike = alike
  by_fault (Some f) alike = refl

-- ---- the coins that are copied

-- none of the few is another than in the coins
abbrev IsPart : CoinMap → CoinMap → Type 0
IsPart few coins = (p : OutPoint) (o : Output) → get few p ≡ Some o → get coins p ≡ Some o

none_part : (coins : CoinMap) (p : OutPoint) (o : Output) → get (empty {X = Output} {R = outpoint_cmp}) p ≡ Some o → get coins p ≡ Some o
none_part coins p o is = let none : get (empty {X = Output} {R = outpoint_cmp}) p ≡ None = get-empty outpoint_cmp p in cc

part_more : (few coins : CoinMap) (q : OutPoint) (x : Option Output) → get coins q ≡ x → IsPart few coins
    → (p : OutPoint) (o : Output) → get (with_found few q x) p ≡ Some o → get coins p ≡ Some o
part_more few coins q None at part p o is = part p o is
part_more few coins q (Some v) at part p o is =
    by_name (eq_by_cmp outpoint_cmp p q) refl (sym (get-insert outpoint_total few q v p) ∙ is) where
      by_name : (b : Bool) → eq_by_cmp outpoint_cmp p q ≡ b → cond b (Some v) (get few p) ≡ Some o → get coins p ≡ Some o
      by_name true same here = ap (get coins) (same_name p q same) ∙ at ∙ here
      by_name false other here = part p o here

-- under the name that was copied
copied_at : (few coins : CoinMap) (q : OutPoint) (x : Option Output) → get coins q ≡ x → IsPart few coins
    → get (with_found few q x) q ≡ get coins q
copied_at few coins q None at part = by_few (get few q) refl where
  by_few : (y : Option Output) → get few q ≡ y → get few q ≡ get coins q
  by_few None is = is ∙ sym at
  by_few (Some o) is = is ∙ sym (part q o is)
copied_at few coins q (Some o) at part =
    get-insert outpoint_total few q o q
    ∙ ap (λ (b : Bool). cond b (Some o) (get few q)) ((eq_by_cmp_equiv outpoint_total).refl q)
    ∙ sym at

-- under one that was copied before
kept_at : (few coins : CoinMap) (q : OutPoint) (x : Option Output) → get coins q ≡ x → (p : OutPoint) → get few p ≡ get coins p
    → get (with_found few q x) p ≡ get coins p
kept_at few coins q None at p same = same
kept_at few coins q (Some o) at p same = get-insert outpoint_total few q o p ∙ by_name (eq_by_cmp outpoint_cmp p q) refl where
  by_name : (b : Bool) → eq_by_cmp outpoint_cmp p q ≡ b → cond b (Some o) (get few p) ≡ get coins p
  by_name true is = sym (ap (get coins) (same_name p q is) ∙ at)
  by_name false other = same

kept_all : (coins few : CoinMap) (ps : List OutPoint) (p : OutPoint) → get few p ≡ get coins p → get (with_named coins few ps) p ≡ get coins p
kept_all coins few [] p same = same
kept_all coins few (q ∷ qs) p same =
    kept_all coins (with_found few q (get coins q)) qs p (kept_at few coins q (get coins q) refl p same)

copied_all : (coins few : CoinMap) (ps : List OutPoint) → IsPart few coins → SameUnder (with_named coins few ps) coins ps
copied_all coins few [] part = tt
copied_all coins few (q ∷ qs) part =
    let more : CoinMap = with_found few q (get coins q) in (
      kept_all coins more qs q (copied_at few coins q (get coins q) refl part),
      copied_all coins more qs (part_more few coins q (get coins q) refl part),
    )

few_alike : (coins few : CoinMap) (ts : List Tx) → few ≡ with_named coins empty (touched_outpoints ts) → Alike (spend_txs few ts) (spend_txs coins ts) []
few_alike coins few ts is =
    txs_alike few coins ts (subst (λ (m : CoinMap). SameUnder m coins (touched_outpoints ts)) (sym is) (copied_all coins empty (touched_outpoints ts) (none_part coins)))

-- ---- what the judgement of the few says

pub judged_good : (coins few new : CoinMap) (ts : List Tx) → few ≡ with_named coins empty (touched_outpoints ts) → spend_txs few ts ≡ Ok new
    → (after : CoinMap) × (spend_txs coins ts ≡ Ok after)
judged_good coins few new ts is good = by_answer (spend_txs few ts) (spend_txs coins ts) good (few_alike coins few ts is) where
  by_answer : (r s : Result CoinMap CoinFault) → r ≡ Ok new → Alike r s [] → (after : CoinMap) × (s ≡ Ok after)
  by_answer (Ok a) (Ok b) is alike = (b, refl)
  by_answer (Ok a) (Err f) is alike = absurd alike
  by_answer (Err f) s is alike = cc

fault_judged : (r s : Result CoinMap CoinFault) (f : CoinFault) → r ≡ Err f → Alike r s [] → s ≡ Err f
fault_judged (Ok a) s f is alike = cc
fault_judged (Err x) (Ok b) f is alike = absurd alike
fault_judged (Err x) (Err y) f is alike = cc

pub judged_bad : (coins few : CoinMap) (ts : List Tx) (e : Refused CoinFault) → few ≡ with_named coins empty (touched_outpoints ts)
    → Refuses (spend_txs few ts) e → Refuses (spend_txs coins ts) e
judged_bad coins few ts (No f) is bad = fault_judged (spend_txs few ts) (spend_txs coins ts) f bad (few_alike coins few ts is)
judged_bad coins few ts NoMemory is bad = tt

-- ---- the copying, a step at a time

pub places_named : (coins few : CoinMap) (txid : List ℕ) (os : List Output) (i : ℕ) (d : Output) → i < length os
    → with_named coins few (places txid i (drop i os))
    ≡ with_named coins (with_found few (outpoint txid i) (get coins (outpoint txid i))) (places txid (i + 1) (drop (i + 1) os))
places_named coins few txid os i d lt = rw (add-one, drop-cons os i d) refl

named_append : (coins few : CoinMap) (ps qs : List OutPoint) → with_named coins few (ps ++ qs) ≡ with_named coins (with_named coins few ps) qs
named_append coins few [] qs = refl
named_append coins few (p ∷ ps) qs = named_append coins (with_found few p (get coins p)) ps qs

pub named_by_both : (coins few mid new : CoinMap) (t : Tx) (txid : List ℕ) (os : List Output) → txid ≡ txid_of t → os ≡ t.outputs
    → mid ≡ with_named coins few (spends_of t) → new ≡ with_named coins mid (places txid 0 os)
    → new ≡ with_named coins few (names_of t)
unfolding names_of
named_by_both coins few mid new t txid os hash outputs first second =
    second ∙ ap (λ (m : CoinMap). with_named coins m (places txid 0 os)) first
    ∙ ap (λ (x : List ℕ). with_named coins (with_named coins few (spends_of t)) (places x 0 os)) hash
    ∙ ap (λ (x : List Output). with_named coins (with_named coins few (spends_of t)) (places (txid_of t) 0 x)) outputs
    ∙ sym (named_append coins few (spends_of t) (places (txid_of t) 0 t.outputs))

touched_more : (ts : List Tx) (i : ℕ) (d : Tx) → i < length ts → touched_outpoints (drop i ts) ≡ names_of (get_or ts i d) ++ touched_outpoints (drop (i + 1) ts)
unfolding touched_outpoints
touched_more ts i d lt = rw (add-one, drop-cons ts i d) refl

pub touched_next : (coins few new : CoinMap) (t d : Tx) (ts : List Tx) (i : ℕ) → i < length ts → t ≡ get_or ts i d
    → new ≡ with_named coins few (names_of t)
    → with_named coins few (touched_outpoints (drop i ts)) ≡ with_named coins new (touched_outpoints (drop (i + 1) ts))
touched_next coins few new t d ts i lt at is =
    let rest : List OutPoint = touched_outpoints (drop (i + 1) ts) in
    ap (with_named coins few) (touched_more ts i d lt)
    ∙ ap (λ (x : Tx). with_named coins few (names_of x ++ rest)) (sym at)
    ∙ named_append coins few (names_of t) rest
    ∙ ap (λ (m : CoinMap). with_named coins m rest) (sym is)

pub touched_none : (coins few : CoinMap) (ts : List Tx) → length ts ≡ 0 → with_named coins few (touched_outpoints ts) ≡ few
unfolding touched_outpoints
touched_none coins few [] is = refl
touched_none coins few (t ∷ ts) is = absurd (omega arith)
