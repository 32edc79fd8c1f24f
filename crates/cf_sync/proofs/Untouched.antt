-- A block of whose items none is watched is idle, so a scan may take it as empty.
use Rattle.std.proofs.Common.{◌≡◌, ◌≢◌, inl, inr, ℕ, suc, ◌<◌, ◌≤◌, cond, List, [], ◌∷◌, ◌++◌, map, length, Option, Some, None, Ok, Bool, true, false, if◌then◌else◌, refl, sym, ◌∙◌, ap, subst, arith}
use Rattle.std.specs.Prelude.{fold, Contains}
use Rattle.std.specs.List.{flat_map, AllByRecursion}
use Rattle.std.specs.Option.{option_to_list}
use Rattle.std.specs.FinMap.{get, insert, remove, empty, get-insert, get-remove, get-empty, nat_cmp-IsAntisymmetric, slice_cmp-IsAntisymmetric}
use Rattle.std.specs.Ordering.{eq_by_cmp, nat_cmp}
use Rattle.std.specs.Prelude.{nat_eq, slice_index_or}
use Rattle.std.specs.Cmp.Lexicographic.{slice_cmp, pointwise, texts_ties}
use Rattle.std.proofs.lemmas.Map.Views.{Contains-from_any}
use Rattle.cf_block.specs.declared.tx.OutPoint.{OutPoint}
use Rattle.cf_block.specs.declared.tx.Tx.{Tx}
use Rattle.cf_block.specs.declared.tx.Block.{Block}
use Rattle.cf_block.specs.Output.{Output}
use Rattle.cf_block.specs.Outpoint.{outpoint_cmp, outpoint, spends_of}
use Rattle.cf_block.specs.Tx.{IsBlock, txid_of}
use Rattle.cf_block.specs.Header.{block_hash_of}
use Rattle.cf_chain.specs.Coins.{CoinMap, without, with_outputs, spent_outputs, spent_by, after_block, after_tx as good_after}
use Rattle.cf_chain.specs.Good.{NoneStands, IsGoodTx, AreGoodTxs}
use Rattle.cf_chain.specs.Filters.{prevouts}
use Rattle.cf_chain.proofs.Bounds.{block_few}
use Rattle.cf_block.proofs.Outpoints.{outpoint_total, is_equal, same_name}
use Rattle.cf_filter.specs.Items.{paid_scripts, items_of, IsItem}
use Rattle.cf_filter.specs.Filter.{basic_filter_of, match_of}
use Rattle.cf_filter.proofs.Values.{no_member}
use Rattle.cf_filter.proofs.Among.{members_are, items_few}
use Rattle.cf_headers.specs.Chain.{IsIn}
use Rattle.cf_scan.specs.Coins as watched
use Rattle.cf_scan.specs.Watching.{is_watched, IsWatch}
use Rattle.cf_scan.specs.Scan.{Scanned, take_one, take_out, put_one, watched_after, after_change, made_from, after_tx}
use Rattle.cf_scan.specs.Idle.{IsIdleTx}
use Rattle.cf_scan.proofs.HistoryLaws.{idle_change, makes_none}
use Rattle.cf_scan.proofs.WatchLaws.{watch_is}
use Rattle.cf_sync.proofs.Listed.{in_left, in_right}

-- ---- idle transactions change nothing

idle_tx : (watch : List (List ℕ)) (height : ℕ) (s : Scanned) (t : Tx) → IsIdleTx s.coins watch t → after_tx watch height s t ≡ s
idle_tx watch height s t h = idle_change height s (txid_of t) (spends_of t) _ h.spends (makes_none 0 (txid_of t) watch t.outputs h.pays)

pub idle_txs : (watch : List (List ℕ)) (height : ℕ) (s : Scanned) (ts : List Tx) → AllByRecursion (IsIdleTx s.coins watch) ts → fold (after_tx watch height) s ts ≡ s
idle_txs watch height s [] h = refl
idle_txs watch height s (t ∷ ts) h = ap (λ n. fold (after_tx watch height) n ts) (idle_tx watch height s t h.0) ∙ idle_txs watch height s ts h.1

-- ---- the watched coins are coins

-- each watched coin is a coin of the chain, with a watched script
abbrev pub AreCoins : List (List ℕ) → watched.WatchedMap → CoinMap → Type 0
AreCoins watch held coins = (p : OutPoint) (v : ℕ) → get held p ≡ Some v → (o : Output) × (get coins p ≡ Some o) × (is_watched watch o.script ≡ true)

pub none_held : (watch : List (List ℕ)) (coins : CoinMap) → AreCoins watch empty coins
none_held watch coins p v e = absurd (let no : None ≡ Some v = sym (get-empty outpoint_cmp p) ∙ e in cc)

get_removed : {X : Type 0} (b : Bool) (o : Option X) (v : X) → cond b None o ≡ Some v → (b ≡ false) × (o ≡ Some v)
get_removed true o v e = cc
get_removed false o v e = (refl, e)

removed_coins : (watch : List (List ℕ)) (held : watched.WatchedMap) (coins : CoinMap) (k : OutPoint) → AreCoins watch held coins → AreCoins watch (remove held k) (remove coins k)
removed_coins watch held coins k h p v e =
    let w = get_removed (eq_by_cmp outpoint_cmp p k) (get held p) v (sym (get-remove outpoint_total held k p) ∙ e) in
    let o = h p v w.1 in
    (o.0, get-remove outpoint_total coins k p ∙ ap (λ (b : Bool). cond b None (get coins p)) w.0 ∙ o.1, o.2)

taken_coins : (watch : List (List ℕ)) (values : List ℕ) (held : watched.WatchedMap) (coins : CoinMap) (ps : List OutPoint) → AreCoins watch held coins
    → AreCoins watch (fold take_one (values, held) ps).1 (without coins ps)
taken_coins watch values held coins [] h = h
taken_coins watch values held coins (p ∷ ps) h = taken_coins watch (values ++ option_to_list (get held p)) (remove held p) (remove coins p) ps (removed_coins watch held coins p h)

put_coin : (watch : List (List ℕ)) (held : watched.WatchedMap) (coins : CoinMap) (k : OutPoint) (o : Output) → is_watched watch o.script ≡ true → AreCoins watch held coins
    → AreCoins watch (insert held k o.value) (insert coins k o)
put_coin watch held coins k o is h p v e =
    by_name (eq_by_cmp outpoint_cmp p k) refl (sym (get-insert outpoint_total held k o.value p) ∙ e) where
      by_name : (b : Bool) → eq_by_cmp outpoint_cmp p k ≡ b → cond b (Some o.value) (get held p) ≡ Some v → (x : Output) × (get (insert coins k o) p ≡ Some x) × (is_watched watch x.script ≡ true)
      by_name true at f = (o, get-insert outpoint_total coins k o p ∙ ap (λ (b : Bool). cond b (Some o) (get coins p)) at, is)
      by_name false at f = let w = h p v f in (w.0, get-insert outpoint_total coins k o p ∙ ap (λ (b : Bool). cond b (Some o) (get coins p)) at ∙ w.1, w.2)

-- a coin that isn't watched, put over none
put_other : (watch : List (List ℕ)) (held : watched.WatchedMap) (coins : CoinMap) (k : OutPoint) (o : Output) → get coins k ≡ None → AreCoins watch held coins → AreCoins watch held (insert coins k o)
put_other watch held coins k o fresh h p v e =
    let w = h p v e in
    by_name (eq_by_cmp outpoint_cmp p k) refl w.0 w.1 w.2 where
      by_name : (b : Bool) → eq_by_cmp outpoint_cmp p k ≡ b → (x : Output) → get coins p ≡ Some x → is_watched watch x.script ≡ true
          → (x : Output) × (get (insert coins k o) p ≡ Some x) × (is_watched watch x.script ≡ true)
      by_name true at x f is = absurd (let no : None ≡ Some x = sym fresh ∙ ap (λ (q : OutPoint). get coins q) (sym (same_name p k at)) ∙ f in cc)
      by_name false at x f is = (x, get-insert outpoint_total coins k o p ∙ ap (λ (b : Bool). cond b (Some o) (get coins p)) at ∙ f, is)

made_coins : (watch : List (List ℕ)) (txid : List ℕ) (i : ℕ) (held : watched.WatchedMap) (coins : CoinMap) (os : List Output) → NoneStands txid i coins os → AreCoins watch held coins
    → AreCoins watch (fold put_one held (made_from i txid watch os)) (with_outputs txid i coins os)
made_coins watch txid i held coins [] fresh h = h
made_coins watch txid i held coins (o ∷ os) fresh h = by_watch (is_watched watch o.script) refl (λ next more. made_coins watch txid (suc i) next (insert coins (outpoint txid i) o) os fresh.1 more) where
  by_watch : (b : Bool) → is_watched watch o.script ≡ b
      → ((next : watched.WatchedMap) → AreCoins watch next (insert coins (outpoint txid i) o)
      → AreCoins watch (fold put_one next (made_from (suc i) txid watch os)) (with_outputs txid (suc i) (insert coins (outpoint txid i) o) os))
      → AreCoins watch (fold put_one held ((if b then (outpoint txid i, o.value) ∷ [] else []) ++ made_from (suc i) txid watch os)) (with_outputs txid (suc i) (insert coins (outpoint txid i) o) os)
  by_watch true is rest = rest (insert held (outpoint txid i) o.value) (put_coin watch held coins (outpoint txid i) o is h)
  by_watch false is rest = rest held (put_other watch held coins (outpoint txid i) o fresh.0 h)

coins_of_tx : (watch : List (List ℕ)) (height : ℕ) (s : Scanned) (coins : CoinMap) (t : Tx) → IsGoodTx coins t → AreCoins watch s.coins coins → AreCoins watch (after_tx watch height s t).coins (good_after coins t)
unfolding after_change watched_after take_out
coins_of_tx watch height s coins t good h =
    made_coins watch (txid_of t) 0 (fold take_one ([], s.coins) (spends_of t)).1 (without coins (spends_of t)) t.outputs good.fresh (taken_coins watch [] s.coins coins (spends_of t) h)

coins_of_txs : (watch : List (List ℕ)) (height : ℕ) (s : Scanned) (coins : CoinMap) (ts : List Tx) → AreGoodTxs coins ts → AreCoins watch s.coins coins
    → AreCoins watch (fold (after_tx watch height) s ts).coins (fold good_after coins ts)
coins_of_txs watch height s coins [] good h = h
coins_of_txs watch height s coins (t ∷ ts) good h = coins_of_txs watch height (after_tx watch height s t) (good_after coins t) ts good.1 (coins_of_tx watch height s coins t good.0 h)

pub coins_of_block : (watch : List (List ℕ)) (height : ℕ) (s : Scanned) (coins : CoinMap) (b : Block) → AreGoodTxs coins b.txs → AreCoins watch s.coins coins
    → AreCoins watch (fold (after_tx watch height) s b.txs).coins (after_block coins b)
coins_of_block watch height s coins b good h = coins_of_txs watch height s coins b.txs good h

-- ---- a block of whose items none is watched

abbrev NoneWatched : List (List ℕ) → List (List ℕ) → Type 0
NoneWatched watch scripts = (x : List ℕ) → IsIn x scripts → is_watched watch x ≡ true → ⊥

in_map : {A B : Type 0} (f : A → B) (x : A) (xs : List A) → IsIn x xs → IsIn (f x) (map f xs)
in_map f x [] i = absurd i
in_map f x (y ∷ xs) (inl e) = inl (ap f e)
in_map f x (y ∷ xs) (inr i) = inr (in_map f x xs i)

spent_first : (coins : CoinMap) (q : OutPoint) (ps : List OutPoint) (p : OutPoint) (o : Output) → p ≡ q → get coins p ≡ Some o → IsIn o (spent_outputs coins (q ∷ ps))
spent_first coins q ps p o is e =
    in_left o (option_to_list (get coins q)) (spent_outputs (remove coins q) ps)
    (subst (λ (x : Option Output). IsIn o (option_to_list x)) (sym (ap (λ (k : OutPoint). get coins k) (sym is) ∙ e)) (inl refl))

-- a coin that is named is spent
spent_has : (coins : CoinMap) (ps : List OutPoint) (p : OutPoint) (o : Output) → IsIn p ps → get coins p ≡ Some o → IsIn o (spent_outputs coins ps)
spent_has coins [] p o i e = absurd i
spent_has coins (q ∷ ps) p o (inl is) e = spent_first coins q ps p o is e
spent_has coins (q ∷ ps) p o (inr i) e = by_name (eq_by_cmp outpoint_cmp p q) refl (λ f. spent_has (remove coins q) ps p o i f) where
  by_name : (b : Bool) → eq_by_cmp outpoint_cmp p q ≡ b → (get (remove coins q) p ≡ Some o → IsIn o (spent_outputs (remove coins q) ps)) → IsIn o (option_to_list (get coins q) ++ spent_outputs (remove coins q) ps)
  by_name true at later = spent_first coins q ps p o (same_name p q at) e
  by_name false at later = in_right o (option_to_list (get coins q)) (spent_outputs (remove coins q) ps)
      (later (get-remove outpoint_total coins q p ∙ ap (λ (b : Bool). cond b None (get coins p)) at ∙ e))

off_where : (b : Bool) → (b ≡ true → ⊥) → b ≡ false
off_where true h = absurd (h refl)
off_where false h = refl

unpaid : (watch : List (List ℕ)) (os : List Output) → NoneWatched watch (map (λ (o : Output). o.script) os) → AllByRecursion (λ (o : Output). is_watched watch o.script ≡ false) os
unpaid watch [] none = tt
unpaid watch (o ∷ os) none = (off_where (is_watched watch o.script) (λ is. none o.script (inl refl) is), unpaid watch os (λ x i is. none x (inr i) is))

none_where : (o : Option ℕ) → ((v : ℕ) → o ≡ Some v → ⊥) → o ≡ None
none_where None h = refl
none_where (Some v) h = absurd (h v refl)

unspent : (held : watched.WatchedMap) (ps : List OutPoint) → ((p : OutPoint) (v : ℕ) → IsIn p ps → get held p ≡ Some v → ⊥) → AllByRecursion (λ p. get held p ≡ None) ps
unspent held [] none = tt
unspent held (p ∷ ps) none = (none_where (get held p) (λ v e. none p v (inl refl) e), unspent held ps (λ q v i e. none q v (inr i) e))

untouched_txs : (watch : List (List ℕ)) (height : ℕ) (s : Scanned) (coins : CoinMap) (ts : List Tx) → AreCoins watch s.coins coins → AreGoodTxs coins ts
    → NoneWatched watch (flat_map paid_scripts ts) → NoneWatched watch (map (λ (o : Output). o.script) (spent_by coins ts)) → AllByRecursion (IsIdleTx s.coins watch) ts
untouched_txs watch height s coins [] h good paid names = tt
untouched_txs watch height s coins (t ∷ ts) h good paid names =
    let scripts : Output → List ℕ = λ o. o.script in
    let idle : IsIdleTx s.coins watch t = record {
      pays = unpaid watch t.outputs (λ x i is. paid x (in_left x (paid_scripts t) (flat_map paid_scripts ts) i) is);
      spends = unspent s.coins (spends_of t) (λ p v i e.
          let o = h p v e in
          names o.0.script (in_map scripts o.0 (spent_outputs coins (spends_of t) ++ spent_by (good_after coins t) ts)
          (in_left o.0 (spent_outputs coins (spends_of t)) (spent_by (good_after coins t) ts) (spent_has coins (spends_of t) p o.0 i o.1))) o.2);
    } in
    let still : AreCoins watch s.coins (good_after coins t) = subst (λ (x : Scanned). AreCoins watch x.coins (good_after coins t)) (idle_tx watch height s t idle) (coins_of_tx watch height s coins t good.0 h) in (
      idle,
      untouched_txs watch height s (good_after coins t) ts still good.1
          (λ x i is. paid x (in_right x (paid_scripts t) (flat_map paid_scripts ts) i) is)
          (λ x i is. names x (mapped x (spent_outputs coins (spends_of t)) (spent_by (good_after coins t) ts) i) is),
    ) where
      mapped : (x : List ℕ) (xs ys : List Output) → IsIn x (map (λ (o : Output). o.script) ys) → IsIn x (map (λ (o : Output). o.script) (xs ++ ys))
      mapped x [] ys i = i
      mapped x (o ∷ xs) ys i = inr (mapped x xs ys i)

-- ---- what a filter without a watched value says

contained : (x : List ℕ) (xs : List (List ℕ)) → IsIn x xs → Contains xs x
contained x [] i = absurd i
contained x (y ∷ xs) (inl e) = (0, omega arith, sym e)
contained x (y ∷ xs) (inr i) = let w = contained x xs i in (suc w.0, omega (arith, w.1), w.2)

same_script : (x y : List ℕ) → pointwise nat_eq x y ≡ true → x ≡ y
same_script x y e = slice_cmp-IsAntisymmetric nat_cmp-IsAntisymmetric x y (is_equal (slice_cmp nat_cmp x y) (sym (texts_ties x y) ∙ e))

pub few_items : (coins : CoinMap) (b : Block) → IsBlock b → length (items_of b (prevouts coins b)) ≤ 33554432
few_items coins b is = let a = items_few b (prevouts coins b) in let c = block_few coins b is in omega (arith, a, c)

watch_has : (watch : List (List ℕ)) (x : List ℕ) → is_watched watch x ≡ true → Contains watch x
watch_has watch x is = Contains-from_any same_script x watch is

watchable : (watch : List (List ℕ)) (x : List ℕ) → IsWatch watch → is_watched watch x ≡ true → (x ≢ []) × (slice_index_or x 0 0 ≢ 0x6a)
watchable watch x fits is =
    let w = watch_has watch x is in
    let can = watch_is watch fits w.0 x w.1 in (
      λ none. (let some = subst (λ (y : List ℕ). 0 < length y) (w.2 ∙ none) can.some in absurd (omega (arith, some))),
      λ e. can.spendable (ap (λ (y : List ℕ). slice_index_or y 0 0) w.2 ∙ e),
    )

pub untouched : (watch : List (List ℕ)) (height : ℕ) (s : Scanned) (coins : CoinMap) (b : Block) → IsWatch watch → IsBlock b → AreGoodTxs coins b.txs → AreCoins watch s.coins coins
    → match_of (block_hash_of b.header) watch (basic_filter_of (block_hash_of b.header) (items_of b (prevouts coins b))) ≡ Ok false → fold (after_tx watch height) s b.txs ≡ s
untouched watch height s coins b fits spelled good held none =
    let few : length (items_of b (prevouts coins b)) ≤ 33554432 = few_items coins b spelled in
    let out : (x : List ℕ) → IsItem b (prevouts coins b) x → is_watched watch x ≡ true → ⊥ = λ x item is.
    no_member (block_hash_of b.header) (items_of b (prevouts coins b)) watch x few none (watch_has watch x is) ((members_are b (prevouts coins b) x).1 item) in
    idle_txs watch height s b.txs (untouched_txs watch height s coins b.txs held good
    (λ x i is. let can = watchable watch x fits is in out x (inl (contained x (flat_map paid_scripts b.txs) i, can.0, can.1)) is)
    (λ x i is. let can = watchable watch x fits is in out x (inr (contained x (prevouts coins b) i, can.0)) is))
