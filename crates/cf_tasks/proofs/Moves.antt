-- Each step keeps the rule of the queue.
use Rattle.std.proofs.Common.{◌⊎◌, ◌≡◌, ◌≢◌, ◌==◌, ◌<◌, ℕ, zero, suc, true, false, true≢false, cond, List, [], ◌∷◌, ◌++◌, length, set, sym, refl, ap, ◌∙◌, subst, ⊎_elim, inl, inr, append_assoc, append-nil, arith}
use Rattle.std.proofs.lemmas.List.Elements.{filter-append, All-append, All-nil, All-cons}
use Rattle.std.proofs.lemmas.Grind.{common_steps}
use Rattle.std.proofs.lemmas.Bool.Decides.{nat_tests}
use mathlib.Core.Option.{some, some-injective, some-ne-none}
use lib.ListN.{get_elem?}
use Rattle.crossbeam_channel.specs.Fifo.{Pushes, Pops, Forks, Merges, Learns}
use Rattle.atomic_table.proofs.Lists.{at_set, set_else, set_here, at_longer}
use Rattle.cf_tasks.specs.declared.entry.Item.{Item}
use Rattle.cf_tasks.specs.declared.entry.Ended.{Ended}
use Rattle.cf_tasks.specs.declared.entry.View.{View}
use Rattle.cf_tasks.specs.Queue.{of, receiver, sender, spent, with_sent, with_got, with_made, with_ended, Fits, Stays, Agrees, Kept, Accounts}

same_nat : (n : ℕ) → (n == n) ≡ true
same_nat n = grind (arith, nat_tests)

apart_nat : (m n : ℕ) → m ≢ n → (m == n) ≡ false
apart_nat m n e = grind (arith, nat_tests)

module _ {M : Type 0} where
  abbrev Each : (ℕ → View M → Type 0) → List (View M) → Type 0
  Each F views = (i : ℕ) (v : View M) → get_elem? views i ≡ some v → F i v

  each_set : (F : ℕ → View M → Type 0) (views : List (View M)) (i : ℕ) (w : View M) → F i w → ((j : ℕ) (u : View M) → j ≢ i → get_elem? views j ≡ some u → F j u) → Each F (set views i w)
  each_set F views i w mine others j u e = ⊎_elim (λ (x : (j ≡ i) × (w ≡ u)). subst (λ (y : ℕ × View M). F y.0 y.1) (λ k. (sym x.0 k, x.1 k)) mine)
      (λ (x : (j ≢ i) × (get_elem? views j ≡ some u)). others j u x.0 x.1) (at_set views i j w u e)

  -- the last one's place
  at_end : (l : List (View M)) (a b : View M) (j : ℕ) → get_elem? (l ++ a ∷ []) j ≡ some b → (get_elem? l j ≡ some b) ⊎ ((j ≡ length l) × (a ≡ b))
  at_end [] a b zero e = inr (refl, some-injective a b e)
  at_end [] a b (suc j) e = absurd (some-ne-none b (sym e))
  at_end (x ∷ xs) a b zero e = inl e
  at_end (x ∷ xs) a b (suc j) e = ⊎_elim (λ h. inl h) (λ h. inr (ap suc h.0, h.1)) (at_end xs a b j e)

  there : (l : List (View M)) (i : ℕ) (v : View M) → get_elem? l i ≡ some v → i < length l
  there [] i v e = absurd (some-ne-none v (sym e))
  there (x ∷ xs) zero v e = omega arith
  there (x ∷ xs) (suc i) v e = let h = there xs i v e in omega arith

  of_mine : (p : ℕ) (x : Item M) → x.from ≡ p → of p (x ∷ []) ≡ x ∷ []
  of_mine p x e = grind (arith, nat_tests, common_steps)

  of_other : (p : ℕ) (x : Item M) → x.from ≢ p → of p (x ∷ []) ≡ []
  of_other p x e = grind (arith, nat_tests, common_steps)

  pub of_append : (p : ℕ) (xs ys : List (Item M)) → of p (xs ++ ys) ≡ of p xs ++ of p ys
  of_append p xs ys = filter-append (λ (e : Item M). e.from == p) xs ys

  of_more : (p : ℕ) (xs ys : List (Item M)) (x : Item M) → x.from ≡ p → of p (xs ++ (ys ++ x ∷ [])) ≡ of p (xs ++ ys) ++ x ∷ []
  of_more p xs ys x e = ap (of p) (sym (append_assoc xs ys (x ∷ []))) ∙ of_append p (xs ++ ys) (x ∷ []) ∙ ap (λ l. of p (xs ++ ys) ++ l) (of_mine p x e)

  of_same : (p : ℕ) (xs ys : List (Item M)) (x : Item M) → x.from ≢ p → of p (xs ++ (ys ++ x ∷ [])) ≡ of p (xs ++ ys)
  of_same p xs ys x n = ap (of p) (sym (append_assoc xs ys (x ∷ []))) ∙ of_append p (xs ++ ys) (x ∷ []) ∙ ap (λ l. of p (xs ++ ys) ++ l) (of_other p x n) ∙ append-nil (of p (xs ++ ys))

  -- the pass that receives is the rule's
  based : (items : List (Item M)) (views : List (View M)) (i : ℕ) (v : View M) (h : Kept items views) → get_elem? views i ≡ some v → v.gets ≡ true → Agrees (v.got ++ items) i v h.2 views
  based items views i v h at gets = let a = h.3 in let r : h.0 ≡ i = sym ((a.each i v at).0 gets) in
      let b : h.1 ≡ v = some-injective h.1 v (sym a.at ∙ ap (get_elem? views) r ∙ at) in
      subst (λ (y : ℕ × View M). Agrees (y.1.got ++ items) y.0 y.1 h.2 views) (λ k. (r k, b k)) a

  pub begins : Kept {M = M} [] (receiver ∷ [])
  begins = (
    0,
    receiver,
    (λ p. 0),
    record {
      at = refl;
      gets = refl;
      apart = refl;
      each = λ i v e. ⊎_elim (λ h. absurd (some-ne-none v (sym h))) (λ (h : (i ≡ 0) × (receiver ≡ v)). ((λ _. h.0), (λ s. absurd (true≢false (sym (ap (λ (u : View M). u.sends) h.1 ∙ s)))))) (at_end [] receiver v i e);
      not_yet = λ p l. refl;
      stays = All-nil _;
    },
  )

  pub sends : (n i : ℕ) (v : View M) (x : Item M) → v.sends ≡ true → x.from ≡ v.from → Pushes Kept n i v x (λ w. w ≡ with_sent v x)
  sends n i v x may mine items views _ h at =
      let w : View M = with_sent v x in
      let a = h.3 in
      let m = (a.each i v at).1 may in
      let other : h.0 ≢ i = λ e. true≢false (sym may ∙ ap (λ (u : View M). u.sends) (some-injective v h.1 (sym at ∙ ap (get_elem? views) (sym e) ∙ a.at)) ∙ a.apart) in
      let apart : (p : ℕ) → v.from ≢ p → of p (h.1.got ++ (items ++ x ∷ [])) ≡ of p (h.1.got ++ items) = λ p n. of_same p h.1.got items x (λ e. n (sym mine ∙ e)) in (
        w,
        (
          h.0,
          h.1,
          h.2,
          record {
            at = set_else views i h.0 w other ∙ a.at;
            gets = a.gets;
            apart = a.apart;
            each = each_set (Fits (h.1.got ++ (items ++ x ∷ [])) h.0 h.1 h.2) views i w
                ((a.each i v at).0, λ _. (m.0, m.1, of_more v.from h.1.got items x mine ∙ ap (λ l. l ++ x ∷ []) m.2, m.3))
                (λ j u n e. let f = a.each j u e in (f.0, λ s. let g = f.1 s in (g.0, g.1, apart u.from (λ q. n (sym g.0 ∙ ap h.2 (sym q) ∙ m.0)) ∙ g.2, g.3)));
            not_yet = λ p l. apart p (omega (arith, m.1)) ∙ a.not_yet p l;
            stays = λ k d lt. let s = a.stays k d lt in (s.0, apart _ (λ q. m.3 k d lt (sym q)) ∙ s.1);
          },
        ),
        refl,
      )

  pub gets : (i : ℕ) (v : View M) → v.gets ≡ true → Pops Kept i v (λ x w. w ≡ with_got v x)
  gets i v may x items views h at =
      let w : View M = with_got v x in
      let a = based (x ∷ items) views i v h at may in
      let same : v.got ++ x ∷ items ≡ w.got ++ items = sym (append_assoc v.got (x ∷ []) items) in
      let Q : List (Item M) → Type 0 = λ all. Agrees all i w h.2 (set views i w) in (
        w,
        (
          i,
          w,
          h.2,
          subst Q same (record {
            at = set_here views i w (there views i v at);
            gets = a.gets;
            apart = a.apart;
            each = each_set (Fits (v.got ++ x ∷ items) i w h.2) views i w ((λ _. refl), (a.each i v at).1) (λ j u n e. a.each j u e);
            not_yet = a.not_yet;
            stays = a.stays;
          }),
        ),
        refl,
      )

  pub forks : (i : ℕ) (v : View M) → v.gets ≡ true → Forks Kept i v (with_made v) (sender v.made)
  forks i v may items views h at =
      let left : View M = with_made v in
      let right : View M = sender v.made in
      let a = based items views i v h at may in
      let vs : List (View M) = set views i left in
      let all : List (Item M) = v.got ++ items in
      let place : ℕ → ℕ = λ p. cond (p == v.made) (length vs) (h.2 p) in
      let here : place v.made ≡ length vs = ap (λ b. cond b (length vs) (h.2 v.made)) (same_nat v.made) in
      let else' : (p : ℕ) → p < v.made → place p ≡ h.2 p = λ p l. ap (λ b. cond b (length vs) (h.2 p)) (apart_nat p v.made (λ e. omega arith)) in
      let old : Each (Fits all i left place) vs = each_set (Fits all i left place) views i left
      ((λ _. refl), (λ s. absurd (true≢false (sym s ∙ a.apart))))
      (λ j u n e. let f = a.each j u e in (f.0, λ s. let g = f.1 s in (else' u.from g.1 ∙ g.0, omega (arith, g.1), g.2, g.3))) in (
        i,
        left,
        place,
        record {
          at = at_longer vs (right ∷ []) i left (set_here views i left (there views i v at));
          gets = a.gets;
          apart = a.apart;
          each = λ j u e. ⊎_elim (λ x. old j u x)
              (λ (x : (j ≡ length vs) × (right ≡ u)). let Q : View M → Type 0 = λ y. Fits all i left place j y in subst Q x.1
              ((λ g. absurd (true≢false (sym g))), λ _. (here ∙ sym x.0, omega arith, a.not_yet v.made (omega arith), λ k d lt q. let s = a.stays k d lt in omega (arith, s.0, q))))
              (at_end vs right u j e);
          not_yet = λ p l. a.not_yet p (omega arith);
          stays = λ k d lt. let s = a.stays k d lt in (omega (arith, s.0), s.1);
        },
      )

  pub merges : (i : ℕ) (v : View M) (j : ℕ) (u : View M) → v.gets ≡ true → u.sends ≡ true → Merges Kept i v j u (with_ended v u) spent
  merges i v j u may may' items views h at two at' =
      let both : View M = with_ended v u in
      let e' : Ended M = record { from = u.from; sent = u.sent } in
      let a = based items views i v h at may in
      let vs : List (View M) = set views i both in
      let all : List (Item M) = v.got ++ items in
      let was : get_elem? views j ≡ some u = ⊎_elim (λ x. absurd (two x.0)) (λ x. x.1) (at_set views i j both u at') in
      let theirs = (a.each j u was).1 may' in
      let Now : ℕ → View M → Type 0 = λ k y. k ≢ j → Fits all i both h.2 k y in
      let now : Each Now vs = each_set Now views i both (λ _. ((λ _. refl), λ s. absurd (true≢false (sym s ∙ a.apart))))
      (λ k y n e apart. let f = a.each k y e in (
        f.0,
        λ s. let g = f.1 s in (
          g.0,
          g.1,
          g.2,
          All-append (λ (x : Ended M). x.from ≢ y.from) v.ended (e' ∷ []) g.3 (All-cons (λ (x : Ended M). x.from ≢ y.from) e' [] (λ q. apart (sym g.0 ∙ ap h.2 (sym q) ∙ theirs.0)) (All-nil (λ (x : Ended M). x.from ≢ y.from))),
        ),
      )) in (
        i,
        both,
        h.2,
        record {
          at = set_else vs j i spent (λ q. two (sym q)) ∙ set_here views i both (there views i v at);
          gets = a.gets;
          apart = a.apart;
          each = each_set (Fits all i both h.2) vs j spent ((λ g. absurd (true≢false (sym g))), λ s. absurd (true≢false (sym s))) (λ k y n e. now k y e n);
          not_yet = a.not_yet;
          stays = All-append (Stays all v.made) v.ended (e' ∷ []) a.stays (All-cons (Stays all v.made) e' [] (theirs.1, theirs.2) (All-nil (Stays all v.made)));
        },
      )

  pub accounts : (i : ℕ) (v : View M) → v.gets ≡ true → Learns Kept i v (Accounts v)
  accounts i v may items views h at = let a = based items views i v h at may in (a.stays, a.not_yet)
