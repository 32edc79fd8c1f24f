-- Looking at the flags of those that run, one after another.
use Rattle.std.proofs.Common.{◌≡◌, ◌≤◌, ◌+◌, ℕ, zero, suc, Bool, true, false, List, [], ◌∷◌, ◌++◌, length, drop, inl, inr, refl, ap, sym, ◌∙◌, subst, append_assoc, append-nil, length-append, arith}
use Rattle.std.proofs.lemmas.List.{drop_at}
use Rattle.std.specs.List.{remove}
use Rattle.cf_link.specs.Lines.{AllRun, Stay}

removed : {X : Type 0} (left : List X) (f : X) (after : List X) (i : ℕ) → length left ≡ i → remove (left ++ f ∷ after) i ≡ left ++ after
removed [] f after zero e = refl
removed [] f after (suc i) e = absurd (omega (arith, e))
removed (x ∷ left) f after zero e = absurd (omega (arith, e))
removed (x ∷ left) f after (suc i) e = ap (λ l. x ∷ l) (removed left f after i (omega (arith, e)))

empty_list : {X : Type 0} (xs : List X) → length xs ≤ 0 → xs ≡ []
empty_list [] h = refl
empty_list (_ ∷ _) h = absurd (omega (arith, h))

module _ {F : Type 0} (tells : F → Bool → Type 0) where
  pub stay_same : (fs : List F) → Stay tells fs fs
  stay_same [] = refl
  stay_same (f ∷ fs) = inr (fs, refl, stay_same fs)

  stay_over : (f : F) (fs rest now : List F) → ((now : List F) → Stay tells rest now → Stay tells fs now) → Stay tells (f ∷ rest) now → Stay tells (f ∷ fs) now
  stay_over f fs rest now further (inl p) = inl (p.0, further now p.1)
  stay_over f fs rest now further (inr q) = inr (q.0, q.1, further q.0 q.2)

  pub stay_twice : (was mid now : List F) → Stay tells was mid → Stay tells mid now → Stay tells was now
  stay_twice [] mid now h k = let P : List F → Type 0 = λ l. Stay tells l now in subst P h k
  stay_twice (f ∷ fs) mid now (inl p) k = inl (p.0, stay_twice fs mid now p.1 k)
  stay_twice (f ∷ fs) mid now (inr q) k =
      let P : List F → Type 0 = λ l. Stay tells l now in
      stay_over f fs q.0 now (λ n s. stay_twice fs q.0 n q.2 s) (subst P q.1 k)

  stay_gone : (fs left : List F) (f : F) → Stay tells fs left → tells f true → Stay tells (fs ++ f ∷ []) left
  stay_gone [] left f h t = inl (t, h)
  stay_gone (g ∷ fs) left f (inl p) t = inl (p.0, stay_gone fs left f p.1 t)
  stay_gone (g ∷ fs) left f (inr q) t = inr (q.0, q.1, stay_gone fs q.0 f q.2 t)

  stay_kept : (fs left : List F) (f : F) → Stay tells fs left → Stay tells (fs ++ f ∷ []) (left ++ f ∷ [])
  stay_kept [] left f h = inr ([], ap (λ l. l ++ f ∷ []) h, refl)
  stay_kept (g ∷ fs) left f (inl p) = inl (p.0, stay_kept fs left f p.1)
  stay_kept (g ∷ fs) left f (inr q) = inr (q.0 ++ f ∷ [], ap (λ l. l ++ f ∷ []) q.1, stay_kept fs q.0 f q.2)

  run_more : (fs : List F) (f : F) → AllRun tells fs → tells f false → AllRun tells (fs ++ f ∷ [])
  run_more [] f h t = (t, tt)
  run_more (g ∷ fs) f h t = (h.0, run_more fs f h.1 t)

  -- of the flags the first were looked at, and of these so many are left
  pub record Looked (was now : List F) (i : ℕ) : Type 0 where
    pub seen : List F
    pub left : List F
    pub rest : List F
    pub was_all : was ≡ seen ++ rest
    pub now_all : now ≡ left ++ rest
    pub count : length left ≡ i
    pub stay : Stay tells seen left
    pub run : AllRun tells left

  pub looked_none : (was : List F) → Looked was was 0
  looked_none was = record {
    seen = [];
    left = [];
    rest = was;
    was_all = refl;
    now_all = refl;
    count = refl;
    stay = refl;
    run = tt;
  }

  next_is : (was now : List F) (i : ℕ) (front after : List F) (f : F) → (l : Looked was now i) → now ≡ front ++ f ∷ after → length front ≡ i → l.rest ≡ f ∷ after
  next_is was now i front after f l is len = sym (drop_at l.left l.rest i l.count) ∙ ap (drop i) (sym l.now_all ∙ is) ∙ drop_at front (f ∷ after) i len

  pub looked_over : (was now now_after : List F) (i : ℕ) (front after : List F) (f : F) → Looked was now i → now ≡ front ++ f ∷ after → length front ≡ i → tells f true → now_after ≡ remove now i → Looked was now_after i
  looked_over was now now_after i front after f l is len raised less =
      let e = next_is was now i front after f l is len in
      record {
        seen = l.seen ++ f ∷ [];
        left = l.left;
        rest = after;
        was_all = l.was_all ∙ ap (λ r. l.seen ++ r) e ∙ sym (append_assoc l.seen (f ∷ []) after);
        now_all = less ∙ ap (λ n. remove n i) (l.now_all ∙ ap (λ r. l.left ++ r) e) ∙ removed l.left f after i l.count;
        count = l.count;
        stay = stay_gone l.seen l.left f l.stay raised;
        run = l.run;
      }

  pub looked_runs : (was now : List F) (i : ℕ) (front after : List F) (f : F) → Looked was now i → now ≡ front ++ f ∷ after → length front ≡ i → tells f false → Looked was now (i + 1)
  looked_runs was now i front after f l is len lowered =
      let e = next_is was now i front after f l is len in
      record {
        seen = l.seen ++ f ∷ [];
        left = l.left ++ f ∷ [];
        rest = after;
        was_all = l.was_all ∙ ap (λ r. l.seen ++ r) e ∙ sym (append_assoc l.seen (f ∷ []) after);
        now_all = l.now_all ∙ ap (λ r. l.left ++ r) e ∙ sym (append_assoc l.left (f ∷ []) after);
        count = (let n = l.count in let m = length-append l.left (f ∷ []) in omega (arith, n, m));
        stay = stay_kept l.seen l.left f l.stay;
        run = run_more l.left f l.run lowered;
      }

  pub looked_all : (was now : List F) (i : ℕ) → Looked was now i → length now ≤ i → Stay tells was now × AllRun tells now
  looked_all was now i l few =
      let n = ap length l.now_all ∙ length-append l.left l.rest in
      let c = l.count in
      let none : l.rest ≡ [] = empty_list l.rest (omega (arith, n, c, few)) in
      let seen : l.seen ≡ was = sym (l.was_all ∙ ap (λ r. l.seen ++ r) none ∙ append-nil l.seen) in
      let left : l.left ≡ now = sym (l.now_all ∙ ap (λ r. l.left ++ r) none ∙ append-nil l.left) in
      let P : List F → Type 0 = λ s. Stay tells s l.left in
      let Q : List F → Type 0 = λ s. Stay tells was s in
      let R : List F → Type 0 = λ s. AllRun tells s in
      (subst Q left (subst P seen l.stay), subst R left l.run)
