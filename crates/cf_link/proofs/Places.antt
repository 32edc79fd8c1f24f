-- What each step does to the places of a line.
use Rattle.std.proofs.Common.{◌≡◌, ◌<◌, ◌+◌, ◌-◌, ℕ, zero, suc, true, false, List, [], ◌∷◌, ◌++◌, Option, Some, None, length, map, get_or, set, take, drop, refl, ap, sym, ◌∙◌, subst, arith, ltb}
use mathlib.Core.Bool.{◌&&◌}
use Rattle.std.proofs.lemmas.Bool.{and_from, and_parts, lt-ltb, ltb-true, false≢true, true≢false}
use Rattle.std.specs.List.{remove}
use Rattle.std.proofs.lemmas.List.{length-map, map-append, map_push, map-set, take-map, drop-map, take-append-drop, drop_more, length-take-le}
use Rattle.std.proofs.Math.Seq.{map-set_same}
use Rattle.cf_link.specs.declared.line.Live.{Live}
use Rattle.cf_link.specs.declared.line.Place.{Place}
use Rattle.std.specs.Prelude.{IsNone}
use Rattle.std.specs.Option.{option_to_list}
use Rattle.cf_link.specs.Lines.{Fits, is_first_there}

-- room in both lists, and a number
pub room_from : (a b c d e f : ℕ) → a < b → c < d → e < f → ((ltb a b && ltb c d) && ltb e f) ≡ true
room_from a b c d e f h k l = and_from (ltb a b && ltb c d) (ltb e f) (and_from (ltb a b) (ltb c d) (lt-ltb a b h) (lt-ltb c d k)) (lt-ltb e f l)

pub room_parts : (a b c d e f : ℕ) → ((ltb a b && ltb c d) && ltb e f) ≡ true → (a < b) × (c < d) × (e < f)
room_parts a b c d e f h =
    let p = and_parts (ltb a b && ltb c d) (ltb e f) h in
    let q = and_parts (ltb a b) (ltb c d) p.0 in
    (ltb-true a b q.0, ltb-true c d q.1, ltb-true e f p.1)

pub tasks_stay : {J : Type 0} (ps : List (Place J J)) (k : ℕ) (p : Place J J) (o : Option J) → p ≡ get_or ps k p → map (λ x. x.of.value) (set ps k (record { of = p.of; out = o })) ≡ map (λ x. x.of.value) ps
tasks_stay {J} ps k p o is =
    let task : Place J J → J = λ x. x.of.value in
    map-set_same task ps k (record { of = p.of; out = o }) p (ap task is)

one_is_there : {J : Type 0} (o : Option J) (t : J) → option_to_list o ≡ t ∷ [] → IsNone o → ⊥
one_is_there (Some r) t e none = absurd (true≢false none)
one_is_there None t e none = let n = ap length e in omega (arith, n)

module _ {J F : Type 0} where
  pub fits_push : (n : ℕ) (ts : List J) (outs : List (Option J)) (live : List (Live J F)) (t : J) (v : Live J F)
      → Fits n ts outs live → v.number ≡ n + length outs → v.running ≡ t → Fits n (ts ++ t ∷ []) (outs ++ None ∷ []) (live ++ v ∷ [])
  fits_push n [] [] live t v h number same = (v, [], ap (λ l. l ++ v ∷ []) h, omega (arith, number), same, refl)
  fits_push n [] (_ ∷ _) live t v h number same = absurd h
  fits_push n (_ ∷ _) [] live t v h number same = absurd h
  fits_push n (u ∷ ts) (Some r ∷ outs) live t v h number same = (h.0, fits_push (n + 1) ts outs live t v h.1 (omega (arith, number)) same)
  fits_push n (u ∷ ts) (None ∷ outs) live t v h number same =
      (h.0, h.1 ++ v ∷ [], ap (λ l. l ++ v ∷ []) h.2, h.3, h.4, fits_push (n + 1) ts outs h.1 t v h.5 (omega (arith, number)) same)

  pub fits_over : (n : ℕ) (ts : List J) (outs : List (Option J)) (live : List (Live J F)) (t r : J)
      → Fits n ts outs live → r ≡ t → Fits n (ts ++ t ∷ []) (outs ++ Some r ∷ []) live
  fits_over n [] [] live t r h same = (same, h)
  fits_over n [] (_ ∷ _) live t r h same = absurd h
  fits_over n (_ ∷ _) [] live t r h same = absurd h
  fits_over n (u ∷ ts) (Some o ∷ outs) live t r h same = (h.0, fits_over (n + 1) ts outs live t r h.1 same)
  fits_over n (u ∷ ts) (None ∷ outs) live t r h same = (h.0, h.1, h.2, h.3, h.4, fits_over (n + 1) ts outs h.1 t r h.5 same)

  -- the place of one that runs, and the line once what came of it is kept there
  pub record Stands (n : ℕ) (ts : List J) (outs : List (Option J)) (live : List (Live J F)) (i : ℕ) (v : Live J F) : Type 0 where
    pub at : ℕ
    pub number : v.number ≡ n + at
    pub within : at < length ts
    pub task : (d : J) → get_or ts at d ≡ v.running
    pub joined : (r : J) → r ≡ v.running → Fits n ts (set outs at (Some r)) (remove live i)

  nothing_at : (live : List (Live J F)) (i : ℕ) → live ≡ [] → i < length live → ⊥
  nothing_at live i none lt = let e = ap length none in omega (arith, e, lt)

  moved_on : (n : ℕ) (t : J) (o : Option J) (ts : List J) (outs : List (Option J)) (live ls : List (Live J F)) (i j : ℕ) (v : Live J F)
      → Stands (n + 1) ts outs ls j v → ((r : J) (k : ℕ) → Fits (n + 1) ts (set outs k (Some r)) (remove ls j) → Fits n (t ∷ ts) (o ∷ set outs k (Some r)) (remove live i)) → Stands n (t ∷ ts) (o ∷ outs) live i v
  moved_on n t o ts outs live ls i j v s back = record {
    at = suc s.at;
    number = (let e = s.number in omega (arith, e));
    within = (let e = s.within in omega (arith, e));
    task = s.task;
    joined = λ r same. back r s.at (s.joined r same);
  }

  pub fits_at : (n : ℕ) (ts : List J) (outs : List (Option J)) (live : List (Live J F)) (i : ℕ) (v : Live J F)
      → Fits n ts outs live → i < length live → v ≡ get_or live i v → Stands n ts outs live i v
  fits_at n [] [] live i v h lt is = absurd (nothing_at live i h lt)
  fits_at n [] (_ ∷ _) live i v h lt is = absurd h
  fits_at n (_ ∷ _) [] live i v h lt is = absurd h
  fits_at n (t ∷ ts) (Some o ∷ outs) live i v h lt is =
      moved_on n t (Some o) ts outs live live i i v (fits_at (n + 1) ts outs live i v h.1 lt is) (λ r k f. (h.0, f))
  fits_at n (t ∷ ts) (None ∷ outs) live zero v h lt is =
      let first : v ≡ h.0 = is ∙ ap (λ l. get_or l 0 v) h.2 in
      let number : v.number ≡ n = ap (λ l. l.number) first ∙ h.3 in
      let running : v.running ≡ t = ap (λ l. l.running) first ∙ h.4 in
      let rest : remove live 0 ≡ h.1 = ap (λ l. remove l 0) h.2 in
      record {
        at = 0;
        number = omega (arith, number);
        within = omega arith;
        task = λ d. sym running;
        joined = λ r same. (same ∙ running, subst (λ l. Fits (n + 1) ts outs l) (sym rest) h.5);
      }
  fits_at n (t ∷ ts) (None ∷ outs) live (suc i) v h lt is =
      let within : i < length h.1 = (let e = ap length h.2 in omega (arith, e, lt)) in
      let same : v ≡ get_or h.1 i v = is ∙ ap (λ l. get_or l (suc i) v) h.2 in
      moved_on n t None ts outs live h.1 (suc i) i v (fits_at (n + 1) ts outs h.1 i v h.5 within same)
      (λ r k f. (h.0, remove h.1 i, ap (λ l. remove l (suc i)) h.2, h.3, h.4, f))

  -- the same of places
  pub places_push : (n len : ℕ) (ps ps_after : List (Place J J)) (live live_after : List (Live J F)) (p : Place J J) (v : Live J F)
      → Fits n (map (λ x. x.of.value) ps) (map (λ x. x.out) ps) live → ps_after ≡ ps ++ p ∷ [] → live_after ≡ live ++ v ∷ [] → p.out ≡ None → len ≡ length ps → v.number ≡ n + len → v.running ≡ p.of.value
      → Fits n (map (λ x. x.of.value) ps_after) (map (λ x. x.out) ps_after) live_after
  places_push n len ps ps_after live live_after p v h more more_live none is number same =
      let task : Place J J → J = λ x. x.of.value in
      let out : Place J J → Option J = λ x. x.out in
      let ts : map task ps_after ≡ map task ps ++ p.of.value ∷ [] = ap (map task) more ∙ map_push task ps p in
      let os : map out ps_after ≡ map out ps ++ None ∷ [] = ap (map out) more ∙ map_push out ps p ∙ ap (λ o. map out ps ++ o ∷ []) none in
      let l = length-map ps out in
      rw (ts, os, more_live) (fits_push n (map task ps) (map out ps) live p.of.value v h (omega (arith, is, number, l)) same)

  pub places_over : (n : ℕ) (ps ps_after : List (Place J J)) (live : List (Live J F)) (p : Place J J) (r : J)
      → Fits n (map (λ x. x.of.value) ps) (map (λ x. x.out) ps) live → ps_after ≡ ps ++ p ∷ [] → p.out ≡ Some r → r ≡ p.of.value
      → Fits n (map (λ x. x.of.value) ps_after) (map (λ x. x.out) ps_after) live
  places_over n ps ps_after live p r h more some same =
      let task : Place J J → J = λ x. x.of.value in
      let out : Place J J → Option J = λ x. x.out in
      let ts : map task ps_after ≡ map task ps ++ p.of.value ∷ [] = ap (map task) more ∙ map_push task ps p in
      let os : map out ps_after ≡ map out ps ++ Some r ∷ [] = ap (map out) more ∙ map_push out ps p ∙ ap (λ o. map out ps ++ o ∷ []) some in
      rw (ts, os) (fits_over n (map task ps) (map out ps) live p.of.value r h same)

  -- the place of one that runs
  pub place_at : (n : ℕ) (ps : List (Place J J)) (live : List (Live J F)) (i : ℕ) (v : Live J F)
      → Fits n (map (λ x. x.of.value) ps) (map (λ x. x.out) ps) live → i < length live → v ≡ get_or live i v
      → (at : ℕ) × (v.number ≡ n + at) × (at < length ps)
  place_at n ps live i v h lt is =
      let task : Place J J → J = λ x. x.of.value in
      let out : Place J J → Option J = λ x. x.out in
      let s = fits_at n (map task ps) (map out ps) live i v h lt is in
      let l = length-map ps task in
      let w = s.within in
      (s.at, s.number, omega (arith, l, w))

  pub places_joined : (n : ℕ) (ps : List (Place J J)) (live live_after : List (Live J F)) (i k : ℕ) (v : Live J F) (p : Place J J) (r : J)
      → Fits n (map (λ x. x.of.value) ps) (map (λ x. x.out) ps) live → i < length live → v ≡ get_or live i v → live_after ≡ remove live i → k ≡ v.number - n → p ≡ get_or ps k p → r ≡ v.running
      → Fits n (map (λ x. x.of.value) (set ps k (record { of = p.of; out = Some r }))) (map (λ x. x.out) (set ps k (record { of = p.of; out = Some r }))) live_after
  places_joined n ps live live_after i k v p r h lt is less place at same =
      let task : Place J J → J = λ x. x.of.value in
      let out : Place J J → Option J = λ x. x.out in
      let q : Place J J = record { of = p.of; out = Some r } in
      let s = fits_at n (map task ps) (map out ps) live i v h lt is in
      let number = s.number in
      let here : k ≡ s.at = omega (arith, number, place) in
      let os : map out (set ps k q) ≡ set (map out ps) s.at (Some r) = map-set out ps k q ∙ ap (λ j. set (map out ps) j (Some r)) here in
      rw (tasks_stay ps k p (Some r) at, os, less) (s.joined r same)

  pub flags_left : (live live_after : List (Live J F)) (i : ℕ) → live_after ≡ remove live i → map (λ v. v.flag) live_after ≡ remove (map (λ v. v.flag) live) i
  flags_left live live_after i less =
      let flag : Live J F → F = λ v. v.flag in
      ap (map flag) less ∙ map-append flag (take i live) (drop (suc i) live) ∙ ap (λ l. l ++ map flag (drop (suc i) live)) (sym (take-map flag i live)) ∙ ap (λ l. take i (map flag live) ++ l) (sym (drop-map flag (suc i) live))

  -- the flag of one that runs
  pub flag_at : (live : List (Live J F)) (i : ℕ) (v : Live J F) → i < length live → v ≡ get_or live i v
      → (map (λ x. x.flag) live ≡ map (λ x. x.flag) (take i live) ++ v.flag ∷ map (λ x. x.flag) (drop (i + 1) live)) × (length (map (λ x. x.flag) (take i live)) ≡ i)
  flag_at live i v lt is =
      let flag : Live J F → F = λ x. x.flag in
      let split : live ≡ take i live ++ v ∷ drop (i + 1) live =
      sym (take-append-drop i live) ∙ ap (λ l. take i live ++ l) (drop_more live i v lt ∙ ap (λ x. x ∷ drop (i + 1) live) (sym is)) in
      let l = length-map (take i live) flag in
      let m = length-take-le i live (omega (arith, lt)) in
      (ap (map flag) split ∙ map-append flag (take i live) (v ∷ drop (i + 1) live), omega (arith, l, m))

  first_out : (n : ℕ) (t : J) (ts : List J) (o : Option J) (outs : List (Option J)) (live : List (Live J F)) → is_first_there (o ∷ outs) ≡ true → Fits n (t ∷ ts) (o ∷ outs) live
      → (option_to_list o ≡ t ∷ []) × Fits (n + 1) ts outs live
  first_out n t ts (Some r) outs live there h = (ap (λ x. x ∷ []) h.0, h.1)
  first_out n t ts None outs live there h = absurd (false≢true there)

  -- the first one is taken out
  pub record Taken (n : ℕ) (ps ps_after : List (Place J J)) (live : List (Live J F)) (p : Place J J) : Type 0 where
    pub tasks : map (λ x. x.of.value) ps ≡ option_to_list p.out ++ map (λ x. x.of.value) ps_after
    pub fits : Fits (n + 1) (map (λ x. x.of.value) ps_after) (map (λ x. x.out) ps_after) live
    pub there : IsNone p.out → ⊥

  pub places_next : (n : ℕ) (ps ps_after : List (Place J J)) (live : List (Live J F)) (p : Place J J) → ps ≡ p ∷ ps_after → is_first_there (map (λ x. x.out) ps) ≡ true
      → Fits n (map (λ x. x.of.value) ps) (map (λ x. x.out) ps) live → Taken n ps ps_after live p
  places_next n ps ps_after live p is there h =
      let task : Place J J → J = λ x. x.of.value in
      let out : Place J J → Option J = λ x. x.out in
      let P : List (Place J J) → Type 0 = λ l. Fits n (map task l) (map out l) live in
      let first = first_out n p.of.value (map task ps_after) p.out (map out ps_after) live (sym (ap (λ l. is_first_there (map out l)) is) ∙ there) (subst P is h) in
      record {
        tasks = ap (map task) is ∙ ap (λ l. l ++ map task ps_after) (sym first.0);
        fits = first.1;
        there = one_is_there p.out p.of.value first.0;
      }

  nothing_left : (n : ℕ) (ts : List J) (outs : List (Option J)) (live : List (Live J F)) → Fits n ts outs live → is_first_there outs ≡ false → live ≡ [] → ts ≡ []
  nothing_left n [] [] live h first none = refl
  nothing_left n [] (_ ∷ _) live h first none = absurd h
  nothing_left n (_ ∷ _) [] live h first none = absurd h
  nothing_left n (t ∷ ts) (Some r ∷ outs) live h first none = absurd (true≢false first)
  nothing_left n (t ∷ ts) (None ∷ outs) live h first none = let e = ap length (sym h.2 ∙ none) in absurd (omega (arith, e))

  no_live : (live : List (Live J F)) → map (λ v. v.flag) live ≡ [] → live ≡ []
  no_live [] e = refl
  no_live (_ ∷ _) e = let n = ap length e in absurd (omega (arith, n))

  -- none runs, and the first one isn't over: there is none
  pub none_left : (n : ℕ) (ps : List (Place J J)) (live : List (Live J F)) → Fits n (map (λ x. x.of.value) ps) (map (λ x. x.out) ps) live → is_first_there (map (λ x. x.out) ps) ≡ false → map (λ v. v.flag) live ≡ []
      → map (λ x. x.of.value) ps ≡ []
  none_left n ps live h first none =
      let task : Place J J → J = λ x. x.of.value in
      let out : Place J J → Option J = λ x. x.out in
      nothing_left n (map task ps) (map out ps) live h first (no_live live none)
