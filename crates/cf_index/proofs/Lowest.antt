-- The height of each hash is the lowest.
use Rattle.std.proofs.Common.{◌≡◌, ℕ, zero, suc, ◌+◌, ◌<◌, Bool, true, false, cond, List, [], ◌∷◌, ◌++◌, map, length, take, get_or, refl, sym, ◌∙◌, ap, Option, Some, None, add-one, arith, length-take}
use Rattle.std.specs.Prelude.{if◌then◌else◌, is_some}
use Rattle.std.specs.Option.{option_or}
use Rattle.std.specs.declared.cmp.Ordering.{Ordering}
use Rattle.std.specs.declared.cmp.Ordering.TheVariants.{Less, Equal, Greater}
use Rattle.std.specs.List.{position, position_from}
use Rattle.std.specs.Map.{lookup}
use Rattle.std.specs.Ordering.{eq_by_cmp, is_eq}
use Rattle.std.specs.Cmp.{IsTotalOrder, on_total, eq_by_cmp_equiv}
use Rattle.std.specs.Cmp.Lexicographic.{nat_list_cmp_total}
use Rattle.std.specs.FinMap.{IsAntisymmetric, empty, get, get-empty, insert, contains_key, from_entries, get-insert, get_tied, nat_cmp-IsAntisymmetric, slice_cmp-IsAntisymmetric}
use Rattle.std.proofs.lemmas.List.{take_more}
use Rattle.std.proofs.lemmas.Iterator.Adapters.{position_from-zero}
use Rattle.std.proofs.lemmas.Map.Text.{is_eq-slice_cmp}
use Rattle.cf_bytes.specs.declared.hash.Hash32.{Hash32}
use Rattle.cf_headers.specs.Rules.{same}
use Rattle.cf_index.specs.ByHash.{hash_cmp, ByHash, with_first}
use Rattle.cf_index.specs.HeightMap.{HeightMap}
use Rattle.cf_coins.proofs.Maps.{found, inserted}

hash_total : IsTotalOrder hash_cmp
hash_total = on_total (λ (h : Hash32). h.0) nat_list_cmp_total

hash_same : IsAntisymmetric hash_cmp
hash_same x y e = λ i. record { 0 = slice_cmp-IsAntisymmetric nat_cmp-IsAntisymmetric x.0 y.0 e i }

-- the map, as the code keeps it
pub got_height : {X : Type 0} (es : List (Hash32 × X)) (q : Hash32) → get (from_entries {R = hash_cmp} es) q ≡ lookup (λ k. is_eq (hash_cmp q k)) es
got_height = found hash_total

pub inserted_height : {X : Type 0} (es fs : List (Hash32 × X)) (k : Hash32) (v : X)
    → ((q : Hash32) → lookup (λ x. is_eq (hash_cmp q x)) fs ≡ cond (is_eq (hash_cmp k q)) (Some v) (lookup (λ x. is_eq (hash_cmp q x)) es))
    → from_entries {R = hash_cmp} fs ≡ insert (from_entries es) k v
inserted_height = inserted hash_total hash_same

-- ---- the first place that passes

places_more : {X : Type 0} (p : X → Bool) (i : ℕ) (xs : List X) (x : X)
    → position_from p i (xs ++ x ∷ []) ≡ option_or (position_from p i xs) (cond (p x) (Some (i + length xs)) None)
places_more p i [] x = ap (λ (n : ℕ). cond (p x) (Some n) None) (omega arith)
places_more p i (y ∷ ys) x =
    let more = places_more p (i + 1) ys x ∙ ap (λ (n : ℕ). option_or (position_from p (i + 1) ys) (cond (p x) (Some n) None)) (omega arith) in
    elim (p y) as (λ (b : Bool). cond b (Some i) (position_from p (i + 1) (ys ++ x ∷ [])) ≡ option_or (cond b (Some i) (position_from p (i + 1) ys)) (cond (p x) (Some (i + suc (length ys))) None)) [
      | true ↦ refl
      | false ↦ more
    ]

pub place_more : {X : Type 0} (p : X → Bool) (xs : List X) (x : X) → position p (xs ++ x ∷ []) ≡ option_or (position p xs) (cond (p x) (Some (length xs)) None)
place_more p xs x =
    position_from-zero p (xs ++ x ∷ []) ∙ places_more p 0 xs x
    ∙ ap (λ (o : Option ℕ). option_or o (cond (p x) (Some (0 + length xs)) None)) (sym (position_from-zero p xs))
    ∙ ap (λ (n : ℕ). option_or (position p xs) (cond (p x) (Some n) None)) (omega arith)

places_of : {X Y : Type 0} (f : X → Y) (p : Y → Bool) (i : ℕ) (xs : List X) → position_from p i (map f xs) ≡ position_from (λ x. p (f x)) i xs
places_of f p i [] = refl
places_of f p i (x ∷ xs) = ap (cond (p (f x)) (Some i)) (places_of f p (i + 1) xs)

pub place_of : {X Y : Type 0} (f : X → Y) (p : Y → Bool) (xs : List X) → position p (map f xs) ≡ position (λ x. p (f x)) xs
place_of f p xs = position_from-zero p (map f xs) ∙ places_of f p 0 xs ∙ sym (position_from-zero (λ x. p (f x)) xs)

-- ---- one height more

tied : (q k : Hash32) → eq_by_cmp hash_cmp q k ≡ same k.0 q.0
unfolding same
tied q k = (eq_by_cmp_equiv hash_total).symm q k ∙ is_eq-slice_cmp k.0 q.0

equal_by : (o : Ordering) → is_eq o ≡ true → o ≡ Equal
equal_by Less e = cc
equal_by Equal e = refl
equal_by Greater e = cc

same_value : {V : Type 0} (m : ByHash V) (k q : Hash32) → same k.0 q.0 ≡ true → get m q ≡ get m k
unfolding same
same_value m k q e = get_tied hash_total m k q (equal_by (hash_cmp k q) (is_eq-slice_cmp k.0 q.0 ∙ e))

pub or_none : {V : Type 0} (o : Option V) → o ≡ option_or o None
or_none None = refl
or_none (Some v) = refl

put_by : {V : Type 0} (b : Bool) (o : Option V) (v : V) → (b ≡ true → o ≡ None) → cond b (Some v) o ≡ option_or o (cond b (Some v) None)
put_by {V} true o v h = sym (ap (λ (x : Option V). option_or x (Some v)) (h refl))
put_by false o v h = or_none o

kept_by : {V : Type 0} (b : Bool) (o : Option V) (v w : V) → (b ≡ true → o ≡ Some w) → o ≡ option_or o (cond b (Some v) None)
kept_by {V} true o v w h = h refl ∙ sym (ap (λ (x : Option V). option_or x (Some v)) (h refl))
kept_by false o v w h = or_none o

kept_or_put : {V : Type 0} (m : ByHash V) (k q : Hash32) (v : V) (had : Option V) → get m k ≡ had
    → get (if is_some had then m else insert m k v) q ≡ option_or (get m q) (cond (same k.0 q.0) (Some v) None)
kept_or_put m k q v None is =
    get-insert hash_total m k v q ∙ ap (λ (b : Bool). cond b (Some v) (get m q)) (tied q k)
    ∙ put_by (same k.0 q.0) (get m q) v (λ e. same_value m k q e ∙ is)
kept_or_put m k q v (Some w) is = kept_by (same k.0 q.0) (get m q) v w (λ e. same_value m k q e ∙ is)

pub with_first_gives : {V : Type 0} (m : ByHash V) (k q : Hash32) (v : V) → get (with_first m k v) q ≡ option_or (get m q) (cond (same k.0 q.0) (Some v) None)
with_first_gives m k q v = kept_or_put m k q v (get m k) refl

pub kept : {V : Type 0} (m : ByHash V) (k : Hash32) (v : V) → contains_key m k ≡ true → m ≡ with_first m k v
kept m k v is = sym (ap (λ (b : Bool). if b then m else insert m k v) is)

pub put : {V : Type 0} (m : ByHash V) (k : Hash32) (v : V) → contains_key m k ≡ false → insert m k v ≡ with_first m k v
put m k v is = sym (ap (λ (b : Bool). if b then m else insert m k v) is)

-- a hash that has a value keeps it
pub first_stays : {V : Type 0} (es : List (Hash32 × V)) (seen : ByHash V) (k : Hash32) (v : V) (has : Bool) → from_entries es ≡ seen → has ≡ is_some (lookup (λ x. is_eq (hash_cmp k x)) es) → has ≡ true
    → seen ≡ with_first seen k v
first_stays es seen k v has is looked there = rw is at (kept (from_entries es) k v (ap is_some (got_height es k) ∙ sym looked ∙ there))

-- and one that has none gets it
pub first_put : {V : Type 0} (es fs : List (Hash32 × V)) (seen : ByHash V) (k : Hash32) (v : V) (has : Bool) → from_entries es ≡ seen → has ≡ is_some (lookup (λ x. is_eq (hash_cmp k x)) es) → has ≡ false
    → ((q : Hash32) → lookup (λ x. is_eq (hash_cmp q x)) fs ≡ cond (is_eq (hash_cmp k q)) (Some v) (lookup (λ x. is_eq (hash_cmp q x)) es))
    → from_entries fs ≡ with_first seen k v
first_put {V} es fs seen k v has is looked none updates =
    inserted_height es fs k v updates
    ∙ put (from_entries es) k v (ap is_some (got_height es k) ∙ sym looked ∙ none)
    ∙ ap (λ (m : ByHash V). with_first m k v) is

-- the next block's height is put in
pub height_more : {X : Type 0} (heights new : HeightMap) (hash : X → Hash32) (xs : List X) (i : ℕ) (x : X) (q : Hash32)
    → i < length xs → x ≡ get_or xs i x → new ≡ with_first heights (hash x) i
    → get heights q ≡ position (λ y. same (hash y).0 q.0) (take i xs)
    → get new q ≡ position (λ y. same (hash y).0 q.0) (take (i + 1) xs)
height_more {X} heights new hash xs i x q below at is so_far =
    let p : X → Bool = λ y. same (hash y).0 q.0 in
    let grown : take (i + 1) xs ≡ take i xs ++ x ∷ [] = take_more xs i x below ∙ ap (λ (y : X). take i xs ++ y ∷ []) (sym at) in
    let long : length (take i xs) ≡ i = omega (arith, length-take i xs) in
    ap (λ (m : HeightMap). get m q) is ∙ with_first_gives heights (hash x) q i
    ∙ ap (λ (o : Option ℕ). option_or o (cond (p x) (Some i) None)) so_far
    ∙ ap (λ (n : ℕ). option_or (position p (take i xs)) (cond (p x) (Some n) None)) (sym long)
    ∙ sym (ap (position p) grown ∙ place_more p (take i xs) x)

-- the first block's height is put in first
pub height_first : (heights new : HeightMap) (first named : Hash32) (q : Hash32) → heights ≡ empty → new ≡ with_first heights first 0 → first.0 ≡ named.0
    → get new q ≡ position (λ h. same h.0 q.0) (named ∷ [])
height_first heights new first named q none is hashed =
    let at : get new q ≡ position (λ (h : Hash32). same h.0 q.0) (first ∷ []) =
    height_more heights new (λ (h : Hash32). h) (first ∷ []) 0 first q (omega arith) refl is (ap (λ (m : HeightMap). get m q) none ∙ get-empty hash_cmp q) in
    let one : first ≡ named = λ i. record { 0 = hashed i } in
    at ∙ ap (λ (k : Hash32). position (λ (h : Hash32). same h.0 q.0) (k ∷ [])) one

there : {X : Type 0} (xs : List X) (i : ℕ) (d e : X) → i < length xs → get_or xs i d ≡ get_or xs i e
there [] i d e below = absurd (omega (arith, below))
there (x ∷ xs) zero d e below = refl
there (x ∷ xs) (suc i) d e below = there xs i d e (omega (arith, below))

-- and then those of the blocks above it
pub height_next : (heights new : HeightMap) (first : Hash32) (hashes : List Hash32) (i height : ℕ) (d q : Hash32)
    → i < length hashes → height ≡ i + 1 → new ≡ with_first heights (get_or hashes i d) height
    → get heights q ≡ position (λ h. same h.0 q.0) (first ∷ take i hashes)
    → get new q ≡ position (λ h. same h.0 q.0) (first ∷ take (i + 1) hashes)
height_next heights new first hashes i height d q below at is so_far =
    let all : List Hash32 = first ∷ hashes in
    let x : Hash32 = get_or hashes i d in
    let p : Hash32 → Bool = λ h. same h.0 q.0 in
    let front : (n : ℕ) → take (n + 1) all ≡ first ∷ take n hashes = λ n. ap (λ (k : ℕ). take k all) (add-one n) in
    let here : x ≡ get_or all (i + 1) x = there hashes i d x below ∙ ap (λ (k : ℕ). get_or all k x) (sym (add-one i)) in
    let low : i + 1 < length all = omega (arith, below) in
    height_more heights new (λ (h : Hash32). h) all (i + 1) x q low here (is ∙ ap (with_first heights x) at) (so_far ∙ ap (position p) (sym (front i)))
    ∙ ap (position p) (front (i + 1))
