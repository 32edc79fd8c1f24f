-- From what was received to what was given.
use Rattle.std.proofs.Common.{◌≡◌, ◌<◌, ◌≤◌, ◌+◌, ℕ, zero, suc, Bool, true, false, not, ◌||◌, ◌&&◌, true≢false, List, [], ◌∷◌, ◌++◌, Option, Some, None, length, take, drop, sym, refl, ap, ◌∙◌, append_assoc, append-nil, arith}
use Rattle.std.proofs.lemmas.Grind.{common_steps}
use Rattle.std.proofs.lemmas.Bool.Decides.{nat_tests}
use Rattle.std.proofs.lemmas.List.{take-append-le, take-append-drop, length-append}
use Rattle.std.proofs.Math.Seq.{take-length, take-append_seam}
use Rattle.cf_wires.specs.declared.event.Event.{Event}
use Rattle.cf_wires.specs.declared.event.Event.TheVariants.{Took}
use Rattle.cf_wires.specs.declared.event.Delivery.{Delivery}
use Rattle.cf_wires.specs.declared.event.Delivery.TheVariants as gives
use Rattle.cf_wires.specs.Log.{Log, Told, deliveries, with_delivery, is_real, tell, longer}
use Rattle.cf_tasks.specs.declared.entry.Item.{Item}
use Rattle.cf_tasks.specs.Queue.{of, entry, IsStart}
use Rattle.cf_tasks.proofs.Moves.{of_append}
use Rattle.cf_outside.specs.declared.entry.EntryKind.{EntryKind}
use Rattle.cf_outside.specs.declared.entry.EntryKind.TheVariants as kinds
use Rattle.cf_outside.specs.Pieces.{bytes_of, bytes_in, is_last, is_open}
use Rattle.cf_outside.specs.Ticks.{seconds_of, ticks}
use Rattle.cf_hub.specs.Gives.{delivery_of, given_of, LogGives, piece_in, pieces_of, is_gone_of, has_gone, tick_in, ticks_of, IsFront}

pub given-append : (xs ys : List (Item EntryKind)) → given_of (xs ++ ys) ≡ given_of xs ++ given_of ys
given-append [] ys = refl
given-append (x ∷ xs) ys = ap (λ l. delivery_of x.from x.kind ++ l) (given-append xs ys) ∙ sym (append_assoc (delivery_of x.from x.kind) (given_of xs) (given_of ys))

pub given_more : (got : List (Item EntryKind)) (p : ℕ) (k : EntryKind) → given_of (got ++ entry p k ∷ []) ≡ given_of got ++ delivery_of p k
given_more got p k = given-append got (entry p k ∷ []) ∙ ap (λ l. given_of got ++ l) (append-nil (delivery_of p k))

pub front_start : {X : Type 0} (xs ys : List X) → IsFront xs ys → IsStart xs ys
front_start xs ys f = (drop (length xs) ys, sym (take-append-drop (length xs) ys) ∙ ap (λ l. l ++ drop (length xs) ys) f)

pub start_front : {X : Type 0} (xs ys : List X) → IsStart xs ys → IsFront xs ys
start_front xs ys s = ap (take (length xs)) s.1 ∙ take-append_seam xs s.0

-- a told log's deliveries stay the first ones as more is received
pub log_waits : (t : Told) (got : List (Item EntryKind)) (e : Item EntryKind) → t.tally.taken ≤ length (given_of got) → LogGives t got → LogGives t (got ++ e ∷ [])
log_waits t got e w h = λ log is. h log is ∙ sym (ap (take t.tally.taken) (given-append got (e ∷ [])) ∙ take-append-le t.tally.taken (given_of got) (given_of (e ∷ [])) w)

with_real : (d : Delivery) (ds : List Delivery) → is_real d ≡ true → with_delivery d ds ≡ ds ++ d ∷ []
with_real (gives.Got p b) ds r = refl
with_real (gives.Gone p) ds r = refl
with_real (gives.Tick s) ds r = refl
with_real gives.Ended ds r = absurd (true≢false (sym r))

taken_more : (d : Delivery) (t : Told) → is_real d ≡ true → (tell (Took d) t).tally.taken ≡ t.tally.taken + 1
taken_more (gives.Got p b) t r = refl
taken_more (gives.Gone p) t r = refl
taken_more (gives.Tick s) t r = refl
taken_more gives.Ended t r = absurd (true≢false (sym r))

log_inside : (e : Event) (o : Option Log) (log : Log) → longer e o ≡ Some log → (l : Log) × (o ≡ Some l) × (log ≡ e ∷ l)
log_inside e None log q = absurd (true≢false (sym (ap is_told q)))
  where
    is_told : Option Log → Bool
    is_told None = false
    is_told (Some l) = true
log_inside e (Some l) log q = (l, refl, sym (ap inner q))
  where
    inner : Option Log → Log
    inner None = []
    inner (Some m) = m

-- one delivery more is given
pub log_grows : (t : Told) (got got' : List (Item EntryKind)) (d : Delivery) → is_real d ≡ true → given_of got' ≡ given_of got ++ d ∷ []
    → t.tally.taken ≡ length (given_of got) → LogGives t got → LogGives (tell (Took d) t) got'
log_grows t got got' d r g n h = λ log is.
    let x = log_inside (Took d) t.log log is in
    let all : take (t.tally.taken + 1) (given_of got') ≡ given_of got ++ d ∷ [] =
    ap (λ k. take (k + 1) (given_of got')) n ∙ ap (take (length (given_of got) + 1)) g
    ∙ ap (λ k. take k (given_of got ++ d ∷ [])) (sym (length-append (given_of got) (d ∷ []))) ∙ take-length (given_of got ++ d ∷ []) in
    let was : deliveries x.0 ≡ given_of got = h x.0 x.1 ∙ ap (λ k. take k (given_of got)) n ∙ take-length (given_of got) in
    ap deliveries x.2 ∙ with_real d (deliveries x.0) r ∙ ap (λ l. l ++ d ∷ []) was ∙ sym (ap (λ k. take k (given_of got')) (taken_more d t r) ∙ all)

pub count_grows : (t : Told) (got got' : List (Item EntryKind)) (d : Delivery) → is_real d ≡ true → given_of got' ≡ given_of got ++ d ∷ []
    → t.tally.taken ≡ length (given_of got) → (tell (Took d) t).tally.taken ≡ length (given_of got')
count_grows t got got' d r g n = taken_more d t r ∙ ap (λ k. k + 1) n ∙ sym (ap length g ∙ length-append (given_of got) (d ∷ []))

-- the end is no delivery
pub log_ends : (t : Told) (got : List (Item EntryKind)) → LogGives t got → LogGives (tell (Took gives.Ended) t) got
log_ends t got h = λ log is. let x = log_inside (Took gives.Ended) t.log log is in ap deliveries x.2 ∙ h x.0 x.1

at_most : (p : ℕ) (i : EntryKind) → length (delivery_of p i) ≤ 1
at_most zero (kinds.Got b) = omega arith
at_most zero (kinds.Tick s) = omega arith
at_most zero kinds.Last = omega arith
at_most (suc p) (kinds.Got b) = omega arith
at_most (suc p) (kinds.Tick s) = omega arith
at_most (suc p) kinds.Last = omega arith

-- of the first deliveries, whose entries they are
abbrev Cut : ℕ → List (Item EntryKind) → Type 0
Cut k es = (front : List (Item EntryKind)) × (rest : List (Item EntryKind)) × (es ≡ front ++ rest) × (take k (given_of es) ≡ given_of front)

cut_one : (k : ℕ) (e : Item EntryKind) (es : List (Item EntryKind)) (ds : List Delivery) → delivery_of e.from e.kind ≡ ds → length ds ≤ 1 → Cut (suc k) es → Cut k es → Cut (suc k) (e ∷ es)
cut_one k e es [] q l c c' = (
  e ∷ c.0,
  c.1,
  ap (λ z. e ∷ z) c.2,
  ap (λ z. take (suc k) (z ++ given_of es)) q ∙ c.3 ∙ sym (ap (λ z. z ++ given_of c.0) q),
)
cut_one k e es (d ∷ []) q l c c' = (
  e ∷ c'.0,
  c'.1,
  ap (λ z. e ∷ z) c'.2,
  ap (λ z. take (suc k) (z ++ given_of es)) q ∙ ap (λ z. d ∷ z) c'.3 ∙ sym (ap (λ z. z ++ given_of c'.0) q),
)
cut_one k e es (d ∷ f ∷ ds) q l c c' = absurd (omega (arith, l))

pub cut : (k : ℕ) (es : List (Item EntryKind)) → Cut k es
cut zero es = ([], es, refl, refl)
cut (suc k) [] = ([], [], refl, refl)
cut (suc k) (e ∷ es) = cut_one k e es (delivery_of e.from e.kind) refl (at_most e.from e.kind) (cut (suc k) es) (cut k es)

pieces-append : (p : ℕ) (xs ys : List Delivery) → pieces_of p (xs ++ ys) ≡ pieces_of p xs ++ pieces_of p ys
pieces-append p [] ys = refl
pieces-append p (x ∷ xs) ys = ap (λ l. piece_in p x ++ l) (pieces-append p xs ys) ∙ sym (append_assoc (piece_in p x) (pieces_of p xs) (pieces_of p ys))

ticks-append : (xs ys : List Delivery) → ticks_of (xs ++ ys) ≡ ticks_of xs ++ ticks_of ys
ticks-append [] ys = refl
ticks-append (x ∷ xs) ys = ap (λ l. tick_in x ++ l) (ticks-append xs ys) ∙ sym (append_assoc (tick_in x) (ticks_of xs) (ticks_of ys))

gone-append : (p : ℕ) (xs ys : List Delivery) → has_gone p (xs ++ ys) ≡ (has_gone p xs || has_gone p ys)
gone-append p [] ys = refl
gone-append p (x ∷ xs) ys = ap (λ b. is_gone_of p x || b) (gone-append p xs ys) ∙ either (is_gone_of p x) (has_gone p xs) (has_gone p ys)
  where
    either : (a b c : Bool) → (a || (b || c)) ≡ ((a || b) || c)
    either true b c = refl
    either false b c = refl

-- one entry gives of a peer what is received of it
one_given : (p q : ℕ) (k : EntryKind) → 0 < p → (pieces_of p (delivery_of q k) ≡ bytes_in (of p (entry q k ∷ [])))
    × (has_gone p (delivery_of q k) ≡ not (is_open (of p (entry q k ∷ []))))
one_given p zero (kinds.Got b) l = (grind (arith, nat_tests, common_steps), grind (arith, nat_tests, common_steps))
one_given p zero (kinds.Tick s) l = (grind (arith, nat_tests, common_steps), grind (arith, nat_tests, common_steps))
one_given p zero kinds.Last l = (grind (arith, nat_tests, common_steps), grind (arith, nat_tests, common_steps))
one_given p (suc q) (kinds.Got b) l = (grind (arith, nat_tests, common_steps), grind (arith, nat_tests, common_steps))
one_given p (suc q) (kinds.Tick s) l = (grind (arith, nat_tests, common_steps), grind (arith, nat_tests, common_steps))
one_given p (suc q) kinds.Last l = (grind (arith, nat_tests, common_steps), grind (arith, nat_tests, common_steps))

joined-append : (xs ys : List (Item EntryKind)) → bytes_in (xs ++ ys) ≡ bytes_in xs ++ bytes_in ys
joined-append [] ys = refl
joined-append (x ∷ xs) ys = ap (λ l. bytes_of x.kind ++ l) (joined-append xs ys) ∙ sym (append_assoc (bytes_of x.kind) (bytes_in xs) (bytes_in ys))

-- the pieces given of a peer are those that were received of it
pub pieces_given : (p : ℕ) → 0 < p → (es : List (Item EntryKind)) → pieces_of p (given_of es) ≡ bytes_in (of p es)
pieces_given p l [] = refl
pieces_given p l (e ∷ es) =
    pieces-append p (delivery_of e.from e.kind) (given_of es)
    ∙ ap (λ x. x ++ pieces_of p (given_of es)) (one_given p e.from e.kind l).0
    ∙ ap (λ x. bytes_in (of p (e ∷ [])) ++ x) (pieces_given p l es)
    ∙ sym (ap bytes_in (of_append p (e ∷ []) es) ∙ joined-append (of p (e ∷ [])) (of p es))

all_ticks-append : (xs ys : List (Item EntryKind)) → ticks (xs ++ ys) ≡ ticks xs ++ ticks ys
all_ticks-append [] ys = refl
all_ticks-append (x ∷ xs) ys = ap (λ l. seconds_of x.kind ++ l) (all_ticks-append xs ys) ∙ sym (append_assoc (seconds_of x.kind) (ticks xs) (ticks ys))

one_tick : (q : ℕ) (k : EntryKind) → ticks_of (delivery_of q k) ≡ ticks (of 0 (entry q k ∷ []))
one_tick zero (kinds.Got b) = refl
one_tick zero (kinds.Tick s) = refl
one_tick zero kinds.Last = refl
one_tick (suc q) (kinds.Got b) = grind (arith, nat_tests, common_steps)
one_tick (suc q) (kinds.Tick s) = grind (arith, nat_tests, common_steps)
one_tick (suc q) kinds.Last = grind (arith, nat_tests, common_steps)

-- the ticks given are those that were received of the ticker
pub ticks_given : (es : List (Item EntryKind)) → ticks_of (given_of es) ≡ ticks (of 0 es)
ticks_given [] = refl
ticks_given (e ∷ es) =
    ticks-append (delivery_of e.from e.kind) (given_of es)
    ∙ ap (λ x. x ++ ticks_of (given_of es)) (one_tick e.from e.kind)
    ∙ ap (λ x. ticks (of 0 (e ∷ [])) ++ x) (ticks_given es)
    ∙ sym (ap ticks (of_append 0 (e ∷ []) es) ∙ all_ticks-append (of 0 (e ∷ [])) (of 0 es))

open-append : (xs ys : List (Item EntryKind)) → is_open (xs ++ ys) ≡ (is_open xs && is_open ys)
open-append [] ys = refl
open-append (x ∷ xs) ys = ap (λ b. not (is_last x.kind) && b) (open-append xs ys) ∙ both (not (is_last x.kind)) (is_open xs) (is_open ys)
  where
    both : (a b c : Bool) → (a && (b && c)) ≡ ((a && b) && c)
    both true b c = refl
    both false b c = refl

-- that a peer has gone is given where its last entry was received
pub gone_given : (p : ℕ) → 0 < p → (es : List (Item EntryKind)) → has_gone p (given_of es) ≡ not (is_open (of p es))
gone_given p l [] = refl
gone_given p l (e ∷ es) =
    gone-append p (delivery_of e.from e.kind) (given_of es)
    ∙ ap (λ x. x || has_gone p (given_of es)) (one_given p e.from e.kind l).1
    ∙ ap (λ x. not (is_open (of p (e ∷ []))) || x) (gone_given p l es)
    ∙ moved (is_open (of p (e ∷ []))) (is_open (of p es))
    ∙ sym (ap (λ x. not (is_open x)) (of_append p (e ∷ []) es) ∙ ap not (open-append (of p (e ∷ [])) (of p es)))
  where
    moved : (a b : Bool) → (not a || not b) ≡ not (a && b)
    moved true b = refl
    moved false b = refl

start_chain : {X : Type 0} (xs ys zs : List X) → IsStart xs ys → IsStart ys zs → IsStart xs zs
start_chain xs ys zs s t = (s.0 ++ t.0, t.1 ∙ ap (λ l. l ++ t.0) s.1 ∙ append_assoc xs s.0 t.0)

-- what the first deliveries give of p is of a beginning of what p's reader sent
pub cut_of : (p k : ℕ) (got sent : List (Item EntryKind)) → IsFront (of p got) sent
    → (front : List (Item EntryKind)) × (IsStart (of p front) sent) × (take k (given_of got) ≡ given_of front)
cut_of p k got sent f =
    let c = cut k got in
    (c.0, start_chain (of p c.0) (of p got) sent (of p c.1, ap (of p) c.2 ∙ of_append p c.0 c.1) (front_start (of p got) sent f), c.3)
