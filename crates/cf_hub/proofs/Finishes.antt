-- What joining the readers adds up to.
use Rattle.std.proofs.Common.{◌≡◌, ◌+◌, ◌<◌, ℕ, zero, suc, get_or, List, [], ◌∷◌, Option, Some, None, ◌++◌, All, map, length, sym, ap, ◌∙◌, subst, append_assoc, append-nil, arith}
use Rattle.cf_tasks.specs.declared.entry.Item.{Item}
use Rattle.cf_outside.specs.declared.entry.EntryKind.{EntryKind}
use Rattle.cf_tasks.specs.declared.entry.Ended.{Ended}
use Rattle.cf_tasks.specs.Queue.{of, Stays}
use Rattle.cf_hub.specs.Gives.{IsFront}
use Rattle.cf_outside.specs.declared.reader.Reader.{Reader}
use Rattle.cf_hub.specs.Finish.{Read, Beat, end_of, whose, begun, Fronts}
use Rattle.cf_tasks.proofs.Moves.{of_append}
use Rattle.cf_hub.proofs.Gives.{start_front}
use Rattle.cf_hub.proofs.Opened.{same_numbers}
use Rattle.std.proofs.lemmas.List.Elements.{All-map}
use Rattle.std.proofs.lemmas.List.{map-append}

all_last : {X : Type 0} (P : X → Type 0) (xs ys : List X) → All P (xs ++ ys) → All P ys
all_last P [] ys a = a
all_last P (x ∷ xs) ys a = all_last P xs ys (λ k d l. a (suc k) d (omega (arith, l)))

-- what is received of an ended sender is a beginning of what it sent
stays_front : (got items : List (Item EntryKind)) (made : ℕ) (e : Ended EntryKind) → Stays (got ++ items) made e → IsFront (of e.from got) e.sent
stays_front got items made e s = start_front (of e.from got) e.sent (of e.from items, sym s.1 ∙ of_append e.from got items)

fronts_of : {S : Type 0} (js : List (Read S)) (got items : List (Item EntryKind)) (made : ℕ) → All (Stays (got ++ items) made) (map end_of js) → (k : ℕ) (d : Read S) → k < length js → IsFront (of (get_or js k d).number got) (get_or js k d).sent
fronts_of [] got items made a k d l = absurd (omega (arith, l))
fronts_of (j ∷ js) got items made a zero d l = stays_front got items made (end_of j) (a 0 (end_of j) (omega arith))
fronts_of (j ∷ js) got items made a (suc k) d l = fronts_of js got items made (λ i x b. a (suc i) x (omega (arith, b))) k d (omega (arith, l))

-- of the items that f made, to those of which it made them
unmapped : {X Y : Type 0} (f : X → Y) (P : Y → Type 0) (xs : List X) → All P (map f xs) → (k : ℕ) (d : X) → k < length xs → P (f (get_or xs k d))
unmapped f P [] a k d l = absurd (omega (arith, l))
unmapped f P (x ∷ xs) a zero d l = a 0 (f d) (omega arith)
unmapped f P (x ∷ xs) a (suc k) d l = unmapped f P xs (λ i y b. a (suc i) y (omega (arith, b))) k d (omega (arith, l))

-- sources that were read have the numbers of peers, as their readers had
pub positive : {S R : Type 0} (js : List (Read S)) (ts : List (Reader S R)) → map whose js ≡ map begun ts → All (λ t. 0 < t.sender.number) ts → All (λ j. 0 < j.number) js
positive js ts e a =
    let Q : List ℕ → Type 0 = All (λ n. 0 < n) in
    unmapped (λ j. j.number) (λ n. 0 < n) js (subst Q (sym (same_numbers js ts e)) (All-map (λ n. 0 < n) (λ t. t.sender.number) ts a))

pub finishes : {S : Type 0} (js : List (Read S)) (fs gs : List (Ended EntryKind)) (got items : List (Item EntryKind)) (made : ℕ)
    → gs ≡ fs ++ map end_of js → All (Stays (got ++ items) made) gs → All (λ j. 0 < j.number) js → Fronts got js
finishes js fs gs got items made q a n =
    let P : List (Ended EntryKind) → Type 0 = All (Stays (got ++ items) made) in
    let f = fronts_of js got items made (all_last (Stays (got ++ items) made) fs (map end_of js) (subst P q a)) in
    λ k d l. (n k d l, f k d l)

-- the sender that was taken in last
pub last_front : (fs gs : List (Ended EntryKind)) (e : Ended EntryKind) (got items : List (Item EntryKind)) (made : ℕ) → gs ≡ fs ++ e ∷ [] → All (Stays (got ++ items) made) gs → IsFront (of e.from got) e.sent
last_front fs gs e got items made q a = let P : List (Ended EntryKind) → Type 0 = All (Stays (got ++ items) made) in stays_front got items made e (all_last (Stays (got ++ items) made) fs (e ∷ []) (subst P q a) 0 e (omega arith))

pub map_more : {X Y : Type 0} (f : X → Y) (xs : List X) (x : X) → map f (xs ++ x ∷ []) ≡ map f xs ++ f x ∷ []
map_more f xs x = map-append f xs (x ∷ [])

pub none_left : {X : Type 0} (xs ys zs : List X) (n : ℕ) → xs ≡ ys ++ zs → length zs ≡ n → n ≡ 0 → ys ≡ xs
none_left xs ys [] n e l z = sym (append-nil ys) ∙ sym e
none_left xs ys (_ ∷ zs) n e l z = absurd (omega (arith, l, z))

pub all_at : {X : Type 0} (P : X → Type 0) (held xs rest ys : List X) (y : X) → held ≡ xs ++ rest → rest ≡ y ∷ ys → All P held → P y
all_at {X = X} P held xs rest ys y e s a = all_last P xs (y ∷ ys) (let Q : List X → Type 0 = All P in subst Q (e ∙ ap (λ l. xs ++ l) s) a) 0 y (omega arith)

pub moves_on : {X : Type 0} (held xs rest ys : List X) (y : X) → held ≡ xs ++ rest → rest ≡ y ∷ ys → held ≡ (xs ++ y ∷ []) ++ ys
moves_on held xs rest ys y e s = e ∙ ap (λ l. xs ++ l) s ∙ sym (append_assoc xs (y ∷ []) ys)

pub one_less : {X : Type 0} (rest ys : List X) (y : X) (n m : ℕ) → length rest ≡ n → rest ≡ y ∷ ys → m + 1 ≡ n → length ys ≡ m
one_less rest ys y n m l s e = let q = ap length s in omega (arith, l, q, e)

pub no_more : {S : Type 0} (es : List (Ended EntryKind)) (js : List (Read S)) → js ≡ [] → es ≡ es ++ map end_of js
no_more es js e = sym (ap (λ l. es ++ map end_of l) e ∙ append-nil es)

pub whose_more : {S R : Type 0} (js js' : List (Read S)) (ts : List (Reader S R)) (j : Read S) (t : Reader S R) → js' ≡ js ++ j ∷ [] → map whose js ≡ map begun ts
    → j.number ≡ t.sender.number → j.before ≡ t.source → map whose js' ≡ map begun (ts ++ t ∷ [])
whose_more js js' ts j t e h n b =
    ap (map whose) e ∙ map-append whose js (j ∷ []) ∙ ap (λ l. l ++ whose j ∷ []) h ∙ ap (λ (x : ℕ). map begun ts ++ (x, j.before) ∷ []) n
    ∙ ap (λ x. map begun ts ++ (t.sender.number, x) ∷ []) b ∙ sym (map-append begun ts (t ∷ []))

pub ended_more : {S : Type 0} (first now later : List (Ended EntryKind)) (js js' : List (Read S)) (j : Read S) (from : ℕ) (sent : List (Item EntryKind)) → now ≡ first ++ map end_of js
    → later ≡ now ++ record { from = from; sent = sent } ∷ [] → js' ≡ js ++ j ∷ [] → from ≡ j.number → sent ≡ j.sent → later ≡ first ++ map end_of js'
ended_more first now later js js' j from sent h l e f s =
    l ∙ ap (λ x. x ++ record { from = from; sent = sent } ∷ []) h ∙ append_assoc first (map end_of js) (record { from = from; sent = sent } ∷ [])
    ∙ ap (λ x. first ++ (map end_of js ++ record { from = x; sent = sent } ∷ [])) f
    ∙ ap (λ x. first ++ (map end_of js ++ record { from = j.number; sent = x } ∷ [])) s
    ∙ sym (ap (λ x. first ++ map end_of x) e ∙ ap (λ x. first ++ x) (map-append end_of js (j ∷ [])))

abbrev sent_in : {P : Type 0} → Option (Beat P) → List (Item EntryKind)
sent_in None = []
sent_in (Some y) = y.sent

pub beat_front : {P : Type 0} (fs gs : List (Ended EntryKind)) (from : ℕ) (sent got items : List (Item EntryKind)) (made : ℕ) (b x : Beat P) → gs ≡ fs ++ record { from = from; sent = sent } ∷ []
    → All (Stays (got ++ items) made) gs → from ≡ 0 → sent ≡ b.sent → Some b ≡ Some x → IsFront (of 0 got) x.sent
beat_front {P = P} fs gs from sent got items made b x q a z s is =
    let Q : ℕ → Type 0 = λ p. IsFront (of p got) sent in
    let L : List (Item EntryKind) → Type 0 = λ l. IsFront (of 0 got) l in
    subst L (s ∙ ap (λ (o : Option (Beat P)). sent_in o) is) (subst Q z (last_front fs gs (record { from = from; sent = sent }) got items made q a))
