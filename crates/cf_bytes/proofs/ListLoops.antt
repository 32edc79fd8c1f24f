-- Reading items one after another, as a loop does.
use Rattle.std.proofs.Common.{◌≡◌, ℕ, suc, ◌-◌, ◌+◌, ◌≤◌, ◌<◌, List, [], ◌∷◌, ◌++◌, Ok, Err, refl, sym, ap, ◌∙◌, append_assoc, arith}
use Rattle.std.proofs.lemmas.List.{append-nil}
use Rattle.std.specs.List.{flat_map, AllByRecursion}
use Rattle.cf_bytes.specs.declared.memory.Refused.{Refused}
use Rattle.cf_bytes.specs.declared.memory.Refused.TheVariants.{No, NoMemory}
use Rattle.cf_bytes.specs.Cut.{Read, Gives, ◌>>=◌}
use Rattle.cf_bytes.specs.Lists.{list_at, with_front}

regroup : {X E : Type 0} (front : List X) (n : X) (read : Read (List X) E) → with_front front (read >>= λ x. Ok (n ∷ x.0, x.1)) ≡ with_front (front ++ n ∷ []) read
regroup {X} front n (Ok x) = ap (λ (ns : List X). Ok (ns, x.1)) (simp append_assoc)
regroup front n (Err f) = refl

-- one item more
pub goes_on : {X E : Type 0} (item : List ℕ → Read X E) (front : List X) (count i : ℕ) (bytes : List ℕ) (n : X) (after : List ℕ) (total : Read (List X) E) → i < count → item bytes ≡ Ok (n, after)
    → with_front front (list_at item (count - i) bytes) ≡ total → with_front (front ++ n ∷ []) (list_at item (count - (i + 1)) after) ≡ total
unfolding list_at
goes_on item front count i bytes n after total lt h so_far =
    let k : count - i ≡ suc (count - (i + 1)) = omega arith in
    let one : with_front front (list_at item (count - i) bytes) ≡ with_front (front ++ n ∷ []) (list_at item (count - (i + 1)) after) = rw (k, h) (regroup front n (list_at item (count - (i + 1)) after)) in
    sym one ∙ so_far

-- an item is refused
pub ends : {X E : Type 0} (item : List ℕ → Read X E) (front : List X) (count i : ℕ) (bytes : List ℕ) (e : E × List ℕ) (total : Read (List X) E) → i < count → item bytes ≡ Err e
    → with_front front (list_at item (count - i) bytes) ≡ total → total ≡ Err e
unfolding list_at
ends item front count i bytes e total lt h so_far =
    let k : count - i ≡ suc (count - (i + 1)) = omega arith in
    let one : with_front front (list_at item (count - i) bytes) ≡ Err e = rw (k, h) refl in
    sym so_far ∙ one

-- a call that takes memory refuses an item, and so the list
pub refused : {X E : Type 0} (item : List ℕ → Read X E) (front : List X) (count i : ℕ) (bytes new : List ℕ)
    (total : Read (List X) E) (f : Refused E) → i < count → Gives {X = X} {Y = X} {E = E} (λ x. x) (item bytes) (Err f) new
    → with_front front (list_at item (count - i) bytes) ≡ total
    → Gives {X = List X} {Y = List X} {E = E} (λ x. x) total (Err f) new
refused item front count i bytes new total (No e) lt one so_far = ends item front count i bytes (e, new) total lt one so_far
refused item front count i bytes new total NoMemory lt one so_far = tt

-- all items are there
pub is_done : {X E : Type 0} (item : List ℕ → Read X E) (front : List X) (count i : ℕ) (bytes : List ℕ) (total : Read (List X) E) → count ≤ i → with_front front (list_at item (count - i) bytes) ≡ total → total ≡ Ok (front, bytes)
unfolding list_at
is_done {X} item front count i bytes total le so_far =
    let k : count - i ≡ 0 = omega arith in
    let one : with_front front (list_at item (count - i) bytes) ≡ Ok (front, bytes) = rw k (ap (λ (ns : List X). Ok (ns, bytes)) (append-nil front)) in
    sym so_far ∙ one

-- one item more, in the list's spelling
pub one_more : {X : Type 0} (spell : X → List ℕ) (xs : List X) (x : X) (rest more bytes : List ℕ) → bytes ≡ flat_map spell xs ++ rest → rest ≡ spell x ++ more → bytes ≡ flat_map spell (xs ++ x ∷ []) ++ more
one_more spell [] x rest more bytes h e = h ∙ e ∙ simp append-nil refl
one_more {X} spell (y ∷ xs) x rest more bytes h e =
    let deeper = one_more spell xs x rest more (flat_map spell xs ++ rest) refl e in
    h ∙ append_assoc (spell y) (flat_map spell xs) rest ∙ ap (λ t. spell y ++ t) deeper ∙ sym (append_assoc (spell y) (flat_map spell (xs ++ x ∷ [])) more)

pub all_more : {X : Type 0} (P : X → Type 0) (xs : List X) (x : X) → AllByRecursion P xs → P x → AllByRecursion P (xs ++ x ∷ [])
all_more P [] x h p = (p, tt)
all_more P (y ∷ xs) x h p = (h.0, all_more P xs x h.1 p)

pub all_of : {X : Type 0} (P Q : X → Type 0) (xs : List X) → ((x : X) → P x → Q x) → AllByRecursion P xs → AllByRecursion Q xs
all_of P Q [] each all = tt
all_of P Q (x ∷ xs) each all = (each x all.0, all_of P Q xs each all.1)
