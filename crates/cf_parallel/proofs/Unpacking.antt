-- Filters that were packed are these filters.
use Rattle.std.proofs.Common.{◌≡◌, ◌<◌, ◌≤◌, ◌+◌, ℕ, min, List, [], ◌∷◌, ◌++◌, length, map, flat_map, take, drop, get_or, add-one, refl, sym, ap, ap₂, ◌∙◌, arith}
use Rattle.std.proofs.Math.Seq.{take-append_seam, drop-append_seam, drop-cons}
use Rattle.std.proofs.lemmas.List.{length-append, append-nil}
use Rattle.std.proofs.Math.ListN.{drop_of_length-le}
use Rattle.cf_match.specs.declared.job.Job.{Job}
use Rattle.cf_parallel.specs.declared.packed.Head.{Head}
use Rattle.cf_parallel.specs.Packing.{first_of, rest_of, unpacked}

-- the head of a filter, and the bytes of filters
abbrev pub head_of : Job → Head
head_of j = record { block = j.block; size = length j.filter }

abbrev pub bytes_of : List Job → List ℕ
bytes_of jobs = flat_map (λ (j : Job). j.filter) jobs

no_more : (xs ys : List ℕ) → min (length xs) (length (xs ++ ys)) ≡ length xs
no_more xs ys = let n = length-append xs ys in omega (arith, n)

first_seam : (xs ys : List ℕ) → first_of (length xs) (xs ++ ys) ≡ xs
first_seam xs ys = ap (λ k. take k (xs ++ ys)) (no_more xs ys) ∙ take-append_seam xs ys

rest_seam : (xs ys : List ℕ) → rest_of (length xs) (xs ++ ys) ≡ ys
rest_seam xs ys = ap (λ k. drop k (xs ++ ys)) (no_more xs ys) ∙ drop-append_seam xs ys

pub unpacked_all : (jobs : List Job) → unpacked (map head_of jobs) (bytes_of jobs) ≡ jobs
unpacked_all [] = refl
unpacked_all (j ∷ js) =
    ap (λ f. record { block = j.block; filter = f } ∷ unpacked (map head_of js) (rest_of (length j.filter) (j.filter ++ bytes_of js))) (first_seam j.filter (bytes_of js))
    ∙ ap (λ r. j ∷ unpacked (map head_of js) r) (rest_seam j.filter (bytes_of js))
    ∙ ap (λ l. j ∷ l) (unpacked_all js)

-- all of them, where none is left
pub packed_all : (heads : List Head) (bytes : List ℕ) (jobs : List Job) (i : ℕ) → length jobs ≤ i
    → heads ++ map head_of (drop i jobs) ≡ map head_of jobs → bytes ++ bytes_of (drop i jobs) ≡ bytes_of jobs → unpacked heads bytes ≡ jobs
packed_all heads bytes jobs i over hs bs =
    let none : drop i jobs ≡ [] = drop_of_length-le jobs over in
    let h : heads ≡ map head_of jobs = sym (append-nil heads) ∙ sym (ap (λ js. heads ++ map head_of js) none) ∙ hs in
    let b : bytes ≡ bytes_of jobs = sym (append-nil bytes) ∙ sym (ap (λ js. bytes ++ bytes_of js) none) ∙ bs in
    ap₂ unpacked h b ∙ unpacked_all jobs

-- where one is the same, and those behind it
pub one_more_same : (heads : List Head) (jobs : List Job) (left : List ℕ) (i : ℕ) (d : Head) (j : Job) (front rest : List ℕ) → i < length heads → i < length jobs
    → j ≡ get_or jobs i j → front ≡ first_of (get_or heads i d).size left → rest ≡ rest_of (get_or heads i d).size left
    → record { block = (get_or heads i d).block; filter = front } ≡ j → unpacked (drop (i + 1) heads) rest ≡ drop (i + 1) jobs
    → unpacked (drop i heads) left ≡ drop i jobs
one_more_same heads jobs left i d j front rest lh lj ej ef er same more =
    let h : Head = get_or heads i d in
    let hs : drop i heads ≡ h ∷ drop (i + 1) heads = drop-cons heads i d lh ∙ ap (λ k. h ∷ drop k heads) (sym (add-one i)) in
    let js : drop i jobs ≡ j ∷ drop (i + 1) jobs = drop-cons jobs i j lj ∙ ap₂ (λ x k. x ∷ drop k jobs) (sym ej) (sym (add-one i)) in
    ap (λ l. unpacked l left) hs
    ∙ ap₂ (λ f r. record { block = h.block; filter = f } ∷ unpacked (drop (i + 1) heads) r) (sym ef) (sym er)
    ∙ ap₂ (λ x xs. x ∷ xs) same more
    ∙ sym js
