-- machine: filters whose bytes stand one after another.
use Rattle.std.specs.Prelude.{ℕ, min, List, [], ◌∷◌, length, take, drop}
use Rattle.cf_match.specs.declared.job.Job.{Job}
use Rattle.cf_parallel.specs.declared.packed.Head.{Head}

-- the first n bytes, or all where there are fewer; and what is left
abbrev pub first_of : ℕ → List ℕ → List ℕ
first_of n bytes = take (min n (length bytes)) bytes

-- what stands behind the first n bytes: none where there are fewer
abbrev pub rest_of : ℕ → List ℕ → List ℕ
rest_of n bytes = drop (min n (length bytes)) bytes

-- the filters
abbrev pub unpacked : List Head → List ℕ → List Job
unpacked [] bytes = []
unpacked (h ∷ hs) bytes = record { block = h.block; filter = first_of h.size bytes } ∷ unpacked hs (rest_of h.size bytes)
