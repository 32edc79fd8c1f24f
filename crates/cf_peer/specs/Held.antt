-- machine: how much is kept of one peer.
use Rattle.std.specs.Prelude.{ℕ, length}
use Rattle.cf_peer.specs.declared.peer.Request.{Request}
use Rattle.cf_peer.specs.declared.peer.Request.TheVariants.{Filters as FiltersAsked}

-- how many filters of an open request have come
abbrev pub count_came : Request → ℕ
count_came (FiltersAsked batch age) = length batch.came
count_came _ = 0
