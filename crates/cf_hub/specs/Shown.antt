-- statement: what the deliveries that were given show of the sources, and of the pulse.
use Rattle.std.specs.Prelude.{◌≡◌, ◌⊎◌, ℕ, Bool, true, List, ◌++◌, Option, Some}
use Rattle.cf_bytes.specs.Outside.{HasRisen}
use Rattle.cf_wires.specs.declared.event.Delivery.{Delivery}
use Rattle.cf_tasks.specs.Queue.{IsStart}
use Rattle.cf_hub.specs.Gives.{pieces_of, has_gone, ticks_of}
use Rattle.cf_hub.specs.Finish.{Read, Beat}

-- The pieces of its peer, joined, are the first bytes that the source held, where it told them. Where the peer has gone among them and no
-- fault came, they are all of them. The peer has gone only where the source was at its end, or a fault came.
pub record Shows {S : Type 0} (left : S → Option (List ℕ)) (faults : S → ℕ) (ended : S → Bool) (ds : List Delivery) (j : Read S) : Type 0 where
  pub first : (xs : List ℕ) → left j.before ≡ Some xs → IsStart (pieces_of j.number ds) xs
  pub whole : (xs : List ℕ) → left j.before ≡ Some xs → has_gone j.number ds ≡ true → ¬ HasRisen (faults j.before) (faults j.after) → pieces_of j.number ds ≡ xs
  pub cause : has_gone j.number ds ≡ true → (ended j.after ≡ true) ⊎ HasRisen (faults j.before) (faults j.after)

-- the ticks are the first answers of the pulse after those that it had given before, where it told them
abbrev pub ShowsTicks : {P : Type 0} → (P → Option (List ℕ)) → List Delivery → Beat P → Type 0
ShowsTicks answers ds b = (earlier xs : List ℕ) → answers b.before ≡ Some earlier → answers b.after ≡ Some xs → IsStart (earlier ++ ticks_of ds) xs
