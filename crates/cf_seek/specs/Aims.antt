-- machine: whether what peers were asked for last is to be tested.
use Rattle.std.specs.Prelude.{◌≡◌, ◌≢◌, ℕ, Bool, true, false, slice_index_or}
use Rattle.cf_seek.specs.declared.aims.Aims.{Aims}
use Rattle.cf_seek.specs.declared.spans.Wish.{Wish}
use Rattle.cf_seek.specs.declared.spans.Wish.TheVariants.{Nothing, Claims, Filters, Block, Test}

-- by the peers' numbers
abbrev pub aims_in : Aims → ℕ → Bool
aims_in aims p = slice_index_or aims.places.items p false

-- a question for filters that is put: they are to be tested, or aren't; any other question leaves it
abbrev pub aim_after : Wish → Bool → Bool
aim_after Nothing before = before
aim_after (Claims span) before = before
aim_after (Filters span) before = false
aim_after (Block hash) before = before
aim_after (Test trial) before = true

-- a question is put to p, and nothing to others
pub record IsAimed (p : ℕ) (wish : Wish) (before after : ℕ → Bool) : Type 0 where
  pub here : after p ≡ aim_after wish (before p)
  pub others : (q : ℕ) → q ≢ p → after q ≡ before q
