-- machine: requests that are opened and closed.
use Rattle.std.specs.Prelude.{◌≡◌, ◌≢◌, ◌⊎◌, ℕ, true, false, List}
use Rattle.cf_headers.specs.Chain.{Hash, IsIn}
use Rattle.cf_seek.specs.Opens.{Opens}

-- what is open to others stays
pub record IsSameElse (before after : Opens) (p : ℕ) : Type 0 where
  pub filters : (q : ℕ) → q ≢ p → (block : Hash) → after.filters q block ≡ before.filters q block
  pub blocks : (q : ℕ) → q ≢ p → (block : Hash) → after.blocks q block ≡ before.blocks q block

-- the same is open to all
pub record IsSameOpens (before after : Opens) : Type 0 where
  pub filters : (q : ℕ) (block : Hash) → after.filters q block ≡ before.filters q block
  pub blocks : (q : ℕ) (block : Hash) → after.blocks q block ≡ before.blocks q block

-- nothing is open to p any more
pub record Closes (before after : Opens) (p : ℕ) : Type 0 where
  pub filters : (block : Hash) → after.filters p block ≡ false
  pub blocks : (block : Hash) → after.blocks p block ≡ false
  pub others : IsSameElse before after p

-- the filters of these blocks are open to p besides
pub record OpensFilters (before after : Opens) (p : ℕ) (asked : List Hash) : Type 0 where
  pub there : (block : Hash) → IsIn block asked → after.filters p block ≡ true
  pub stays : (block : Hash) → before.filters p block ≡ true → after.filters p block ≡ true
  pub only : (block : Hash) → after.filters p block ≡ true → IsIn block asked ⊎ (before.filters p block ≡ true)
  pub blocks : (block : Hash) → after.blocks p block ≡ before.blocks p block
  pub others : IsSameElse before after p

-- some of the filters of these blocks are open to p besides, and nothing else
pub record OpensSome (before after : Opens) (p : ℕ) (asked : List Hash) : Type 0 where
  pub stays : (block : Hash) → before.filters p block ≡ true → after.filters p block ≡ true
  pub only : (block : Hash) → after.filters p block ≡ true → IsIn block asked ⊎ (before.filters p block ≡ true)
  pub blocks : (block : Hash) → after.blocks p block ≡ before.blocks p block
  pub others : IsSameElse before after p

-- this block is open to p, and no other
pub record OpensBlock (before after : Opens) (p : ℕ) (asked : Hash) : Type 0 where
  pub there : after.blocks p asked ≡ true
  pub only : (block : Hash) → after.blocks p block ≡ true → block ≡ asked
  pub filters : (block : Hash) → after.filters p block ≡ before.filters p block
  pub others : IsSameElse before after p
