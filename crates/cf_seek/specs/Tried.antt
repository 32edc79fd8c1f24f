-- machine: up to where none of the peers' blocks is to be tested.
use Rattle.std.specs.Prelude.{◌≡◌, ℕ, ◌-◌, ◌<◌, ◌≤◌, min, List, Option, Some, None, length, slice_index_or, slice_set}
use Rattle.cf_dispute.specs.Claims.{Tables}
use Rattle.cf_headers.specs.declared.change.Change.{Change}
use Rattle.cf_headers.specs.declared.change.Change.TheVariants.{Longer}
use Rattle.cf_headers.specs.Chain.{Hash, Chain, IsIn, IsAbove}
use Rattle.cf_headers.specs.Heights.{hash_at, height_of}
use Rattle.cf_headers.specs.Store.{Chains}
use Rattle.cf_seek.specs.Cursors.{passed_under}
use Rattle.cf_seek.specs.Testing.{IsToTest}
use Rattle.cf_tables.specs.Known.{ExtractTable, TestResults}

-- of a block that hasn't genesis's hash what p claims is to be tested
pub record IsToTry (extracts : ExtractTable) (tables : Tables) (told : TestResults) (p : ℕ) (block : Hash) : Type 0 where
  pub above : IsAbove block
  pub wanted : IsToTest extracts tables told p block

-- of a peer's blocks above genesis, up to a height, there is none of these
abbrev pub AreTried : ExtractTable → Tables → TestResults → ℕ → Chain → ℕ → Type 0
AreTried extracts tables told p own most = (h : ℕ) → 1 ≤ h → h ≤ most → IsToTry extracts tables told p (hash_at own h) → ⊥

-- a mark stands on the chain of an entered peer; another has none
abbrev pub IsOn : Option Chain → ℕ → Type 0
IsOn chain mark = 0 < mark → (own : Chain) × ((chain ≡ Some own) × (mark ≤ length own))

-- and none of its blocks up to the mark is to be tested
pub record IsTriedTo (extracts : ExtractTable) (tables : Tables) (told : TestResults) (p : ℕ) (chain : Option Chain) (mark : ℕ) : Type 0 where
  pub on : IsOn chain mark
  pub tried : (own : Chain) → chain ≡ Some own → AreTried extracts tables told p own mark

-- the marks, by the peers' numbers
abbrev pub tried_at : List ℕ → ℕ → ℕ
tried_at marks p = slice_index_or marks p 0

-- so it is of each peer
abbrev pub AreTriedTo : Chains → ExtractTable → Tables → TestResults → List ℕ → Type 0
AreTriedTo chains extracts tables told marks = (p : ℕ) → IsTriedTo extracts tables told p (chains p) (tried_at marks p)

-- a peer's mark is no higher than its chain stays the same
abbrev pub tried_after : List ℕ → ℕ → Change → List ℕ
tried_after marks p (Longer link) = slice_set marks p (min (tried_at marks p) link)
tried_after marks p _ = marks

-- a peer's mark, no higher than below a block
abbrev pub tried_under : Option Chain → Hash → ℕ → ℕ
tried_under None block mark = mark
tried_under (Some own) block mark = passed_under (height_of block own) mark

-- a mark that fell to below each of some blocks of which something holds, and no further
pub record IsTriedBelow (chain : Option Chain) (holds : Hash → Type 0) (blocks : List Hash) (before after : ℕ) : Type 0 where
  pub low : after ≤ before
  pub apart : (own : Chain) → chain ≡ Some own → (h : ℕ) → 1 ≤ h → h ≤ after → IsIn (hash_at own h) blocks → holds (hash_at own h) → ⊥
  pub tight : (own : Chain) → chain ≡ Some own → after < before
      → (block : Hash) × (height : ℕ) × IsIn block blocks × holds block × (height_of block own ≡ Some height) × (after ≡ height - 1)
