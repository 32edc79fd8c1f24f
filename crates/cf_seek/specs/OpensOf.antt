-- machine: what is open, by what the code keeps.
use Rattle.std.specs.Prelude.{Bool, false, List, Option, Some, None, slice_get}
use Rattle.cf_bytes.specs.declared.hash.Hash32.{Hash32}
use Rattle.cf_headers.specs.Chain.{Hash}
use Rattle.cf_headers.specs.Rules.{same}
use Rattle.cf_seek.specs.declared.open_at.OpenAt.{OpenAt}
use Rattle.cf_seek.specs.Listed.{is_key}
use Rattle.cf_seek.specs.Opens.{Opens}

-- to one peer
unfoldable pub filter_at : OpenAt → Hash → Bool
filter_at at block = is_key at.filters.entries block

abbrev pub is_this : Hash → Option Hash32 → Bool
is_this block None = false
is_this block (Some wanted) = same block wanted.0

unfoldable pub block_at : OpenAt → Hash → Bool
block_at at block = is_this block at.block

-- nothing where there is no place
abbrev pub filter_or : Option OpenAt → Hash → Bool
filter_or None block = false
filter_or (Some at) block = filter_at at block

abbrev pub block_or : Option OpenAt → Hash → Bool
block_or None block = false
block_or (Some at) block = block_at at block

-- to all
abbrev pub opens_among : List OpenAt → Opens
opens_among peers = record { filters = λ p block. filter_or (slice_get peers p) block; blocks = λ p block. block_or (slice_get peers p) block }
