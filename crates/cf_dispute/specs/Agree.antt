-- statement: whether peers claim the same of blocks (BIP 157, "Client Operation").
use Rattle.std.specs.Prelude.{◌≡◌, List, None}
use Rattle.cf_bytes.specs.declared.hash.Hash32.{Hash32}
use Rattle.cf_headers.specs.Chain.{Hash, IsIn}
use Rattle.cf_dispute.specs.declared.claim.At.TheVariants.{Differ}
use Rattle.cf_dispute.specs.Claims.{Table, Tables, IsAt}
use Rattle.cf_dispute.specs.Tables.{blocks_of}

-- of none of these blocks are different filter hashes claimed
abbrev pub AgreeAt : Tables → List Hash32 → Type 0
AgreeAt tables blocks = (block : Hash) → IsIn block (blocks_of blocks) → IsAt tables block Differ → ⊥

-- of one of these blocks different filter hashes are claimed
abbrev pub DifferAt : Tables → List Hash32 → Type 0
DifferAt tables blocks = (block : Hash) × (IsIn block (blocks_of blocks) × IsAt tables block Differ)

-- of none of these blocks is anything claimed
abbrev pub ClaimsNone : Table → List Hash32 → Type 0
ClaimsNone table blocks = (block : Hash) → IsIn block (blocks_of blocks) → table block ≡ None
