-- machine: the table that the code keeps.
use Rattle.std.specs.Prelude.{List, if◌then◌else◌, Some, unwrap_or}
use Rattle.std.specs.Ordering.{is_eq, nat_cmp}
use Rattle.std.specs.Cmp.Lexicographic.{slice_cmp}
use Rattle.std.specs.Map.{lookup}
use Rattle.cf_headers.specs.Chain.{Hash}
use Rattle.cf_headers.specs.Rules.{same}
use Rattle.cf_scan.specs.declared.extracts.TxExtract.{TxExtract}
use Rattle.cf_tables.specs.declared.extracts.Extracts.{Extracts}
use Rattle.cf_tables.specs.Known.{ExtractTable}

-- the extract that is kept under a block's hash
unfoldable pub table_in : Extracts → ExtractTable
table_in extracts hash = lookup (λ k. is_eq (slice_cmp nat_cmp hash k.0)) extracts.map.entries

-- a table with this extract under this hash, in the place of one that stands
abbrev pub put_extract : Hash → List TxExtract → ExtractTable → ExtractTable
put_extract at extract table hash = if same at hash then Some extract else table hash

-- a table with this extract under this hash, where none stands
abbrev pub with_extract : Hash → List TxExtract → ExtractTable → ExtractTable
with_extract at extract table hash = if same at hash then Some (unwrap_or (table hash) extract) else table hash
