-- statement: what is known of a block by its hash.
use Rattle.std.specs.Prelude.{List, Option, Bool}
use Rattle.cf_headers.specs.Chain.{Hash}
use Rattle.cf_scan.specs.declared.extracts.TxExtract.{TxExtract}

-- extracts by the hashes of their blocks
abbrev pub ExtractTable : Type 0
ExtractTable = Hash → Option (List TxExtract)

-- what tests told: of a block and a filter's hash, whether the filter lacks what the block pays
abbrev pub TestResults : Type 0
TestResults = Hash → Hash → Option Bool
