-- machine: a connection in memory.
use Rattle.std.specs.Prelude.{◌≡◌, ℕ, List, Result}
use Rattle.cf_bytes.specs.VecSink.{SinkNow, write_answer, after_write}
use Rattle.cf_bytes.specs.declared.outside.Failed.{Failed}
use Rattle.cf_conn.specs.SliceSource.{Lent}

-- the bytes that it gives, and those that it takes
pub record BothWays : Type 0 where
  pub source : Lent
  pub sink : SinkNow

-- what a write answers, and what it leaves
abbrev pub Writes : BothWays → List ℕ → Result ℕ Failed → BothWays → Type 0
Writes before bytes result after = (result ≡ write_answer before.sink bytes) × (after ≡ record before { sink = after_write before.sink bytes })
