-- A record that was taken.
use Rattle.std.proofs.Common.{◌≡◌, ℕ, ◌≤◌, List, [], ◌∷◌, ◌++◌, length, refl, Result, Ok, Err}
use Rattle.std.specs.Prelude.{IfOk}
use Rattle.cf_bytes.specs.declared.memory.Refused.{Refused}
use Rattle.cf_block.specs.declared.tx.Block.{Block}
use Rattle.cf_block.specs.Stored.{IsStored}
use Rattle.cf_walk.specs.declared.cause.RecordCause.{RecordCause}
use Rattle.cf_index.specs.declared.chain.Chain.{Chain}
use Rattle.cf_walk.specs.Records.{record_with, max_record}
use Rattle.cf_walk.specs.Progress.{HasRecord}

-- a block that the record's bytes store
pub found_if : (blocks : List Block) (bytes text rest : List ℕ) (b : Block) (r : Result Chain (Refused RecordCause)) → bytes ≡ record_with text ++ rest → length text ≤ max_record → IsStored text b
    → IfOk r (λ longer. longer.blocks ≡ blocks ++ b ∷ []) → IfOk r (λ longer. HasRecord blocks longer.blocks bytes rest)
found_if blocks bytes text rest b (Ok longer) e short stored more = record {
  block = b;
  added = more;
  front = record_with text;
  is = record { text = text; stored = stored; short = short; spelled = refl };
  spelled = e;
}
found_if blocks bytes text rest b (Err x) e short stored more = tt
