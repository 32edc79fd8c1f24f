-- machine: what a walk over a source's records has given, and what it answers.
use Rattle.std.specs.Prelude.{◌≡◌, ℕ, zero, ◌<◌, ◌≤◌, Bool, true, false, List, [], ◌∷◌, ◌++◌, length, take, drop, Option, Some, None, Result, Ok, Err}
use Rattle.cf_bytes.specs.Outside.{HasRisen}
use Rattle.cf_block.specs.declared.tx.Block.{Block}
use Rattle.cf_conn.specs.Window.{Pane, seen, beyond}
use Rattle.cf_conn.specs.declared.reading.ReadFail.{ReadFail}
use Rattle.cf_conn.specs.declared.reading.ReadFail.TheVariants as fails
use Rattle.cf_walk.specs.declared.cause.BadBlock.{BadBlock}
use Rattle.cf_walk.specs.declared.cause.RecordCause.TheVariants.{Cut}
use Rattle.cf_walk.specs.declared.fault.LoadFault.{LoadFault}
use Rattle.cf_walk.specs.declared.fault.LoadFault.TheVariants as faults
use Rattle.cf_walk.specs.declared.walk.Walk.{Walk}
use Rattle.cf_walk.specs.Files.{blocks_from, blocks_at, most_blocks}
use Rattle.cf_walk.specs.Judging.{StandsOn}

-- the most bytes of a record, and those of a piece that is read at once
abbrev pub most_held : ℕ
most_held = 4065544

-- fewer bytes than these are held, where fewer were
abbrev pub StaysFew : Pane → Pane → Type 0
StaysFew before after = length before.held < most_held → length after.held < most_held

-- a walk holds fewer bytes than those of one record and one piece
abbrev pub HoldsFew : Walk → Type 0
HoldsFew w = length w.window.held < most_held

-- the bytes of a source that count, and those behind them
unfoldable pub that_count : List ℕ → List ℕ
that_count bytes = take most_blocks bytes

unfoldable pub behind_them : List ℕ → List ℕ
behind_them bytes = drop most_blocks bytes

-- what reading all of these bytes answers, from where a walk stands that has begun or not, after so many records and these blocks
abbrev pub end_of : Bool → ℕ → List Block → List ℕ → Result (List Block) BadBlock
end_of true before blocks bytes = blocks_from before zero blocks bytes
end_of false before blocks bytes = blocks_at bytes

-- over a source of these bytes a walk has given these blocks: what is left of those that count leads to the same end as all of
-- them, and behind it stand the others
pub record IsWalking (bytes : List ℕ) (w : Walk) (left : Option (List ℕ)) (blocks : List Block) : Type 0 where
  pub stands : StandsOn w.judge blocks
  pub few : w.before ≤ 1
  pub fresh : w.begun ≡ false → (blocks ≡ []) × (w.before ≡ 0)
  pub rest : List ℕ
  pub told : seen w.window left ≡ Some rest
  pub others : beyond w.window left ≡ Some (behind_them bytes)
  pub exact : blocks_at (that_count bytes) ≡ end_of w.begun w.before blocks rest

-- no record fails, but for one that is cut off behind the bytes that count
abbrev pub NoneFails : Result (List Block) BadBlock → Type 0
NoneFails (Ok blocks) = Unit {0}
NoneFails (Err bad) = bad.cause ≡ Cut

-- what is answered after these blocks: one more, which stands on them; none, where the bytes are theirs; the first record that fails
-- within the bytes that count; or that there are more bytes, where none fails within those
abbrev pub Gives : List ℕ → List Block → Result (Option Block) LoadFault → Walk → Option (List ℕ) → Type 0
Gives bytes blocks (Ok (Some b)) w left = IsWalking bytes w left (blocks ++ b ∷ [])
Gives bytes blocks (Ok None) w left = (length bytes ≤ most_blocks) × (blocks_at bytes ≡ Ok blocks)
Gives bytes blocks (Err (faults.BadBlock bad)) w left = (blocks_at (that_count bytes) ≡ Err bad) × (bad.cause ≡ Cut → length bytes ≤ most_blocks)
Gives bytes blocks (Err faults.TooBig) w left = (most_blocks < length bytes) × NoneFails (blocks_at (that_count bytes))
Gives bytes blocks (Err faults.ReadFault) w left = Unit {0}
Gives bytes blocks (Err faults.NoMemory) w left = Unit {0}

-- what reading all the bytes answers: their blocks; the first record that fails within the bytes that count; or that there are more
-- bytes, where none fails within those
abbrev pub ReadsAs : List ℕ → Result (List Block) LoadFault → Type 0
ReadsAs bytes (Ok blocks) = (length bytes ≤ most_blocks) × (blocks_at bytes ≡ Ok blocks)
ReadsAs bytes (Err (faults.BadBlock bad)) = (blocks_at (that_count bytes) ≡ Err bad) × (bad.cause ≡ Cut → length bytes ≤ most_blocks)
ReadsAs bytes (Err faults.TooBig) = (most_blocks < length bytes) × NoneFails (blocks_at (that_count bytes))
ReadsAs bytes (Err faults.ReadFault) = Unit {0}
ReadsAs bytes (Err faults.NoMemory) = Unit {0}

-- what a call does to the source's count of faults
abbrev pub CountsLoad : {X : Type 0} → Result X LoadFault → ℕ → ℕ → Type 0
CountsLoad (Err faults.ReadFault) before after = HasRisen before after
CountsLoad (Err (faults.BadBlock bad)) before after = after ≡ before
CountsLoad (Err faults.TooBig) before after = after ≡ before
CountsLoad (Err faults.NoMemory) before after = after ≡ before
CountsLoad (Ok x) before after = after ≡ before

-- why a source could not be read, as loading tells it
abbrev pub IsUnread : ReadFail → LoadFault → Type 0
IsUnread fails.Failed fault = fault ≡ faults.ReadFault
IsUnread fails.TooBig fault = fault ≡ faults.TooBig
IsUnread fails.NoMemory fault = fault ≡ faults.NoMemory
