use Rattle.std.proofs.Common.{◌≡◌, take}
use Rattle.cf_make.proofs.copying.copy_blocks.Given as goal

abbrev pub invariant-loop-block : goal.invariant-loop-block
invariant-loop-block l = record { copied : l.copy ≡ take l.block-index l.blocks }
