use Rattle.std.proofs.Common.{◌≡◌, take}
use Rattle.std.specs.List.{flat_map}
use Rattle.cf_make.specs.Records.{record_of}
use Rattle.cf_make.proofs.recording.records.Given as goal

abbrev pub invariant-loop-block : goal.invariant-loop-block
invariant-loop-block l = record { written : l.out.items ≡ flat_map record_of (take l.block-index l.chain) }
