use Rattle.std.proofs.Common.{◌≡◌, [], length, zero}
use Rattle.cf_walk.specs.Records.{HasRecords}
use Rattle.cf_walk.specs.Files.{blocks_from}
use Rattle.cf_index.specs.Progress.{Keeps}
use Rattle.cf_index.proofs.file.read_records.Given as goal

abbrev pub invariant-loop-cut : goal.invariant-loop-cut
invariant-loop-cut l = record {
  kept : Keeps l.chain;
  exact : blocks_from l.before zero [] l.fn.bytes ≡ blocks_from l.before zero l.chain.blocks l.cut;
  spelled : HasRecords l.fn.bytes l.chain.blocks l.cut;
}

abbrev pub decreases-loop-cut : goal.decreases-loop-cut
decreases-loop-cut l = length l.cut
