use Rattle.std.proofs.Common.{◌≡◌, length}
use Rattle.cf_input.specs.Lines.{lines_of, read_lines}
use Rattle.cf_input.specs.WatchFile.{script_after, watch_of}
use Rattle.cf_input.proofs.watch_file.read_watch.Given as goal

abbrev pub invariant-loop-rest : goal.invariant-loop-rest
invariant-loop-rest l = record {
  read : read_lines script_after l.watch (lines_of l.rest) ≡ watch_of l.bytes;
}

abbrev pub decreases-loop-rest : goal.decreases-loop-rest
decreases-loop-rest l = length l.rest
