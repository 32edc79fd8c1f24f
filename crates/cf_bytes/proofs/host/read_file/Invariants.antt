use Rattle.std.proofs.Common.{suc, ◌-◌, length}
use Rattle.cf_bytes.proofs.host.read_file.Given as goal

abbrev pub decreases-loop-buffer : goal.decreases-loop-buffer
decreases-loop-buffer g l = suc l.most - length l.bytes.items
