use Rattle.std.proofs.Common.{◌≡◌, ◌+◌, ◌-◌, ◌≤◌, suc, length}
use Rattle.cf_conn.specs.Source.{with_front}
use Rattle.cf_conn.proofs.reading.read_all.Given as goal

-- the bytes so far stood in front, and nothing has failed or ended
abbrev pub invariant-loop-piece : goal.invariant-loop-piece
invariant-loop-piece g l = record {
  few : length l.bytes.items ≤ l.most + 1;
  read : g.S.Source.left l.fn.source ≡ with_front l.bytes.items (g.S.Source.left l.source);
  ended : g.S.Source.ended l.source ≡ g.S.Source.ended l.fn.source;
  kept : g.S.Source.faults l.source ≡ g.S.Source.faults l.fn.source;
}

abbrev pub decreases-loop-piece : goal.decreases-loop-piece
decreases-loop-piece g l = suc l.most - length l.bytes.items
