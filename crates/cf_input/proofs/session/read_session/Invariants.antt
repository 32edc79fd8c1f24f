use Rattle.std.proofs.Common.{◌≡◌, ◌+◌, ◌≤◌, [], length, true}
use Rattle.std.specs.List.{list_all}
use Rattle.cf_wires.specs.Log.{is_real}
use Rattle.cf_input.specs.Lines.{lines_of, read_lines}
use Rattle.cf_bytes.specs.Peers.{most_peers}
use Rattle.cf_input.specs.SessionFile.{line_after, lines_in}
use Rattle.cf_input.specs.Sessions.{script_in, AreNamed}
use Rattle.cf_input.proofs.session.read_session.Given as goal

abbrev pub invariant-loop-rest : goal.invariant-loop-rest
invariant-loop-rest l = record {
  read : read_lines line_after (script_in l.session) (lines_of l.rest) ≡ read_lines line_after (record { dials = []; deliveries = [] }) (lines_of l.bytes);
  few : length l.session.dials.items ≤ most_peers;
  lines : lines_in (script_in l.session) + length l.rest ≤ length l.bytes;
  named : AreNamed l.session;
  real : list_all is_real l.session.deliveries.items ≡ true;
}

abbrev pub decreases-loop-rest : goal.decreases-loop-rest
decreases-loop-rest l = length l.rest
