use Rattle.cf_server.proofs.Streams.{stream_waits, stream_bad, stream_malformed, stream_full}
use Rattle.cf_server.proofs.laws.laws_of_courses.Goals as goal

pub returns : goal.returns
returns c = record { waits = stream_waits; bad = stream_bad; malformed = stream_malformed; full = stream_full }
