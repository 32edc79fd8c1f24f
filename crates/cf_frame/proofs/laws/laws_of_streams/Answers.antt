use Rattle.cf_frame.proofs.Relations.{stream_fault, stream_only, stream_whole}
use Rattle.cf_frame.proofs.Streams.{stream_joined, stream_of_spelling_and, stream_step}
use Rattle.cf_frame.proofs.laws.laws_of_streams.Goals as goal

pub returns-clause-step : goal.returns-clause-step
returns-clause-step c = stream_step

pub returns-clause-again : goal.returns-clause-again
returns-clause-again c = stream_of_spelling_and

pub returns-clause-joined : goal.returns-clause-joined
returns-clause-joined c = stream_joined

pub returns-clause-whole : goal.returns-clause-whole
returns-clause-whole c = stream_whole

pub returns-clause-only : goal.returns-clause-only
returns-clause-only c = stream_only

pub returns-clause-bad : goal.returns-clause-bad
returns-clause-bad c = stream_fault
