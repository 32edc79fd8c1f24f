use Rattle.std.proofs.Common.{rules}
use Rattle.cf_hub.proofs.Opened.{shut_here, shuts_open, shuts_there, shuts_written, writer_at}
use Rattle.cf_hub.proofs.writers.shut_at.Goals as goal

pub returns-in-Some-clause-there : goal.returns-in-Some-clause-there
returns-in-Some-clause-there g c =
    let at = writer_at c.args.writers.now c.args.p.0 c.index_mut.result.now c.in-Some.writer (search rules) c.index_mut.ensures.value (search rules) in
    shuts_there _ _ _ _ _ (shut_here g.W.Sink.written g.W.Writer.was_shut _ _ _ c.shut.new.self at c.shut.ensures.written c.shut.ensures.shut)

pub returns-in-Some-clause-written : goal.returns-in-Some-clause-written
returns-in-Some-clause-written g c =
    let at = writer_at c.args.writers.now c.args.p.0 c.index_mut.result.now c.in-Some.writer (search rules) c.index_mut.ensures.value (search rules) in
    shuts_written _ _ _ _ _ (shut_here g.W.Sink.written g.W.Writer.was_shut _ _ _ c.shut.new.self at c.shut.ensures.written c.shut.ensures.shut)

pub returns-in-Some-clause-unshut : goal.returns-in-Some-clause-unshut
returns-in-Some-clause-unshut g c = λ closed.
    let at = writer_at c.args.writers.now c.args.p.0 c.index_mut.result.now c.in-Some.writer (search rules) c.index_mut.ensures.value (search rules) in
    shuts_open _ _ closed _ _ _ (shut_here g.W.Sink.written g.W.Writer.was_shut _ _ _ c.shut.new.self at c.shut.ensures.written c.shut.ensures.shut)
