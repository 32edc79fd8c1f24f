use Rattle.std.proofs.Common.{rules, refl}
use Rattle.cf_hub.proofs.Opened.{same_there, same_open, writer_at}
use Rattle.cf_hub.proofs.WriterFaults.{on_both, on_both_err, counts_stay, counts_rise}
use Rattle.cf_hub.proofs.writers.put_to.Goals as goal

pub returns-in-Some-clause-ok : goal.returns-in-Some-clause-ok
returns-in-Some-clause-ok g c =
    let at = writer_at c.args.writers.now c.args.p.0 c.index_mut.result.now c.in-Some.writer (search rules) c.index_mut.ensures.value (search rules) in
    on_both c.write_all.result (λ k b. (counts_stay g.W.Sink.faults c.args.writers.now.items c.args.p.0 c.in-Some.writer c.write_all.new.writer at k, (c.in-Some.writer, c.write_all.new.writer, at, refl, b, c.write_all.ensures.shut))) c.write_all.ensures.kept c.write_all.ensures.ok

pub returns-in-Some-clause-err : goal.returns-in-Some-clause-err
returns-in-Some-clause-err g c =
    let at = writer_at c.args.writers.now c.args.p.0 c.index_mut.result.now c.in-Some.writer (search rules) c.index_mut.ensures.value (search rules) in
    on_both_err c.write_all.result (λ r b. (counts_rise g.W.Sink.faults c.args.writers.now.items c.args.p.0 c.in-Some.writer c.write_all.new.writer at c.write_all.ensures.later r, (b.0, b.1, (c.in-Some.writer, c.write_all.new.writer, at, refl, b.2, c.write_all.ensures.shut)))) c.write_all.ensures.cause c.write_all.ensures.err

pub returns-in-Some-clause-there : goal.returns-in-Some-clause-there
returns-in-Some-clause-there g c =
    let at = writer_at c.args.writers.now c.args.p.0 c.index_mut.result.now c.in-Some.writer (search rules) c.index_mut.ensures.value (search rules) in
    same_there _ _ c.args.p.0 _ c.write_all.new.writer at refl

pub returns-in-Some-clause-unshut : goal.returns-in-Some-clause-unshut
returns-in-Some-clause-unshut g c = λ closed h.
    let at = writer_at c.args.writers.now c.args.p.0 c.index_mut.result.now c.in-Some.writer (search rules) c.index_mut.ensures.value (search rules) in
    same_open g.W.Writer.was_shut closed _ _ c.args.p.0 _ c.write_all.new.writer at refl c.write_all.ensures.shut h
