use Rattle.cf_parallel.proofs.Unpacking.{packed_all}
use Rattle.cf_parallel.proofs.packed.taken_apart.Goals as goal

pub returns : goal.returns
returns c = packed_all c.loop-job.heads.items c.loop-job.bytes.items c.args.jobs.now c.loop-job.job-index c.loop-job-test.false c.loop-job.invariant.heads c.loop-job.invariant.bytes
