use Rattle.std.proofs.Common.{sym}
use Rattle.cf_walk.proofs.FileLaws.{good_alone, good_after, bad_alone, bad_after}
use Rattle.cf_index.proofs.file.read_chain.Goals as goal

pub returns-in-Some-clause-found : goal.returns-in-Some-clause-found
returns-in-Some-clause-found c =
    let first = rw c.in-Some.is at c.in_ok-rest.ensures in
    good_after c.args.bytes.now c.in-Some.rest.now c.read_records.result first.found c.read_records.ensures.good c.read_records.ensures.found

pub returns-in-None-clause-found : goal.returns-in-None-clause-found
returns-in-None-clause-found c = good_alone c.args.bytes.now c.read_records-in-None.result c.read_records-in-None.ensures.good c.read_records-in-None.ensures.found

pub returns-in-Some-clause-bad : goal.returns-in-Some-clause-bad
returns-in-Some-clause-bad c =
    let first = rw c.in-Some.is at c.in_ok-rest.ensures in
    bad_after c.args.bytes.now c.in-Some.rest.now c.read_records.result (sym first.exact) c.read_records.ensures.bad

pub returns-in-None-clause-bad : goal.returns-in-None-clause-bad
returns-in-None-clause-bad c =
    let first = rw c.in-None.is at c.in_ok-rest.ensures in
    bad_alone c.args.bytes.now c.read_records-in-None.result (sym first.exact) c.read_records-in-None.ensures.bad
