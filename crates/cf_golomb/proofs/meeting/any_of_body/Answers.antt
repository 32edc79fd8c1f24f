use Rattle.std.proofs.Common.{sym}
use Rattle.cf_golomb.specs.Meets.{hits}
use Rattle.cf_golomb.proofs.MeetLemmas.{meets_body_fault, meets_end, meets_end_fault}
use Rattle.cf_golomb.proofs.meeting.any_of_body.Goals as goal

pub returns-in-Err : goal.returns-in-Err
returns-in-Err g c = sym (meets_body_fault c.args.n (hits c.args.queries.now) _ c.in-Err.e c.in-Err.ensures)

pub returns-in-Ok-finish : goal.returns-in-Ok-finish
returns-in-Ok-finish g c = sym (meets_end c.args.n (hits c.args.queries.now) _ _ c.in-Ok.hit c.in-Ok.ensures c.in-Ok-finish.ensures)

pub returns-in-Err-finish : goal.returns-in-Err-finish
returns-in-Err-finish g c = sym (meets_end_fault c.args.n (hits c.args.queries.now) _ _ c.in-Ok.hit c.in-Err-finish.e c.in-Ok.ensures c.in-Err-finish.ensures)
