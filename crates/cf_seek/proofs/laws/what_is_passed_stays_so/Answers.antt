use Rattle.cf_seek.proofs.SoughtStays.{sought_extracts, passed_extracts, sought_verdicts, passed_verdicts, sought_claims, passed_claims, sought_opens, passed_opens, sought_closes, passed_closes, sought_grown, passed_grown, passed_hits}
use Rattle.cf_seek.proofs.laws.what_is_passed_stays_so.Goals as goal

pub returns-clause-extracts_sought : goal.returns-clause-extracts_sought
returns-clause-extracts_sought c = sought_extracts

pub returns-clause-extracts_passed : goal.returns-clause-extracts_passed
returns-clause-extracts_passed c = passed_extracts

pub returns-clause-verdicts_sought : goal.returns-clause-verdicts_sought
returns-clause-verdicts_sought c = sought_verdicts

pub returns-clause-verdicts_passed : goal.returns-clause-verdicts_passed
returns-clause-verdicts_passed c = passed_verdicts

pub returns-clause-claims_sought : goal.returns-clause-claims_sought
returns-clause-claims_sought c = sought_claims

pub returns-clause-claims_passed : goal.returns-clause-claims_passed
returns-clause-claims_passed c = passed_claims

pub returns-clause-opened_sought : goal.returns-clause-opened_sought
returns-clause-opened_sought c = sought_opens

pub returns-clause-opened_passed : goal.returns-clause-opened_passed
returns-clause-opened_passed c = passed_opens

pub returns-clause-answered_sought : goal.returns-clause-answered_sought
returns-clause-answered_sought c = sought_closes

pub returns-clause-answered_passed : goal.returns-clause-answered_passed
returns-clause-answered_passed c = passed_closes

pub returns-clause-grown_sought : goal.returns-clause-grown_sought
returns-clause-grown_sought c = sought_grown

pub returns-clause-grown_passed : goal.returns-clause-grown_passed
returns-clause-grown_passed c = passed_grown

pub returns-clause-hits : goal.returns-clause-hits
returns-clause-hits c = passed_hits
