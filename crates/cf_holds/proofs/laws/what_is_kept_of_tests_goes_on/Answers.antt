use Rattle.cf_holds.proofs.KeptAims.{trials_piece, trials_stay}
use Rattle.cf_holds.proofs.KeptGiven.{verdicts_go}
use Rattle.cf_holds.proofs.KeptTests.{holds_all}
use Rattle.cf_holds.proofs.laws.what_is_kept_of_tests_goes_on.Goals as goal

pub returns-clause-stay : goal.returns-clause-stay
returns-clause-stay c = trials_stay

pub returns-clause-piece : goal.returns-clause-piece
returns-clause-piece c = trials_piece

pub returns-clause-verdicts : goal.returns-clause-verdicts
returns-clause-verdicts c = verdicts_go

pub returns-clause-clean : goal.returns-clause-clean
returns-clause-clean c = holds_all
