use Rattle.cf_input.proofs.NumberLaws.{decimal_is_number, number_is_decimal}
use Rattle.cf_input.proofs.laws.laws_of_numbers.Goals as goal

pub returns-clause-again : goal.returns-clause-again
returns-clause-again c = decimal_is_number

pub returns-clause-found : goal.returns-clause-found
returns-clause-found c = number_is_decimal
