use Rattle.cf_input.proofs.LineLawLemmas.{lines_again, lines_found}
use Rattle.cf_input.proofs.laws.laws_of_lines.Goals as goal

pub returns-clause-again : goal.returns-clause-again
returns-clause-again c = lines_again

pub returns-clause-found : goal.returns-clause-found
returns-clause-found c = lines_found
