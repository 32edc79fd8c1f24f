use Rattle.std.proofs.Common.{[]}
use Rattle.cf_walk.proofs.Growing.{good_more, part_stands, no_cause}
use Rattle.cf_index.proofs.laws.laws_of_adding.Goals as goal

pub returns-clause-good : goal.returns-clause-good
returns-clause-good c = good_more

pub returns-clause-only : goal.returns-clause-only
returns-clause-only c = λ blocks b good. no_cause blocks b (part_stands blocks b [] good)
