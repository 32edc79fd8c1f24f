use Rattle.std.proofs.Common.{◌∙◌}
use Rattle.cf_tables.specs.Tests.{told_in}
use Rattle.cf_tables.proofs.Found.{set_found}
use Rattle.cf_tables.proofs.tests.Tests.put.Goals as goal

pub returns-clause-ok : goal.returns-clause-ok
returns-clause-ok c = λ block filter.
    c.in_ok-insert.ensures.ok block filter
    ∙ set_found (told_in c.args.self.now) c.args.block.now.0 c.args.filter.now.0 c.found_too-found.result c.args.lacks block filter c.found_too-found.ensures
