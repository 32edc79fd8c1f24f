use Rattle.std.proofs.Common.{◌∙◌}
use Rattle.cf_filter.proofs.Search.{searched_set}
use Rattle.cf_filter.proofs.set.is_in.Goals as goal

pub returns : goal.returns
returns c = c.is_ok.ensures.value ∙ searched_set c.args.set.now c.args.script.now.items c.binary_search.result c.requires c.binary_search.ensures.bound c.binary_search.ensures.position
