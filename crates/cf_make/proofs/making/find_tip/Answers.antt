use Rattle.std.proofs.Common.{sym, ◌∙◌, ap}
use Rattle.cf_make.specs.Made.{tip_of, genesis_tip}
use Rattle.cf_make.proofs.Blocks.{last_tip}
use Rattle.cf_make.proofs.making.find_tip.Goals as goal

pub returns-in-len1-up : goal.returns-in-len1-up
returns-in-len1-up c = c.block_tip.ensures ∙ ap tip_of c.last-item.is ∙ sym (last_tip genesis_tip c.args.blocks.now _ c.in-len1-up.len_at_least)
