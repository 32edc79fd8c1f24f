use Rattle.std.proofs.Common.{sym, ◌∙◌, ap, subst}
use Rattle.cf_block.specs.declared.tx.Block.{Block}
use Rattle.cf_block.specs.Tx.{IsBlock}
use Rattle.cf_frame.specs.Frame.{spelling}
use Rattle.cf_msg.specs.declared.msg.Msg.TheVariants.{Block as BlockMessage}
use Rattle.cf_msg.specs.Message.{frame_of}
use Rattle.cf_server.proofs.Fitting.{block_fits, block_read}
use Rattle.cf_grow.proofs.held.hold_block.Goals as goal

pub new-requires : goal.new-requires
new-requires c =
    subst IsBlock (block_read c.args.index.now c.args.height c.in-Some.block.now c.in-Some.ensures ∙ sym c.in_ok-shared-in-Some.ensures)
    (block_fits c.args.index.now c.args.height c.requires.good)

pub returns : goal.returns
returns c =
    ap (λ (b : Block). spelling (frame_of (BlockMessage b)))
    (c.new.ensures ∙ c.in_ok-shared-in-Some.ensures ∙ sym (block_read c.args.index.now c.args.height c.in-Some.block.now c.in-Some.ensures))
