use Rattle.std.proofs.Common.{◌≡◌, sym, ◌∙◌, ap, subst}
use Rattle.std.specs.Prelude.{IfOk}
use Rattle.cf_block.specs.declared.tx.Block.{Block}
use Rattle.cf_block.specs.Tx.{IsBlock}
use Rattle.cf_frame.specs.declared.frame.Frame.{Frame}
use Rattle.cf_frame.specs.Frame.{spelling}
use Rattle.cf_msg.specs.declared.msg.Msg.TheVariants.{Block as BlockMessage}
use Rattle.cf_msg.specs.Message.{frame_of}
use Rattle.cf_server.proofs.Fitting.{block_fits, block_read}
use Rattle.cf_server.proofs.frames.block_bytes.Goals as goal

pub frame_block-requires : goal.frame_block-requires
frame_block-requires c =
    subst IsBlock (block_read c.args.index.now c.args.height c.in-Some.block.now c.in-Some.ensures) (block_fits c.args.index.now c.args.height c.requires.good)

pub returns : goal.returns
returns c =
    let same = block_read c.args.index.now c.args.height c.in-Some.block.now c.in-Some.ensures in
    subst (λ (f : Frame). IfOk c.frame_bytes.result (λ bytes. bytes.items ≡ spelling f)) (c.in_ok-frame-in-Some.ensures.exact ∙ ap (λ (b : Block). frame_of (BlockMessage b)) (sym same)) c.frame_bytes.ensures
