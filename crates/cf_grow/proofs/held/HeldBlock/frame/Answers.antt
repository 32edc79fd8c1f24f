use Rattle.std.proofs.Common.{◌≡◌, List, ℕ, sym, ◌∙◌, ap, subst}
use Rattle.std.specs.Prelude.{IfOk}
use Rattle.cf_block.specs.declared.tx.Block.{Block}
use Rattle.cf_block.specs.Tx.{IsBlock}
use Rattle.cf_frame.specs.declared.frame.Frame.{Frame}
use Rattle.cf_frame.specs.Frame.{spelling}
use Rattle.cf_msg.specs.declared.msg.Msg.TheVariants.{Block as BlockMessage}
use Rattle.cf_msg.specs.Message.{frame_of}
use Rattle.cf_grow.proofs.held.HeldBlock.frame.Goals as goal

pub frame_block-requires : goal.frame_block-requires
frame_block-requires c = subst IsBlock (sym c.block.ensures) c.self.invariant

pub returns : goal.returns
returns c =
    let frame = c.in_ok-frame.frame in
    let carry : List ℕ → Frame = λ x. record { command = frame.command; payload = x } in
    let same = ap carry c.as_slice.ensures ∙ c.in_ok-frame.ensures.exact
    ∙ ap (λ (b : Block). frame_of (BlockMessage b)) (c.block.ensures ∙ c.self.view_is) in
    subst (λ (f : Frame). IfOk c.encode.result (λ bytes. bytes.items ≡ spelling f)) same c.encode.ensures
