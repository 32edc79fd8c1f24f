use Rattle.std.proofs.Common.{ap, ◌∙◌}
use Rattle.cf_frame.specs.Frame.{spelling}
use Rattle.cf_msg.specs.declared.msg.Msg.{Msg}
use Rattle.cf_msg.specs.declared.msg.Msg.TheVariants.{Cfilter}
use Rattle.cf_msg.specs.Message.{frame_of}
use Rattle.cf_server.proofs.Fitting.{filter_bytes_fit, filter_message}
use Rattle.cf_grow.proofs.held.hold_filter.Goals as goal

pub new-requires : goal.new-requires
new-requires c =
    let found = c.in-Some-Some in
    (filter_bytes_fit c.args.index.now c.args.height found.block found.filter.now c.in_ok-shared.shared c.requires.good c.requires.there found.ensures.filter found.ensures' c.in_ok-shared.ensures).0

pub returns : goal.returns
returns c =
    let found = c.in-Some-Some in
    ap (λ (m : Msg). spelling (frame_of m))
    ((λ i. Cfilter 0 (c.new.ensures.block i) (c.new.ensures.filter i))
    ∙ filter_message c.args.index.now c.args.height found.block found.filter.now c.in_ok-shared.shared c.requires.there found.ensures.filter found.ensures' c.in_ok-shared.ensures)
