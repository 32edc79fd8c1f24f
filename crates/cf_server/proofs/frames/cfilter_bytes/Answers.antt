use Rattle.std.proofs.Common.{◌≡◌, refl, subst}
use Rattle.std.specs.Prelude.{IfOk}
use Rattle.cf_frame.specs.Frame.{spelling}
use Rattle.cf_msg.specs.declared.msg.Msg.{Msg}
use Rattle.cf_msg.specs.Message.{frame_of}
use Rattle.cf_server.proofs.Fitting.{filter_bytes_fit, filter_message}
use Rattle.cf_server.proofs.frames.cfilter_bytes.Goals as goal

pub filter_bytes-requires : goal.filter_bytes-requires
filter_bytes-requires c =
    let found = c.in-Some-Some in
    (filter_bytes_fit c.args.index.now c.args.height found.block found.filter.now found.filter.now c.requires.good c.requires.there found.ensures.filter found.ensures' refl).0

pub returns : goal.returns
returns c =
    let found = c.in-Some-Some in
    subst (λ (m : Msg). IfOk c.filter_bytes.result (λ bytes. bytes.items ≡ spelling (frame_of m)))
    (filter_message c.args.index.now c.args.height found.block found.filter.now found.filter.now c.requires.there found.ensures.filter found.ensures' refl)
    c.filter_bytes.ensures
