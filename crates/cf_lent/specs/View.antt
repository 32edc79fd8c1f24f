-- machine: messages whose lists and bytes are lent, as messages.
use Rattle.std.specs.Prelude.{◌≡◌, Result, Ok, Err}
use Rattle.cf_msg.specs.declared.msg.Msg.{Msg}
use Rattle.cf_msg.specs.declared.msg.Msg.TheVariants as msgs
use Rattle.cf_msg.specs.declared.msg.Malformed.{Malformed}
use Rattle.cf_lent.specs.declared.views.View.{View}
use Rattle.cf_lent.specs.declared.views.View.TheVariants as views

-- the message that is lent
abbrev pub msg_of : View → Msg
msg_of (views.Version version services time to from nonce agent height relay) =
    msgs.Version version services time to from nonce agent height relay
msg_of views.Verack = msgs.Verack
msg_of (views.Ping n) = msgs.Ping n
msg_of (views.Pong n) = msgs.Pong n
msg_of (views.GetHeaders version locator stop) = msgs.GetHeaders version locator stop
msg_of (views.Headers headers) = msgs.Headers headers
msg_of (views.GetData entries) = msgs.GetData entries
msg_of (views.Inv entries) = msgs.Inv entries
msg_of (views.Block block) = msgs.Block block
msg_of (views.GetCfilters filter start stop) = msgs.GetCfilters filter start stop
msg_of (views.Cfilter filter block bytes) = msgs.Cfilter filter block bytes
msg_of (views.GetCfheaders filter start stop) = msgs.GetCfheaders filter start stop
msg_of (views.Cfheaders filter stop previous hashes) = msgs.Cfheaders filter stop previous hashes
msg_of (views.GetCfcheckpt filter stop) = msgs.GetCfcheckpt filter stop
msg_of (views.Cfcheckpt filter stop headers) = msgs.Cfcheckpt filter stop headers
msg_of (views.Other command payload) = msgs.Other command payload

-- what a call answered that lends a message
abbrev pub Views : Result Msg Malformed → Result View Malformed → Type 0
Views answer (Ok v) = answer ≡ Ok (msg_of v)
Views answer (Err e) = answer ≡ Err e
