-- machine: the replies that are planned for a message: each tells by heights what of the chain it sends, so that no plan copies the chain.
use Rattle.std.specs.Prelude.{◌≡◌, suc, ◌+◌, ◌≤◌, ◌<◌, List, ◌++◌, map, length, take, drop, slice_index_or, Some}
use Rattle.std.specs.List.{AllByRecursion}
use Rattle.cf_block.specs.declared.tx.Block.{Block}
use Rattle.cf_block.specs.Genesis.{first_block}
use Rattle.cf_msg.specs.declared.msg.Msg.{Msg}
use Rattle.cf_msg.specs.declared.msg.Msg.TheVariants.{Verack, Pong, Headers, Block as BlockMessage}
use Rattle.cf_chain.specs.Filters.{first_filtered, filters_of}
use Rattle.cf_chain.specs.Heights.{all_blocks, block_height}
use Rattle.cf_chain.specs.Serve.{version_reply, cfilter_of, cfheaders_of, cfcheckpt_of}
use Rattle.cf_server.specs.declared.reply.Reply.{Reply}
use Rattle.cf_server.specs.declared.reply.Reply.TheVariants.{OwnVersion, OwnVerack, PongOf, HeadersOf, BlockAt, CfilterAt, CfheadersOf, CfcheckptOf}
use Rattle.cf_server.specs.declared.answering.Serving.{Serving}

-- the message that a reply stands for, of the machine of a chain
abbrev pub message_of : Serving → List Block → Reply → Msg
message_of served blocks OwnVersion = version_reply served.time served.nonce blocks
message_of served blocks OwnVerack = Verack
message_of served blocks (PongOf number) = Pong number
message_of served blocks (HeadersOf start count) = Headers (take count (drop start (map (λ b. b.header) (all_blocks blocks))))
message_of served blocks (BlockAt height) = BlockMessage (slice_index_or (all_blocks blocks) height first_block)
message_of served blocks (CfilterAt height) = cfilter_of (slice_index_or (filters_of blocks) height first_filtered)
message_of served blocks (CfheadersOf start stop_height stop) = cfheaders_of start stop_height stop blocks
message_of served blocks (CfcheckptOf stop_height stop) = cfcheckpt_of stop_height stop blocks

-- the messages that replies stand for, in order
abbrev pub messages_of : Serving → List Block → List Reply → List Msg
messages_of served blocks replies = map (message_of served blocks) replies

-- the heights that a reply names are in the chain, its stop hash stands at its stop height, and its ranges are within the limits of the messages
abbrev pub IsReplyOf : List Block → Reply → Type 0
IsReplyOf blocks OwnVersion = Unit {0}
IsReplyOf blocks OwnVerack = Unit {0}
IsReplyOf blocks (PongOf number) = Unit {0}
IsReplyOf blocks (HeadersOf start count) = (count ≤ 2000) × (start + count ≤ suc (length blocks))
IsReplyOf blocks (BlockAt height) = height ≤ length blocks
IsReplyOf blocks (CfilterAt height) = height ≤ length blocks
IsReplyOf blocks (CfheadersOf start stop_height stop) = (start ≤ stop_height) × (stop_height < start + 2000) × (block_height stop blocks ≡ Some stop_height)
IsReplyOf blocks (CfcheckptOf stop_height stop) = block_height stop blocks ≡ Some stop_height

-- each of these replies names heights that are in the chain, within the limits
abbrev pub AreRepliesOf : List Block → List Reply → Type 0
AreRepliesOf blocks replies = AllByRecursion (IsReplyOf blocks) replies

-- replies that stand for these messages were put at the end
pub record Adds (served : Serving) (blocks : List Block) (old new : List Reply) (messages : List Msg) : Type 0 where
  pub added : List Reply
  pub joined : new ≡ old ++ added
  pub told : messages_of served blocks added ≡ messages
  pub each : AreRepliesOf blocks added
