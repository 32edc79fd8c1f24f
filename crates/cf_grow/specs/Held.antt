-- machine: what an answer holds: bytes, and blocks and filters that it shares with the chain.
use Rattle.std.specs.Prelude.{ℕ, List, ◌++◌}
use Rattle.std.specs.List.{flat_map}
use Rattle.cf_frame.specs.Frame.{spelling}
use Rattle.cf_grow.specs.declared.held.Held.{Held}
use Rattle.cf_grow.specs.declared.parts.Parts.{Parts}
use Rattle.cf_grow.specs.declared.held.Held.TheVariants.{Bytes, Block, Filter}
use Rattle.cf_msg.specs.declared.msg.Msg.TheVariants.{Block as BlockMessage, Cfilter}
use Rattle.cf_msg.specs.Message.{frame_of}

-- the bytes that a part stands for
abbrev pub text_in : Held → List ℕ
text_in (Bytes bytes) = bytes
text_in (Block block) = spelling (frame_of (BlockMessage block))
text_in (Filter filter) = spelling (frame_of (Cfilter 0 filter.block filter.filter))

-- those of parts, joined
abbrev pub texts_in : List Held → List ℕ
texts_in parts = flat_map text_in parts

-- those of a whole answer
abbrev pub text_all : Parts → List ℕ
text_all parts = parts.told ++ texts_in parts.rest
