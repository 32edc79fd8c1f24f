-- statement: reading messages, field by field.
use Rattle.std.specs.Prelude.{◌≡◌, ℕ, ◌-◌, ◌==◌, nat_lt, if◌then◌else◌, List, [], ◌∷◌, drop, length, Option, Some, None, Result, Ok, Err}
use Rattle.std.specs.Int.{w16, w32, w64, from_be_bytes}
use Rattle.cf_bytes.specs.Cut.{Read, byte_at, bytes_at, number_at, int_at, ◌>>=◌}
use Rattle.cf_bytes.specs.Compact.{compact_at}
use Rattle.cf_bytes.specs.Lists.{list_at, counted_bytes_at}
use Rattle.cf_bytes.specs.declared.cut.CutFault.{CutFault}
use Rattle.cf_bytes.specs.declared.cut.CutFault.TheVariants.{Short}
use Rattle.cf_bytes.specs.declared.hash.Hash32.{Hash32}
use Rattle.cf_bytes.specs.declared.memory.Refused.{Refused}
use Rattle.cf_bytes.specs.declared.memory.Refused.TheVariants.{No, NoMemory}
use Rattle.cf_block.specs.declared.fault.BlockFault.{BlockFault}
use Rattle.cf_block.specs.declared.header.Header.{Header}
use Rattle.cf_block.specs.declared.tx.Block.{Block}
use Rattle.cf_block.specs.Header.{hash_at, header_at}
use Rattle.cf_block.specs.Reading.{block_at}
use Rattle.cf_frame.specs.declared.frame.Frame.{Frame}
use Rattle.cf_msg.specs.declared.command.Kind.{Kind}
use Rattle.cf_msg.specs.declared.command.Kind.TheVariants.{Version as VersionKind, Verack as VerackKind, Ping as PingKind, Pong as PongKind, GetHeaders as GetHeadersKind, Headers as HeadersKind, GetData as GetDataKind, Inv as InvKind, Block as BlockKind, GetCfilters as GetCfiltersKind, Cfilter as CfilterKind, GetCfheaders as GetCfheadersKind, Cfheaders as CfheadersKind, GetCfcheckpt as GetCfcheckptKind, Cfcheckpt as CfcheckptKind, Other as OtherKind}
use Rattle.cf_msg.specs.declared.msg.NetAddress.{NetAddress}
use Rattle.cf_msg.specs.declared.msg.Inventory.{Inventory}
use Rattle.cf_msg.specs.declared.msg.Msg.{Msg}
use Rattle.cf_msg.specs.declared.msg.Msg.TheVariants.{Version, Verack, Ping, Pong, GetHeaders, Headers, GetData, Inv, Block as BlockMessage, GetCfilters, Cfilter, GetCfheaders, Cfheaders, GetCfcheckpt, Cfcheckpt, Other}
use Rattle.cf_msg.specs.declared.msg.Cause.{Cause}
use Rattle.cf_msg.specs.declared.msg.Cause.TheVariants.{Cut, Block as OfBlock, TooMany, NotZero, Rest}
use Rattle.cf_msg.specs.declared.msg.Malformed.{Malformed}
use Rattle.cf_msg.specs.Command.{kind_of}

-- a field of the base, its fault as a cause
abbrev pub of_cut : {X : Type 0} → Read X CutFault → Read X Cause
of_cut (Ok x) = Ok x
of_cut (Err e) = Err (Cut e.0, e.1)

-- a port, the high byte first
abbrev pub port_at : List ℕ → Read ℕ CutFault
port_at bytes = bytes_at 2 bytes >>= λ x. Ok (from_be_bytes w16 x.0, x.1)

-- a network address: services, IP address and port
unfoldable pub address_at : List ℕ → Read NetAddress CutFault
address_at bytes = do
  services ← number_at w64 bytes
  ip ← bytes_at 16 services.1
  port ← port_at ip.1
  Ok (record { services = services.0; ip = ip.0; port = port.0 }, port.1)

-- a byte, where one is left
abbrev pub byte_or_none_at : List ℕ → Read (Option ℕ) Cause
byte_or_none_at [] = Ok (None, [])
byte_or_none_at (b ∷ bytes) = Ok (Some b, bytes)

-- the payload of `version`; its last byte, relay, may be missing (developer reference, "P2P Network")
unfoldable pub version_at : List ℕ → Read Msg Cause
version_at bytes = do
  version ← of_cut (int_at w32 bytes)
  services ← of_cut (number_at w64 version.1)
  time ← of_cut (int_at w64 services.1)
  to ← of_cut (address_at time.1)
  from ← of_cut (address_at to.1)
  nonce ← of_cut (number_at w64 from.1)
  agent ← of_cut (counted_bytes_at nonce.1)
  height ← of_cut (int_at w32 agent.1)
  relay ← byte_or_none_at height.1
  Ok (Version version.0 services.0 time.0 to.0 from.0 nonce.0 agent.0 height.0 relay.0, relay.1)

-- the payload of `ping`: a number
unfoldable pub ping_at : List ℕ → Read Msg Cause
ping_at bytes = of_cut (number_at w64 bytes) >>= λ n. Ok (Ping n.0, n.1)

-- the payload of `pong`: a number
unfoldable pub pong_at : List ℕ → Read Msg Cause
pong_at bytes = of_cut (number_at w64 bytes) >>= λ n. Ok (Pong n.0, n.1)

-- a count that is at most the limit, refused where it begins
abbrev pub limited : ℕ → List ℕ → ℕ × List ℕ → Read ℕ Cause
limited limit bytes x = if nat_lt limit x.0 then Err (TooMany, bytes) else Ok x

-- a count, at most the limit
abbrev pub count_at : ℕ → List ℕ → Read ℕ Cause
count_at limit bytes = of_cut (compact_at bytes) >>= limited limit bytes

-- a hash: 32 bytes
abbrev pub hash_item_at : List ℕ → Read Hash32 Cause
hash_item_at bytes = of_cut (hash_at bytes)

-- the payload of `getheaders`: a version, at most 101 hashes of a locator, and the hash to stop at
unfoldable pub getheaders_at : List ℕ → Read Msg Cause
getheaders_at bytes = do
  version ← of_cut (number_at w32 bytes)
  count ← count_at 101 version.1
  locator ← list_at hash_item_at count.0 count.1
  stop ← hash_item_at locator.1
  Ok (GetHeaders version.0 locator.0 stop.0, stop.1)

-- a header is refused only where it is cut off
abbrev pub of_header : Read Header BlockFault → Read Header Cause
of_header (Ok x) = Ok x
of_header (Err e) = Err (Cut Short, e.1)

-- the zero after a header
abbrev pub past_zero : Header × List ℕ → Read Header Cause
past_zero (h, []) = Err (Cut Short, [])
past_zero (h, b ∷ bytes) = if b == 0 then Ok (h, bytes) else Err (NotZero, b ∷ bytes)

-- a header in a list: a zero follows it, the count of its transactions
unfoldable pub header_item_at : List ℕ → Read Header Cause
header_item_at bytes = of_header (header_at bytes) >>= past_zero

-- the payload of `headers`: at most 2000 headers
unfoldable pub headers_at : List ℕ → Read Msg Cause
headers_at bytes = do
  count ← count_at 2000 bytes
  headers ← list_at header_item_at count.0 count.1
  Ok (Headers headers.0, headers.1)

-- a list with its count before it, which is at most the limit
abbrev pub counted_list_at : {X : Type 0} → ℕ → (List ℕ → Read X Cause) → List ℕ → Read (List X) Cause
counted_list_at limit item bytes = count_at limit bytes >>= λ n. list_at item n.0 n.1

-- an entry of an inventory: the kind of the object, and its hash
unfoldable pub entry_at : List ℕ → Read Inventory Cause
entry_at bytes = do
  kind ← of_cut (number_at w32 bytes)
  hash ← hash_item_at kind.1
  Ok (record { kind = kind.0; hash = hash.0 }, hash.1)

-- entries of an inventory, at most 50,000
unfoldable pub entries_at : List ℕ → Read (List Inventory) Cause
entries_at bytes = counted_list_at 50000 entry_at bytes

-- the payload of `getdata`: what is asked for
unfoldable pub getdata_at : List ℕ → Read Msg Cause
getdata_at bytes = entries_at bytes >>= λ entries. Ok (GetData entries.0, entries.1)

-- the payload of `inv`: what is told of
unfoldable pub inv_at : List ℕ → Read Msg Cause
inv_at bytes = entries_at bytes >>= λ entries. Ok (Inv entries.0, entries.1)

-- a block takes all the bytes, or is refused at the field that its fault names
abbrev pub of_block : List ℕ → Read Block BlockFault → Read Msg Cause
of_block bytes (Ok x) = Ok (BlockMessage x.0, x.1)
of_block bytes (Err e) = Err (OfBlock e.0.kind, drop e.0.place bytes)

-- the payload of `block`: a block, and no byte after it
unfoldable pub block_message_at : List ℕ → Read Msg Cause
block_message_at bytes = of_block bytes (block_at bytes)

-- the hashes of an answer about filters
unfoldable pub filter_hashes_at : List ℕ → Read (List Hash32) Cause
filter_hashes_at bytes = counted_list_at 2000 hash_item_at bytes

-- the payload of `getcfilters`: the filters' kind, the first height and the last block's hash (BIP 157)
unfoldable pub getcfilters_at : List ℕ → Read Msg Cause
getcfilters_at bytes = do
  filter ← of_cut (byte_at bytes)
  start ← of_cut (number_at w32 filter.1)
  stop ← hash_item_at start.1
  Ok (GetCfilters filter.0 start.0 stop.0, stop.1)

-- the payload of `cfilter`: the filter's kind, its block's hash and its bytes (BIP 157)
unfoldable pub cfilter_at : List ℕ → Read Msg Cause
cfilter_at bytes = do
  filter ← of_cut (byte_at bytes)
  block ← hash_item_at filter.1
  text ← of_cut (counted_bytes_at block.1)
  Ok (Cfilter filter.0 block.0 text.0, text.1)

-- the payload of `getcfheaders`: the filters' kind, the first height and the last block's hash (BIP 157)
unfoldable pub getcfheaders_at : List ℕ → Read Msg Cause
getcfheaders_at bytes = do
  filter ← of_cut (byte_at bytes)
  start ← of_cut (number_at w32 filter.1)
  stop ← hash_item_at start.1
  Ok (GetCfheaders filter.0 start.0 stop.0, stop.1)

-- the payload of `cfheaders`: kind, last block's hash, filter header before, and filters' hashes (BIP 157)
unfoldable pub cfheaders_at : List ℕ → Read Msg Cause
cfheaders_at bytes = do
  filter ← of_cut (byte_at bytes)
  stop ← hash_item_at filter.1
  previous ← hash_item_at stop.1
  hashes ← filter_hashes_at previous.1
  Ok (Cfheaders filter.0 stop.0 previous.0 hashes.0, hashes.1)

-- the payload of `getcfcheckpt`: the filters' kind and the last block's hash (BIP 157)
unfoldable pub getcfcheckpt_at : List ℕ → Read Msg Cause
getcfcheckpt_at bytes = do
  filter ← of_cut (byte_at bytes)
  stop ← hash_item_at filter.1
  Ok (GetCfcheckpt filter.0 stop.0, stop.1)

-- the payload of `cfcheckpt`: the filters' kind, the last block's hash and filter headers (BIP 157)
unfoldable pub cfcheckpt_at : List ℕ → Read Msg Cause
cfcheckpt_at bytes = do
  filter ← of_cut (byte_at bytes)
  stop ← hash_item_at filter.1
  headers ← filter_hashes_at stop.1
  Ok (Cfcheckpt filter.0 stop.0 headers.0, headers.1)

-- the table: what each command's payload holds
unfoldable pub fields_at : Kind → List ℕ → List ℕ → Read Msg Cause
fields_at VersionKind command bytes = version_at bytes
fields_at VerackKind command bytes = Ok (Verack, bytes)
fields_at PingKind command bytes = ping_at bytes
fields_at PongKind command bytes = pong_at bytes
fields_at GetHeadersKind command bytes = getheaders_at bytes
fields_at HeadersKind command bytes = headers_at bytes
fields_at GetDataKind command bytes = getdata_at bytes
fields_at InvKind command bytes = inv_at bytes
fields_at BlockKind command bytes = block_message_at bytes
fields_at GetCfiltersKind command bytes = getcfilters_at bytes
fields_at CfilterKind command bytes = cfilter_at bytes
fields_at GetCfheadersKind command bytes = getcfheaders_at bytes
fields_at CfheadersKind command bytes = cfheaders_at bytes
fields_at GetCfcheckptKind command bytes = getcfcheckpt_at bytes
fields_at CfcheckptKind command bytes = cfcheckpt_at bytes
fields_at OtherKind command bytes = Ok (Other command bytes, [])

-- no byte is left
abbrev pub to_end : Msg × List ℕ → Read Msg Cause
to_end x = if length x.1 == 0 then Ok x else Err (Rest, x.1)

-- the message of a command and its payload, all of whose bytes are read
unfoldable pub whole_at : List ℕ → List ℕ → Read Msg Cause
whole_at command bytes = fields_at (kind_of command) command bytes >>= to_end

-- the message of a frame; or the frame's command, the place of the field that can't be read, and why
abbrev pub placed : Frame → Read Msg Cause → Result Msg Malformed
placed f (Ok x) = Ok x.0
placed f (Err e) = Err (record { command = f.command; place = length f.payload - length e.1; cause = e.0 })

-- the message that a frame carries, or its first field that can't be read
unfoldable pub message_of : Frame → Result Msg Malformed
message_of f = placed f (whole_at f.command f.payload)

-- what a call that takes memory answered
abbrev pub Answers : {X E : Type 0} → Result X E → Result X (Refused E) → Type 0
Answers answer (Ok x) = answer ≡ Ok x
Answers answer (Err (No e)) = answer ≡ Err e
Answers answer (Err NoMemory) = Unit {0}
