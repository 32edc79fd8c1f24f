-- statement: how messages are spelled: the command and the payload of each (Bitcoin developer reference, "P2P Network"; for the six messages of
-- compact filters BIP 157).
use Rattle.std.specs.Prelude.{◌≡◌, ℕ, ◌<◌, ◌≤◌, ◌^◌, Bool, true, false, List, [], ◌∷◌, ◌++◌, length, replicate, Option, Some, None, FitsSigned}
use Rattle.std.specs.Int.{w16, w32, w64, to_le_bytes, to_be_bytes, cast_unsigned}
use Rattle.std.specs.List.{flat_map, AllByRecursion}
use Rattle.cf_bytes.specs.Compact.{compact}
use Rattle.cf_bytes.specs.Lists.{counted_bytes}
use Rattle.cf_bytes.specs.declared.hash.Hash32.{Hash32}
use Rattle.cf_block.specs.declared.header.Header.{Header}
use Rattle.cf_block.specs.Header.{IsHash, IsHeader, header_spelling}
use Rattle.cf_block.specs.Tx.{IsBlock, block_spelling}
use Rattle.cf_frame.specs.declared.frame.Frame.{Frame}
use Rattle.cf_frame.specs.Frame.{is_command}
use Rattle.cf_msg.specs.declared.command.Kind.TheVariants.{Other as OtherKind}
use Rattle.cf_msg.specs.declared.msg.NetAddress.{NetAddress}
use Rattle.cf_msg.specs.declared.msg.Inventory.{Inventory}
use Rattle.cf_msg.specs.declared.msg.Msg.{Msg}
use Rattle.cf_msg.specs.declared.msg.Msg.TheVariants.{Version, Verack, Ping, Pong, GetHeaders, Headers, GetData, Inv, Block, GetCfilters, Cfilter, GetCfheaders, Cfheaders, GetCfcheckpt, Cfcheckpt, Other}
use Rattle.cf_msg.specs.Command.{version_command, verack_command, ping_command, pong_command, getheaders_command, headers_command, getdata_command, inv_command, block_command, getcfilters_command, cfilter_command, getcfheaders_command, cfheaders_command, getcfcheckpt_command, cfcheckpt_command, kind_of}

-- a network address: services, IP address, and the port with its high byte first
abbrev pub address_spelling : NetAddress → List ℕ
address_spelling a = to_le_bytes w64 a.services ++ (a.ip ++ to_be_bytes w16 a.port)

-- an address that has a spelling: services of 64 bits, 16 bytes of IP address, a port of 16 bits
pub record IsAddress (a : NetAddress) : Type 0 where
  pub services : a.services < 2 ^ 64
  pub ip : length a.ip ≡ 16
  pub port : a.port < 2 ^ 16

-- no network address: no services, and zeros for the IP address and the port
abbrev pub no_address : NetAddress
no_address = record { services = 0; ip = replicate 16 0; port = 0 }

-- a byte, or nothing
abbrev pub byte_or_none : Option ℕ → List ℕ
byte_or_none None = []
byte_or_none (Some b) = b ∷ []

-- a number that is a byte, or nothing
abbrev pub IsByteOrNone : Option ℕ → Type 0
IsByteOrNone None = Unit {0}
IsByteOrNone (Some b) = b < 256

-- a hash's bytes, in the order of the wire
abbrev pub hash_spelling : Hash32 → List ℕ
hash_spelling h = h.0

-- a header in a list of headers is followed by a zero, the count of its transactions
abbrev pub item_spelling : Header → List ℕ
item_spelling h = header_spelling h ++ 0 ∷ []

-- an entry of an inventory: the kind of the object, and its hash
abbrev pub entry_spelling : Inventory → List ℕ
entry_spelling e = to_le_bytes w32 e.kind ++ e.hash.0

-- an entry that has a spelling: a kind of 32 bits, and a hash of 32 bytes
pub record IsEntry (e : Inventory) : Type 0 where
  pub kind : e.kind < 2 ^ 32
  pub hash : IsHash e.hash

-- items with their count before them
abbrev pub counted_list : {X : Type 0} → (X → List ℕ) → List X → List ℕ
counted_list spell xs = compact (length xs) ++ flat_map spell xs

-- the table: each message's command
abbrev pub command_of : Msg → List ℕ
command_of (Version version services time to from nonce agent height relay) = version_command
command_of Verack = verack_command
command_of (Ping n) = ping_command
command_of (Pong n) = pong_command
command_of (GetHeaders version locator stop) = getheaders_command
command_of (Headers headers) = headers_command
command_of (GetData entries) = getdata_command
command_of (Inv entries) = inv_command
command_of (Block block) = block_command
command_of (GetCfilters filter start stop) = getcfilters_command
command_of (Cfilter filter block bytes) = cfilter_command
command_of (GetCfheaders filter start stop) = getcfheaders_command
command_of (Cfheaders filter stop previous hashes) = cfheaders_command
command_of (GetCfcheckpt filter stop) = getcfcheckpt_command
command_of (Cfcheckpt filter stop headers) = cfcheckpt_command
command_of (Other command payload) = command

-- and its payload
unfoldable pub payload_of : Msg → List ℕ
payload_of (Version version services time to from nonce agent height relay) =
    to_le_bytes w32 (cast_unsigned w32 version) ++ (to_le_bytes w64 services ++ (to_le_bytes w64 (cast_unsigned w64 time)
    ++ (address_spelling to ++ (address_spelling from ++ (to_le_bytes w64 nonce
    ++ (counted_bytes agent ++ (to_le_bytes w32 (cast_unsigned w32 height) ++ byte_or_none relay)))))))
payload_of Verack = []
payload_of (Ping n) = to_le_bytes w64 n
payload_of (Pong n) = to_le_bytes w64 n
payload_of (GetHeaders version locator stop) = to_le_bytes w32 version ++ (compact (length locator) ++ (flat_map hash_spelling locator ++ stop.0))
payload_of (Headers headers) = compact (length headers) ++ flat_map item_spelling headers
payload_of (GetData entries) = counted_list entry_spelling entries
payload_of (Inv entries) = counted_list entry_spelling entries
payload_of (Block block) = block_spelling block
payload_of (GetCfilters filter start stop) = filter ∷ (to_le_bytes w32 start ++ stop.0)
payload_of (Cfilter filter block bytes) = filter ∷ (block.0 ++ counted_bytes bytes)
payload_of (GetCfheaders filter start stop) = filter ∷ (to_le_bytes w32 start ++ stop.0)
payload_of (Cfheaders filter stop previous hashes) = filter ∷ (stop.0 ++ (previous.0 ++ counted_list hash_spelling hashes))
payload_of (GetCfcheckpt filter stop) = filter ∷ stop.0
payload_of (Cfcheckpt filter stop headers) = filter ∷ (stop.0 ++ counted_list hash_spelling headers)
payload_of (Other command payload) = payload

-- Which messages have a spelling: numbers are in their types' ranges, counts within the limits, and a message that
-- isn't looked into has another command than those that are.
abbrev pub HasSpelling : Msg → Type 0
HasSpelling (Version version services time to from nonce agent height relay) =
    FitsSigned w32 version × (services < 2 ^ 64) × FitsSigned w64 time × IsAddress to × IsAddress from × (nonce < 2 ^ 64)
    × (length agent ≤ 33554432) × FitsSigned w32 height × IsByteOrNone relay
HasSpelling Verack = Unit {0}
HasSpelling (Ping n) = n < 2 ^ 64
HasSpelling (Pong n) = n < 2 ^ 64
HasSpelling (GetHeaders version locator stop) = (version < 2 ^ 32) × (length locator ≤ 101) × AllByRecursion IsHash locator × IsHash stop
HasSpelling (Headers headers) = (length headers ≤ 2000) × AllByRecursion IsHeader headers
HasSpelling (GetData entries) = (length entries ≤ 50000) × AllByRecursion IsEntry entries
HasSpelling (Inv entries) = (length entries ≤ 50000) × AllByRecursion IsEntry entries
HasSpelling (Block block) = IsBlock block
HasSpelling (GetCfilters filter start stop) = (filter < 256) × (start < 2 ^ 32) × IsHash stop
HasSpelling (Cfilter filter block bytes) = (filter < 256) × IsHash block × (length bytes ≤ 33554432)
HasSpelling (GetCfheaders filter start stop) = (filter < 256) × (start < 2 ^ 32) × IsHash stop
HasSpelling (Cfheaders filter stop previous hashes) = (filter < 256) × IsHash stop × IsHash previous × (length hashes ≤ 2000) × AllByRecursion IsHash hashes
HasSpelling (GetCfcheckpt filter stop) = (filter < 256) × IsHash stop
HasSpelling (Cfcheckpt filter stop headers) = (filter < 256) × IsHash stop × (length headers ≤ 2000) × AllByRecursion IsHash headers
HasSpelling (Other command payload) = (length command ≡ 12) × (is_command command ≡ true) × (kind_of command ≡ OtherKind)

-- Of these conditions those that the types of a message in memory leave open.
abbrev pub IsWithinLimits : Msg → Type 0
IsWithinLimits (Version version services time to from nonce agent height relay) = length agent ≤ 33554432
IsWithinLimits Verack = Unit {0}
IsWithinLimits (Ping n) = Unit {0}
IsWithinLimits (Pong n) = Unit {0}
IsWithinLimits (GetHeaders version locator stop) = length locator ≤ 101
IsWithinLimits (Headers headers) = length headers ≤ 2000
IsWithinLimits (GetData entries) = length entries ≤ 50000
IsWithinLimits (Inv entries) = length entries ≤ 50000
IsWithinLimits (Block block) = IsBlock block
IsWithinLimits (GetCfilters filter start stop) = Unit {0}
IsWithinLimits (Cfilter filter block bytes) = length bytes ≤ 33554432
IsWithinLimits (GetCfheaders filter start stop) = Unit {0}
IsWithinLimits (Cfheaders filter stop previous hashes) = length hashes ≤ 2000
IsWithinLimits (GetCfcheckpt filter stop) = Unit {0}
IsWithinLimits (Cfcheckpt filter stop headers) = length headers ≤ 2000
IsWithinLimits (Other command payload) = (is_command command ≡ true) × (kind_of command ≡ OtherKind)

-- this command and this payload spell the message
pub record Spells (m : Msg) (command payload : List ℕ) : Type 0 where
  pub fits : HasSpelling m
  pub command_is : command ≡ command_of m
  pub payload_is : payload ≡ payload_of m

-- the frame that carries a message
abbrev pub frame_of : Msg → Frame
frame_of m = record { command = command_of m; payload = payload_of m }

-- a message is a version
abbrev pub is_version : Msg → Bool
is_version (Version version services time to from nonce agent height relay) = true
is_version m = false
