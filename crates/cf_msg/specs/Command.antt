-- statement: the commands of the messages that are looked into: their names, filled up with NULs to 12 bytes (Bitcoin developer reference,
-- "Message Headers").
use Rattle.std.specs.Prelude.{ℕ, List, [], ◌∷◌, ◌++◌, codes, if◌then◌else◌}
use Rattle.std.specs.Str.{bytes_eq}
use Rattle.cf_msg.specs.declared.command.Kind.{Kind}
use Rattle.cf_msg.specs.declared.command.Kind.TheVariants.{Version, Verack, Ping, Pong, GetHeaders, Headers, GetData, Inv, Block, GetCfilters, Cfilter, GetCfheaders, Cfheaders, GetCfcheckpt, Cfcheckpt, Other}

-- `version`: the first message of each side
abbrev pub version_command : List ℕ
version_command = codes "version" ++ 0 ∷ 0 ∷ 0 ∷ 0 ∷ 0 ∷ []

-- `verack`: the other side's version was taken
abbrev pub verack_command : List ℕ
verack_command = codes "verack" ++ 0 ∷ 0 ∷ 0 ∷ 0 ∷ 0 ∷ 0 ∷ []

-- `ping`: asks for a `pong` with the same number
abbrev pub ping_command : List ℕ
ping_command = codes "ping" ++ 0 ∷ 0 ∷ 0 ∷ 0 ∷ 0 ∷ 0 ∷ 0 ∷ 0 ∷ []

-- `pong`: answers a `ping`, with its number
abbrev pub pong_command : List ℕ
pong_command = codes "pong" ++ 0 ∷ 0 ∷ 0 ∷ 0 ∷ 0 ∷ 0 ∷ 0 ∷ 0 ∷ []

-- `getheaders`: asks for the headers above the blocks that it names
abbrev pub getheaders_command : List ℕ
getheaders_command = codes "getheaders" ++ 0 ∷ 0 ∷ []

-- `headers`: carries headers
abbrev pub headers_command : List ℕ
headers_command = codes "headers" ++ 0 ∷ 0 ∷ 0 ∷ 0 ∷ 0 ∷ []

-- `getdata`: asks for blocks or other objects by their hashes
abbrev pub getdata_command : List ℕ
getdata_command = codes "getdata" ++ 0 ∷ 0 ∷ 0 ∷ 0 ∷ 0 ∷ []

-- `inv`: tells of blocks or other objects by their hashes
abbrev pub inv_command : List ℕ
inv_command = codes "inv" ++ 0 ∷ 0 ∷ 0 ∷ 0 ∷ 0 ∷ 0 ∷ 0 ∷ 0 ∷ 0 ∷ []

-- `block`: carries a block
abbrev pub block_command : List ℕ
block_command = codes "block" ++ 0 ∷ 0 ∷ 0 ∷ 0 ∷ 0 ∷ 0 ∷ 0 ∷ []

-- `getcfilters`: asks for the filters of some blocks (BIP 157)
abbrev pub getcfilters_command : List ℕ
getcfilters_command = codes "getcfilters" ++ 0 ∷ []

-- `cfilter`: carries the filter of one block (BIP 157)
abbrev pub cfilter_command : List ℕ
cfilter_command = codes "cfilter" ++ 0 ∷ 0 ∷ 0 ∷ 0 ∷ 0 ∷ []

-- `getcfheaders`: asks for the hashes of some blocks' filters (BIP 157)
abbrev pub getcfheaders_command : List ℕ
getcfheaders_command = codes "getcfheaders"

-- `cfheaders`: carries hashes of filters, and the filter header before them (BIP 157)
abbrev pub cfheaders_command : List ℕ
cfheaders_command = codes "cfheaders" ++ 0 ∷ 0 ∷ 0 ∷ []

-- `getcfcheckpt`: asks for every thousandth filter header (BIP 157)
abbrev pub getcfcheckpt_command : List ℕ
getcfcheckpt_command = codes "getcfcheckpt"

-- `cfcheckpt`: carries every thousandth filter header (BIP 157)
abbrev pub cfcheckpt_command : List ℕ
cfcheckpt_command = codes "cfcheckpt" ++ 0 ∷ 0 ∷ 0 ∷ []

-- what a command announces
unfoldable pub kind_of : List ℕ → Kind
kind_of command =
    if bytes_eq command version_command then Version
    else if bytes_eq command verack_command then Verack
    else if bytes_eq command ping_command then Ping
    else if bytes_eq command pong_command then Pong
    else if bytes_eq command getheaders_command then GetHeaders
    else if bytes_eq command headers_command then Headers
    else if bytes_eq command getdata_command then GetData
    else if bytes_eq command inv_command then Inv
    else if bytes_eq command block_command then Block
    else if bytes_eq command getcfilters_command then GetCfilters
    else if bytes_eq command cfilter_command then Cfilter
    else if bytes_eq command getcfheaders_command then GetCfheaders
    else if bytes_eq command cfheaders_command then Cfheaders
    else if bytes_eq command getcfcheckpt_command then GetCfcheckpt
    else if bytes_eq command cfcheckpt_command then Cfcheckpt
    else Other
