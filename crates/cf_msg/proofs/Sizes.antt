-- How long payloads are.
use Rattle.std.proofs.Common.{◌≡◌, ℕ, ℤ, ◌+◌, ◌*◌, ◌≤◌, ◌^◌, nat_lt, Bool, true, false, if◌then◌else◌, List, [], ◌∷◌, ◌++◌, length, Option, Some, None, ◌∙◌, arith, length-append}
use Rattle.std.specs.Int.{w16, w32, w64, to_le_bytes, to_be_bytes, cast_unsigned}
use Rattle.std.specs.List.{flat_map, AllByRecursion}
use Rattle.cf_bytes.specs.declared.hash.Hash32.{Hash32}
use Rattle.cf_bytes.specs.Compact.{compact}
use Rattle.cf_bytes.specs.Lists.{counted_bytes}
use Rattle.cf_block.specs.declared.header.Header.{Header}
use Rattle.cf_block.specs.Header.{IsHash, IsHeader, header_spelling}
use Rattle.cf_msg.specs.declared.msg.NetAddress.{NetAddress}
use Rattle.cf_msg.specs.declared.msg.Inventory.{Inventory}
use Rattle.cf_msg.specs.declared.msg.Msg.{Msg}
use Rattle.cf_msg.specs.declared.msg.Msg.TheVariants.{Version, Verack, Ping, Pong, GetHeaders, Headers, GetData, Inv, Block, GetCfilters, Cfilter, GetCfheaders, Cfheaders, GetCfcheckpt, Cfcheckpt, Other}
use Rattle.cf_msg.specs.Message.{IsAddress, IsEntry, HasSpelling, address_spelling, byte_or_none, counted_list, entry_spelling, hash_spelling, item_spelling, payload_of}

compact_case : (n : ℕ) (a b c : Bool) → length (if a then n ∷ [] else if b then 253 ∷ to_le_bytes w16 n else if c then 254 ∷ to_le_bytes w32 n else 255 ∷ to_le_bytes w64 n) ≤ 9
compact_case n true b c = omega arith
compact_case n false true c = omega arith
compact_case n false false true = omega arith
compact_case n false false false = omega arith

pub length-compact : (n : ℕ) → length (compact n) ≤ 9
unfolding compact
length-compact n = compact_case n (nat_lt n 253) (nat_lt n (2 ^ 16)) (nat_lt n (2 ^ 32))

length-address : (a : NetAddress) → IsAddress a → length (address_spelling a) ≡ 26
length-address a fits =
    let port = to_be_bytes w16 a.port in
    omega (arith, length-append (to_le_bytes w64 a.services) (a.ip ++ port), length-append a.ip port, fits.ip)

length-byte_or_none : (o : Option ℕ) → length (byte_or_none o) ≤ 1
length-byte_or_none None = omega arith
length-byte_or_none (Some b) = omega arith

length-flat_map : {X : Type 0} (spell : X → List ℕ) (Fits : X → Type 0) (k : ℕ) → ((x : X) → Fits x → length (spell x) ≡ k)
    → (xs : List X) → AllByRecursion Fits xs → length (flat_map spell xs) ≡ k * length xs
length-flat_map spell Fits k each [] all = omega arith
length-flat_map spell Fits k each (x ∷ xs) all =
    omega (arith, length-append (spell x) (flat_map spell xs), each x all.0, length-flat_map spell Fits k each xs all.1)

sum_6 : (a b c d e f : List ℕ) → length (a ++ (b ++ (c ++ (d ++ (e ++ f))))) ≡ length a + (length b + (length c + (length d + (length e + length f))))
sum_6 a b c d e f =
    omega (arith, length-append a (b ++ (c ++ (d ++ (e ++ f)))), length-append b (c ++ (d ++ (e ++ f))), length-append c (d ++ (e ++ f)), length-append d (e ++ f), length-append e f)

-- a list with its count before it, of items that are alike long
counted_size : {X : Type 0} (spell : X → List ℕ) (Fits : X → Type 0) (k : ℕ) → ((x : X) → Fits x → length (spell x) ≡ k)
    → (xs : List X) → AllByRecursion Fits xs → length (counted_list spell xs) ≤ 9 + k * length xs
counted_size spell Fits k each xs all =
    omega (arith, length-append (compact (length xs)) (flat_map spell xs), length-compact (length xs), length-flat_map spell Fits k each xs all)

length-header : (h : Header) → IsHeader h → length (header_spelling h) ≡ 80
unfolding header_spelling
length-header h fits =
    sum_6 (to_le_bytes w32 (cast_unsigned w32 h.version)) h.previous.0 h.root.0 (to_le_bytes w32 h.time) (to_le_bytes w32 h.bits) (to_le_bytes w32 h.nonce)
    ∙ omega (arith, fits.previous, fits.root)

length-item : (h : Header) → IsHeader h → length (item_spelling h) ≡ 81
length-item h fits = omega (arith, length-append (header_spelling h) (0 ∷ []), length-header h fits)

sum_9 : (a b c d e f g h i : List ℕ) → length (a ++ (b ++ (c ++ (d ++ (e ++ (f ++ (g ++ (h ++ i))))))))
    ≡ length a + (length b + (length c + (length d + (length e + (length f + (length g + (length h + length i)))))))
sum_9 a b c d e f g h i =
    omega (
      arith,
      length-append a (b ++ (c ++ (d ++ (e ++ (f ++ (g ++ (h ++ i))))))),
      length-append b (c ++ (d ++ (e ++ (f ++ (g ++ (h ++ i)))))),
      length-append c (d ++ (e ++ (f ++ (g ++ (h ++ i))))),
      sum_6 d e f g h i,
    )

-- a version with an agent of so many bytes
pub version_size : (version : ℤ) (services : ℕ) (time : ℤ) (to from : NetAddress) (nonce : ℕ) (agent : List ℕ) (height : ℤ) (relay : Option ℕ) → IsAddress to → IsAddress from
    → length (payload_of (Version version services time to from nonce agent height relay)) ≤ 94 + length agent
unfolding payload_of
version_size version services time to from nonce agent height relay fits_to fits_from =
    omega (
      arith,
      sum_9 (to_le_bytes w32 (cast_unsigned w32 version)) (to_le_bytes w64 services) (to_le_bytes w64 (cast_unsigned w64 time)) (address_spelling to) (address_spelling from)
          (to_le_bytes w64 nonce) (counted_bytes agent) (to_le_bytes w32 (cast_unsigned w32 height)) (byte_or_none relay),
      length-address to fits_to,
      length-address from fits_from,
      length-append (compact (length agent)) agent,
      length-compact (length agent),
      length-byte_or_none relay,
    )

pub version_fits : (version : ℤ) (services : ℕ) (time : ℤ) (to from : NetAddress) (nonce : ℕ) (agent : List ℕ) (height : ℤ) (relay : Option ℕ) → IsAddress to → IsAddress from
    → length agent ≤ 3999900 → length (payload_of (Version version services time to from nonce agent height relay)) ≤ 4000000
version_fits version services time to from nonce agent height relay fits_to fits_from small =
    omega (arith, version_size version services time to from nonce agent height relay fits_to fits_from, small)

pub getheaders_size : (version : ℕ) (locator : List Hash32) (stop : Hash32) → AllByRecursion IsHash locator → IsHash stop
    → length (payload_of (GetHeaders version locator stop)) ≤ 45 + 32 * length locator
unfolding payload_of
getheaders_size version locator stop hashes fits =
    let items = flat_map hash_spelling locator in
    omega (
      arith,
      length-append (to_le_bytes w32 version) (compact (length locator) ++ (items ++ stop.0)),
      length-append (compact (length locator)) (items ++ stop.0),
      length-append items stop.0,
      length-compact (length locator),
      length-flat_map hash_spelling IsHash 32 (λ x h. h) locator hashes,
      fits,
    )

pub headers_size : (headers : List Header) → AllByRecursion IsHeader headers → length (payload_of (Headers headers)) ≤ 9 + 81 * length headers
unfolding payload_of
headers_size headers fits = counted_size item_spelling IsHeader 81 length-item headers fits

length-entry : (e : Inventory) → IsEntry e → length (entry_spelling e) ≡ 36
length-entry e fits = omega (arith, length-append (to_le_bytes w32 e.kind) e.hash.0, fits.hash)

pub entries_size : (entries : List Inventory) → AllByRecursion IsEntry entries → length (counted_list entry_spelling entries) ≤ 9 + 36 * length entries
entries_size entries fits = counted_size entry_spelling IsEntry 36 length-entry entries fits

pub hashes_size : (hashes : List Hash32) → AllByRecursion IsHash hashes → length (counted_list hash_spelling hashes) ≤ 9 + 32 * length hashes
hashes_size hashes fits = counted_size hash_spelling IsHash 32 (λ x h. h) hashes fits

pub range_size : (filter start : ℕ) (stop : Hash32) → IsHash stop → length (filter ∷ (to_le_bytes w32 start ++ stop.0)) ≡ 37
range_size filter start stop fits = omega (arith, length-append (to_le_bytes w32 start) stop.0, fits)

pub cfilter_size : (filter : ℕ) (block : Hash32) (bytes : List ℕ) → IsHash block → length (payload_of (Cfilter filter block bytes)) ≤ 42 + length bytes
unfolding payload_of
cfilter_size filter block bytes fits =
    omega (arith, length-append block.0 (counted_bytes bytes), length-append (compact (length bytes)) bytes, length-compact (length bytes), fits)

pub cfheaders_size : (filter : ℕ) (stop previous : Hash32) (hashes : List Hash32) → IsHash stop → IsHash previous → AllByRecursion IsHash hashes
    → length (payload_of (Cfheaders filter stop previous hashes)) ≤ 74 + 32 * length hashes
unfolding payload_of
cfheaders_size filter stop previous hashes fits_stop fits_previous all =
    let items = counted_list hash_spelling hashes in
    omega (arith, length-append stop.0 (previous.0 ++ items), length-append previous.0 items, hashes_size hashes all, fits_stop, fits_previous)

pub cfcheckpt_size : (filter : ℕ) (stop : Hash32) (headers : List Hash32) → IsHash stop → AllByRecursion IsHash headers
    → length (payload_of (Cfcheckpt filter stop headers)) ≤ 42 + 32 * length headers
unfolding payload_of
cfcheckpt_size filter stop headers fits all = omega (arith, length-append stop.0 (counted_list hash_spelling headers), hashes_size headers all, fits)

-- only an agent, a filter, and the payload of a message that isn't looked into, can make a payload too long for a frame
abbrev pub IsSmall : Msg → Type 0
IsSmall (Version version services time to from nonce agent height relay) = length agent ≤ 3999900
IsSmall Verack = Unit {0}
IsSmall (Ping n) = Unit {0}
IsSmall (Pong n) = Unit {0}
IsSmall (GetHeaders version locator stop) = Unit {0}
IsSmall (Headers headers) = Unit {0}
IsSmall (GetData entries) = Unit {0}
IsSmall (Inv entries) = Unit {0}
IsSmall (Block block) = Unit {0}
IsSmall (GetCfilters filter start stop) = Unit {0}
IsSmall (Cfilter filter block bytes) = length bytes ≤ 3999900
IsSmall (GetCfheaders filter start stop) = Unit {0}
IsSmall (Cfheaders filter stop previous hashes) = Unit {0}
IsSmall (GetCfcheckpt filter stop) = Unit {0}
IsSmall (Cfcheckpt filter stop headers) = Unit {0}
IsSmall (Other command payload) = length payload ≤ 4000000

pub payload_fits : (m : Msg) → HasSpelling m → IsSmall m → length (payload_of m) ≤ 4000000
unfolding payload_of
payload_fits (Version version services time to from nonce agent height relay) h small = omega (arith, version_size version services time to from nonce agent height relay h.3 h.4, small)
payload_fits Verack h small = omega arith
payload_fits (Ping n) h small = omega arith
payload_fits (Pong n) h small = omega arith
payload_fits (GetHeaders version locator stop) h small = omega (arith, getheaders_size version locator stop h.2 h.3, h.1)
payload_fits (Headers headers) h small = omega (arith, headers_size headers h.1, h.0)
payload_fits (GetData entries) h small = omega (arith, entries_size entries h.1, h.0)
payload_fits (Inv entries) h small = omega (arith, entries_size entries h.1, h.0)
payload_fits (Block block) h small = omega (arith, h.short)
payload_fits (GetCfilters filter start stop) h small = omega (arith, range_size filter start stop h.2)
payload_fits (Cfilter filter block bytes) h small = omega (arith, cfilter_size filter block bytes h.1, small)
payload_fits (GetCfheaders filter start stop) h small = omega (arith, range_size filter start stop h.2)
payload_fits (Cfheaders filter stop previous hashes) h small = omega (arith, cfheaders_size filter stop previous hashes h.1 h.2 h.4, h.3)
payload_fits (GetCfcheckpt filter stop) h small = omega (arith, h.1)
payload_fits (Cfcheckpt filter stop headers) h small = omega (arith, cfcheckpt_size filter stop headers h.1 h.3, h.2)
payload_fits (Other command payload) h small = small
