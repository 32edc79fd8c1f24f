-- statement: basic filters, their hashes and their headers (BIP 158 and BIP 157).
use Rattle.std.specs.Prelude.{ℕ, ◌*◌, ◌/◌, ◌%◌, ◌^◌, nat_le, Bool, if◌then◌else◌, List, [], ◌∷◌, ◌++◌, map, length, take, drop, Result}
use Rattle.std.specs.Int.{w64, from_le_bytes}
use Rattle.cf_bytes.specs.Hash.{hash_of}
use Rattle.cf_siphash.specs.SipHash.{sip24_of}
use Rattle.cf_golomb.specs.declared.fault.SetFault.{SetFault}
use Rattle.cf_golomb.specs.Code.{spelling, set_at}
use Rattle.cf_golomb.specs.Meets.{hits, answer_by}

-- the key: the first 8 bytes of the block's hash and the next 8, each with the low byte first
abbrev pub first_key : List ℕ → ℕ
first_key hash = from_le_bytes w64 (take 8 hash)

-- the second half of the key: the next 8 bytes of the block's hash, the low byte first
abbrev pub second_key : List ℕ → ℕ
second_key hash = from_le_bytes w64 (take 8 (drop 8 hash))

-- the value of an item of n under a key: its hash, a number of 64 bits, brought below n * 784,931
unfoldable pub value_under : ℕ → ℕ → ℕ → List ℕ → ℕ
value_under k0 k1 n item = ((sip24_of k0 k1 item % 2 ^ 64) * (n * 784931)) / 2 ^ 64

-- the value of an item of n under a block's hash (BIP 158, "Hashing Data Objects")
abbrev pub value_of : List ℕ → ℕ → List ℕ → ℕ
value_of hash n item = value_under (first_key hash) (second_key hash) n item

-- the values of items under a block's key, in the order of the items (BIP 158, "Hashing Data Objects")
abbrev pub values_of : List ℕ → ℕ → List (List ℕ) → List ℕ
values_of hash n items = map (value_of hash n) items

-- numbers in ascending order; equal ones stay
abbrev pub put_in : ℕ → List ℕ → List ℕ
put_in v [] = v ∷ []
put_in v (x ∷ xs) = if nat_le v x then v ∷ x ∷ xs else x ∷ put_in v xs

-- a list of numbers in ascending order; equal ones stay
abbrev pub ascending : List ℕ → List ℕ
ascending [] = []
ascending (v ∷ vs) = put_in v (ascending vs)

-- the filter of some items under a block's hash: the code of their values
unfoldable pub basic_filter_of : List ℕ → List (List ℕ) → List ℕ
basic_filter_of hash items = spelling (ascending (values_of hash (length items) items))

-- a filter's hash: SHA-256 of SHA-256 of its bytes (BIP 157, "Filter Headers")
unfoldable pub filter_hash_of : List ℕ → List ℕ
filter_hash_of bytes = hash_of bytes

-- a filter's header: of its hash and the header before
unfoldable pub filter_header_of : List ℕ → List ℕ → List ℕ
filter_header_of hash previous = hash_of (hash ++ previous)

-- whether one of a filter's values is that of one of the scripts
abbrev pub has_value_of : List ℕ → List (List ℕ) → List ℕ → Bool
has_value_of hash scripts values = hits (values_of hash (length values) scripts) values

-- the answer for a filter's bytes, or why they aren't a filter
unfoldable pub match_of : List ℕ → List (List ℕ) → List ℕ → Result Bool SetFault
match_of hash scripts bytes = answer_by (has_value_of hash scripts) (set_at bytes)
