-- The messages that the client sends of itself.
use Rattle.std.proofs.Common.{◌≡◌, ◌<◌, ◌≤◌, ◌^◌, ℕ, ℤ, pos, suc, zero, nat_lt, Bool, true, false, if◌then◌else◌, List, [], ◌∷◌, length, map, replicate, codes, Some, refl, sym, ◌∙◌, ap, subst, arith, lit<}
use Rattle.std.specs.Prelude.{FitsSigned, ◌+◌, ◌*◌, ◌-◌}
use Rattle.std.specs.List.{AllByRecursion}
use Rattle.std.proofs.lemmas.List.{length-map}
use mir.Facts.{sfits_lit}
use Rattle.std.specs.Int.{w64}
use Rattle.cf_bytes.specs.declared.hash.Hash32.{Hash32}
use Rattle.cf_bytes.proofs.HashLemmas.{length-hash_of}
use Rattle.cf_block.specs.declared.header.Header.{Header}
use Rattle.cf_block.specs.Header.{block_hash_of, genesis_header, header_spelling, IsHash}
use Rattle.cf_headers.specs.Chain.{Chain, no_hash, locator_from, locator_of, IsWithinLimit}
use Rattle.cf_headers.proofs.Locators.{locator_fits}
use Rattle.cf_msg.specs.declared.msg.Inventory.{Inventory}
use Rattle.cf_msg.specs.declared.msg.Msg.TheVariants.{Version, Ping, GetHeaders, GetData, GetCfilters, GetCfheaders}
use Rattle.cf_msg.specs.Message.{payload_of, IsEntry, no_address}
use Rattle.cf_msg.proofs.Sizes.{version_size, getheaders_size, entries_size, range_size}
use Rattle.cf_peer.specs.Acts.{IsSendable}
use Rattle.cf_peer.specs.Asking.{block_entry}
use Rattle.cf_place.specs.Places.{IsGreeting, IsQuestion, IsFetch}

-- the hashes of a locator have 32 bytes each
abbrev IsLong : List ℕ → Type 0
IsLong bytes = length bytes ≡ 32

header_hash : (h : Header) → IsLong (block_hash_of h)
unfolding block_hash_of
header_hash h = length-hash_of (header_spelling h)

all_if : (b : Bool) (xs ys : List (List ℕ)) → AllByRecursion IsLong xs → AllByRecursion IsLong ys → AllByRecursion IsLong (if b then xs else ys)
all_if true xs ys all other = all
all_if false xs ys all other = other

locator_hashes : (count gap skip : ℕ) (chain : Chain) → AllByRecursion IsLong (locator_from count gap skip chain)
locator_hashes count gap skip [] = (header_hash genesis_header, tt)
locator_hashes count gap (suc skip) (h ∷ below) = locator_hashes count gap skip below
locator_hashes count gap zero (h ∷ below) = (
  header_hash h,
  all_if (nat_lt count 9) (locator_from (count + 1) 1 0 below) (locator_from (count + 1) (2 * gap) (2 * gap - 1) below)
      (locator_hashes (count + 1) 1 0 below) (locator_hashes (count + 1) (2 * gap) (2 * gap - 1) below),
)

hashes_long : (hashes : List Hash32) → AllByRecursion IsLong (map (λ (h : Hash32). h.0) hashes) → AllByRecursion IsHash hashes
hashes_long [] all = tt
hashes_long (h ∷ hashes) all = (all.0, hashes_long hashes all.1)

pub question_is : (chain : Chain) (hashes : List Hash32) (stop : Hash32) → IsWithinLimit chain → map (λ (h : Hash32). h.0) hashes ≡ locator_of chain → stop.0 ≡ replicate 32 0
    → IsQuestion chain (GetHeaders 70016 hashes stop)
unfolding no_hash
question_is chain hashes stop low is zeros =
    let all : AllByRecursion IsHash hashes = hashes_long hashes (subst (AllByRecursion IsLong) (sym is) (locator_hashes 0 1 0 chain)) in
    let few : length hashes ≤ 101 = subst (λ (n : ℕ). n ≤ 101) (ap length (sym is) ∙ length-map hashes (λ (h : Hash32). h.0)) (locator_fits chain low) in
    let end : length stop.0 ≡ 32 = ap length zeros in
    let size = getheaders_size 70016 hashes stop all end in
    record {
      sendable = record { spelled = (lit< tt, few, all, end); short = omega (arith, size, few) };
      asks = (refl, is, zeros);
    }

one_entry : (entries : List Inventory) (hash : Hash32) → entries ≡ block_entry hash ∷ [] → length hash.0 ≡ 32 → AllByRecursion IsEntry entries
one_entry entries hash is long = subst (AllByRecursion IsEntry) (sym is) (record { kind = lit< tt; hash = long }, tt)

pub fetch_is : (hash : Hash32) (entries : List Inventory) → entries ≡ block_entry hash ∷ [] → length hash.0 ≡ 32 → IsFetch hash (GetData entries)
unfolding payload_of
fetch_is hash entries is long =
    let all : AllByRecursion IsEntry entries = one_entry entries hash is long in
    let one : length entries ≡ 1 = ap length is in
    let size = entries_size entries all in
    record {
      sendable = record { spelled = (omega (arith, one), all); short = omega (arith, size, one) };
      asks = is;
    }

-- the question about a run of blocks
pub claims_sendable : (start : ℕ) (stop : Hash32) → start < 2 ^ 32 → length stop.0 ≡ 32 → IsSendable (GetCfheaders 0 start stop)
unfolding payload_of
claims_sendable start stop few long = record { spelled = (lit< tt, few, long); short = (let size = range_size 0 start stop long in omega (arith, size)) }

pub filters_sendable : (start : ℕ) (stop : Hash32) → start < 2 ^ 32 → length stop.0 ≡ 32 → IsSendable (GetCfilters 0 start stop)
unfolding payload_of
filters_sendable start stop few long = record { spelled = (lit< tt, few, long); short = (let size = range_size 0 start stop long in omega (arith, size)) }

ping_length : (number : ℕ) → length (payload_of (Ping number)) ≡ 8
unfolding payload_of
ping_length number = refl

pub ping_sendable : (number : ℕ) → number < 2 ^ 64 → IsSendable (Ping number)
ping_sendable number few = record { spelled = few; short = omega (arith, ping_length number) }

pub greeting_is : (time : ℤ) (nonce : ℕ) (agent : List ℕ) → FitsSigned w64 time → nonce < 2 ^ 64 → agent ≡ codes "/cf:1/"
    → IsGreeting (Version (pos 70016) 0 time no_address no_address nonce agent (pos 0) (Some 0))
greeting_is time nonce agent moment number e =
    let six : length agent ≡ 6 = ap length e in
    let size = version_size (pos 70016) 0 time no_address no_address nonce agent (pos 0) (Some 0) (record { services = lit< tt; ip = refl; port = lit< tt }) (record { services = lit< tt; ip = refl; port = lit< tt }) in
    record {
      sendable = record {
        spelled = (sfits_lit tt, lit< tt, moment, record { services = lit< tt; ip = refl; port = lit< tt }, record { services = lit< tt; ip = refl; port = lit< tt }, number, omega (arith, six), sfits_lit tt, lit< tt);
        short = omega (arith, size, six);
      };
      ours = (refl, refl, refl, refl, e, refl, refl);
    }
