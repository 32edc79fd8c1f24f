-- The filter of one block, computed.
use Rattle.std.proofs.Common.{◌≡◌, ℕ, List, [], ◌∷◌, Ok, Bool, true, false, arith, refl, sym, ◌∙◌, ap}
use Rattle.sha2.specs.Sha256.{compress, digest_bytes, first_words, hash_after, rounds, schedule, sha256}
use Rattle.cf_bytes.specs.Hash.{hash_of}
use Rattle.cf_bytes.specs.Compact.{compact, compact_ahead_at, compact_at}
use Rattle.cf_siphash.specs.SipHash.{start, round, absorb, finish, words_of, all_words, sip24_of}
use Rattle.cf_golomb.specs.Code.{code, codes, spelling}
use Rattle.cf_golomb.specs.Code.{head_at, set_at}
use Rattle.cf_golomb.specs.Meets.{answer_by}
use Rattle.cf_filter.proofs.Values.{filter_again}
use Rattle.cf_bytes.specs.Bits.{bits_of}
use Rattle.cf_golomb.specs.Bits.{pack_from}
use Rattle.cf_filter.specs.Items.{items_of}
use Rattle.cf_filter.specs.Lacking.{lacks}
use Rattle.cf_filter.specs.Filter.{value_under, basic_filter_of, filter_hash_of, ascending, values_of, has_value_of, match_of}
use Rattle.cf_sync.specs.Example.{only_tx, only_block, only_filter, only_filter_hash, false_filter_hash}
use Rattle.cf_sync.proofs.Computed.{only_name}

pub only_items : items_of only_block [] ≡ (0x51 ∷ []) ∷ []
unfolding items_of only_tx
only_items = refl

pub only_filter_by_name : basic_filter_of only_name ((0x51 ∷ []) ∷ []) ≡ only_filter
unfolding start round absorb finish words_of all_words sip24_of value_under basic_filter_of spelling codes code bits_of pack_from compact
only_filter_by_name = refl

pub only_filter_hash_is : filter_hash_of only_filter ≡ only_filter_hash
unfolding first_words schedule rounds compress hash_after digest_bytes sha256 hash_of filter_hash_of
only_filter_hash_is = refl

-- no bytes are no filter: they have this hash, and lack each item
pub false_filter_hash_is : filter_hash_of [] ≡ false_filter_hash
unfolding first_words schedule rounds compress hash_after digest_bytes sha256 hash_of filter_hash_of
false_filter_hash_is = refl

pub nothing_lacks : (hash : List ℕ) (items : List (List ℕ)) → lacks hash items [] ≡ true
unfolding lacks set_at head_at compact_at compact_ahead_at
nothing_lacks hash items = refl

-- a script that isn't an item
only_values : ascending (values_of only_name 1 ((0x51 ∷ []) ∷ [])) ≡ 667207 ∷ []
unfolding start round absorb finish words_of all_words sip24_of value_under
only_values = refl

only_set : set_at only_filter ≡ Ok (667207 ∷ [])
only_set = ap set_at (sym only_filter_by_name) ∙ filter_again only_name ((0x51 ∷ []) ∷ []) (omega arith) ∙ ap (λ (x : List ℕ). Ok x) only_values

not_hit : has_value_of only_name ((0x52 ∷ []) ∷ []) (667207 ∷ []) ≡ false
unfolding start round absorb finish words_of all_words sip24_of value_under
not_hit = refl

pub only_misses : match_of only_name ((0x52 ∷ []) ∷ []) only_filter ≡ Ok false
unfolding match_of
only_misses = ap (λ r. answer_by (has_value_of only_name ((0x52 ∷ []) ∷ [])) r) only_set ∙ ap (λ (b : Bool). Ok b) not_hit
