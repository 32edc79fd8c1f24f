-- Facts of regtest's first block, computed: its hash isn't the 32 zeros that its own previous hash is.
use Rattle.std.proofs.Common.{◌≡◌, get_or, length, refl}
use Rattle.sha2.specs.Sha256.{compress, digest_bytes, first_words, hash_after, rounds, schedule, sha256}
use Rattle.cf_bytes.specs.Hash.{hash_of}
use Rattle.cf_bytes.specs.Compact.{compact}
use Rattle.cf_block.specs.Genesis.{signing_script, paid_script, first_input, first_output, first_block}
use Rattle.cf_block.specs.Header.{block_hash_of, header_spelling, genesis_header}
use Rattle.cf_block.specs.Tx.{input_spelling, output_spelling, tx_spelling, block_spelling}

pub first_byte : get_or (block_hash_of genesis_header) 0 0 ≡ 0x06
unfolding first_words schedule rounds compress hash_after digest_bytes sha256 hash_of block_hash_of header_spelling genesis_header
first_byte = refl

pub previous_byte : get_or genesis_header.previous.0 0 0 ≡ 0
unfolding genesis_header
previous_byte = refl

-- and the first block has 285 bytes
pub first_length : length (block_spelling first_block) ≡ 285
unfolding block_spelling header_spelling tx_spelling input_spelling output_spelling first_block first_input first_output signing_script paid_script genesis_header compact
first_length = refl
