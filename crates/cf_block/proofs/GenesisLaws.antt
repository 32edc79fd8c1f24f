-- The first block of regtest's chain, computed.
use Rattle.std.proofs.Common.{◌≡◌, ◌<◌, [], ◌∷◌, length, refl, sym, arith}
use Rattle.std.specs.Prelude.{◌^◌, FitsSigned}
use Rattle.std.specs.Int.{w32}
use Rattle.sha2.specs.Sha256.{compress, digest_bytes, first_words, hash_after, rounds, schedule, sha256}
use Rattle.cf_bytes.specs.Hash.{hash_of}
use Rattle.cf_bytes.specs.Compact.{compact}
use Rattle.cf_block.specs.Commitment.{IsCommitted}
use Rattle.cf_block.specs.Genesis.{signing_script, paid_script, first_input, first_output, first_tx, first_block, first_tx_bytes, genesis_hash}
use Rattle.cf_block.specs.Header.{block_hash_of, header_spelling, genesis_header}
use Rattle.cf_block.specs.Merkle.{root_within, is_mutated_within}
use Rattle.cf_block.specs.Output.{Output}
use Rattle.cf_block.specs.declared.tx.Tx.{Tx}
use Rattle.cf_block.specs.declared.tx.TxIn.{TxIn}
use Rattle.cf_block.specs.Tx.{IsInput, IsOutput, IsTx, IsBlock, input_spelling, output_spelling, tx_spelling, txid_of, block_spelling}
use Rattle.cf_block.proofs.HeaderLaws.{genesis_fits}

pub tx_is : tx_spelling first_tx ≡ first_tx_bytes
unfolding tx_spelling input_spelling output_spelling first_input first_output signing_script paid_script compact first_tx_bytes
tx_is = refl

pub hash_is : block_hash_of genesis_header ≡ genesis_hash
unfolding first_words schedule rounds compress hash_after digest_bytes sha256 hash_of block_hash_of header_spelling genesis_header genesis_hash
hash_is = refl

txid_is : txid_of first_tx ≡ genesis_header.root.0
unfolding first_words schedule rounds compress hash_after digest_bytes sha256 hash_of txid_of tx_spelling input_spelling output_spelling first_input first_output signing_script paid_script compact genesis_header
txid_is = refl

tx_length : length (tx_spelling first_tx) ≡ 204
unfolding tx_spelling input_spelling output_spelling first_input first_output signing_script paid_script compact
tx_length = refl

block_length : length (block_spelling first_block) ≡ 285
unfolding block_spelling header_spelling tx_spelling input_spelling output_spelling first_block first_input first_output signing_script paid_script genesis_header compact
block_length = refl

-- a transaction with one input and one output
pub one_fits : (t : Tx) (i : TxIn) (o : Output) → t.inputs ≡ i ∷ [] → t.outputs ≡ o ∷ [] → FitsSigned w32 t.version → IsInput i → IsOutput o
    → t.lock_time < 2 ^ 32 → IsTx t
one_fits t i o ins outs version input output lock = record {
  version = version;
  some_inputs = rw ins (omega arith);
  few_inputs = rw ins (omega arith);
  inputs = rw ins (input, tt);
  some_outputs = rw outs (omega arith);
  few_outputs = rw outs (omega arith);
  outputs = rw outs (output, tt);
  lock_time = lock;
}

tx_fits : IsTx first_tx
unfolding first_input first_output signing_script paid_script
tx_fits =
    one_fits first_tx first_input first_output refl refl (record { sfits = omega arith })
    (record { txid = refl; index = omega arith; script = omega arith; sequence = omega arith }) (record { value = omega arith; script = omega arith }) (omega arith)

pub block_is : IsBlock first_block
unfolding first_block
block_is = record { header = genesis_fits; some_txs = omega arith; few_txs = omega arith; txs = (tx_fits, tt); short = omega (arith, block_length) }

pub genesis_committed : IsCommitted first_block
unfolding root_within is_mutated_within first_block txid_of
genesis_committed = record {
  some = omega arith;
  root = sym txid_is;
  unmutated = refl;
  none64 = ((λ e. absurd (omega (arith, tx_length, e))), tt);
}
