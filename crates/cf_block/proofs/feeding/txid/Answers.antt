use Rattle.std.proofs.Common.{◌∙◌, ap}
use Rattle.sha2.specs.Sha256.{sha256}
use Rattle.cf_bytes.specs.Hash.{hash_of}
use Rattle.cf_block.specs.Tx.{txid_of}
use Rattle.cf_block.proofs.feeding.txid.Goals as goal

pub returns : goal.returns
unfolding txid_of hash_of
returns c = c.digest.ensures ∙ ap sha256 (c.finalize.ensures _ (c.feed_tx.ensures.more _ c.new-hasher.ensures))
