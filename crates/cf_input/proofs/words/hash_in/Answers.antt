use Rattle.cf_input.proofs.ProofFiles.{hash_read}
use Rattle.cf_input.proofs.words.hash_in.Goals as goal

pub returns : goal.returns
returns c = hash_read c.args.text.now c.read_hash.result c.read_hash.ensures.value c.read_hash.ensures.found
