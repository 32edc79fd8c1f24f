use Rattle.std.proofs.Common.{Err, ◌∙◌, sym, ap, subst}
use Rattle.cf_block.specs.Tx.{tx_spelling}
use Rattle.cf_bytes.specs.declared.hash.Hash32.{Hash32}
use Rattle.cf_bytes.specs.declared.memory.Refused.{Refused}
use Rattle.cf_input.specs.Lines.{GivesRead}
use Rattle.cf_input.specs.ProofFile.{block_from, tx_in_line}
use Rattle.cf_input.specs.declared.proof_file.ProofCause.{ProofCause}
use Rattle.cf_input.proofs.ProofFiles.{second_refused}
use Rattle.cf_input.proofs.proof_file.read_proof_file.Goals as goal

pub returns-in-Err-No-read_block_from : goal.returns-in-Err-No-read_block_from
returns-in-Err-No-read_block_from c =
    second_refused c.args.witness c.args.bytes.now c.in-Ok.tx c.in-Err-No-read_block_from.cause (ap (tx_in_line c.args.witness) (sym c.cut_at.ensures.front) ∙ c.in-Ok.ensures)
    (ap (block_from (tx_spelling c.in-Ok.tx)) (sym c.cut_at.ensures.rest)
    ∙ subst (λ (e : Refused ProofCause). GivesRead {X = Hash32} (λ h. h) (block_from (tx_spelling c.in-Ok.tx) c.cut_at.result.1.now) (Err e)) c.in-Err-No-read_block_from.field-0-is
    c.in-Err-No-read_block_from.ensures)
