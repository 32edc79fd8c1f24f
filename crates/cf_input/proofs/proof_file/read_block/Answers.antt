use Rattle.std.proofs.Common.{Err, ◌∙◌, sym, subst}
use Rattle.cf_block.specs.Tx.{tx_spelling}
use Rattle.cf_bytes.specs.declared.memory.Refused.{Refused}
use Rattle.cf_proof.specs.Checks.{Answers}
use Rattle.cf_proof.specs.declared.fault.ProofFault.{ProofFault}
use Rattle.cf_input.proofs.ProofFiles.{block_found, block_unworked, block_refused}
use Rattle.cf_input.proofs.proof_file.read_block.Goals as goal

pub returns-then-not-meets_target : goal.returns-then-not-meets_target
returns-then-not-meets_target c = block_unworked (tx_spelling c.args.tx.now) c.args.bytes.now c.in-Ok.hash c.in-Ok.ensures (sym c.meets_target.ensures ∙ c.if-not-meets_target.true)

pub returns-else-not-meets_target : goal.returns-else-not-meets_target
returns-else-not-meets_target c = block_found (tx_spelling c.args.tx.now) c.args.bytes.now c.in-Ok.hash c.in-Ok.ensures (sym c.meets_target.ensures ∙ c.if-not-meets_target.false)

pub returns-in-Err-No : goal.returns-in-Err-No
returns-in-Err-No c =
    block_refused (tx_spelling c.args.tx.now) c.args.bytes.now c.in-Err-No.fault
    (subst (λ (e : Refused ProofFault). Answers c.args.bytes.now (tx_spelling c.args.tx.now) (Err e)) c.in-Err-No.field-0-is c.in-Err-No.ensures)
