use Rattle.std.proofs.Common.{◌≡◌, ◌∙◌, ap, sym}
use Rattle.cf_bytes.specs.Hash.{hash_of}
use Rattle.cf_block.specs.Tx.{tx_spelling, txid_of}
use Rattle.cf_proof.specs.Checks.{fault_of, sized_fault}
use Rattle.cf_proof.proofs.checking.check_proof.Goals as goal

pub returns-in-Some-walked_fault : goal.returns-in-Some-walked_fault
unfolding txid_of
returns-in-Some-walked_fault c =
    let txid : c.txid.result.0 ≡ hash_of (tx_spelling c.args.tx.now) = c.txid.ensures in
    ap (λ r. fault_of r (tx_spelling c.args.tx.now)) c.in-Ok.ensures ∙ (λ i. sized_fault c.in-Ok.proof (sym c.in_ok-size.ensures i) (sym txid i))
    ∙ c.counts_fault.ensures.rest c.in-None.is c.txid.result.0 ∙ sym c.in-Some-walked_fault.ensures

pub returns : goal.returns
unfolding txid_of
returns c =
    let txid : c.txid.result.0 ≡ hash_of (tx_spelling c.args.tx.now) = c.txid.ensures in (
      c.in-Ok.proof,
      record {
        read = c.in-Ok.ensures;
        fine = (λ i. sized_fault c.in-Ok.proof (sym c.in_ok-size.ensures i) (sym txid i)) ∙ c.counts_fault.ensures.rest c.in-None.is c.txid.result.0
            ∙ sym c.in-None-walked_fault.ensures;
      },
      c.block_hash.ensures,
    )
