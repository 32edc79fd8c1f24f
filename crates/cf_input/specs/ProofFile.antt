-- statement: the file of a proof: a transaction, and the proof that it stands in a block.
use Rattle.std.specs.Prelude.{ℕ, ◌==◌, if◌then◌else◌, Bool, true, false, List, codes, length, take, drop, Option, Some, None, Result, Ok, Err, bytes_eq}
use Rattle.std.specs.List.{before_first, after_first}
use Rattle.cf_bytes.specs.Cut.{Read, ◌>>=◌}
use Rattle.cf_bytes.specs.declared.hash.Hash32.{Hash32}
use Rattle.cf_block.specs.declared.fault.BlockFault.{BlockFault}
use Rattle.cf_block.specs.declared.fault.BlockFaultKind.{BlockFaultKind}
use Rattle.cf_block.specs.declared.fault.BlockFaultKind.TheVariants.{Rest}
use Rattle.cf_block.specs.declared.tx.Tx.{Tx}
use Rattle.cf_block.specs.Header.{block_hash_of}
use Rattle.cf_block.specs.Reading.{tx_at}
use Rattle.cf_block.specs.Stored.{stored_tx_at}
use Rattle.cf_block.specs.Tx.{tx_spelling, txid_of}
use Rattle.cf_headers.specs.Rules.{is_within_target}
use Rattle.cf_proof.specs.Checks.{parts_fault}
use Rattle.cf_proof.specs.Proof.{proof_at}
use Rattle.cf_proof.specs.declared.fault.ProofFault.{ProofFault}
use Rattle.cf_proof.specs.declared.proof.Proof.{Proof}
use Rattle.cf_input.specs.Lines.{bytes_of_hex}
use Rattle.cf_input.specs.declared.proof_file.ProofCause.{ProofCause}
use Rattle.cf_input.specs.declared.proof_file.ProofCause.TheVariants.{BadLine, Tx as OfTx, Proof as OfProof, Work}
use Rattle.cf_input.specs.declared.proof_file.ProofFileFault.{ProofFileFault}
use Rattle.cf_input.specs.declared.proof_file.Proven.{Proven}

-- the bytes in hexadecimal that follow a word at the front of a line
abbrev pub bytes_after : List ℕ → List ℕ → Option (List ℕ)
bytes_after word line = if bytes_eq (take (length word) line) word then bytes_of_hex (drop (length word) line) else None

-- ---- the transaction

-- the transaction that was read, where no byte is left
abbrev pub whole_tx : Read Tx BlockFault → Result Tx BlockFaultKind
whole_tx (Ok x) = if length x.1 == 0 then Ok x.0 else Err Rest
whole_tx (Err e) = Err e.0.kind

-- the same, with or without witnesses
abbrev pub whole_stored : Read Tx BlockFaultKind → Result Tx BlockFaultKind
whole_stored (Ok x) = if length x.1 == 0 then Ok x.0 else Err Rest
whole_stored (Err e) = Err e.0

-- the transaction whose bytes these are, all of them: in the form without witnesses, or, where they may stand there, in either form
abbrev pub tx_in : Bool → List ℕ → Result Tx BlockFaultKind
tx_in false bytes = whole_tx (tx_at bytes)
tx_in true bytes = whole_stored (stored_tx_at bytes)

-- a transaction, its fault as that of the file
abbrev pub as_tx : Result Tx BlockFaultKind → Result Tx ProofCause
as_tx (Ok t) = Ok t
as_tx (Err kind) = Err (OfTx kind)

-- the transaction by a line's bytes; a line without them is refused
abbrev pub tx_of : Bool → Option (List ℕ) → Result Tx ProofCause
tx_of witness None = Err BadLine
tx_of witness (Some bytes) = as_tx (tx_in witness bytes)

-- `tx HEX`
abbrev pub tx_in_line : Bool → List ℕ → Result Tx ProofCause
tx_in_line witness line = tx_of witness (bytes_after (codes "tx ") line)

-- ---- the proof

-- a hash that is to be a block's
abbrev pub worked : List ℕ → Result Hash32 ProofCause
worked hash = if is_within_target hash then Ok (record { 0 = hash }) else Err Work

-- the hash of the block of a proof, unless the proof has this fault
abbrev pub unless_fault : Option ProofFault → Proof → Result Hash32 ProofCause
unless_fault None p = worked (block_hash_of p.header)
unless_fault (Some fault) p = Err (OfProof fault)

-- the hash of the block for which this is a proof of a transaction's bytes, or the first fault
abbrev pub block_by : Result Proof ProofFault → List ℕ → Result Hash32 ProofCause
block_by (Ok p) tx = unless_fault (parts_fault p tx) p
block_by (Err fault) tx = Err (OfProof fault)

-- the hash of the block for which these are a proof of a transaction's bytes, or the first fault
unfoldable pub block_of : List ℕ → List ℕ → Result Hash32 ProofCause
block_of tx bytes = block_by (proof_at bytes) tx

-- the same by a line's bytes; a line without them is refused
abbrev pub block_told : List ℕ → Option (List ℕ) → Result Hash32 ProofCause
block_told tx None = Err BadLine
block_told tx (Some bytes) = block_of tx bytes

-- `proof HEX`
abbrev pub block_in_line : List ℕ → List ℕ → Result Hash32 ProofCause
block_in_line tx line = block_told tx (bytes_after (codes "proof ") line)

-- ---- the lines

-- the first line of some bytes
abbrev pub line_of : List ℕ → List ℕ
line_of bytes = before_first (λ b. b == 10) bytes

-- the bytes after the first line and its LF
abbrev pub after_line : List ℕ → List ℕ
after_line bytes = after_first (λ b. b == 10) bytes

-- a last line, and no byte after its LF
abbrev pub block_from : List ℕ → List ℕ → Result Hash32 ProofCause
block_from tx bytes = if length (after_line bytes) == 0 then block_in_line tx (line_of bytes) else Err BadLine

-- what a line tells, its fault with the line's number
abbrev pub at_line : {X : Type 0} → ℕ → Result X ProofCause → Result X ProofFileFault
at_line place (Ok x) = Ok x
at_line place (Err cause) = Err (record { cause = cause; place = place })

-- what a proof proves: this transaction stands in this block
abbrev pub proven : Tx → Hash32 → Proven
proven t block = record { block = block; txid = record { 0 = txid_of t } }

-- the block and the transaction that a file tells of, or its first fault; its transaction may have witnesses, or may not
unfoldable pub proof_file_of : Bool → List ℕ → Result Proven ProofFileFault
proof_file_of witness bytes = do
  t ← at_line 1 (tx_in_line witness (line_of bytes))
  block ← at_line 2 (block_from (tx_spelling t) (after_line bytes))
  Ok (proven t block)
