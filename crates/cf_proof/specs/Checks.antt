-- statement: the first thing that is wrong with a proof of a transaction.
use Rattle.std.specs.Prelude.{◌≡◌, ℕ, ◌*◌, ◌<◌, ◌≤◌, ◌==◌, nat_eq, nat_lt, nat_le, Bool, not, ◌||◌, if◌then◌else◌, List, length, Option, Some, None, Result, Ok, Err}
use Rattle.std.specs.List.{list_any}
use Rattle.std.specs.Cmp.Lexicographic.{pointwise}
use Rattle.cf_bytes.specs.Hash.{hash_of}
use Rattle.cf_bytes.specs.declared.hash.Hash32.{Hash32}
use Rattle.cf_bytes.specs.declared.memory.Refused.{Refused}
use Rattle.cf_bytes.specs.declared.memory.Refused.TheVariants.{No, NoMemory}
use Rattle.cf_block.specs.Header.{block_hash_of}
use Rattle.cf_block.specs.Views.{bytes_of}
use Rattle.cf_proof.specs.declared.proof.Proof.{Proof}
use Rattle.cf_proof.specs.declared.fault.ProofFault.{ProofFault}
use Rattle.cf_proof.specs.declared.fault.ProofFault.TheVariants.{Total, Hashes, Tx64, Bits, Ends, Same, Left, Root, Absent}
use Rattle.cf_proof.specs.Tree.{height_of}
use Rattle.cf_proof.specs.Walk.{Walked, walk}
use Rattle.cf_proof.specs.Proof.{flags_of, proof_at}

-- the walk from a proof's root on
abbrev pub walk_of : Proof → Option Walked
walk_of p = walk p.total (height_of p.total) 0 (flags_of p.flags) (bytes_of p.hashes)

-- whether a hash is among others
abbrev pub has : List (List ℕ) → List ℕ → Bool
has hashes h = list_any (pointwise nat_eq h) hashes

-- of what the walk gave at the root: its hash, whether there are twins, whether the transaction is matched, and the bits and hashes that are left
abbrev pub root_fault : List ℕ → List ℕ → Bool → Bool → List Bool → List (List ℕ) → Option ProofFault
root_fault root hash twins found bits hashes =
    if twins then Some Same
    else if nat_lt 0 (length hashes) || nat_le 8 (length bits) then Some Left
    else if not (pointwise nat_eq hash root) then Some Root
    else if not found then Some Absent
    else None

-- of a walk, for this root and this transaction's hash
abbrev pub walk_fault : List ℕ → List ℕ → Option Walked → Option ProofFault
walk_fault root txid None = Some Ends
walk_fault root txid (Some w) = root_fault root w.hash w.twins (has w.matched txid) w.bits w.hashes

-- of the parts of a proof, for a transaction's number of bytes and its hash
abbrev pub sized_fault : Proof → ℕ → List ℕ → Option ProofFault
sized_fault p size txid =
    if p.total == 0 || nat_lt 16666 p.total then Some Total
    else if nat_lt p.total (length p.hashes) then Some Hashes
    else if size == 64 then Some Tx64
    else if nat_lt (8 * length p.flags) (length p.hashes) then Some Bits
    else walk_fault p.header.root.0 txid (walk_of p)

-- a proof's counts: few enough transactions, at least one, and for its hashes enough of them and enough bits
pub record HasCounts (p : Proof) : Type 0 where
  pub some : 0 < p.total
  pub few : p.total ≤ 16666
  pub hashes : length p.hashes ≤ p.total
  pub bits : length p.hashes ≤ 8 * length p.flags

-- of the parts of a proof, for a transaction's bytes
abbrev pub parts_fault : Proof → List ℕ → Option ProofFault
parts_fault p tx = sized_fault p (length tx) (hash_of tx)

-- a proof passes for a transaction's bytes
pub record Passes (bytes tx : List ℕ) (p : Proof) : Type 0 where
  pub read : proof_at bytes ≡ Ok p
  pub fine : parts_fault p tx ≡ None

-- the first fault of bytes that are to prove a transaction, if there is one
abbrev pub fault_of : Result Proof ProofFault → List ℕ → Option ProofFault
fault_of (Ok p) tx = parts_fault p tx
fault_of (Err e) tx = Some e

-- what a check answers: the hash of the header of a proof that passes, or the first fault
abbrev pub Answers : List ℕ → List ℕ → Result Hash32 (Refused ProofFault) → Type 0
Answers bytes tx (Ok hash) = (p : Proof) × Passes bytes tx p × (hash.0 ≡ block_hash_of p.header)
Answers bytes tx (Err (No fault)) = fault_of (proof_at bytes) tx ≡ Some fault
Answers bytes tx (Err NoMemory) = Unit {0}
