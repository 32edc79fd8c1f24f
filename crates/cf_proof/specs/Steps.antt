-- machine: what the steps of a check answer.
use Rattle.std.specs.Int.{bit_at}
use Rattle.std.specs.Prelude.{◌≡◌, ℕ, zero, suc, ◌==◌, ◌++◌, ◌∷◌, [], Bool, List, Option, Some, None, Result, Ok, Err}
use Rattle.cf_bytes.specs.declared.memory.Refused.{Refused}
use Rattle.cf_bytes.specs.declared.memory.Refused.TheVariants.{No, NoMemory}
use Rattle.cf_proof.specs.declared.fault.ProofFault.{ProofFault}
use Rattle.cf_proof.specs.declared.proof.Proof.{Proof}
use Rattle.cf_proof.specs.Walk.{Walked}
use Rattle.cf_proof.specs.Checks.{has}

-- what a walk gave: its hash, whether there are twins, whether a hash is matched, and the bits and hashes that are left
pub record IsNodeOf (txid : List ℕ) (given : Option Walked) (hash : List ℕ) (twins found : Bool) (bits : List Bool) (hashes : List (List ℕ)) : Type 0 where
  pub walked : Walked
  pub is : given ≡ Some walked
  pub hash_is : hash ≡ walked.hash
  pub twins_are : twins ≡ walked.twins
  pub found_is : found ≡ has walked.matched txid
  pub bits_are : bits ≡ walked.bits
  pub hashes_are : hashes ≡ walked.hashes

-- a proof that was read, or its fault
abbrev pub GivesProof : Result Proof ProofFault → Result Proof (Refused ProofFault) → Type 0
GivesProof read (Ok p) = read ≡ Ok p
GivesProof read (Err (No fault)) = read ≡ Err fault
GivesProof read (Err NoMemory) = Unit {0}

-- whether there is a fault
abbrev pub GivesFault : Option ProofFault → Result (Unit {0}) ProofFault → Type 0
GivesFault fault (Ok u) = fault ≡ None
GivesFault fault (Err e) = fault ≡ Some e

-- the low n bits of a byte, the least significant first
unfoldable pub low_bits : ℕ → ℕ → List Bool
low_bits zero b = []
low_bits (suc n) b = low_bits n b ++ (bit_at b n == 1) ∷ []
