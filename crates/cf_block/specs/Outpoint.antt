-- statement: outpoints: the outputs that a transaction names (Bitcoin developer reference, "Raw Transaction Format"), and the order in which maps
-- keep them: their transactions' hashes, byte by byte, and then their indexes.
use Rattle.std.specs.Prelude.{ℕ, List, [], map, refl, if◌then◌else◌}
use Rattle.std.specs.declared.cmp.Ordering.{Ordering}
use Rattle.std.specs.Ordering.{nat_cmp, ordering_then}
use Rattle.std.specs.Cmp.Lexicographic.{slice_cmp}
use Rattle.std.specs.Coded.{Coded, code_by, coded×, coded_ℕ, coded_list}
use Rattle.cf_block.specs.declared.tx.OutPoint.{OutPoint}
use Rattle.cf_block.specs.declared.tx.Tx.{Tx}
use Rattle.cf_block.specs.Commitment.{is_coinbase_tx}

-- outpoints in order: by their transactions' hashes, byte by byte, and then by their indexes
abbrev pub outpoint_cmp : OutPoint → OutPoint → Ordering
outpoint_cmp a b = ordering_then (slice_cmp nat_cmp a.txid.0 b.txid.0) (nat_cmp a.index b.index)

abbrev pub outpoint_code : Coded OutPoint
outpoint_code =
    code_by (List ℕ × ℕ) (coded× (coded_list coded_ℕ) coded_ℕ) (λ p. (p.txid.0, p.index))
    (λ e. record { txid = record { 0 = e.0 }; index = e.1 }) (λ _. refl)

-- the output of this number of the transaction with this hash
abbrev pub outpoint : List ℕ → ℕ → OutPoint
outpoint txid index = record { txid = record { 0 = txid }; index = index }

-- the outputs that a transaction spends; a coinbase names none
abbrev pub spends_of : Tx → List OutPoint
spends_of t = if is_coinbase_tx t then [] else map (λ i. i.prev) t.inputs
