use Rattle.std.proofs.Common.{◌≡◌, ℕ, List, length, false}
use Rattle.std.specs.Prelude.{slice_get}
use Rattle.cf_seek.specs.OpensOf.{filter_or, block_or}
use Rattle.cf_seek.proofs.opens.Opens.new.Given as goal

abbrev pub invariant-loop-i : goal.invariant-loop-i
invariant-loop-i l = record {
  count : length l.peers.items ≡ l.i;
  filters : (block : List ℕ) (p : ℕ) → filter_or (slice_get l.peers.items p) block ≡ false;
  blocks : (block : List ℕ) (p : ℕ) → block_or (slice_get l.peers.items p) block ≡ false;
}
