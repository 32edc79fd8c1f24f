use Rattle.std.proofs.Common.{◌≡◌, ℕ, [], None, vec_len}
use Rattle.cf_lists.specs.Lists.{chains_in, chain_at}
use Rattle.cf_lists.proofs.lists.Lists.new.Given as goal

abbrev pub invariant-loop-i : goal.invariant-loop-i
invariant-loop-i l = record {
  count : vec_len l.slots ≡ l.i;
  none : (q : ℕ) → chains_in l.slots.items q ≡ None;
  empty : (q : ℕ) → chain_at l.slots.items q ≡ [];
}
