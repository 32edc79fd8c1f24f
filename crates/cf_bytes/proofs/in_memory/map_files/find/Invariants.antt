use Rattle.std.proofs.Common.{◌≡◌, map}
use Rattle.std.specs.Ordering.{nat_cmp}
use Rattle.std.specs.Cmp.Lexicographic.{slice_cmp}
use Rattle.std.specs.FinMap as finite
use Rattle.std.specs.VecDeque.Iter.{deque_iter_rest}
use Rattle.cf_bytes.specs.Files.{entry_of, named_of}
use Rattle.cf_bytes.proofs.in_memory.map_files.find.Given as goal

-- the files that are left hold under this name what all of them do
abbrev pub invariant-loop-key : goal.invariant-loop-key
invariant-loop-key l = finite.get (named_of l.log.items) l.name ≡ finite.find (slice_cmp nat_cmp) l.name (map entry_of (deque_iter_rest l.key-iterator))
