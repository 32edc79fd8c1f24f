use Rattle.std.proofs.Common.{◌≡◌, ◌<◌, ◌≤◌, vec_len}
use Rattle.cf_parallel.proofs.parallel.Parallel.hand_over.Given as goal

-- as many parts, and fewer threads than parts
abbrev pub invariant-loop-h : goal.invariant-loop-h
invariant-loop-h g l = record {
  same : l.self-inside.workers ≡ l.initial.self-inside.workers;
  some : 0 < l.self-inside.workers;
  most : l.self-inside.workers ≤ 64;
  few : vec_len l.self-inside.hands < l.self-inside.workers;
  count : vec_len l.self-inside.hands ≡ vec_len l.initial.self-inside.hands;
}
