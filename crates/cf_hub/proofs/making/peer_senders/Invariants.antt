use Rattle.std.proofs.Common.{◌≡◌, ◌+◌, ◌≤◌, vec_len, vec_capacity}
use Rattle.crossbeam_channel.specs.Claims.{view}
use Rattle.crossbeam_channel.specs.Ends.{sends_on}
use Rattle.cf_hub.specs.Lines.{Down, Up}
use Rattle.cf_hub.proofs.making.peer_senders.Given as goal

abbrev pub invariant-loop : goal.invariant-loop
invariant-loop l = record {
  up : Up l.queue l.up.items;
  made : l.queue.made ≡ vec_len l.up + 1;
  count : vec_len l.up ≡ l.counter;
  few : vec_len l.up ≤ 8;
  room : 8 ≤ vec_capacity l.up;
  ring : sends_on l.queue.line ≡ sends_on l.initial.queue.line;
  got : (view l.queue.seat).got ≡ (view l.initial.queue.seat).got;
}

abbrev pub invariant-loop-sender : goal.invariant-loop-sender
invariant-loop-sender l = record {
  up : Up l.queue l.up.items;
  down : Down l.queue l.down.items;
  count : vec_len l.up + vec_len l.down ≡ 8;
  room : 8 ≤ vec_capacity l.down;
}

abbrev pub decreases-loop-sender : goal.decreases-loop-sender
decreases-loop-sender l = vec_len l.up
