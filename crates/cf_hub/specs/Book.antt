-- machine: what a book tells.
use Rattle.std.specs.Prelude.{◌+◌, ◌<◌, ◌≤◌, ◌-◌, ◌^◌, Bool, not, vec_len, vec_capacity}
use Rattle.std.specs.List.{count_by}
use Rattle.cf_wires.specs.Log.{Told}
use Rattle.cf_hub.specs.LogKept.{kept_log}
use Rattle.cf_hub.specs.declared.book.HubLog.{HubLog}

-- what the hub tells by its book: the log where it is kept, always the tally, and whether the hub is finished
abbrev pub told_of : HubLog → Told
told_of b = record {
  log = kept_log b.keeps b.log.items;
  tally = record { marks = b.marks; closed = b.closed; dials = b.dials; taken = b.taken; ended = b.ended };
  finished = b.finished;
}

-- whether the log is kept
abbrev pub keeps_of : HubLog → Bool
keeps_of b = b.keeps

-- there is room for one entry more, and the counts can rise
abbrev pub IsReady : HubLog → Type 0
IsReady b = (b.taken < 2 ^ 64 - 1) × (b.ended < 2 ^ 64 - 1) × (vec_len b.log + 1 + count_by not b.closed ≤ vec_capacity b.log)
