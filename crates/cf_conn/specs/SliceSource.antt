-- machine: a source in memory.
use Rattle.std.specs.Prelude.{ℕ, min, Bool, true, ◌||◌, if◌then◌else◌, List, length, drop, Result, Ok, Err}
use Rattle.cf_bytes.specs.Plan.{Calls, is_refused, after_call}
use Rattle.cf_bytes.specs.declared.outside.Failed.{Failed}
use Rattle.cf_conn.specs.Source.{is_end}

-- how bytes are given: the most for one read, whether their end was told, and which reads fail
pub record Pace : Type 0 where
  pub most : ℕ
  pub ended : Bool
  pub plan : Calls

-- the bytes left, and how they are given
pub record Lent : Type 0 where
  pub rest : List ℕ
  pub most : ℕ
  pub ended : Bool
  pub plan : Calls

-- a source in memory with these bytes left
abbrev pub lent_at : Pace → List ℕ → Lent
lent_at p rest = record { rest = rest; most = p.most; ended = p.ended; plan = p.plan }

-- how many bytes a read gives that isn't refused
abbrev pub given : Lent → ℕ → ℕ
given s room = min (min (length s.rest) s.most) room

-- what a read answers: a fault exactly where the call is to fail, else how many bytes it gives
abbrev pub read_answer : Lent → ℕ → Result ℕ Failed
read_answer s room = if is_refused s.plan true then Err (record {}) else Ok (given s room)

-- what a read leaves: a failed one is counted and takes nothing, else the bytes that were given are gone
abbrev pub after_read : Lent → ℕ → Lent
after_read s room =
    if is_refused s.plan true then record s { plan = after_call s.plan true }
    else record s {
      rest = drop (given s room) s.rest;
      ended = s.ended || is_end room (Ok (given s room));
      plan = after_call s.plan true;
    }
