-- statement: what sources tell.
use Rattle.std.specs.Prelude.{ℕ, Bool, false, ◌&&◌, nat_lt, ◌==◌, Result, Ok, Err}
use Rattle.cf_bytes.specs.declared.outside.Failed.{Failed}
pub use Rattle.cf_bytes.specs.Outside.{with_front}

-- whether this answer says that nothing is left: 0 bytes, where there was room for one
abbrev pub is_end : ℕ → Result ℕ Failed → Bool
is_end room (Ok n) = nat_lt 0 room && n == 0
is_end room (Err e) = false
