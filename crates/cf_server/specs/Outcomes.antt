-- statement: how serving ends.
use Rattle.std.specs.Prelude.{ℕ}
use Rattle.cf_server.specs.declared.outcome.ServeEnd.{ServeEnd}
use Rattle.cf_server.specs.declared.outcome.ServeEnd.TheVariants.{Closed, BadFrame, Malformed, ReadFault, WriteFault, Tired, NoMemory}

-- the number of an outcome, by which a service gives it back
abbrev pub number_of : ServeEnd → ℕ
number_of Closed = 0
number_of (BadFrame fault) = 1
number_of (Malformed fault) = 2
number_of ReadFault = 3
number_of WriteFault = 4
number_of Tired = 5
number_of NoMemory = 6
