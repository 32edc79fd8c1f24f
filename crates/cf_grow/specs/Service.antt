-- statement: a serving machine, and what a connection is served by it.
use Rattle.std.specs.Prelude.{◌≡◌, ℕ, ℤ, List, IfSome}
use Rattle.cf_block.specs.declared.tx.Block.{Block}
use Rattle.cf_conn.specs.Told.{ConnTold}
use Rattle.cf_server.specs.declared.outcome.ServeEnd.{ServeEnd}
use Rattle.cf_server.specs.Outcomes.{number_of}
use Rattle.cf_server.specs.Serving.{IsServed, Ends, Counts}

-- the blocks of its chain above genesis, and the time and the nonce of its `version`
pub record Machine : Type 0 where
  pub blocks : List Block
  pub moment : ℤ
  pub nonce : ℕ

-- Of a connection, from what it told as it was accepted to what it told as it was closed: it ended by an outcome of this number, by then the machine's
-- replies were written as that outcome says, where the connection tells its bytes, and its counts of faults and its end are what the outcome says.
pub record IsServedBy (machine : Machine) (before : ConnTold) (how : ℕ) (after : ConnTold) : Type 0 where
  pub outcome : ServeEnd
  pub number : how ≡ number_of outcome
  pub served : IfSome before.left (λ bytes. IsServed machine.moment machine.nonce machine.blocks outcome bytes after.left before.written after.written)
  pub ends : Ends outcome after.ended after.left
  pub counts : Counts outcome before.read_faults after.read_faults before.write_faults after.write_faults
