-- statement: a serving machine whose chain grows, and what a connection is served by it.
use Rattle.std.specs.Prelude.{◌≡◌, ℕ, ℤ, IfSome}
use Rattle.cf_conn.specs.Told.{ConnTold}
use Rattle.cf_grow.specs.declared.ending.Ending.{Ending}
use Rattle.cf_grow.specs.declared.mark.Tip.{Tip}
use Rattle.cf_grow.specs.Standing.{Start}
use Rattle.cf_grow.specs.Serving.{IsServedGrowing, EndsOf, CountsOf, ending_number}

-- the time and the nonce of its `version`, and the tip that its chain began with; its chain is what the lock holds at each message
pub record Moment : Type 0 where
  pub moment : ℤ
  pub nonce : ℕ
  pub tip : Tip

-- what it began with
abbrev pub begun_at : Moment → Start
begun_at at = record { time = at.moment; tip = at.tip }

-- Of a connection, from what it told as it was accepted to what it told as it was closed: it ended by an ending of this number, by then each message was
-- answered by a good chain that has the first tip, and on which the mark of the message before stands, as far as that ending says, and its counts of faults and its end are what the
-- ending says.
pub record IsServedWhileGrowing (at : Moment) (before : ConnTold) (how : ℕ) (after : ConnTold) : Type 0 where
  pub ending : Ending
  pub number : how ≡ ending_number ending
  pub served : IfSome before.left (λ bytes. IsServedGrowing (begun_at at) at.nonce ending bytes after.left before.written after.written)
  pub ends : EndsOf ending after.ended after.left
  pub counts : CountsOf ending before.read_faults after.read_faults before.write_faults after.write_faults
