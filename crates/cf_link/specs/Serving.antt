-- statement: what serving does to a link.
use Rattle.std.specs.Prelude.{◌≡◌, ℕ, ◌+◌, List, length, Result, Ok, Err}
use Rattle.std.specs.List.{AllZip}
use Rattle.cf_bytes.specs.Outside.{HasRisen}
use Rattle.cf_conn.specs.Told.{ConnTold}
use Rattle.cf_link.specs.Links.{Given, LinkTold, longer_by}
use Rattle.cf_bytes.specs.declared.memory.Refused.{Refused}
use Rattle.cf_bytes.specs.declared.memory.Refused.TheVariants.{No, NoMemory}
use Rattle.cf_bytes.specs.declared.outside.Failed.{Failed}

-- Some connections were accepted, and all of them were given back in the same order: of each what it told as it was accepted, and what came of it by then.
pub record Serves (serves : ConnTold → ℕ → ConnTold → Type 0) (was now : LinkTold) : Type 0 where
  pub asked : List ConnTold
  pub back : List Given
  pub each : AllZip (λ c b. serves c b.how b.end) asked back
  pub conns : now.conns ≡ longer_by was.conns asked
  pub given : now.given ≡ longer_by was.given back
  pub accepted : now.accepted ≡ was.accepted + length asked
  pub owed : now.owed ≡ was.owed
  pub addresses : now.addresses ≡ was.addresses

-- a link's count of faults rises exactly where the answer is that it has failed
abbrev pub Counts : Result (Unit {0}) (Refused Failed) → ℕ → ℕ → Type 0
Counts (Ok done) before after = after ≡ before
Counts (Err (No failed)) before after = HasRisen before after
Counts (Err NoMemory) before after = after ≡ before
