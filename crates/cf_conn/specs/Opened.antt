-- statement: files that are read by parts.
use Rattle.std.specs.Prelude.{ℕ, List, Result}
use Rattle.cf_bytes.specs.declared.files.FileFail.{FileFail}
use Rattle.cf_bytes.specs.declared.outside.Failed.{Failed}
use Rattle.cf_bytes.specs.Files.{Opens, Parts}
use Rattle.cf_conn.specs.Steps.{Steps}

-- some bytes of the file that was opened last were read, by one call
abbrev pub IsPartRead : {F : Type 0} → Parts F → F → F → Type 0
IsPartRead parts before after = (room : ℕ) × (result : Result ℕ Failed) × parts before room result after

-- the file of this name was opened, by one call, and then read by any number of calls
pub record IsReadByParts {F : Type 0} (opens : Opens F) (parts : Parts F) (name : List ℕ) (before after : F) : Type 0 where
  pub most : ℕ
  pub result : Result (Unit {0}) FileFail
  pub opened : F
  pub opens_it : opens before name most result opened
  pub steps : Steps (IsPartRead parts) opened after
