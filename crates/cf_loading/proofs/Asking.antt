-- What was asked of the files.
use Rattle.std.proofs.Common.{ℕ, List, Result}
use Rattle.std.specs.Prelude.{Vec}
use Rattle.std.specs.Global.{Global}
use Rattle.cf_bytes.specs.Files.{ReadsFile, Opens, Parts, IsRead}
use Rattle.cf_bytes.specs.declared.files.FileFail.{FileFail}
use Rattle.cf_conn.specs.Opened.{IsPartRead, IsReadByParts}
use Rattle.cf_conn.specs.Steps.{Steps}
use Rattle.cf_conn.proofs.Stepping.{no_steps}

-- a file that was read whole
pub is_read : {F : Type 0} (reads : ReadsFile F) (name : List ℕ) (most : ℕ) (result : Result (Vec ℕ Global) FileFail) (before after : F) → reads before name most result after → IsRead reads name before after
is_read reads name most result before after h = (most, result, h)

-- a file that was opened, and read so far
pub read_by_parts : {F : Type 0} (opens : Opens F) (parts : Parts F) (name : List ℕ) (most : ℕ) (result : Result (Unit {0}) FileFail) (before opened after : F)
    → opens before name most result opened → Steps (IsPartRead parts) opened after → IsReadByParts opens parts name before after
read_by_parts opens parts name most result before opened after h steps = record { most = most; result = result; opened = opened; opens_it = h; steps = steps }

-- a file that was to be opened, and not read
pub is_opened : {F : Type 0} (opens : Opens F) (parts : Parts F) (name : List ℕ) (most : ℕ) (result : Result (Unit {0}) FileFail) (before after : F)
    → opens before name most result after → IsReadByParts opens parts name before after
is_opened opens parts name most result before after h = read_by_parts opens parts name most result before after after h (no_steps (IsPartRead parts) after)
