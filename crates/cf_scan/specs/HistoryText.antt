-- statement: the text of a history.
use Rattle.std.specs.Prelude.{ℕ, List, [], ◌∷◌, ◌++◌, codes}
use Rattle.std.specs.Fmt.{decimal}
use Rattle.std.specs.List.{flat_map}
use Rattle.cf_bytes.specs.Hash.{shown}
use Rattle.cf_scan.specs.declared.history.Entry.{Entry}

-- HEIGHT TXID +RECEIVED -SPENT BALANCE, ended by LF
abbrev pub entry_line : Entry → List ℕ
entry_line e =
    decimal e.height ++ (codes " " ++ (shown e.txid.0 ++ (codes " +" ++ (decimal e.received ++ (codes " -"
    ++ (decimal e.spent ++ (codes " " ++ (decimal e.balance ++ 10 ∷ []))))))))

-- synced HEIGHT HASH, ended by LF
abbrev pub last_line : ℕ → List ℕ → List ℕ
last_line height tip = codes "synced " ++ decimal height ++ codes " " ++ shown tip ++ 10 ∷ []

-- a line for each entry, and the chain's tip
abbrev pub history_text : List Entry → ℕ → List ℕ → List ℕ
history_text entries height tip = flat_map entry_line entries ++ last_line height tip
