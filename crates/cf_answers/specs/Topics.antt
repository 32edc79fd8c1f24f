-- statement: which page of help some words ask for.
use Rattle.std.specs.Prelude.{ℕ, if◌then◌else◌, List, codes, Option, None, Some}
use Rattle.std.specs.Str.{bytes_eq}

-- of the pages of the commands, by their names, that of this one; another text where no command has this name
abbrev pub page_named : List ℕ → (other scan filter replay sync follow serve address prove check make demo : List ℕ) → List ℕ
page_named name other scan filter replay sync follow serve address prove check make demo =
    if bytes_eq name (codes "scan") then scan
    else if bytes_eq name (codes "filter") then filter
    else if bytes_eq name (codes "replay") then replay
    else if bytes_eq name (codes "sync") then sync
    else if bytes_eq name (codes "follow") then follow
    else if bytes_eq name (codes "serve") then serve
    else if bytes_eq name (codes "address") then address
    else if bytes_eq name (codes "prove") then prove
    else if bytes_eq name (codes "check") then check
    else if bytes_eq name (codes "make") then make
    else if bytes_eq name (codes "demo") then demo
    else other

-- the page that a word asks for, where there is one; another text where there is none
abbrev pub page_for : Option (List ℕ) → (other scan filter replay sync follow serve address prove check make demo : List ℕ) → List ℕ
page_for None other scan filter replay sync follow serve address prove check make demo = other
page_for (Some name) other scan filter replay sync follow serve address prove check make demo =
    page_named name other scan filter replay sync follow serve address prove check make demo
