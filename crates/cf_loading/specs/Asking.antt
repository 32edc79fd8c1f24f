-- statement: which files are asked for, and how.
use Rattle.std.specs.Prelude.{◌≡◌, ◌⊎◌, ℕ, List, [], ◌∷◌}
use Rattle.cf_bytes.specs.Files.{ReadsFile, Opens, Parts, IsRead}
use Rattle.cf_conn.specs.Opened.{IsReadByParts}

-- a file of this name that is read whole, by one call; or one that is opened and read by parts
pub data FileRead : Type 0 where
  Whole : (name : List ℕ) → FileRead
  ByParts : (name : List ℕ) → FileRead

-- the file was read, whole or by parts
abbrev pub HasRead : {F : Type 0} → ReadsFile F → Opens F → Parts F → FileRead → F → F → Type 0
HasRead reads opens parts (Whole name) before after = IsRead reads name before after
HasRead reads opens parts (ByParts name) before after = IsReadByParts opens parts name before after

-- of these files the first ones were read, each once and in this order, and nothing else was asked of the files
abbrev pub AreRead : {F : Type 0} → ReadsFile F → Opens F → Parts F → List FileRead → F → F → Type 0
AreRead reads opens parts [] before after = after ≡ before
AreRead {F} reads opens parts (file ∷ files) before after =
    (after ≡ before) ⊎ ((between : F) × HasRead reads opens parts file before between × AreRead reads opens parts files between after)
