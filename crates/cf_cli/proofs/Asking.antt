-- What was asked of the files.
use Rattle.std.proofs.Common.{inl, List, [], ◌∷◌, Option, Some, None, refl}
use Rattle.cf_bytes.specs.Files.{ReadsFile, Opens, Parts, WritesFile}
use Rattle.cf_input.specs.declared.words.Command.{Command}
use Rattle.cf_loading.specs.Asking.{FileRead, AreRead}
use Rattle.cf_cli.specs.Asking.{AreAsked, files_read}
use Rattle.cf_cli_client.proofs.Asking.{unwritten}

-- no file was read
unread : {F : Type 0} (reads : ReadsFile F) (opens : Opens F) (parts : Parts F) (asked : List FileRead) (files : F) → AreRead reads opens parts asked files files
unread reads opens parts [] files = refl
unread reads opens parts (file ∷ asked) files = inl refl

-- nothing was asked
pub unasked : {F : Type 0} (reads : ReadsFile F) (opens : Opens F) (parts : Parts F) (writes : WritesFile F) (found : Option Command) (files : F) → AreAsked reads opens parts writes found files files
unasked reads opens parts writes None files = refl
unasked reads opens parts writes (Some command) files = (files, unread reads opens parts (files_read command) files, unwritten writes _ files)
