-- statement: the file of the scripts that are watched: a script in hexadecimal, or an address, on each line.
use Rattle.std.specs.Prelude.{ℕ, ◌+◌, if◌then◌else◌, List, [], ◌∷◌, ◌++◌, length, Option, Some, None, Result, Ok, Err}
use Rattle.cf_scan.specs.Watching.{watch_kind_of}
use Rattle.cf_scan.specs.declared.watch.WatchKind.{WatchKind}
use Rattle.cf_address.specs.declared.fault.AddressFault.{AddressFault}
use Rattle.cf_input.specs.Addresses.{is_address_text, script_at}
use Rattle.cf_input.specs.Lines.{lines_of, read_lines, bytes_of_hex}
use Rattle.cf_input.specs.declared.watch_file.WatchCause.{WatchCause}
use Rattle.cf_input.specs.declared.watch_file.WatchCause.TheVariants.{Address, NotHex, Script}
use Rattle.cf_input.specs.declared.watch_file.WatchFileFault.{WatchFileFault}

-- the number of the line after these scripts, counted from 1
abbrev pub watch_fault : List (List ℕ) → WatchCause → Result (List (List ℕ)) WatchFileFault
watch_fault before cause = Err (record { cause = cause; place = length before + 1 })

-- one script more, where it can be watched
abbrev pub watched_after : List (List ℕ) → List ℕ → Option WatchKind → Result (List (List ℕ)) WatchFileFault
watched_after before script None = Ok (before ++ script ∷ [])
watched_after before script (Some kind) = watch_fault before (Script kind)

-- a script by its address, whose fault is the line's
abbrev pub by_address : Result (List ℕ) AddressFault → Result (List ℕ) WatchCause
by_address (Ok script) = Ok script
by_address (Err fault) = Err (Address fault)

-- a script by its hexadecimal digits
abbrev pub by_digits : Option (List ℕ) → Result (List ℕ) WatchCause
by_digits (Some script) = Ok script
by_digits None = Err NotHex

-- the script that a line names, by its address or in hexadecimal
abbrev pub script_in_line : List ℕ → Result (List ℕ) WatchCause
script_in_line line = if is_address_text line then by_address (script_at line) else by_digits (bytes_of_hex line)

-- the scripts with the one that a line names, or the line's fault
abbrev pub named_after : List (List ℕ) → Result (List ℕ) WatchCause → Result (List (List ℕ)) WatchFileFault
named_after before (Ok script) = watched_after before script (watch_kind_of before script)
named_after before (Err cause) = watch_fault before cause

-- a line after those of these scripts
abbrev pub script_after : List (List ℕ) → List ℕ → Result (List (List ℕ)) WatchFileFault
script_after before line = named_after before (script_in_line line)

-- the scripts of a file, or its first fault
abbrev pub watch_of : List ℕ → Result (List (List ℕ)) WatchFileFault
watch_of bytes = read_lines script_after [] (lines_of bytes)
