-- statement: a session file: the dials of a run, and then what is delivered, a line for each.
use Rattle.std.specs.Prelude.{ℕ, ◌+◌, ◌==◌, nat_le, Bool, true, false, if◌then◌else◌, List, [], ◌∷◌, ◌++◌, length, codes, Option, Some, None, Result, Ok, Err}
use Rattle.std.specs.List.{before_first, after_first}
use Rattle.std.specs.Str.{bytes_eq}
use Rattle.cf_bytes.specs.Peers.{most_peers}
use Rattle.cf_bytes.specs.Cut.{◌>>=◌}
use Rattle.cf_bytes.specs.declared.peer.PeerNo.{PeerNo}
use Rattle.cf_wires.specs.Wires.{WireScript}
use Rattle.cf_wires.specs.declared.event.Dial.{Dial}
use Rattle.cf_wires.specs.declared.event.Delivery.{Delivery}
use Rattle.cf_wires.specs.declared.event.Delivery.TheVariants.{Got, Gone, Tick}
use Rattle.cf_input.specs.Lines.{lines_of, read_lines, bytes_of_hex}
use Rattle.cf_input.specs.Name.{is_name}
use Rattle.cf_input.specs.Number.{is_number, number_within}
use Rattle.cf_input.specs.declared.session.SessionCause.{SessionCause}
use Rattle.cf_input.specs.declared.session.SessionCause.TheVariants.{NoDial, ManyDials, Late, NoPeer, BadLine}
use Rattle.cf_input.specs.declared.session.SessionFault.{SessionFault}

-- the greatest number of seconds in a tick
abbrev pub most_seconds : ℕ
most_seconds = 86400

-- what stands before the first space of a line
abbrev pub word_of : List ℕ → List ℕ
word_of line = before_first (λ b. b == 32) line

-- what stands after the first space of a line
abbrev pub rest_of : List ℕ → List ℕ
rest_of line = after_first (λ b. b == 32) line

-- a dial that is answered, and one that fails
abbrev pub answer_of : List ℕ → Option Bool
answer_of word =
    if bytes_eq word (codes "dial") then Some true
    else if bytes_eq word (codes "nodial") then Some false
    else None

-- a dial with a name, where it has the form of one
abbrev pub named : Option Bool → List ℕ → Option Dial
named None name = None
named (Some answered) name = if is_name name then Some (record { name = name; answered = answered }) else None

-- `dial NAME` or `nodial NAME`
abbrev pub dial_of : List ℕ → Option Dial
dial_of line = named (answer_of (word_of line)) (rest_of line)

-- a peer's number, where there is one
abbrev pub known : Option ℕ → Result PeerNo SessionCause
known None = Err NoPeer
known (Some n) = Ok (record { 0 = n })

-- the number of one of so many peers
abbrev pub peer_of : ℕ → List ℕ → Result PeerNo SessionCause
peer_of dials text = if is_number text then known (number_within dials text) else Err BadLine

-- bytes that came from a peer, one at least
abbrev pub got_bytes : Result PeerNo SessionCause → Option (List ℕ) → Result Delivery SessionCause
got_bytes peer None = Err BadLine
got_bytes peer (Some []) = Err BadLine
got_bytes peer (Some (b ∷ bytes)) = peer >>= λ p. Ok (Got p (b ∷ bytes))

-- after `got `: P HEX
abbrev pub got_of : ℕ → List ℕ → Result Delivery SessionCause
got_of dials rest = got_bytes (peer_of dials (word_of rest)) (bytes_of_hex (rest_of rest))

-- after `gone `: P
abbrev pub gone_of : ℕ → List ℕ → Result Delivery SessionCause
gone_of dials rest = peer_of dials rest >>= λ p. Ok (Gone p)

-- a tick of so many seconds
abbrev pub ticked : Option ℕ → Result Delivery SessionCause
ticked None = Err BadLine
ticked (Some seconds) = Ok (Tick seconds)

-- after `tick `: SECONDS
abbrev pub tick_of : List ℕ → Result Delivery SessionCause
tick_of rest = ticked (number_within most_seconds rest)

-- a line that is no dial line, after so many dials
abbrev pub delivery_of : ℕ → List ℕ → Result Delivery SessionCause
delivery_of dials line =
    if bytes_eq (word_of line) (codes "got") then got_of dials (rest_of line)
    else if bytes_eq (word_of line) (codes "gone") then gone_of dials (rest_of line)
    else if bytes_eq (word_of line) (codes "tick") then tick_of (rest_of line)
    else Err BadLine

-- a list is empty
abbrev pub is_none : {X : Type 0} → List X → Bool
is_none [] = true
is_none (x ∷ xs) = false

-- a session with one line more, where the line is this dial, or none
abbrev pub with_line_by : WireScript → List ℕ → Option Dial → Result WireScript SessionCause
with_line_by s line (Some d) =
    if is_none s.deliveries then
    (if nat_le most_peers (length s.dials) then Err ManyDials else Ok (record s { dials = s.dials ++ d ∷ [] }))
    else Err Late
with_line_by s line None =
    if is_none s.dials then Err NoDial
    else delivery_of (length s.dials) line >>= λ d. Ok (record s { deliveries = s.deliveries ++ d ∷ [] })

-- a session with one line more: a dial before all deliveries, or a delivery; or why the line is refused
abbrev pub with_line : WireScript → List ℕ → Result WireScript SessionCause
with_line s line = with_line_by s line (dial_of line)

-- what a line gives, its fault with the line's number
abbrev pub at_place : {X : Type 0} → ℕ → Result X SessionCause → Result X SessionFault
at_place place (Ok x) = Ok x
at_place place (Err cause) = Err (record { cause = cause; place = place })

-- how many lines a session has
abbrev pub lines_in : WireScript → ℕ
lines_in s = length s.dials + length s.deliveries

-- a line after those of a session, its number counted from 1
abbrev pub line_after : WireScript → List ℕ → Result WireScript SessionFault
line_after s line = at_place (lines_in s + 1) (with_line s line)

-- a session has a dial
abbrev pub dialled : WireScript → Result WireScript SessionFault
dialled s = if is_none s.dials then Err (record { cause = NoDial; place = 1 }) else Ok s

-- the session of a file, or its first fault
abbrev pub session_of : List ℕ → Result WireScript SessionFault
session_of bytes = read_lines line_after (record { dials = []; deliveries = [] }) (lines_of bytes) >>= dialled
