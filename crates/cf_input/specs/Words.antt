-- statement: the program's words, as clap reads them.
use Rattle.std.specs.Prelude.{ℕ, ◌-◌, ◌≤◌, ◌==◌, ◌&&◌, ◌||◌, nat_lt, nat_le, Bool, if◌then◌else◌, List, [], ◌∷◌, length, reverse, codes, Option, Some, None, true, option_and_then, option_map, false}
use Rattle.std.specs.List.{list_all}
use Rattle.std.specs.Str.{bytes_eq}
use Rattle.clap.specs.Words.{App, Rule, Row, Text, new_app, new_rule, with_rule, with_subcommand, all_of, first_of, fault_of, subcommand_of, Kinds}
use Rattle.clap.specs.Lexer.{usize_max}
use Rattle.clap.specs.declared.builder.ArgAction.TheVariants.{SetTrue}
use Rattle.cf_bytes.specs.declared.hash.Hash32.{Hash32}
use Rattle.cf_headers.specs.Chain.{height_limit}
use Rattle.cf_input.specs.Lines.{bytes_of_hex}
use Rattle.cf_input.specs.Number.{number_at_most, number_within}
use Rattle.cf_input.specs.Name.{is_name}
use Rattle.cf_bytes.specs.Peers.{most_peers}
use Rattle.cf_input.specs.declared.words.Command.{Command}
use Rattle.cf_input.specs.declared.words.Growth.{Growth}
use Rattle.cf_input.specs.declared.words.Command.TheVariants.{Address, Check, Demo, Filter, Follow, Make, Prove, Replay, Scan, Serve, Sync}

-- an argument that has to be there
abbrev pub needed : Rule → Rule
needed r = record r { required = true }

-- an argument of one word or more
abbrev pub several : Rule → Rule
several r = record r { range = Some (record { start_inclusive = 1; end_inclusive = usize_max }) }

-- an option that takes a word: --NAME WORD
abbrev pub option_rule : Text → Rule
option_rule name = record (new_rule name) { long = Some name }

-- an option that takes none: --NAME
abbrev pub flag_rule : Text → Rule
flag_rule name = record (new_rule name) { long = Some name; action = Some SetTrue }

-- replay [--follow] [--trace] WATCH SESSION
abbrev pub replay_app : App
replay_app =
    with_rule
    (with_rule (with_rule (with_rule (new_app (codes "replay")) (flag_rule (codes "follow"))) (flag_rule (codes "trace"))) (needed (new_rule (codes "watch"))))
    (needed (new_rule (codes "session")))

-- a command over peers with its options alone: NAME [--turns N] [--workers N] [--record FILE]
abbrev pub options_app : Text → App
options_app name =
    with_rule (with_rule (with_rule (new_app name) (option_rule (codes "turns"))) (option_rule (codes "workers"))) (option_rule (codes "record"))

-- a command over peers: NAME [--turns N] [--workers N] [--record FILE] WATCH PEER..
abbrev pub peers_app : Text → App
peers_app name = with_rule (with_rule (options_app name) (needed (new_rule (codes "watch")))) (several (needed (new_rule (codes "peer"))))

-- sync [--turns N] [--workers N] [--record FILE] WATCH PEER..
abbrev pub sync_app : App
sync_app = peers_app (codes "sync")

-- follow [--turns N] [--workers N] [--record FILE] WATCH PEER..
abbrev pub follow_app : App
follow_app = peers_app (codes "follow")

-- a command of two words, both needed
abbrev pub two_app : Text → Text → Text → App
two_app name one two = with_rule (with_rule (new_app name) (needed (new_rule one))) (needed (new_rule two))

-- a command of one word, which is needed
abbrev pub one_app : Text → Text → App
one_app name one = with_rule (new_app name) (needed (new_rule one))

-- scan FILE WATCH
abbrev pub scan_app : App
scan_app = two_app (codes "scan") (codes "file") (codes "watch")

-- filter FILE HEIGHT
abbrev pub filter_app : App
filter_app = two_app (codes "filter") (codes "file") (codes "height")

-- address TEXT
abbrev pub address_app : App
address_app = one_app (codes "address") (codes "text")

-- prove FILE TXID
abbrev pub prove_app : App
prove_app = two_app (codes "prove") (codes "file") (codes "txid")

-- check [--witness] FILE [BLOCKS]
abbrev pub check_app : App
check_app = with_rule (with_rule (with_rule (new_app (codes "check")) (flag_rule (codes "witness"))) (needed (new_rule (codes "file")))) (new_rule (codes "blocks"))

-- `serve` with its options alone: serve [--grow] [--endless] [--connections N] [--at-once N] [--budget N]
-- [--grow-bytes N] [--keep]
abbrev pub serve_options_app : App
serve_options_app =
    with_rule (with_rule (with_rule (with_rule (with_rule (with_rule (with_rule (new_app (codes "serve")) (flag_rule (codes "grow"))) (flag_rule (codes "endless")))
    (option_rule (codes "connections"))) (option_rule (codes "at-once"))) (option_rule (codes "budget"))) (option_rule (codes "grow-bytes"))) (flag_rule (codes "keep"))

-- the same, and then FILE ADDRESS
abbrev pub serve_app : App
serve_app = with_rule (with_rule serve_options_app (needed (new_rule (codes "file")))) (needed (new_rule (codes "address")))

-- make [--witness] SEED BLOCKS FILE
abbrev pub make_app : App
make_app =
    with_rule
    (with_rule (with_rule (with_rule (new_app (codes "make")) (flag_rule (codes "witness"))) (needed (new_rule (codes "seed")))) (needed (new_rule (codes "blocks"))))
    (needed (new_rule (codes "file")))

-- demo SEED BLOCKS
abbrev pub demo_app : App
demo_app = two_app (codes "demo") (codes "seed") (codes "blocks")

-- clap's description of a program, with one subcommand more
unfoldable pub with_sub : App → App → App
with_sub a s = with_subcommand a s.top

-- the command line, with the client's commands alone
unfoldable pub client_app : App
client_app = with_sub (with_sub (with_sub (new_app (codes "cf")) sync_app) follow_app) replay_app

-- the whole command line: those over a block file come after them, then that over an address, those over proofs, the server, and those over a made chain
unfoldable pub cli_app : App
cli_app = with_sub (with_sub (with_sub (with_sub (with_sub (with_sub (with_sub (with_sub client_app scan_app) filter_app) address_app) prove_app) check_app) serve_app) make_app) demo_app

-- the subcommand that was met, and what was found for its arguments
abbrev pub Met : Type 0
Met = Option (Text × List Row)

-- this subcommand was met
abbrev pub is_met : Text → Met → Bool
is_met name None = false
is_met name (Some p) = bytes_eq p.0 name

-- the text that was given for an argument
abbrev pub text_of : Text → Met → Option Text
text_of id met = option_and_then (λ p. first_of id p.1) met

-- the texts that were given for an argument, in order
abbrev pub texts_of : Text → Met → Option (List Text)
texts_of id met = option_and_then (λ p. all_of id p.1) met

-- a text is there, and is `true`
abbrev pub is_true : Option Text → Bool
is_true None = false
is_true (Some text) = bytes_eq text (codes "true")

-- a flag that was given
abbrev pub is_set : Text → Met → Bool
is_set id met = is_true (text_of id met)

-- at most this many deliveries are taken from the wires
abbrev pub most_turns : ℕ
most_turns = 10000000

-- a number from 1 to the most, which stands also where none is given
abbrev pub turns_of : Option Text → Option ℕ
turns_of None = Some most_turns
turns_of (Some text) = number_within most_turns text

-- at most this many threads judge filters
abbrev pub most_workers : ℕ
most_workers = 64

-- a number from 1 to the most, and 4 where none is given
abbrev pub workers_of : Option Text → Option ℕ
workers_of None = Some 4
workers_of (Some text) = number_within most_workers text

-- at most this many connections are served
abbrev pub most_connections : ℕ
most_connections = 1000000

-- a number from 1 to the most, which stands also where none is given
abbrev pub connections_of : Option Text → Option ℕ
connections_of None = Some most_connections
connections_of (Some text) = number_within most_connections text

-- no end by their number: the greatest count
abbrev pub endless : ℕ
endless = 18446744073709551615

-- how many connections are served: with `--endless` there is no end, and no number may be given beside it
abbrev pub count_of : Bool → Option Text → Option ℕ
count_of true None = Some endless
count_of true (Some text) = None
count_of false text = connections_of text

-- at most this many connections are served at a time
abbrev pub most_at_once : ℕ
most_at_once = 1000000

-- a number from 1 to the most, and 125 where none is given
abbrev pub at_once_of : Option Text → Option ℕ
at_once_of None = Some 125
at_once_of (Some text) = number_within most_at_once text

-- at most this many megabytes of large messages are held at a time
abbrev pub most_budget : ℕ
most_budget = 1000000

-- a number from 1 to the most, and 256 where none is given
abbrev pub budget_of : Option Text → Option ℕ
budget_of None = Some 256
budget_of (Some text) = number_within most_budget text

-- at most this many bytes of blocks may join a chain that grows
abbrev pub most_growth : ℕ
most_growth = 4294967295

-- a number from 1 to the most, and 1,073,741,824 where none is given
abbrev pub bytes_of_growth : Option Text → Option ℕ
bytes_of_growth None = Some 1073741824
bytes_of_growth (Some text) = number_within most_growth text

-- How a served chain grows: not at all without `--grow`, and neither `--keep` nor a number may be given then; else by so many bytes of blocks, and kept with
-- `--keep` alone.
abbrev pub growth_of : Bool → Bool → Option Text → Option (Option Growth)
growth_of false false None = Some None
growth_of false true text = None
growth_of false false (Some text) = None
growth_of true keep text = option_map (λ most. Some (record { bytes = most; keep = keep })) (bytes_of_growth text)

-- the greatest height that may be asked for
abbrev pub most_height : ℕ
most_height = 4294967295

-- a number from 0 to the greatest height
abbrev pub height_of : Text → Option ℕ
height_of text = number_at_most most_height text

-- the greatest number from which a chain is made
abbrev pub most_seed : ℕ
most_seed = 4294967295

-- a number from 0 to the greatest
abbrev pub seed_of : Text → Option ℕ
seed_of text = number_at_most most_seed text

-- at most this many blocks are made: what a chain may have
abbrev pub most_made : ℕ
most_made = height_limit

-- a number from 1 to the most
abbrev pub made_of : Text → Option ℕ
made_of text = number_within most_made text

-- at most this many blocks are played: a peer beside has two more
abbrev pub most_played : ℕ
most_played = height_limit - 2

-- a number from 1 to the most
abbrev pub played_of : Text → Option ℕ
played_of text = number_within most_played text

-- the command `replay`, by what was found for its arguments
abbrev pub replay_of : Met → Option Command
replay_of met =
    option_and_then (λ watch. option_and_then (λ session.
    Some (Replay (is_set (codes "follow") met) (is_set (codes "trace") met) watch session))
    (text_of (codes "session") met)) (text_of (codes "watch") met)

-- the names of 1 to 8 peers
abbrev pub are_names : List Text → Bool
are_names texts = list_all is_name texts && (nat_lt 0 (length texts) && nat_le (length texts) most_peers)

-- the command over peers: `follow` where the client goes on, else `sync`
abbrev pub over_peers : Bool → ℕ → ℕ → Option Text → Text → List Text → Command
over_peers true turns workers file watch peers = Follow turns workers file watch peers
over_peers false turns workers file watch peers = Sync turns workers file watch peers

-- the same, by what was found for its arguments
abbrev pub over_peers_of : Bool → Met → Option Command
over_peers_of follows met =
    option_and_then (λ turns. option_and_then (λ workers. option_and_then (λ watch. option_and_then (λ peers.
    if are_names peers then Some (over_peers follows turns workers (text_of (codes "record") met) watch peers) else None)
    (texts_of (codes "peer") met)) (text_of (codes "watch") met)) (workers_of (text_of (codes "workers") met))) (turns_of (text_of (codes "turns") met))

-- the command `sync`, by what was found for its arguments
abbrev pub sync_of : Met → Option Command
sync_of met = over_peers_of false met

-- the command `follow`, by what was found for its arguments
abbrev pub follow_of : Met → Option Command
follow_of met = over_peers_of true met

-- a run has at most 8 peers
abbrev pub HasFewPeers : Command → Type 0
HasFewPeers (Sync _ _ _ _ peers) = length peers ≤ most_peers
HasFewPeers (Follow _ _ _ _ peers) = length peers ≤ most_peers
HasFewPeers _ = Unit {0}

-- the command `scan`, by what was found for its arguments
abbrev pub scan_of : Met → Option Command
scan_of met =
    option_and_then (λ file. option_and_then (λ watch.
    Some (Scan file watch))
    (text_of (codes "watch") met)) (text_of (codes "file") met)

-- the command `filter`, by what was found for its arguments
abbrev pub filter_of : Met → Option Command
filter_of met =
    option_and_then (λ file. option_and_then (λ height.
    Some (Filter file height))
    (option_and_then height_of (text_of (codes "height") met))) (text_of (codes "file") met)

-- the command `address`, by what was found for its arguments
abbrev pub address_of : Met → Option Command
address_of met = option_and_then (λ text. Some (Address text)) (text_of (codes "text") met)

-- the hash that a text shows, its last byte first: 64 hexadecimal digits
abbrev pub hash_in : Text → Option Hash32
hash_in text = if length text == 64 then option_map (λ bytes. record { 0 = reverse bytes }) (bytes_of_hex text) else None

-- the command `prove`, by what was found for its arguments
abbrev pub prove_of : Met → Option Command
prove_of met =
    option_and_then (λ file. option_and_then (λ txid.
    Some (Prove file txid))
    (option_and_then hash_in (text_of (codes "txid") met))) (text_of (codes "file") met)

-- the command `check`, by what was found for its arguments
abbrev pub check_of : Met → Option Command
check_of met = option_and_then (λ file. Some (Check (is_set (codes "witness") met) file (text_of (codes "blocks") met))) (text_of (codes "file") met)

-- the command `serve`, by its numbers; an address has the form of a peer's name
abbrev pub serve_with : ℕ → ℕ → ℕ → Option Growth → Met → Option Command
serve_with count at_once budget grow met =
    option_and_then (λ file. option_and_then (λ address.
    if is_name address then Some (Serve grow count at_once budget file address) else None)
    (text_of (codes "address") met)) (text_of (codes "file") met)

-- the same, by what was found for its arguments
abbrev pub serve_of : Met → Option Command
serve_of met =
    option_and_then (λ count. option_and_then (λ at_once. option_and_then (λ budget. option_and_then (λ grow.
    serve_with count at_once budget grow met)
    (growth_of (is_set (codes "grow") met) (is_set (codes "keep") met) (text_of (codes "grow-bytes") met)))
    (budget_of (text_of (codes "budget") met))) (at_once_of (text_of (codes "at-once") met)))
    (count_of (is_set (codes "endless") met) (text_of (codes "connections") met))

-- the command `make`, by what was found for its arguments
abbrev pub make_of : Met → Option Command
make_of met =
    option_and_then (λ seed. option_and_then (λ blocks. option_and_then (λ file.
    Some (Make (is_set (codes "witness") met) seed blocks file))
    (text_of (codes "file") met)) (option_and_then made_of (text_of (codes "blocks") met))) (option_and_then seed_of (text_of (codes "seed") met))

-- the command `demo`, by what was found for its arguments
abbrev pub demo_of : Met → Option Command
demo_of met =
    option_and_then (λ seed. option_and_then (λ blocks.
    Some (Demo seed blocks))
    (option_and_then played_of (text_of (codes "blocks") met))) (option_and_then seed_of (text_of (codes "seed") met))

-- the command that is asked for, by the subcommand that was met; none where a number or a name is out of range
abbrev pub asked_of : Met → Option Command
asked_of met =
    if is_met (codes "replay") met then replay_of met
    else if is_met (codes "sync") met then sync_of met
    else if is_met (codes "follow") met then follow_of met
    else if is_met (codes "scan") met then scan_of met
    else if is_met (codes "filter") met then filter_of met
    else if is_met (codes "address") met then address_of met
    else if is_met (codes "prove") met then prove_of met
    else if is_met (codes "check") met then check_of met
    else if is_met (codes "serve") met then serve_of met
    else if is_met (codes "make") met then make_of met
    else if is_met (codes "demo") met then demo_of met
    else None

-- clap finds no fault in the words
abbrev pub is_faultless : Kinds → Bool
is_faultless [] = true
is_faultless (k ∷ ks) = false

-- what the words ask for, where clap takes them and each number and name is in its range
abbrev pub command_of : List Text → Option Command
command_of words =
    if is_faultless (fault_of cli_app words) then asked_of (subcommand_of cli_app words) else None

-- a word that asks for the help
abbrev pub is_help_word : Text → Bool
is_help_word word = bytes_eq word (codes "help") || (bytes_eq word (codes "--help") || bytes_eq word (codes "-h"))

-- a word that asks for the version
abbrev pub is_version_word : Text → Bool
is_version_word word = bytes_eq word (codes "--version") || bytes_eq word (codes "-V")
