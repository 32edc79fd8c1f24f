-- statement: a run with one peer whose chain grows: it answers as the machine of genesis alone does, announces a block after a
-- tick, and answers as the machine of the chain of that block then. So the run is quiet twice. What is asked of it
-- after the announcement: its headers, its claims, and the filter of the block, which clears it.
use Rattle.std.specs.Prelude.{◌∷◌}
use Rattle.cf_chain.specs.Grow.{announcement}
use Rattle.cf_msg.specs.declared.msg.Msg.{Msg}
use Rattle.cf_msg.specs.declared.msg.Msg.TheVariants.{Verack, Ping, Pong}
use Rattle.cf_wires.specs.declared.event.Delivery.TheVariants.{Got, Tick}
use Rattle.cf_wires.specs.declared.event.Event.TheVariants.{Sent, Took}
use Rattle.cf_peer.specs.Acts.{bytes_of}
use Rattle.cf_wires.specs.Log.{Log}
use Rattle.cf_sync.specs.Example.{only_hash, honest_peer, its_version, question, its_headers, false_headers, ask_claims, its_claims, ask_filter, its_filter, log_2}

-- the ping that it is sent with the tick, and its answer
abbrev pub ping_one : Msg
ping_one = Ping 1

abbrev pub pong_one : Msg
pong_one = Pong 1

-- its announcement of the one block
abbrev pub news : Msg
news = announcement only_hash.0

-- the run, moment by moment
abbrev pub grow_3 : Log
grow_3 = Took (Got honest_peer (bytes_of its_version)) ∷ log_2

abbrev pub grow_4 : Log
grow_4 = Sent honest_peer (bytes_of Verack) ∷ grow_3

abbrev pub grow_5 : Log
grow_5 = Took (Got honest_peer (bytes_of Verack)) ∷ grow_4

abbrev pub grow_6 : Log
grow_6 = Sent honest_peer (bytes_of question) ∷ grow_5

-- it is quiet, with genesis alone
abbrev pub first_quiet : Log
first_quiet = Took (Got honest_peer (bytes_of false_headers)) ∷ grow_6

abbrev pub grow_8 : Log
grow_8 = Took (Tick 5) ∷ first_quiet

abbrev pub grow_9 : Log
grow_9 = Sent honest_peer (bytes_of ping_one) ∷ grow_8

abbrev pub grow_10 : Log
grow_10 = Took (Got honest_peer (bytes_of news)) ∷ grow_9

abbrev pub grow_11 : Log
grow_11 = Took (Got honest_peer (bytes_of pong_one)) ∷ grow_10

abbrev pub grow_12 : Log
grow_12 = Sent honest_peer (bytes_of question) ∷ grow_11

abbrev pub grow_13 : Log
grow_13 = Took (Got honest_peer (bytes_of its_headers)) ∷ grow_12

abbrev pub grow_14 : Log
grow_14 = Sent honest_peer (bytes_of ask_claims) ∷ grow_13

abbrev pub grow_15 : Log
grow_15 = Took (Got honest_peer (bytes_of its_claims)) ∷ grow_14

abbrev pub grow_16 : Log
grow_16 = Sent honest_peer (bytes_of ask_filter) ∷ grow_15

-- it is quiet again, with the block
abbrev pub growing_run : Log
growing_run = Took (Got honest_peer (bytes_of its_filter)) ∷ grow_16
