-- statement: what passed between the wires' user and one peer, by the log, and what a peer in memory answers to it.
use Rattle.std.specs.Prelude.{◌≡◌, ◌⊎◌, ℕ, pos, ◌==◌, Bool, true, false, ◌||◌, List, [], ◌∷◌, ◌++◌, filter, length, take, option_to_list, if◌then◌else◌}
use Rattle.std.specs.List.{AllByRecursion}
use Rattle.cf_block.specs.declared.tx.Block.{Block}
use Rattle.cf_chain.specs.Serve.{replies}
use Rattle.cf_msg.specs.declared.msg.Msg.{Msg}
use Rattle.cf_msg.specs.declared.msg.Msg.TheVariants.{Version, GetHeaders, Cfilter, Cfheaders, Cfcheckpt}
use Rattle.cf_msg.specs.Message.{is_version}
use Rattle.cf_peer.specs.Acts.{IsSendable}
use Rattle.cf_wires.specs.declared.event.Delivery.TheVariants.{Got, Gone, Tick, Ended}
use Rattle.cf_wires.specs.declared.event.Event.{Event}
use Rattle.cf_wires.specs.declared.event.Event.TheVariants.{Dialled, NotDialled, Sent, SendFailed, Closed, Took}
use Rattle.cf_wires.specs.Log.{Log}
use Rattle.cf_peer.specs.Trail.{spelled}
use Rattle.cf_played.specs.declared.kind.Way.{Way}
use Rattle.cf_played.specs.declared.kind.Way.TheVariants.{Honest, Omits, Silent}
use Rattle.cf_server.specs.Serving.{text_of}

-- ---- what passed

-- the bytes that came from p, in order
abbrev pub came : Log → ℕ → List ℕ
came [] p = []
came (Took (Got q piece) ∷ log) p = if q.0 == p then came log p ++ piece else came log p
came (_ ∷ log) p = came log p

-- the messages that the sends to p spell, in order
abbrev pub told_to : Log → ℕ → List Msg
told_to [] p = []
told_to (Sent q bytes ∷ log) p = if q.0 == p then told_to log p ++ option_to_list (spelled bytes) else told_to log p
told_to (_ ∷ log) p = told_to log p

-- ---- what is answered

-- a silent peer answers these alone
abbrev pub is_answered : Msg → Bool
is_answered (Version version services time to from nonce agent height relay) = true
is_answered (GetHeaders version locator stop) = true
is_answered m = false

-- the messages that are answered at all
abbrev pub heard_of : Way → List Msg → List Msg
heard_of Honest ms = ms
heard_of Omits ms = ms
heard_of Silent ms = filter is_answered ms

-- whether a version is among messages, or came before
abbrev pub seen_after : Bool → List Msg → Bool
seen_after seen [] = seen
seen_after seen (m ∷ ms) = seen_after (is_version m || seen) ms

-- the frames of the machine's replies, whose version has time 0 and number 0
abbrev pub frames_from : Bool → List Block → List Msg → List ℕ
frames_from seen blocks ms = text_of (replies (pos 0) 0 blocks seen ms)

-- all that is answered to messages
abbrev pub answered_to : Way → List Block → List Msg → List ℕ
answered_to way blocks ms = frames_from false blocks (heard_of way ms)

-- its filters are those of its chain
abbrev pub is_plain : Way → Bool
is_plain Honest = true
is_plain Omits = false
is_plain Silent = true

-- what came from p is a beginning of all that it answers to what it was told; it is all of that
abbrev pub HasBegun : Way → List Block → Log → ℕ → Type 0
HasBegun way blocks log p = take (length (came log p)) (answered_to way blocks (told_to log p)) ≡ came log p

-- what came from p is all that it answers to what it was told
abbrev pub HasAnswered : Way → List Block → Log → ℕ → Type 0
HasAnswered way blocks log p = came log p ≡ answered_to way blocks (told_to log p)

-- ---- answers with other filters

-- a message tells of filters
abbrev pub is_filtering : Msg → Bool
is_filtering (Cfilter filter block bytes) = true
is_filtering (Cfheaders filter stop previous hashes) = true
is_filtering (Cfcheckpt filter stop headers) = true
is_filtering m = false

-- a message is the other one, or both tell of filters
abbrev pub IsAlike : Msg → Msg → Type 0
IsAlike m n = (m ≡ n) ⊎ ((is_filtering m ≡ true) × (is_filtering n ≡ true))

-- messages are the same one by one, or both of two tell of filters
abbrev pub AreAlike : List Msg → List Msg → Type 0
AreAlike [] [] = Unit {0}
AreAlike [] (n ∷ ns) = ⊥
AreAlike (m ∷ ms) [] = ⊥
AreAlike (m ∷ ms) (n ∷ ns) = IsAlike m n × AreAlike ms ns

-- what came from p is a beginning of the frames of messages that are like its machine's answers to what it hears of
pub record HasBegunAlike (way : Way) (blocks : List Block) (log : Log) (p : ℕ) : Type 0 where
  pub messages : List Msg
  pub alike : AreAlike messages (replies (pos 0) 0 blocks false (heard_of way (told_to log p)))
  pub fit : AllByRecursion IsSendable messages
  pub begun : take (length (came log p)) (text_of messages) ≡ came log p

-- ---- who stays

-- nobody is lost by this entry but by a close
abbrev pub is_staying : Event → Bool
is_staying (Dialled q name) = true
is_staying (NotDialled q name) = false
is_staying (Sent q bytes) = true
is_staying (SendFailed q) = false
is_staying (Closed q) = true
is_staying (Took (Got q piece)) = true
is_staying (Took (Gone q)) = false
is_staying (Took (Tick s)) = true
is_staying (Took Ended) = false
