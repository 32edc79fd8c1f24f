-- machine: in which order the acts of one call stand.
use Rattle.std.specs.Prelude.{◌≡◌, ◌⊎◌, ℕ, Bool, true, false, not, ◌&&◌, List, [], ◌∷◌, ◌++◌, map}
use Rattle.std.specs.List.{All, list_all, list_any}
use Rattle.std.specs.List.Sorted.{IsStrictlyIncreasing}
use Rattle.cf_msg.specs.declared.msg.Msg.{Msg}
use Rattle.cf_peer.specs.declared.act.Act.{Act}
use Rattle.cf_peer.specs.declared.act.Act.TheVariants.{Send, Close}
use Rattle.cf_peer.specs.declared.peer.Cause.TheVariants.{Overdue}
use Rattle.cf_msg.specs.declared.msg.Msg.TheVariants.{Ping}
use Rattle.cf_peer.specs.Asking.{is_ping, is_request}
use Rattle.cf_place.specs.declared.place.Place.{Place}
use Rattle.cf_place.specs.Places.{is_idle, place_at}

-- whom an act is about
abbrev pub number_of : Act → ℕ
number_of (Send p m) = p.0
number_of (Close p cause) = p.0

-- an act puts a question: for headers, claims of filters, filters, blocks or a pong
abbrev pub is_asking : Act → Bool
is_asking (Send p m) = is_request m
is_asking (Close p cause) = false

-- the numbers of those who are closed, in the order of the acts
abbrev pub closed_in : List Act → List ℕ
closed_in [] = []
closed_in (Send p m ∷ acts) = closed_in acts
closed_in (Close p cause ∷ acts) = p.0 ∷ closed_in acts

-- an act closes somebody
abbrev pub is_closing : Act → Bool
is_closing (Send p m) = false
is_closing (Close p cause) = true

-- nothing is sent once somebody is closed
abbrev pub SendsFirst : List Act → Type 0
SendsFirst [] = Unit {0}
SendsFirst (Send p m ∷ acts) = SendsFirst acts
SendsFirst (Close p cause ∷ acts) = list_all is_closing acts ≡ true

-- no act puts a question, all that is sent comes before anybody is closed, and of those who are closed the lowest number comes first, none twice
pub record AreTold (acts : List Act) : Type 0 where
  pub replies : SendsFirst acts
  pub owed : list_any is_asking acts ≡ false
  pub closed : IsStrictlyIncreasing (closed_in acts)

-- an act puts a question that is no ping
abbrev pub is_questioning : Act → Bool
is_questioning (Send p m) = is_request m && not (is_ping m)
is_questioning (Close p cause) = false

-- each act puts a question that is no ping, and of those who are asked the lowest number comes first, none twice
pub record AreAsked (acts : List Act) : Type 0 where
  pub questions : list_all is_questioning acts ≡ true
  pub lowest : IsStrictlyIncreasing (map number_of acts)

-- an act sends a ping
abbrev pub is_pinging : Act → Bool
is_pinging (Send p m) = is_ping m
is_pinging (Close p cause) = false

-- each act sends a ping, the lowest number first, none twice
pub record ArePings (acts : List Act) : Type 0 where
  pub pings : list_all is_pinging acts ≡ true
  pub lowest : IsStrictlyIncreasing (map number_of acts)

-- what is owed and who is closed, and the pings after that
pub record ArePrepared (acts : List Act) : Type 0 where
  pub told : List Act
  pub pinged : List Act
  pub split : acts ≡ told ++ pinged
  pub first : AreTold told
  pub next : ArePings pinged

-- the acts of one call: first what is owed and who is closed, then the pings, then the other questions, and nothing after them
pub record AreInOrder (acts : List Act) : Type 0 where
  pub told : List Act
  pub pinged : List Act
  pub asked : List Act
  pub split : acts ≡ told ++ (pinged ++ asked)
  pub first : AreTold told
  pub next : ArePings pinged
  pub last : AreAsked asked

-- to the acts was added one question to this number, at whose place nothing was open to a connected peer, or nothing
abbrev pub AsksOne : ℕ → Place → List Act → List Act → Type 0
AsksOne i place before now =
    (now ≡ before)
    ⊎ ((m : Msg) × (is_idle place ≡ true) × (is_request m && not (is_ping m) ≡ true) × (now ≡ before ++ Send (record { 0 = i }) m ∷ []))

-- to the acts was added a ping to this number, or nothing
abbrev pub PingsOne : ℕ → List Act → List Act → Type 0
PingsOne i before now =
    (now ≡ before) ⊎ ((number : ℕ) × (now ≡ before ++ Send (record { 0 = i }) (Ping number) ∷ []))

-- to the acts were added pings in order
pub record AddsPings (before now : List Act) : Type 0 where
  pub pinged : List Act
  pub added : now ≡ before ++ pinged
  pub are : ArePings pinged

-- an act is about a connected peer to which nothing was open
abbrev pub IsToIdle : List Place → Act → Type 0
IsToIdle places act = is_idle (place_at places (number_of act)) ≡ true

-- to the acts were added questions in order, each to a connected peer to which nothing was open before them
pub record AddsQuestions (places : List Place) (before now : List Act) : Type 0 where
  pub asked : List Act
  pub idle : All (IsToIdle places) asked
  pub added : now ≡ before ++ asked
  pub are : AreAsked asked

-- to the acts was added that this number is closed for its silence, or nothing
abbrev pub ClosesOne : ℕ → List Act → List Act → Type 0
ClosesOne i before now = (now ≡ before) ⊎ (now ≡ before ++ Close (record { 0 = i }) Overdue ∷ [])

-- to the acts was added who is closed for its silence, the lowest number first
pub record ClosesLate (before now : List Act) : Type 0 where
  pub closed : List ℕ
  pub added : now ≡ before ++ map (λ (p : ℕ). Close (record { 0 = p }) Overdue) closed
  pub rising : IsStrictlyIncreasing closed
