-- Acts in order: questions that are added one after another, closes that are, and replies.
use Rattle.std.proofs.Common.{◌≡◌, ℕ, ◌<◌, ◌≤◌, ◌+◌, ◌&&◌, ◌||◌, not, Bool, true, false, inl, inr, List, [], ◌∷◌, ◌++◌, length, map, get_or, refl, sym, ◌∙◌, ap, subst, arith, append_assoc}
use Rattle.std.specs.List.{All, list_all, list_any, AllByRecursion}
use Rattle.std.specs.List.Sorted.{IsStrictlyIncreasing}
use Rattle.std.proofs.Math.Seq.{get_or-append_seam}
use Rattle.std.proofs.lemmas.Bool.{cases_eq}
use Rattle.std.proofs.lemmas.Grind.{common_steps}
use Rattle.std.proofs.lemmas.List.{append-nil, map-append, get_or_append_left}
use Rattle.std.proofs.lemmas.List.Folds.{list_all-append, list_any-append}
use Rattle.std.proofs.lemmas.List.Elements.{All-nil, All-push}
use Rattle.cf_bytes.specs.declared.hash.Hash32.{Hash32}
use Rattle.cf_bytes.specs.declared.peer.PeerNo.{PeerNo}
use Rattle.cf_headers.specs.Chain.{Chain}
use Rattle.cf_msg.specs.declared.msg.Msg.{Msg}
use Rattle.cf_msg.specs.declared.msg.Msg.TheVariants.{Verack, Ping, Pong, GetHeaders, GetData}
use Rattle.cf_peer.specs.declared.act.Act.{Act}
use Rattle.cf_peer.specs.declared.act.Act.TheVariants.{Send, Close}
use Rattle.cf_peer.specs.declared.peer.Cause.{Cause}
use Rattle.cf_peer.specs.declared.peer.Cause.TheVariants.{Overdue, Omits}
use Rattle.cf_peer.specs.Asking.{is_ping, is_request}
use Rattle.cf_peer.specs.Trail.{IsReply}
use Rattle.cf_place.specs.declared.place.Place.{Place}
use Rattle.cf_place.specs.Places.{AsksAbove, AsksFor, is_idle, nobody}
use Rattle.cf_client.specs.Shutting.{shut_act}
use Rattle.cf_client.specs.Order.{number_of, is_asking, is_questioning, is_pinging, is_closing, closed_in, SendsFirst, AreTold, ArePrepared, AreInOrder, AsksOne, AddsQuestions, IsToIdle, PingsOne, AddsPings, ClosesOne, ClosesLate}

-- a message puts a question, and is no ping
abbrev pub is_question : Msg → Bool
is_question m = is_request m && not (is_ping m)

-- the questions for headers above a chain and for a block are such
pub above_asks : (chain : Chain) (m : Msg) → AsksAbove chain m → is_question m ≡ true
above_asks chain (GetHeaders version locator stop) asks = refl
above_asks chain m asks = absurd asks

pub block_asked : (hash : Hash32) (m : Msg) → AsksFor hash m → is_question m ≡ true
block_asked hash (GetData entries) asks = refl
block_asked hash m asks = absurd asks

-- numbers that rise, and one above them
pub rising_push : (ns : List ℕ) (n : ℕ) → IsStrictlyIncreasing ns → All (λ k. k < n) ns
    → IsStrictlyIncreasing (ns ++ n ∷ [])
rising_push ns n rising below k lt = elim (cases_eq (k + 1) (length ns)) [
  | inl last ↦
      let more = ns ++ n ∷ [] in
      let seam : get_or more (k + 1) 0 ≡ n = ap (λ (j : ℕ). get_or more j 0) last ∙ get_or-append_seam ns n [] 0 in
      let here : get_or more k 0 ≡ get_or ns k 0 = get_or_append_left ns (n ∷ []) 0 k (omega (arith, last)) in
      omega (arith, seam, here, below k 0 (omega (arith, last)))
  | inr other ↦
      let within : k + 1 < length ns = grind (arith, common_steps) in
      let more = ns ++ n ∷ [] in
      let next : get_or more (k + 1) 0 ≡ get_or ns (k + 1) 0 = get_or_append_left ns (n ∷ []) 0 (k + 1) within in
      let here : get_or more k 0 ≡ get_or ns k 0 = get_or_append_left ns (n ∷ []) 0 k (omega (arith, within)) in
      omega (arith, next, here, rising k within)
]

pub rising_none : IsStrictlyIncreasing []
rising_none k lt = absurd (omega (arith, lt))

rising_one : (n : ℕ) → IsStrictlyIncreasing (n ∷ [])
rising_one n k lt = absurd (omega (arith, lt))

pub all_higher : (ns : List ℕ) (m n : ℕ) → m ≤ n → All (λ k. k < m) ns → All (λ k. k < n) ns
all_higher ns m n le below k d lt = omega (arith, le, below k d lt)

-- numbers below one, and then itself
pub below_push : (ns : List ℕ) (n : ℕ) → All (λ k. k < n) ns → All (λ k. k < n + 1) (ns ++ n ∷ [])
below_push ns n below =
    All-push (λ (k : ℕ). k < n + 1) ns n (all_higher ns n (n + 1) (omega arith) below) (omega arith)

-- ---- the questions of one call

-- on the way through the numbers: only lower ones were asked
pub record AsksBelow (n : ℕ) (places : List Place) (before now : List Act) : Type 0 where
  pub adds : AddsQuestions places before now
  pub below : All (λ (p : ℕ). p < n) (map number_of adds.asked)

pub asks_none : (n : ℕ) (places : List Place) (acts : List Act) → AsksBelow n places acts acts
asks_none n places acts = record {
  adds = record {
    asked = [];
    idle = All-nil (IsToIdle places);
    added = sym (append-nil acts);
    are = record { questions = refl; lowest = rising_none };
  };
  below = All-nil (λ (p : ℕ). p < n);
}

all_push : (test : Act → Bool) (acts : List Act) (act : Act) → list_all test acts ≡ true → test act ≡ true → list_all test (acts ++ act ∷ []) ≡ true
all_push test acts act all one = list_all-append test acts (act ∷ []) ∙ ap (λ (b : Bool). b && (test act && true)) all ∙ ap (λ (b : Bool). b && true) one

lowest_push : (acts : List Act) (act : Act) → IsStrictlyIncreasing (map number_of acts) → All (λ p. p < number_of act) (map number_of acts)
    → IsStrictlyIncreasing (map number_of (acts ++ act ∷ []))
lowest_push acts act lowest below = subst IsStrictlyIncreasing (sym (map-append number_of acts (act ∷ [])))
    (rising_push (map number_of acts) (number_of act) lowest below)

acts_below : (acts : List Act) (i : ℕ) (act : Act) → number_of act ≡ i → All (λ (p : ℕ). p < i) (map number_of acts)
    → All (λ (p : ℕ). p < i + 1) (map number_of (acts ++ act ∷ []))
acts_below acts i act is below = subst (All (λ (p : ℕ). p < i + 1)) (sym (map-append number_of acts (act ∷ [])))
    (subst (λ (n : ℕ). All (λ (p : ℕ). p < i + 1) (map number_of acts ++ n ∷ [])) (sym is) (below_push (map number_of acts) i below))

-- one question more, or none, where it is asked of a place at which nothing was open before either
pub asks_next : (i : ℕ) (place : Place) (places : List Place) (before acts now : List Act) → AsksBelow i places before acts
    → (is_idle place ≡ true → is_idle (get_or places i nobody) ≡ true) → AsksOne i place acts now → AsksBelow (i + 1) places before now
asks_next i place places before acts now so_far kept (inl same) = record {
  adds = record {
    asked = so_far.adds.asked;
    idle = so_far.adds.idle;
    added = same ∙ so_far.adds.added;
    are = so_far.adds.are;
  };
  below = all_higher (map number_of so_far.adds.asked) i (i + 1) (omega arith) so_far.below;
}
asks_next i place places before acts now so_far kept (inr (m, idle, question, added)) =
    let act = Send (record { 0 = i }) m in
    let asked = so_far.adds.asked in
    record {
      adds = record {
        asked = asked ++ act ∷ [];
        idle = All-push (IsToIdle places) asked act so_far.adds.idle (kept idle);
        added = added ∙ ap (λ (xs : List Act). xs ++ act ∷ []) so_far.adds.added ∙ append_assoc before asked (act ∷ []);
        are = record {
          questions = all_push is_questioning asked act so_far.adds.are.questions question;
          lowest = lowest_push asked act so_far.adds.are.lowest so_far.below;
        };
      };
      below = acts_below asked i act refl so_far.below;
    }

-- ---- the pings of one call

-- on the way through the numbers: only lower ones were sent one
pub record PingsBelow (n : ℕ) (before now : List Act) : Type 0 where
  pub adds : AddsPings before now
  pub below : All (λ (p : ℕ). p < n) (map number_of adds.pinged)

pub pings_none : (n : ℕ) (acts : List Act) → PingsBelow n acts acts
pings_none n acts = record {
  adds = record { pinged = []; added = sym (append-nil acts); are = record { pings = refl; lowest = rising_none } };
  below = All-nil (λ (p : ℕ). p < n);
}

-- one ping more, or none
pub pings_next : (i : ℕ) (before acts now : List Act) → PingsBelow i before acts → PingsOne i acts now → PingsBelow (i + 1) before now
pings_next i before acts now so_far (inl same) = record {
  adds = record { pinged = so_far.adds.pinged; added = same ∙ so_far.adds.added; are = so_far.adds.are };
  below = all_higher (map number_of so_far.adds.pinged) i (i + 1) (omega arith) so_far.below;
}
pings_next i before acts now so_far (inr (number, added)) =
    let act = Send (record { 0 = i }) (Ping number) in
    let pinged = so_far.adds.pinged in
    record {
      adds = record {
        pinged = pinged ++ act ∷ [];
        added = added ∙ ap (λ (xs : List Act). xs ++ act ∷ []) so_far.adds.added ∙ append_assoc before pinged (act ∷ []);
        are = record {
          pings = all_push is_pinging pinged act so_far.adds.are.pings refl;
          lowest = lowest_push pinged act so_far.adds.are.lowest so_far.below;
        };
      };
      below = acts_below pinged i act refl so_far.below;
    }

-- ---- who is closed for silence

abbrev pub shut : ℕ → Act
shut p = Close (record { 0 = p }) Overdue

-- on the way through the numbers: only lower ones were closed
pub record ClosesBelow (n : ℕ) (before now : List Act) : Type 0 where
  pub closes : ClosesLate before now
  pub below : All (λ (p : ℕ). p < n) closes.closed

pub closes_none : (n : ℕ) (acts : List Act) → ClosesBelow n acts acts
closes_none n acts = record {
  closes = record { closed = []; added = sym (append-nil acts); rising = rising_none };
  below = All-nil (λ (p : ℕ). p < n);
}

pub closes_next : (i : ℕ) (before acts now : List Act) → ClosesBelow i before acts
    → ClosesOne i acts now → ClosesBelow (i + 1) before now
closes_next i before acts now so_far (inl same) = record {
  closes = record { closed = so_far.closes.closed; added = same ∙ so_far.closes.added; rising = so_far.closes.rising };
  below = all_higher so_far.closes.closed i (i + 1) (omega arith) so_far.below;
}
closes_next i before acts now so_far (inr added) =
    let closed = so_far.closes.closed in
    record {
      closes = record {
        closed = closed ++ i ∷ [];
        added = added ∙ ap (λ (xs : List Act). xs ++ shut i ∷ []) so_far.closes.added
            ∙ append_assoc before (map shut closed) (shut i ∷ [])
            ∙ ap (λ (xs : List Act). before ++ xs) (sym (map-append shut closed (i ∷ [])));
        rising = rising_push closed i so_far.closes.rising so_far.below;
      };
      below = below_push closed i so_far.below;
    }

-- ---- what comes first: nothing, closes for silence, or replies, and a close after them

pub told_none : (acts : List Act) → acts ≡ [] → AreTold acts
told_none acts none = subst AreTold (sym none) (record { replies = tt; owed = refl; closed = rising_none })

-- the close of a peer for a cause, by its number
abbrev shut_for : Cause → ℕ → Act
shut_for cause p = Close (record { 0 = p }) cause

closed_shut : (cause : Cause) (ns : List ℕ) → closed_in (map (shut_for cause) ns) ≡ ns
closed_shut cause [] = refl
closed_shut cause (n ∷ ns) = ap (λ (xs : List ℕ). n ∷ xs) (closed_shut cause ns)

no_asking_shut : (cause : Cause) (ns : List ℕ) → list_any is_asking (map (shut_for cause) ns) ≡ false
no_asking_shut cause [] = refl
no_asking_shut cause (n ∷ ns) = no_asking_shut cause ns

all_closing : (cause : Cause) (ns : List ℕ) → list_all is_closing (map (shut_for cause) ns) ≡ true
all_closing cause [] = refl
all_closing cause (n ∷ ns) = all_closing cause ns

no_sends : (cause : Cause) (ns : List ℕ) → SendsFirst (map (shut_for cause) ns)
no_sends cause [] = tt
no_sends cause (n ∷ ns) = all_closing cause ns

pub told_closed : (before now : List Act) → before ≡ [] → ClosesLate before now → AreTold now
told_closed before now none closes =
    subst AreTold (sym (closes.added ∙ ap (λ (xs : List Act). xs ++ map shut closes.closed) none)) (record {
      replies = no_sends Overdue closes.closed;
      owed = no_asking_shut Overdue closes.closed;
      closed = subst IsStrictlyIncreasing (sym (closed_shut Overdue closes.closed)) closes.rising;
    })

no_request : (r : Msg) → IsReply r → is_request r ≡ false
no_request Verack is = refl
no_request (Pong number) is = refl
no_request r is = absurd is

-- replies that are sent one after another
abbrev sends : PeerNo → List Msg → List Act
sends p rs = map (λ (m : Msg). Send p m) rs

no_asking : (p : PeerNo) (rs : List Msg) → AllByRecursion IsReply rs → list_any is_asking (sends p rs) ≡ false
no_asking p [] are = refl
no_asking p (r ∷ rs) are =
    ap (λ (b : Bool). b || list_any is_asking (sends p rs)) (no_request r are.0) ∙ no_asking p rs are.1

closed_after : (p : PeerNo) (rs : List Msg) (more : List Act) → closed_in (sends p rs ++ more) ≡ closed_in more
closed_after p [] more = refl
closed_after p (r ∷ rs) more = closed_after p rs more

first_after : (p : PeerNo) (rs : List Msg) (more : List Act) → SendsFirst more → SendsFirst (sends p rs ++ more)
first_after p [] more first = first
first_after p (r ∷ rs) more first = first_after p rs more first

pub told_replies : (p : PeerNo) (rs : List Msg) (acts : List Act) → AllByRecursion IsReply rs
    → acts ≡ map (λ (m : Msg). Send p m) rs → AreTold acts
told_replies p rs acts are is = subst AreTold (sym is) (record {
  replies = subst SendsFirst (append-nil (sends p rs)) (first_after p rs [] tt);
  owed = no_asking p rs are;
  closed = subst IsStrictlyIncreasing (ap closed_in (append-nil (sends p rs)))
      (subst IsStrictlyIncreasing (sym (closed_after p rs [])) rising_none);
})

pub told_fault : (p : PeerNo) (cause : Cause) (rs : List Msg) (acts : List Act) → AllByRecursion IsReply rs
    → acts ≡ map (λ (m : Msg). Send p m) rs → AreTold (acts ++ Close p cause ∷ [])
told_fault p cause rs acts are is = subst (λ (xs : List Act). AreTold (xs ++ Close p cause ∷ [])) (sym is) (record {
  replies = first_after p rs (Close p cause ∷ []) refl;
  owed = list_any-append is_asking (sends p rs) (Close p cause ∷ [])
      ∙ ap (λ (b : Bool). b || (false || false)) (no_asking p rs are);
  closed = subst IsStrictlyIncreasing (sym (closed_after p rs (Close p cause ∷ []))) (rising_one p.0);
})

-- replies, and then closes for what is omitted
pub told_shuts : (p : PeerNo) (rs : List Msg) (qs : List ℕ) (acts : List Act) → AllByRecursion IsReply rs → IsStrictlyIncreasing qs
    → acts ≡ map (λ (m : Msg). Send p m) rs ++ map shut_act qs → AreTold acts
told_shuts p rs qs acts are rising is = subst AreTold (sym is) (record {
  replies = first_after p rs (map shut_act qs) (no_sends Omits qs);
  owed = list_any-append is_asking (sends p rs) (map shut_act qs) ∙ ap (λ (b : Bool). b || list_any is_asking (map shut_act qs)) (no_asking p rs are) ∙ no_asking_shut Omits qs;
  closed = subst IsStrictlyIncreasing (sym (closed_after p rs (map shut_act qs) ∙ closed_shut Omits qs)) rising;
})

pub told_close : (p : PeerNo) (cause : Cause) (acts : List Act) → acts ≡ Close p cause ∷ [] → AreTold acts
told_close p cause acts is = subst AreTold (sym is) (record { replies = refl; owed = refl; closed = rising_one p.0 })

-- and then the pings, or none
pub prepared_by : (told acts : List Act) → AreTold told → AddsPings told acts → ArePrepared acts
prepared_by told acts first adds = record { told = told; pinged = adds.pinged; split = adds.added; first = first; next = adds.are }

pub prepared_none : (acts : List Act) → AreTold acts → ArePrepared acts
prepared_none acts first = record {
  told = acts;
  pinged = [];
  split = sym (append-nil acts);
  first = first;
  next = record { pings = refl; lowest = rising_none };
}

-- and then the questions
pub in_order_by : (places : List Place) (before acts : List Act) → ArePrepared before → AddsQuestions places before acts → AreInOrder acts
in_order_by places before acts ready adds = record {
  told = ready.told;
  pinged = ready.pinged;
  asked = adds.asked;
  split = adds.added ∙ ap (λ (xs : List Act). xs ++ adds.asked) ready.split ∙ append_assoc ready.told ready.pinged adds.asked;
  first = ready.first;
  next = ready.next;
  last = adds.are;
}
