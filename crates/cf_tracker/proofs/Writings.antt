-- Up to which height what is written is a chain's.
use Rattle.std.proofs.Common.{◌≡◌, ◌≢◌, inl, inr, ℕ, ◌+◌, ◌-◌, ◌<◌, ◌≤◌, min, Bool, true, false, get_or, List, [], ◌∷◌, ◌++◌, length, take, reverse, Option, Some, None, refl, sym, ◌∙◌, ap, subst, arith}
use Rattle.std.specs.Prelude.{is_some, IsSome, unwrap_or, Result, Ok, Err, OnOk, OnErr, if◌then◌else◌}
use Rattle.std.proofs.lemmas.Bool.{cases_eq, cases_lt}
use Rattle.std.proofs.lemmas.List.{get_or_append_left, get_or_push, get_or-take, length-append, length-drop, length-reverse, length-take, take_all, take-append-le}
use Rattle.cf_bytes.specs.declared.memory.NoMemory.{NoMemory}
use Rattle.cf_bytes.specs.declared.peer.PeerNo.{PeerNo}
use Rattle.cf_block.specs.declared.header.Header.{Header}
use Rattle.cf_block.specs.Header.{block_hash_of}
use Rattle.cf_headers.specs.declared.change.Change.{Change}
use Rattle.cf_headers.specs.Changes.{link_height, change_of, chain_after}
use Rattle.cf_headers.specs.Chain.{Hash, Chain, Accepted, Longer, NoLonger, Unlinked, Invalid, TooHigh, accept, lower}
use Rattle.cf_headers.specs.Heights.{hash_at, common_of}
use Rattle.cf_headers.specs.Rules.{same}
use Rattle.cf_headers.specs.Store.{Chains, own_of, Puts, Stays}
use Rattle.cf_headers.proofs.Accepting.{grown_is}
use Rattle.cf_scan.specs.declared.extracts.TxExtract.{TxExtract}
use Rattle.cf_tracker.specs.declared.account.Written.{Written}
use Rattle.cf_tables.specs.Extracts.{with_extract}
use Rattle.cf_tables.specs.Tables.{IsSameTable}
use Rattle.cf_tables.specs.Known.{ExtractTable}
use Rattle.cf_tracker.specs.Writing.{IsUpTo, stands_after}
use Rattle.cf_tracker.specs.Written.{IsWrittenAs, IsWrittenHere, IsWrittenTo, IsWrittenTop, IsWrittenWhole, written_as, written_at}
use Rattle.cf_seek.proofs.Along.{hash_of_next}
use Rattle.cf_headers.proofs.Commons.{common_low}
use Rattle.cf_seek.proofs.Shared.{hash_shared}
use Rattle.cf_seek.proofs.SoughtStays.{same_below, same_true}

-- ---- one chain

pub written_none : (table : ExtractTable) (own : Chain) (written : List Written) (height : ℕ) → height ≡ 0
    → IsWrittenTo table own written height
written_none table own written height none = record { on = omega (arith, none); long = omega (arith, none); each = λ h lt. absurd (omega (arith, lt, none)) }

pub written_low : (table : ExtractTable) (own : Chain) (written : List Written) (height low : ℕ) → low ≤ height
    → IsWrittenTo table own written height → IsWrittenTo table own written low
written_low table own written height low le to =
    record { on = (let a = to.on in omega (arith, le, a)); long = (let a = to.long in omega (arith, le, a)); each = λ h lt. to.each h (omega (arith, lt, le)) }

pub written_next : (table : ExtractTable) (own : Chain) (written : List Written) (height : ℕ) (hash : Hash)
    → height < length own → hash ≡ hash_at own (height + 1) → IsWrittenHere table hash written height
    → IsWrittenTo table own written height → IsWrittenTo table own written (height + 1)
written_next table own written height hash lt is here to = record {
  on = omega (arith, lt);
  long = (let a = here.here in omega (arith, a));
  each = λ h low. elim (cases_lt h height) [
    | inl below ↦ to.each h below
    | inr ge ↦ (
        let at : h ≡ height = omega (arith, low, ge) in
        subst (λ (k : ℕ). IsWrittenAs table (hash_at own (k + 1)) (written_at written k)) (sym at) (subst (λ (x : Hash). IsWrittenAs table x (written_at written height)) is here.block)
        )
  ];
}

-- a height at which the chain ends, or above which another block stands, is the greatest
pub written_top : (table : ExtractTable) (own : Chain) (written : List Written) (height most : ℕ) → most ≡ length own
    → IsWrittenTo table own written height
    → (height < most → IsWrittenHere table (hash_at own (height + 1)) written height → ⊥)
    → IsWrittenTop table own written height
written_top table own written height most end to next = record {
  to = to;
  most = λ more up. elim (cases_lt height more) [
    | inl lt ↦ absurd (
        let on = up.on in
        let long = up.long in
        next (omega (arith, end, on, lt)) (record { here = omega (arith, long, lt); block = up.each height lt })
        )
    | inr ge ↦ ge
  ];
}

-- a block is written above it
pub written_push : (table : ExtractTable) (own : Chain) (before after : List Written) (height : ℕ) (hash : Hash)
    → after ≡ before ++ written_as table hash ∷ [] → length before ≡ height → height < length own
    → hash ≡ hash_at own (height + 1) → IsWrittenTo table own before height → IsWrittenTo table own after (height + 1)
written_push table own before after height hash is long lt at to = record {
  on = omega (arith, lt);
  long = omega (arith, count, long);
  each = λ h low. elim (cases_lt h height) [
    | inl below ↦ subst (IsWrittenAs table (hash_at own (h + 1))) (sym (ap (λ (l : List Written). written_at l h) is ∙ get_or_append_left before (written_as table hash ∷ []) _ h (omega (arith, below, long)))) (to.each h below)
    | inr ge ↦ (
        let here : h ≡ height = omega (arith, low, ge) in
        subst (λ (k : ℕ). IsWrittenAs table (hash_at own (k + 1)) (written_at after k)) (sym here)
        (subst (IsWrittenAs table (hash_at own (height + 1))) (sym (ap (λ (l : List Written). written_at l height) is ∙ get_or_push before (written_as table hash) _ height long))
        (record { is = at; has_extract = ap (λ (x : Hash). is_some (table x)) at }))
        )
  ];
} where
  count : length after ≡ length before + 1
  count = ap length is ∙ length-append before (written_as table hash ∷ [])

pub pushed_long : (before after : List Written) (w : Written) (height : ℕ) → after ≡ before ++ w ∷ []
    → length before ≡ height → length after ≡ height + 1
pushed_long before after w height is long = (let n : length after ≡ length before + 1 = ap length is ∙ length-append before (w ∷ []) in omega (arith, n, long))

pub take_long : (before after : List Written) (height : ℕ) → after ≡ take height before → height ≤ length before
    → length after ≡ height
take_long before after height is le = (let n = ap length is ∙ length-take height before in omega (arith, n, le))

-- what is above it is taken away
pub written_take : (table : ExtractTable) (own : Chain) (before after : List Written) (height : ℕ)
    → after ≡ take height before → IsWrittenTo table own before height → IsWrittenTo table own after height
written_take table own before after height is to = record {
  on = to.on;
  long = (let a = to.long in let n = take_long before after height is a in omega (arith, n));
  each = λ h lt. subst (IsWrittenAs table (hash_at own (h + 1))) (sym (ap (λ (l : List Written). written_at l h) is ∙ get_or-take height before h _ lt)) (to.each h lt);
}

pub written_whole : (table : ExtractTable) (own : Chain) (written : List Written) (height most : ℕ) → most ≡ length own
    → most ≤ height → IsWrittenTo table own written height → length written ≡ height → IsWrittenWhole table own written
written_whole table own written height most end past to long =
    let on = to.on in
    let is : height ≡ length own = omega (arith, end, past, on) in
    record { to = subst (IsWrittenTo table own written) is to; long = long ∙ is }

-- along the chain from the lowest block on
pub whole_along : (table : ExtractTable) (own : Chain) (written : List Written) → IsWrittenWhole table own written
    → (k : ℕ) (d : Header) → k < length (reverse own)
    → IsWrittenAs table (block_hash_of (get_or (reverse own) k d)) (written_at written k)
whole_along table own written whole k d lt =
    let low : k < length own = omega (arith, lt, length-reverse own) in
    subst (λ (x : Hash). IsWrittenAs table x (written_at written k)) (hash_of_next own k d low) (whole.to.each k low)

-- ---- another chain

pub written_shared : (table : ExtractTable) (own other : Chain) (written : List Written) (height low : ℕ) → low ≤ height
    → low ≤ common_of own other → low ≤ length own → IsWrittenTo table other written height
    → IsWrittenTo table own written low
written_shared table own other written height low le shared on to = record {
  on = on;
  long = (let a = to.long in omega (arith, le, a));
  each = λ h lt. subst (λ (x : Hash). IsWrittenAs table x (written_at written h)) (sym (hash_shared own other (h + 1) (omega (arith, lt, shared)))) (to.each h (omega (arith, lt, le)));
}

grown_to : (table : ExtractTable) (hs : List Header) (own next : Chain) (written : List Written) (height : ℕ)
    → accept hs own ≡ Longer next → IsWrittenTo table own written height
    → IsWrittenTo table next written (min height (link_height hs own))
grown_to table hs own next written height e to =
    let k = link_height hs own in
    let long : length next ≡ length hs + (length own - (length own - k)) =
    ap length (grown_is hs own next e) ∙ omega (arith, length-append (reverse hs) (lower k own), length-reverse hs, length-drop (length own - k) own) in
    record {
      on = (let a = to.on in omega (arith, long, a));
      long = (let a = to.long in omega (arith, a));
      each = λ h lt. subst (λ (x : Hash). IsWrittenAs table x (written_at written h)) (same_below hs own next (h + 1) e (omega (arith, lt))) (to.each h (omega (arith, lt)));
    }

-- ---- other extracts

off_same : (at hash : Hash) → (at ≡ hash → ⊥) → same at hash ≡ false
off_same at hash off = by (same at hash) refl where
  by : (b : Bool) → same at hash ≡ b → same at hash ≡ false
  by true e = absurd (off (same_true at hash e))
  by false e = e

put_else : (extracts more : ExtractTable) (at : Hash) (x : List TxExtract) (result : Result (Unit {0}) NoMemory)
    → OnOk result (IsSameTable more (with_extract at x extracts)) → OnErr result (IsSameTable more extracts)
    → (hash : Hash) → (at ≡ hash → ⊥) → more hash ≡ extracts hash
put_else extracts more at x (Ok u) ok err hash off =
    ok hash ∙ ap (λ (b : Bool). if b then Some (unwrap_or (extracts hash) x) else extracts hash) (off_same at hash off)
put_else extracts more at x (Err n) ok err hash off = err hash

-- ---- the bookmark

pub up_to_none : (table : ExtractTable) (chain : Option Chain) (written : List Written) (height : ℕ) → height ≡ 0
    → IsUpTo table chain written height
up_to_none table chain written height zero = record { none = λ e. zero; some = λ own e. written_none table own written height zero }

pub up_to_own : (table : ExtractTable) (chain : Option Chain) (written : List Written) (height : ℕ) → IsSome chain
    → IsWrittenTo table (unwrap_or chain []) written height → IsUpTo table chain written height
up_to_own table None written height some to = cc some
up_to_own table (Some own) written height some to =
    record { none = λ e. cc e; some = λ x e. subst (λ (o : Option Chain). IsWrittenTo table (unwrap_or o []) written height) e to }

-- the chains stay
pub up_to_stays : (chains next : Chains) (table : ExtractTable) (written : List Written) (p height : ℕ) → Stays chains next
    → IsUpTo table (chains p) written height → IsUpTo table (next p) written height
up_to_stays chains next table written p height stays up = subst (λ (o : Option Chain). IsUpTo table o written height) (sym (stays p)) up

-- it is on the same chain
on_same : (chains : Chains) (table : ExtractTable) (written : List Written) (q r : PeerNo) (height : ℕ) → r ≡ q
    → IsUpTo table (chains q.0) written height → IsUpTo table (chains r.0) written height
on_same chains table written q r height is up = subst (λ (k : PeerNo). IsUpTo table (chains k.0) written height) (sym is) up

-- a peer is entered, or given up
pub up_to_forgot : (chains next : Chains) (own : Option Chain) (table : ExtractTable) (written : List Written) (p q r : PeerNo) (height now : ℕ) → Puts chains next p own → r ≡ q
    → (q.0 ≡ p.0 → now ≡ 0) → (q.0 ≢ p.0 → now ≡ height) → IsUpTo table (chains q.0) written height
    → IsUpTo table (next r.0) written now
up_to_forgot chains next own table written p q r height now puts is here others up = on_same next table written q r now is (elim (cases_eq q.0 p.0) [
  | inl e ↦ up_to_none table (next q.0) written now (here e)
  | inr ne ↦ subst (λ (o : Option Chain). IsUpTo table o written now) (sym (puts.others q.0 ne)) (subst (IsUpTo table (chains q.0) written) (sym (others ne)) up)
])

own_is : (o : Option Chain) → IsSome o → o ≡ Some (unwrap_or o [])
own_is None some = cc some
own_is (Some own) some = refl

-- headers came
accepted_here : (table : ExtractTable) (hs : List Header) (own : Chain) (a : Accepted) (written : List Written) (height : ℕ)
    → accept hs own ≡ a → IsWrittenTo table own written height
    → IsWrittenTo table (chain_after a own) written (stands_after (change_of (link_height hs own) a) height)
accepted_here table hs own (Longer next) written height e to = grown_to table hs own next written height e to
accepted_here table hs own NoLonger written height e to = to
accepted_here table hs own Unlinked written height e to = to
accepted_here table hs own (Invalid place fault) written height e to = to
accepted_here table hs own TooHigh written height e to = to

pub up_to_accepted : (chains next : Chains) (table : ExtractTable) (written : List Written) (p q r : PeerNo) (hs : List Header) (change : Change) (height now : ℕ) → IsSome (chains p.0)
    → change ≡ change_of (link_height hs (own_of chains p)) (accept hs (own_of chains p))
    → Puts chains next p (Some (chain_after (accept hs (own_of chains p)) (own_of chains p)))
    → r ≡ q → (q.0 ≡ p.0 → now ≡ stands_after change height) → (q.0 ≢ p.0 → now ≡ height)
    → IsUpTo table (chains q.0) written height → IsUpTo table (next r.0) written now
up_to_accepted chains next table written p q r hs change height now some answer puts is here others up = on_same next table written q r now is (elim (cases_eq q.0 p.0) [
  | inl e ↦ (
      let own = own_of chains p in
      let a = accept hs own in
      let to : IsWrittenTo table own written height = up.some own (ap chains e ∙ own_is (chains p.0) some) in
      let after = accepted_here table hs own a written height refl to in
      subst (λ (k : ℕ). IsUpTo table (next k) written now) (sym e)
      (subst (λ (o : Option Chain). IsUpTo table o written now) (sym puts.here)
      (subst (IsUpTo table (Some (chain_after a own)) written) (sym (here e ∙ ap (λ (c : Change). stands_after c height) answer))
      (up_to_own table (Some (chain_after a own)) written (stands_after (change_of (link_height hs own) a) height) refl after)))
      )
  | inr ne ↦ subst (λ (o : Option Chain). IsUpTo table o written now) (sym (puts.others q.0 ne)) (subst (IsUpTo table (chains q.0) written) (sym (others ne)) up)
])

-- an extract came, of a block that stands at none of these heights
pub up_to_put : (extracts more : ExtractTable) (chains : Chains) (written : List Written) (q r : PeerNo) (height low : ℕ) (at : Hash) (x : List TxExtract) (result : Result (Unit {0}) NoMemory)
    → OnOk result (IsSameTable more (with_extract at x extracts)) → OnErr result (IsSameTable more extracts) → r ≡ q
    → low ≤ height
    → ((own : Chain) → chains q.0 ≡ Some own → (h : ℕ) → 1 ≤ h → h ≤ low → hash_at own h ≡ at → ⊥)
    → IsUpTo extracts (chains q.0) written height → IsUpTo more (chains r.0) written low
up_to_put extracts more chains written q r height low at x result ok err same1 le apart up = on_same chains more written q r low same1 (record {
  none = λ e. (let z = up.none e in omega (arith, le, z));
  some = λ own e.
      let to = up.some own e in
      record {
        on = (let a = to.on in omega (arith, le, a));
        long = (let a = to.long in omega (arith, le, a));
        each = λ h lt.
            let was = to.each h (omega (arith, lt, le)) in
            let else1 = put_else extracts more at x result ok err (hash_at own (h + 1)) (λ is. apart own e (h + 1) (omega arith) (omega (arith, lt)) (sym is)) in
            record { is = was.is; has_extract = was.has_extract ∙ ap is_some (sym else1) };
      };
})

-- what is taken from a bookmark
pub up_to_within : (table : ExtractTable) (chain : Option Chain) (written : List Written) (height : ℕ)
    → IsUpTo table chain written height → (own : Chain) → chain ≡ Some own → height ≤ length own
up_to_within table chain written height up own e = (up.some own e).on

-- the greatest height is sought from one that the chains share
pub shared_to : (table : ExtractTable) (chain : Option Chain) (own : Chain) (written : List Written) (height low : ℕ)
    → low ≤ height → ((other : Chain) → chain ≡ Some other → low ≤ common_of own other)
    → IsUpTo table chain written height → IsWrittenTo table own written low
shared_to table None own written height low le shared up = written_none table own written low (let z = up.none refl in omega (arith, le, z))
shared_to table (Some other) own written height low le shared up =
    let s = shared other refl in
    let c = (common_low own other).0 in
    written_shared table own other written height low le s (omega (arith, s, c)) (up.some other refl)

pub up_to_turned : (chains : Chains) (table : ExtractTable) (written : List Written) (p r : PeerNo) (height : ℕ) → r ≡ p
    → IsSome (chains p.0) → IsWrittenTo table (own_of chains p) written height
    → IsUpTo table (chains r.0) written height
up_to_turned chains table written p r height is some to = on_same chains table written p r height is (up_to_own table (chains p.0) written height some to)

-- ---- the newest blocks are taken away

newest_of : (xs : List Written) → 0 < length xs → (older : List Written) × ((w : Written) × (xs ≡ older ++ w ∷ []))
newest_of [] lt = absurd (omega (arith, lt))
newest_of (x ∷ []) lt = ([], (x, refl))
newest_of (x ∷ y ∷ xs) lt = (let w = newest_of (y ∷ xs) (omega arith) in (x ∷ w.0, (w.1.0, ap (λ (l : List Written). x ∷ l) w.1.1)))

pub popped_one : (count : ℕ) (all now next : List Written) → take count now ≡ take count all → count < length now
    → ((older : List Written) (w : Written) → now ≡ older ++ w ∷ [] → next ≡ older)
    → (take count next ≡ take count all) × (length next + 1 ≡ length now)
popped_one count all now next kept lt one =
    let w = newest_of now (omega (arith, lt)) in
    let is : next ≡ w.0 = one w.0 w.1.0 w.1.1 in
    let long : length now ≡ length w.0 + 1 = ap length w.1.1 ∙ length-append w.0 (w.1.0 ∷ []) in (
      ap (take count) is ∙ sym (take-append-le count w.0 (w.1.0 ∷ []) (omega (arith, long, lt))) ∙ sym (ap (take count) w.1.1) ∙ kept,
      (let n = ap length is in omega (arith, n, long)),
    )

pub popped_all : (count : ℕ) (all now : List Written) → take count now ≡ take count all → length now ≤ count
    → now ≡ take count all
popped_all count all now kept le = sym (take_all count now le) ∙ kept

-- what is written up to a chain's tip is all of it
pub whole_of : (chains : Chains) (table : ExtractTable) (written : List Written) (q p : PeerNo) (height tip : ℕ)
    → IsSome (chains p.0) → q.0 ≡ p.0 → height ≡ tip → tip ≡ length (own_of chains p) → length written ≡ tip
    → IsUpTo table (chains q.0) written height → IsWrittenWhole table (own_of chains p) written
whole_of chains table written q p height tip some e at end long up = record {
  to = subst (IsWrittenTo table (own_of chains p) written) (at ∙ end) (up.some (own_of chains p) (ap chains e ∙ own_is (chains p.0) some));
  long = long ∙ end;
}

-- ---- whose chain a height stands on

pub entered_if : (chain : Option Chain) (height : ℕ) → (chain ≡ None → height ≡ 0) → height ≢ 0 → IsSome chain
entered_if None height none off = absurd (off (none refl))
entered_if (Some own) height none off = refl

pub within_if : (chain : Option Chain) (height : ℕ) → ((own : Chain) → chain ≡ Some own → height ≤ length own)
    → IsSome chain → height ≤ length (unwrap_or chain [])
within_if None height within some = cc some
within_if (Some own) height within some = within own refl

pub own_there : (chain : Option Chain) (own : Chain) → chain ≡ Some own → unwrap_or chain [] ≡ own
own_there chain own e = ap (λ (o : Option Chain). unwrap_or o []) e
