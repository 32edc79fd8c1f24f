-- Up to the marks of tests nothing comes to be tested.
use Rattle.std.proofs.Common.{◌≡◌, ◌≢◌, ◌⊎◌, inl, inr, ℕ, ◌+◌, ◌-◌, ◌<◌, ◌≤◌, min, max, Bool, true, false, List, [], ◌∷◌, length, replicate, reverse, Option, Some, None, refl, sym, ◌∙◌, ap, subst, arith}
use Rattle.std.proofs.Math.Logic.{∥∥₁_map}
use Rattle.std.specs.Prelude.{◌&&◌, IsSome, Result, Ok, Err, OnOk, OnErr, unwrap_or, if◌then◌else◌, slice_set}
use Rattle.std.proofs.lemmas.Grind.{common_steps, not_there}
use Rattle.std.proofs.lemmas.Bool.{cases_eq, cases_lt}
use Rattle.std.proofs.lemmas.List.{get_or-replicate, get_or_past, length-append, length-drop, length-replicate, length-reverse}
use Rattle.cf_bytes.specs.declared.hash.Hash32.{Hash32}
use Rattle.cf_bytes.specs.declared.memory.NoMemory.{NoMemory}
use Rattle.cf_bytes.specs.declared.peer.PeerNo.{PeerNo}
use Rattle.cf_block.specs.declared.header.Header.{Header}
use Rattle.cf_dispute.specs.declared.claim.At.TheVariants.{Differ}
use Rattle.cf_dispute.specs.Claims.{Tables, IsAt, with_claims}
use Rattle.cf_dispute.proofs.PutIn.{in_or_out}
use Rattle.cf_headers.specs.declared.change.Change.{Change}
use Rattle.cf_headers.specs.Changes.{link_height, change_of}
use Rattle.cf_headers.specs.Chain.{chain_after, Hash, Chain, Accepted, Longer, NoLonger, Unlinked, Invalid, TooHigh, IsIn, accept, lower}
use Rattle.cf_headers.specs.Heights.{hash_at}
use Rattle.cf_headers.specs.Rules.{same}
use Rattle.cf_headers.specs.Store.{Chains, own_of, Puts, Stays}
use Rattle.cf_headers.proofs.Accepting.{grown_is}
use Rattle.cf_scan.specs.declared.extracts.TxExtract.{TxExtract}
use Rattle.cf_seek.specs.Testing.{IsToTest}
use Rattle.cf_seek.specs.Tried.{AreTried, AreTriedTo, IsOn, IsToTry, IsTriedBelow, IsTriedTo, tried_after, tried_at}
use Rattle.cf_seek.proofs.Disputed.{claimed_before, forgotten_differ}
use Rattle.cf_seek.proofs.Marked.{differ_before, others_same}
use Rattle.cf_seek.proofs.SoughtStays.{same_below, same_true}
use Rattle.cf_tables.specs.Extracts.{with_extract}
use Rattle.cf_tables.specs.Tables.{IsSameTable}
use Rattle.cf_tables.specs.Known.{ExtractTable, TestResults}
use Rattle.cf_tables.specs.Tests.{IsSameTold, found_too, with_test}
use Rattle.cf_tables.specs.Claiming.{ForgetsClaims}

-- ---- one peer

-- nothing is marked
none_marked : (extracts : ExtractTable) (tables : Tables) (told : TestResults) (p : ℕ) (o : Option Chain) (mark : ℕ) → mark ≡ 0
    → IsTriedTo extracts tables told p o mark
none_marked extracts tables told p o mark none = record {
  on = λ up. absurd (omega (arith, up, none));
  tried = λ own is h up low. absurd (omega (arith, up, low, none));
}

-- on the same chain a mark no higher, where each block up to it that is to be tested was to be tested
still_tried : (extracts more : ExtractTable) (before after : Tables) (told now : TestResults) (p : ℕ) (o : Option Chain) (a b : ℕ) → b ≤ a
    → ((own : Chain) → o ≡ Some own → (h : ℕ) → 1 ≤ h → h ≤ b → IsToTest more after now p (hash_at own h)
    → IsToTest extracts before told p (hash_at own h))
    → IsTriedTo extracts before told p o a → IsTriedTo more after now p o b
still_tried extracts more before after told now p o a b low back t = record {
  on = λ up. (let on = t.on (omega (arith, up, low)) in (on.0, (on.1.0, (let le = on.1.1 in omega (arith, le, low)))));
  tried = λ own is h up le try. t.tried own is h up (omega (arith, le, low))
      (record { above = try.above; wanted = back own is h up le try.wanted });
}

-- ---- all peers

set_other : (xs : List ℕ) (p v q : ℕ) → q ≢ p → tried_at (slice_set xs p v) q ≡ tried_at xs q
set_other xs p v q ne = elim (cases_lt p (length xs)) [
  | inl lt ↦ grind (arith, common_steps)
  | inr ge ↦ grind (arith, common_steps)
]

set_here : (xs : List ℕ) (p v : ℕ) → (tried_at (slice_set xs p v) p ≡ v) ⊎ (tried_at (slice_set xs p v) p ≡ 0)
set_here xs p v = elim (cases_lt p (length xs)) [
  | inl lt ↦ inl (grind (arith, common_steps))
  | inr ge ↦ inr (grind (arith, common_steps))
]

-- p's mark is put, on a chain that p has now, or where it has none
put_tried : (chains next : Chains) (extracts : ExtractTable) (tables : Tables) (told : TestResults) (marks : List ℕ) (p : PeerNo) (o : Option Chain)
    (mark : ℕ) → Puts chains next p o → IsTriedTo extracts tables told p.0 o mark → AreTriedTo chains extracts tables told marks
    → AreTriedTo next extracts tables told (slice_set marks p.0 mark)
put_tried chains next extracts tables told marks p o mark puts here are q = elim (cases_eq q p.0) [
  | inl e ↦ subst (λ (k : ℕ). IsTriedTo extracts tables told k (next k) (tried_at (slice_set marks p.0 mark) k)) (sym e)
      (subst (λ (c : Option Chain). IsTriedTo extracts tables told p.0 c (tried_at (slice_set marks p.0 mark) p.0)) (sym puts.here)
      (elim (set_here marks p.0 mark) [
        | inl is ↦ subst (IsTriedTo extracts tables told p.0 o) (sym is) here
        | inr is ↦ none_marked extracts tables told p.0 o (tried_at (slice_set marks p.0 mark) p.0) is
      ]))
  | inr ne ↦ subst (IsTriedTo extracts tables told q (next q)) (sym (set_other marks p.0 mark q ne))
      (subst (λ (c : Option Chain). IsTriedTo extracts tables told q c (tried_at marks q)) (sym (puts.others q ne)) (are q))
]

-- of each peer, on the same chains
each_tried : (chains : Chains) (extracts more : ExtractTable) (before after : Tables) (told now : TestResults) (marks fell : List ℕ)
    → ((q : ℕ) → tried_at fell q ≤ tried_at marks q)
    → ((q : ℕ) (own : Chain) → chains q ≡ Some own → (h : ℕ) → 1 ≤ h → h ≤ tried_at fell q → IsToTest more after now q (hash_at own h)
    → IsToTest extracts before told q (hash_at own h))
    → ∥ AreTriedTo chains extracts before told marks ∥₁ → ∥ AreTriedTo chains more after now fell ∥₁
each_tried chains extracts more before after told now marks fell low back t =
    ∥∥₁_map t (λ are q. still_tried extracts more before after told now q (chains q) (tried_at marks q) (tried_at fell q) (low q) (back q) (are q))

-- ---- what is known of a peer

stable_le : (a b : ℕ) → ((a ≤ b → ⊥) → ⊥) → a ≤ b
stable_le a b so = elim (cases_lt b a) [ inl lt ↦ absurd (so (λ le. omega (arith, lt, le))) | inr ge ↦ ge ]

on_by : (o : Option Chain) (mark : ℕ) → 0 < mark → ((IsOn o mark → ⊥) → ⊥) → (own : Chain) × ((o ≡ Some own) × (mark ≤ length own))
on_by None mark up so = absurd (so (λ on. none_is (on up).0 (on up).1.0)) where
  none_is : (own : Chain) → None ≡ Some own → ⊥
  none_is own e = cc e
on_by (Some own) mark up so = (own, (refl, stable_le mark (length own) (λ no. so (λ on. no (is_on (on up).0 (on up).1.0 (on up).1.1))))) where
  is_on : (there : Chain) → Some own ≡ Some there → mark ≤ length there → mark ≤ length own
  is_on there e le = (let is : there ≡ own = cc e in subst (λ (c : Chain). mark ≤ length c) is le)

-- each mark stands on the peer's chain
pub on_each : (chains : Chains) (extracts : ExtractTable) (tables : Tables) (told : TestResults) (marks : List ℕ)
    → ∥ AreTriedTo chains extracts tables told marks ∥₁ → (q : ℕ) → IsOn (chains q) (tried_at marks q)
on_each chains extracts tables told marks t q up = on_by (chains q) (tried_at marks q) up (λ no. not_there t (λ are. no (are q).on))

some_own : (o : Option Chain) → IsSome o → o ≡ Some (unwrap_or o [])
some_own None some = cc some
some_own (Some own) some = refl

-- none of an entered peer's blocks up to its mark is to be tested
pub tried_to : (chains : Chains) (extracts : ExtractTable) (tables : Tables) (told : TestResults) (marks : List ℕ) (p : PeerNo) (mark : ℕ)
    → mark ≡ tried_at marks p.0 → IsSome (chains p.0) → ∥ AreTriedTo chains extracts tables told marks ∥₁
    → AreTried extracts tables told p.0 (own_of chains p) mark
tried_to chains extracts tables told marks p mark is some t h up low try =
    not_there t (λ are. (are p.0).tried (own_of chains p) (some_own (chains p.0) some) h up (omega (arith, low, is)) try)

-- ---- the calls

zero_at : (n q : ℕ) → tried_at (replicate n 0) q ≡ 0
zero_at n q = elim (cases_lt q n) [
  | inl lt ↦ get_or-replicate n q 0 0 lt
  | inr ge ↦ get_or_past (replicate n 0) q 0 (let long = length-replicate {A = ℕ} n 0 in omega (arith, ge, long))
]

pub none_tried : (chains : Chains) (extracts : ExtractTable) (tables : Tables) (told : TestResults) (marks : List ℕ) (n : ℕ) → marks ≡ replicate n 0
    → ∥ AreTriedTo chains extracts tables told marks ∥₁
none_tried chains extracts tables told marks n fresh =
    ∣ (λ q. none_marked extracts tables told q (chains q) (tried_at marks q) (ap (λ (xs : List ℕ). tried_at xs q) fresh ∙ zero_at n q)) ∣₁

-- no chain changes
pub stays_tried : (chains next : Chains) (extracts : ExtractTable) (tables : Tables) (told : TestResults) (marks : List ℕ) → Stays chains next
    → ∥ AreTriedTo chains extracts tables told marks ∥₁ → ∥ AreTriedTo next extracts tables told marks ∥₁
stays_tried chains next extracts tables told marks stays t =
    ∥∥₁_map t (λ are q. subst (λ (o : Option Chain). IsTriedTo extracts tables told q o (tried_at marks q)) (sym (stays q)) (are q))

-- p's chain is another, or gone, and nothing is marked
pub cleared_tried : (chains next : Chains) (extracts : ExtractTable) (tables : Tables) (told : TestResults) (marks now : List ℕ) (p : PeerNo)
    (o : Option Chain) → Puts chains next p o → now ≡ slice_set marks p.0 0
    → ∥ AreTriedTo chains extracts tables told marks ∥₁ → ∥ AreTriedTo next extracts tables told now ∥₁
cleared_tried chains next extracts tables told marks now p o puts is t =
    ∥∥₁_map t (λ are. subst (AreTriedTo next extracts tables told) (sym is)
    (put_tried chains next extracts tables told marks p o 0 puts (none_marked extracts tables told p.0 o 0 refl) are))

-- p's mark goes up to where nothing of its chain is to be tested
pub up_tried : (chains : Chains) (extracts : ExtractTable) (tables : Tables) (told : TestResults) (marks now : List ℕ) (p : PeerNo) (mark to common : ℕ)
    → mark ≡ tried_at marks p.0 → IsSome (chains p.0) → AreTried extracts tables told p.0 (own_of chains p) to → to ≤ max mark common
    → common ≤ length (own_of chains p) → now ≡ slice_set marks p.0 to
    → ∥ AreTriedTo chains extracts tables told marks ∥₁ → ∥ AreTriedTo chains extracts tables told now ∥₁
up_tried chains extracts tables told marks now p mark to common was some tried low within is t =
    ∥∥₁_map t (λ are. subst (AreTriedTo chains extracts tables told) (sym is)
    (put_tried chains chains extracts tables told marks p (Some own) to (record { here = there; others = λ q ne. refl })
    (record {
      on = λ up. (own, (refl, high (are p.0).on));
      tried = λ other e h above le. (let same1 : own ≡ other = cc e in subst (λ (c : Chain). AreTried extracts tables told p.0 c to) same1 tried h above le);
    }) are)) where
      own : Chain
      own = own_of chains p

      there : chains p.0 ≡ Some own
      there = some_own (chains p.0) some

      mine : (other : Chain) → chains p.0 ≡ Some other → tried_at marks p.0 ≤ length other → tried_at marks p.0 ≤ length own
      mine other e le = (let same1 : Some other ≡ Some own = sym e ∙ there in let same2 : other ≡ own = cc same1 in subst (λ (c : Chain). tried_at marks p.0 ≤ length c) same2 le)

      high : IsOn (chains p.0) (tried_at marks p.0) → to ≤ length own
      high on = elim (cases_lt 0 (tried_at marks p.0)) [
        | inl up ↦ (let le = mine (on up).0 (on up).1.0 (on up).1.1 in omega (arith, le, low, within, was))
        | inr none ↦ omega (arith, none, low, within, was)
      ]

-- a chain that grows
grown_tried : (extracts : ExtractTable) (tables : Tables) (told : TestResults) (p : ℕ) (hs : List Header) (own next : Chain) (o : Option Chain) (mark : ℕ)
    → o ≡ Some own → accept hs own ≡ Longer next → IsTriedTo extracts tables told p o mark
    → IsTriedTo extracts tables told p (Some next) (min mark (link_height hs own))
grown_tried extracts tables told p hs own next o mark is e t =
    let k = link_height hs own in
    let long : length next ≡ length hs + (length own - (length own - k)) =
    ap length (grown_is hs own next e) ∙ omega (arith, length-append (reverse hs) (lower k own), length-reverse hs, length-drop (length own - k) own) in
    record {
      on = λ up. (next, (refl, (let le : mark ≤ length own = mine (t.on (omega (arith, up))).0 (t.on (omega (arith, up))).1.0 (t.on (omega (arith, up))).1.1 in omega (arith, long, le))));
      tried = λ other e2 h up low try. (
          let same1 : other ≡ next = cc e2 in
          t.tried own is h up (omega (arith, low))
          (subst (IsToTry extracts tables told p) (ap (λ (c : Chain). hash_at c h) same1 ∙ sym (same_below hs own next h e (omega (arith, low)))) try)
          );
    } where
      mine : (other : Chain) → o ≡ Some other → mark ≤ length other → mark ≤ length own
      mine other e2 le = (let same1 : Some other ≡ Some own = sym e2 ∙ is in let same2 : other ≡ own = cc same1 in subst (λ (c : Chain). mark ≤ length c) same2 le)

-- a chain that stays
kept_tried : (chains next : Chains) (extracts : ExtractTable) (tables : Tables) (told : TestResults) (marks : List ℕ) (p : PeerNo) → IsSome (chains p.0)
    → Puts chains next p (Some (own_of chains p)) → AreTriedTo chains extracts tables told marks → AreTriedTo next extracts tables told marks
kept_tried chains next extracts tables told marks p some puts are q = elim (cases_eq q p.0) [
  | inl e ↦ subst (λ (k : ℕ). IsTriedTo extracts tables told k (next k) (tried_at marks k)) (sym e)
      (subst (λ (o : Option Chain). IsTriedTo extracts tables told p.0 o (tried_at marks p.0)) (some_own (chains p.0) some ∙ sym puts.here) (are p.0))
  | inr ne ↦ subst (λ (o : Option Chain). IsTriedTo extracts tables told q o (tried_at marks q)) (sym (puts.others q ne)) (are q)
]

accepted_by : (chains next : Chains) (extracts : ExtractTable) (tables : Tables) (told : TestResults) (marks : List ℕ) (p : PeerNo) (hs : List Header)
    (a : Accepted) → IsSome (chains p.0) → accept hs (own_of chains p) ≡ a → Puts chains next p (Some (chain_after a (own_of chains p)))
    → AreTriedTo chains extracts tables told marks
    → AreTriedTo next extracts tables told (tried_after marks p.0 (change_of (link_height hs (own_of chains p)) a))
accepted_by chains next extracts tables told marks p hs (Longer more) some is puts are =
    put_tried chains next extracts tables told marks p (Some more) (min (tried_at marks p.0) (link_height hs (own_of chains p))) puts
    (grown_tried extracts tables told p.0 hs (own_of chains p) more (chains p.0) (tried_at marks p.0) (some_own (chains p.0) some) is (are p.0)) are
accepted_by chains next extracts tables told marks p hs NoLonger some is puts are = kept_tried chains next extracts tables told marks p some puts are
accepted_by chains next extracts tables told marks p hs Unlinked some is puts are = kept_tried chains next extracts tables told marks p some puts are
accepted_by chains next extracts tables told marks p hs (Invalid place fault) some is puts are =
    kept_tried chains next extracts tables told marks p some puts are
accepted_by chains next extracts tables told marks p hs TooHigh some is puts are = kept_tried chains next extracts tables told marks p some puts are

pub accepted_tried : (chains next : Chains) (extracts : ExtractTable) (tables : Tables) (told : TestResults) (marks now : List ℕ) (p : PeerNo)
    (hs : List Header) (change : Change) → IsSome (chains p.0)
    → change ≡ change_of (link_height hs (own_of chains p)) (accept hs (own_of chains p))
    → Puts chains next p (Some (chain_after (accept hs (own_of chains p)) (own_of chains p))) → now ≡ tried_after marks p.0 change
    → ∥ AreTriedTo chains extracts tables told marks ∥₁ → ∥ AreTriedTo next extracts tables told now ∥₁
accepted_tried chains next extracts tables told marks now p hs change some answer puts is t =
    ∥∥₁_map t (λ are. subst (AreTriedTo next extracts tables told) (sym (is ∙ ap (tried_after marks p.0) answer))
    (accepted_by chains next extracts tables told marks p hs (accept hs (own_of chains p)) some refl puts are))

-- ---- claims

-- the same claims of a block
claims_back : (extracts : ExtractTable) (before after : Tables) (told : TestResults) (q : ℕ) (block : Hash) → ((k : ℕ) → after k block ≡ before k block)
    → IsToTest extracts after told q block → IsToTest extracts before told q block
claims_back extracts before after told q block is w = record {
  fetched = w.fetched;
  disputed = differ_before before after block is w.disputed;
  claim = w.claim;
  mine = sym (is q) ∙ w.mine;
  untested = w.untested;
}

pub same_tried : (chains : Chains) (extracts : ExtractTable) (before after : Tables) (told : TestResults) (marks : List ℕ)
    → ((q : ℕ) (block : Hash) → after q block ≡ before q block)
    → ∥ AreTriedTo chains extracts before told marks ∥₁ → ∥ AreTriedTo chains extracts after told marks ∥₁
same_tried chains extracts before after told marks is =
    each_tried chains extracts extracts before after told told marks marks (λ q. omega arith)
    (λ q own e h up low. claims_back extracts before after told q (hash_at own h) (λ k. is k (hash_at own h)))

forgotten_back : (extracts : ExtractTable) (before after : Tables) (told : TestResults) (p q : ℕ) (block : Hash) → ForgetsClaims before after p
    → IsToTest extracts after told q block → IsToTest extracts before told q block
forgotten_back extracts before after told p q block forgets w = record {
  fetched = w.fetched;
  disputed = forgotten_differ before after p forgets block w.disputed;
  claim = w.claim;
  mine = claimed_before before after p forgets q block w.claim w.mine;
  untested = w.untested;
}

pub forgotten_tried : (chains next : Chains) (extracts : ExtractTable) (before after : Tables) (told : TestResults) (marks now : List ℕ) (p : PeerNo)
    → Puts chains next p None → ForgetsClaims before after p.0 → now ≡ slice_set marks p.0 0
    → ∥ AreTriedTo chains extracts before told marks ∥₁ → ∥ AreTriedTo next extracts after told now ∥₁
forgotten_tried chains next extracts before after told marks now p puts forgets is t =
    cleared_tried chains next extracts after told marks now p None puts is
    (each_tried chains extracts extracts before after told told marks marks (λ q. omega arith)
    (λ q own e h up low. forgotten_back extracts before after told p.0 q (hash_at own h) forgets) t)

-- a fetched block on which they differ
abbrev pub IsFetchedDispute : ExtractTable → Tables → Hash → Type 0
IsFetchedDispute extracts tables block = IsSome (extracts block) × IsAt tables block Differ

-- p claims more, and the marks fell to below each of those blocks that was fetched and on which they differ
pub added_tried : (chains : Chains) (extracts : ExtractTable) (before after : Tables) (told : TestResults) (marks fell : List ℕ) (p : ℕ)
    (previous : Hash32) (blocks : List Hash) (hashes : List Hash32)
    → ((block : Hash) → after p block ≡ with_claims previous blocks hashes (before p) block)
    → ((q : ℕ) → q ≢ p → (block : Hash) → after q block ≡ before q block)
    → ((q : ℕ) → IsTriedBelow (chains q) (IsFetchedDispute extracts after) blocks (tried_at marks q) (tried_at fell q))
    → ∥ AreTriedTo chains extracts before told marks ∥₁ → ∥ AreTriedTo chains extracts after told fell ∥₁
added_tried chains extracts before after told marks fell p previous blocks hashes is others below =
    each_tried chains extracts extracts before after told told marks fell (λ q. (below q).low)
    (λ q own e h up low w. elim (in_or_out (hash_at own h) blocks) [
      | inl i ↦ absurd ((below q).apart own e h up low i (w.fetched, w.disputed))
      | inr out ↦ claims_back extracts before after told q (hash_at own h) (others_same before after p previous blocks hashes is others (hash_at own h) out) w
    ])

-- where they agree on each of the blocks no mark falls
pub agreed_below : (chain : Option Chain) (extracts : ExtractTable) (tables : Tables) (blocks : List Hash) (mark : ℕ)
    → ((block : Hash) → IsIn block blocks → IsAt tables block Differ → ⊥)
    → IsTriedBelow chain (IsFetchedDispute extracts tables) blocks mark mark
agreed_below chain extracts tables blocks mark agreed = record {
  low = omega arith;
  apart = λ own is h up low i holds. agreed (hash_at own h) i holds.1;
  tight = λ own is lt. absurd (omega (arith, lt));
}

-- ---- extracts and tests

there_before : (extracts : ExtractTable) (at : Hash) (e : List TxExtract) (block : Hash) → IsSome (with_extract at e extracts block)
    → (at ≡ block) ⊎ IsSome (extracts block)
there_before extracts at e block there = by (same at block) refl there where
  by : (b : Bool) → same at block ≡ b → IsSome (if b then Some (unwrap_or (extracts block) e) else extracts block)
      → (at ≡ block) ⊎ IsSome (extracts block)
  by true is there = inl (same_true at block is)
  by false is there = inr there

fetched_before : (extracts more : ExtractTable) (at : Hash) (e : List TxExtract) (result : Result (Unit {0}) NoMemory)
    → OnOk result (IsSameTable more (with_extract at e extracts)) → OnErr result (IsSameTable more extracts)
    → (block : Hash) → IsSome (more block) → (at ≡ block) ⊎ IsSome (extracts block)
fetched_before extracts more at e (Ok u) ok err block there =
    there_before extracts at e block (subst (λ (o : Option (List TxExtract)). IsSome o) (ok block) there)
fetched_before extracts more at e (Err n) ok err block there = inr (subst (λ (o : Option (List TxExtract)). IsSome o) (err block) there)

abbrev pub IsDispute : Tables → Hash → Type 0
IsDispute tables block = IsAt tables block Differ

-- an extract is put in, where the marks fell to below its block if they differ on it
pub put_in_tried : (chains : Chains) (extracts more : ExtractTable) (tables : Tables) (told : TestResults) (marks fell : List ℕ) (at : Hash)
    (e : List TxExtract) (result : Result (Unit {0}) NoMemory)
    → OnOk result (IsSameTable more (with_extract at e extracts)) → OnErr result (IsSameTable more extracts)
    → ((q : ℕ) → IsTriedBelow (chains q) (IsDispute tables) (at ∷ []) (tried_at marks q) (tried_at fell q))
    → ∥ AreTriedTo chains extracts tables told marks ∥₁ → ∥ AreTriedTo chains more tables told fell ∥₁
put_in_tried chains extracts more tables told marks fell at e result ok err below =
    each_tried chains extracts more tables tables told told marks fell (λ q. (below q).low)
    (λ q own is h up low w. elim (fetched_before extracts more at e result ok err (hash_at own h) w.fetched) [
      | inl here ↦ absurd ((below q).apart own is h up low (inl (sym here)) w.disputed)
      | inr before ↦ record { fetched = before; disputed = w.disputed; claim = w.claim; mine = w.mine; untested = w.untested }
    ])

untested_if : (b lacks : Bool) (o : Option Bool) → (if b then Some (found_too o lacks) else o) ≡ None → o ≡ None
untested_if true lacks o e = cc e
untested_if false lacks o e = e

untested_before : (told now : TestResults) (at of : Hash) (lacks : Bool) (result : Result (Unit {0}) NoMemory)
    → OnOk result (IsSameTold now (with_test at of lacks told)) → OnErr result (IsSameTold now told)
    → (block filter : Hash) → now block filter ≡ None → told block filter ≡ None
untested_before told now at of lacks (Ok u) ok err block filter e =
    untested_if (same at block && same of filter) lacks (told block filter) (sym (ok block filter) ∙ e)
untested_before told now at of lacks (Err n) ok err block filter e = sym (err block filter) ∙ e

-- a filter was tested
pub told_tried : (chains : Chains) (extracts : ExtractTable) (tables : Tables) (told now : TestResults) (marks : List ℕ) (at of : Hash) (lacks : Bool)
    (result : Result (Unit {0}) NoMemory)
    → OnOk result (IsSameTold now (with_test at of lacks told)) → OnErr result (IsSameTold now told)
    → ∥ AreTriedTo chains extracts tables told marks ∥₁ → ∥ AreTriedTo chains extracts tables now marks ∥₁
told_tried chains extracts tables told now marks at of lacks result ok err =
    each_tried chains extracts extracts tables tables told now marks marks (λ q. omega arith)
    (λ q own is h up low w. record {
      fetched = w.fetched;
      disputed = w.disputed;
      claim = w.claim;
      mine = w.mine;
      untested = untested_before told now at of lacks result ok err (hash_at own h) w.claim.hash.0 w.untested;
    })
