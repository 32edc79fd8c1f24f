-- How those are closed that claim a filter which omits something.
use Rattle.std.proofs.Common.{◌≡◌, ◌≢◌, ◌⊎◌, inl, inr, ℕ, suc, slice_index, ◌<◌, ◌≤◌, ◌+◌, List, [], ◌∷◌, ◌++◌, length, map, set, true, refl, sym, ◌∙◌, ap, subst, arith, append_assoc}
use Rattle.std.specs.List.{All}
use Rattle.std.specs.List.Sorted.{IsStrictlyIncreasing}
use Rattle.std.proofs.lemmas.Bool.{cases_eq}
use Rattle.std.proofs.lemmas.List.{append-nil, length-set, map-append}
use Rattle.std.proofs.lemmas.List.Elements.{All-nil}
use Rattle.cf_bytes.specs.declared.peer.PeerNo.{PeerNo}
use Rattle.cf_headers.specs.Chain.{Hash, IsIn}
use Rattle.cf_peer.specs.declared.act.Act.{Act}
use Rattle.cf_peer.specs.declared.peer.Cause.TheVariants.{Omits}
use Rattle.cf_peer.specs.Asking.{claims, counted, hash_claimed}
use Rattle.cf_peer.specs.Trail.{Part, Trail, Lost as LostItem, is_connected, part_of, with_item}
use Rattle.cf_wires.specs.declared.event.Event.TheVariants.{Closed}
use Rattle.cf_wires.specs.declared.event.Mark.TheVariants as mark
use Rattle.cf_wires.specs.Log.{Log, tally_of}
use Rattle.cf_sync.specs.Blame.{HasOmitted}
use Rattle.cf_sync.specs.Fetching.{IsOmitting, Rule}
use Rattle.cf_holds.specs.HeldTests.{KeepsTrials}
use Rattle.cf_sync.proofs.Blamed.{tested_stays}
use Rattle.cf_sync.proofs.Grows.{fetched_stays}
use Rattle.cf_holds.proofs.KeptAims.{trials_stay}
use Rattle.cf_sync.proofs.Omitted.{off_unfailed}
use Rattle.cf_place.specs.declared.place.Place.{Place}
use Rattle.cf_place.specs.declared.place.Loss.TheVariants.{Closed as ClosedFor}
use Rattle.cf_place.specs.Places.{Allowed, after, is_here, place_at}
use Rattle.cf_place.specs.Standing.{IsLost, IsReplied, IsRepliedFirst, IsRepliedIn}
use Rattle.cf_client.specs.Shutting.{IsClaimant, ShutsBelow, ShutsOne, shut_act, shut_place}
use Rattle.cf_client.specs.Steps.{Desk}
use Rattle.cf_client.proofs.Ordering.{below_push, rising_none, rising_push, all_higher}
use Rattle.cf_client.proofs.Settled.{set_other}
use Rattle.cf_client.proofs.Standing.{closed_here, closed_others, omitted_acts, set_is}

-- ---- numbers that rise

rising_tail : (n : ℕ) (ns : List ℕ) → IsStrictlyIncreasing (n ∷ ns) → IsStrictlyIncreasing ns
rising_tail n ns rising k lt =
    let same : suc k + 1 ≡ suc (k + 1) = omega arith in
    subst (λ (j : ℕ). slice_index ns k < slice_index (n ∷ ns) j) same (rising (suc k) (omega (arith, lt)))

rising_above : (n : ℕ) (ns : List ℕ) → IsStrictlyIncreasing (n ∷ ns) → (x : ℕ) → IsIn x ns → n < x
rising_above n [] rising x i = absurd i
rising_above n (y ∷ ns) rising x (inl this) = (let first = rising 0 (omega arith) in omega (arith, first, this))
rising_above n (y ∷ ns) rising x (inr later) =
    (let first = rising 0 (omega arith) in let rest = rising_above y ns
    (rising_tail n (y ∷ ns) rising) x later in omega (arith, first, rest))

pub number_in : (q : ℕ) (ns : List ℕ) → IsIn q ns ⊎ (IsIn q ns → ⊥)
number_in q [] = inr (λ i. i)
number_in q (n ∷ ns) = elim (cases_eq q n) [
  | inl this ↦ inl (inl this)
  | inr other ↦ elim (number_in q ns) [
    | inl i ↦ inl (inr i)
    | inr out ↦ inr (λ i. elim i [ inl this ↦ other this | inr later ↦ out later ])
  ]
]

in_pushed : (q n : ℕ) (ns : List ℕ) → IsIn q (ns ++ n ∷ []) → IsIn q ns ⊎ (q ≡ n)
in_pushed q n [] (inl this) = inr this
in_pushed q n [] (inr none) = absurd none
in_pushed q n (x ∷ ns) (inl this) = inl (inl this)
in_pushed q n (x ∷ ns) (inr later) = elim (in_pushed q n ns later) [ inl i ↦ inl (inr i) | inr last ↦ inr last ]

pushed_in : (q n : ℕ) (ns : List ℕ) → IsIn q ns ⊎ (q ≡ n) → IsIn q (ns ++ n ∷ [])
pushed_in q n [] (inl i) = absurd i
pushed_in q n [] (inr last) = inl last
pushed_in q n (x ∷ ns) (inl (inl this)) = inl this
pushed_in q n (x ∷ ns) (inl (inr i)) = inr (pushed_in q n ns (inl i))
pushed_in q n (x ∷ ns) (inr last) = inr (pushed_in q n ns (inr last))

pub in_below : (n : ℕ) (ns : List ℕ) → All (λ (k : ℕ). k < n) ns → (q : ℕ) → IsIn q ns → q < n
in_below n [] below q i = absurd i
in_below n (x ∷ ns) below q (inl this) = (let first = below 0 0 (omega arith) in omega (arith, first, this))
in_below n (x ∷ ns) below q (inr later) = in_below n ns (λ k d lt. below (suc k) d (omega (arith, lt))) q later

-- ---- along the numbers

pub shuts_none : (block filter : Hash) (d : Desk) → ShutsBelow 0 block filter d d
shuts_none block filter d = record {
  closed = [];
  added = sym (append-nil d.acts);
  rising = rising_none;
  below = All-nil (λ (q : ℕ). q < 0);
  claimants = λ q i. absurd i;
  all = λ q lt is. absurd (omega (arith, lt));
  gone = λ q i. absurd i;
  kept = λ q out. (refl, refl, λ at. refl, λ at. refl, λ at. refl);
  count = refl;
  watch = refl;
  table = λ hash. refl;
  verdicts = λ at hash. refl;
  trials = record { paid = λ hash. refl; told = λ at of. refl; aims = λ q. refl };
}

-- who is met at its number is as it was, since only lower ones were closed
claimant_back : (i : ℕ) (block filter : Hash) (before d : Desk) → (so_far : ShutsBelow i block filter before d)
    → IsClaimant d block filter i → IsClaimant before block filter i
claimant_back i block filter before d so_far is =
    let same = so_far.kept i (λ j. (let lt = in_below i so_far.closed so_far.below i j in absurd (omega (arith, lt))))
    in
    record {
      here = ap is_here (sym same.0) ∙ is.here;
      claimed = record {
        claim = is.claimed.claim;
        mine = sym (same.2 block)
            ∙ is.claimed.mine;
        this = is.claimed.this;
      };
    }

claimant_on : (i : ℕ) (block filter : Hash) (before d : Desk) → (so_far : ShutsBelow i block filter before d)
    → IsClaimant before block filter i → IsClaimant d block filter i
claimant_on i block filter before d so_far is =
    let same = so_far.kept i (λ j. (let lt = in_below i so_far.closed so_far.below i j in absurd (omega (arith, lt))))
    in
    record {
      here = ap is_here same.0 ∙ is.here;
      claimed = record { claim = is.claimed.claim; mine = same.2 block ∙ is.claimed.mine; this = is.claimed.this };
    }

pub shuts_next : (i : ℕ) (block filter : Hash) (before d now : Desk) → i < length before.places
    → (so_far : ShutsBelow i block filter before d) → ShutsOne i block filter d now
    → ShutsBelow (i + 1) block filter before now
shuts_next i block filter before d now lt so_far (inl (not_one, same)) = subst
    (ShutsBelow (i + 1) block filter before) (sym same) (record {
      closed = so_far.closed;
      added = so_far.added;
      rising = so_far.rising;
      below = all_higher so_far.closed i (i + 1) (omega arith) so_far.below;
      claimants = so_far.claimants;
      all = λ q less is. elim (cases_eq q i) [
        | inl this ↦ absurd (not_one (claimant_on i block filter before d so_far (subst (IsClaimant before block filter)
            this is)))
        | inr other ↦ so_far.all q (omega (arith, less, other)) is
      ];
      gone = so_far.gone;
      kept = so_far.kept;
      count = so_far.count;
      watch = so_far.watch;
      table = so_far.table;
      verdicts = so_far.verdicts;
      trials = so_far.trials;
    })
shuts_next i block filter before d now lt so_far (inr (one, put, places, acts)) = record {
  closed = so_far.closed ++ i ∷ [];
  added = acts ∙ ap (λ (xs : List Act). xs ++ shut_act i ∷ []) so_far.added
      ∙ append_assoc before.acts (map shut_act so_far.closed) (shut_act i ∷ [])
      ∙ ap (λ (xs : List Act). before.acts ++ xs) (sym (map-append shut_act so_far.closed (i ∷ [])));
  rising = rising_push so_far.closed i so_far.rising so_far.below;
  below = below_push so_far.closed i so_far.below;
  claimants = λ q j. elim (in_pushed q i so_far.closed j) [
    | inl old ↦ so_far.claimants q old
    | inr this ↦ subst (IsClaimant before block filter) (sym this) (claimant_back i block filter before d so_far one)
  ];
  all = λ q less is. pushed_in q i so_far.closed (elim (cases_eq q i) [
    | inl this ↦ inr this
    | inr other ↦ inl (so_far.all q (omega (arith, less, other)) is)
  ]);
  gone = λ q j. elim (cases_eq q i) [
    | inl this ↦ (
      ap (λ (ps : List Place). place_at ps q) places ∙ ap (λ (k : ℕ). place_at (set d.places i shut_place) k) this
          ∙ set_is d.places i shut_place (omega (arith, lt, so_far.count)),
      ap now.seen.chains this ∙ put.here,
      λ at. ap (λ (k : ℕ). now.seen.claims k at) this ∙ put.claims at,
      λ at. ap (λ (k : ℕ). now.seen.opens.filters k at) this ∙ put.opens.filters at,
      λ at. ap (λ (k : ℕ). now.seen.opens.blocks k at) this ∙ put.opens.blocks at,
    )
    | inr other ↦ elim (in_pushed q i so_far.closed j) [
      | inr this ↦ absurd (other this)
      | inl old ↦ (
          let was = so_far.gone q old in (
            ap (λ (ps : List Place). place_at ps q) places ∙ set_other d.places i q shut_place other ∙ was.0,
            put.others q other ∙ was.1,
            λ at. put.claims_others q other at ∙ was.2 at,
            λ at. put.opens.others.filters q other at ∙ was.3 at,
            λ at. put.opens.others.blocks q other at ∙ was.4 at,
          )
          )
    ]
  ];
  kept = λ q out.
      let other : q ≢ i = λ this. out (pushed_in q i so_far.closed (inr this)) in
      let was = so_far.kept q (λ j. out (pushed_in q i so_far.closed (inl j))) in (
        ap (λ (ps : List Place). place_at ps q) places ∙ set_other d.places i q shut_place other ∙ was.0,
        put.others q other ∙ was.1,
        λ at. put.claims_others q other at ∙ was.2 at,
        λ at. put.opens.others.filters q other at ∙ was.3 at,
        λ at. put.opens.others.blocks q other at ∙ was.4 at,
      );
  count = ap (λ (ps : List Place). length ps) places ∙ length-set d.places i shut_place ∙ so_far.count;
  watch = put.stays.watch ∙ so_far.watch;
  table = λ hash. sym (put.stays.table hash) ∙ so_far.table hash;
  verdicts = λ at hash. put.stays.verdicts at hash ∙ so_far.verdicts at hash;
  trials = record {
    paid = λ hash. put.stays.trials.paid hash ∙ so_far.trials.paid hash;
    told = λ at of. put.stays.trials.told at of ∙ so_far.trials.told at of;
    aims = λ q. put.stays.trials.aims q ∙ so_far.trials.aims q;
  };
}

-- ---- along a log

-- a peer may be closed for what it omits
pub record IsGuilty (log : Log) (q : ℕ) : Type 0 where
  pub number : q ≤ (tally_of log).dials
  pub omits : IsOmitting log q
  pub replied : IsRepliedIn log q

-- and it still may once another was closed
omitting_on : (c : PeerNo) (log : Log) (q : ℕ) → part_of (Closed c ∷ log) q ≡ part_of log q → IsOmitting log q
    → IsOmitting (Closed c ∷ log) q
omitting_on c log q same o = record {
  there = ap (λ (x : Part). is_connected x.trail) same ∙ o.there;
  block = o.block;
  hash = o.hash;
  claimed = ap (λ (x : Part). hash_claimed (claims (counted x.trail)) o.block) same ∙ o.claimed;
  tested = record {
    filter = o.tested.filter;
    tested = tested_stays (Closed c) log o.tested.filter o.tested.tested;
    of_block = o.tested.of_block;
    this = o.tested.this;
  };
  omits = record {
    body = o.omits.body;
    fetched = fetched_stays (Closed c) log o.omits.body o.omits.fetched;
    of_block = o.omits.of_block;
    lacking = o.omits.lacking;
  };
}

guilty_on : (c : PeerNo) (log : Log) (q : ℕ) → q ≢ c.0 → IsGuilty log q → IsGuilty (Closed c ∷ log) q
guilty_on c log q other g =
    let same = closed_others c q (part_of log q) other in
    record {
      number = g.number;
      omits = omitting_on c log q same g.omits;
      replied = elim g.replied [
        | inl all ↦ inl (subst (λ (x : Part). IsReplied x.trail) (sym same) all)
        | inr first ↦ inr (
          omitting_on c log q same first.0,
          subst (λ (x : Part). IsRepliedFirst x.trail)
              (sym same) first.1,
        )
      ];
    }

-- all of them are closed, one after another
pub record AreShut (rule : Rule) (qs : List ℕ) (log : Log) : Type 0 where
  pub allowed : Allowed rule (map shut_act qs) log
  pub here : (q : ℕ) → IsIn q qs → part_of (after (map shut_act qs) log) q ≡ with_item (LostItem mark.Closed)
      (part_of log q)
  pub others : (q : ℕ) → (IsIn q qs → ⊥) → part_of (after (map shut_act qs) log) q ≡ part_of log q
  pub dials : (tally_of (after (map shut_act qs) log)).dials ≡ (tally_of log).dials
  pub trials : KeepsTrials log (after (map shut_act qs) log)
  pub omitted : (q : ℕ) → IsIn q qs → HasOmitted (after (map shut_act qs) log) q

pub are_shut : (rule : Rule) (qs : List ℕ) (log : Log) → IsStrictlyIncreasing qs
    → ((q : ℕ) → IsIn q qs → IsGuilty log q) → AreShut rule qs log
are_shut rule [] log rising guilty = record {
  allowed = tt;
  here = λ q i. absurd i;
  others = λ q out. refl;
  dials = refl;
  trials = λ trials holds. holds;
  omitted = λ q i. absurd i;
}
are_shut rule (n ∷ qs) log rising guilty =
    let c : PeerNo = record { 0 = n } in
    let above = rising_above n qs rising in
    let more = are_shut rule qs (Closed c ∷ log) (rising_tail n qs rising)
    (λ q i. guilty_on c log q (λ same. (let lt = above q i in absurd (omega (arith, lt, same))))
    (guilty q (inr i))) in
    let first = guilty n (inl refl) in
    record {
      allowed = ((first.number, inr (refl, first.omits), first.replied, λ right omits. refl), more.allowed);
      here = λ q i. elim i [
        | inl this ↦ more.others q (λ j. (let lt = above q j in absurd (omega (arith, lt, this))))
            ∙ subst (λ (k : ℕ). part_of (Closed c ∷ log) k ≡ with_item (LostItem mark.Closed) (part_of log k))
            (sym this) (closed_here c (part_of log n))
        | inr later ↦ more.here q later ∙ ap (with_item (LostItem mark.Closed))
            (closed_others c q (part_of log q) (λ same. (let lt = above q later in absurd (omega (arith, lt, same)))))
      ];
      others = λ q out. more.others q (λ j. out (inr j)) ∙ closed_others c q (part_of log q) (λ same. out (inl same));
      dials = more.dials;
      trials = λ trials holds. more.trials trials (trials_stay (Closed c) log trials tt tt holds);
      omitted = λ q i. elim i [
        | inl this ↦ omitted_acts (map shut_act qs) (Closed c ∷ log) q
            (inl (sym this, subst (IsOmitting log) (sym this) first.omits))
        | inr later ↦ more.omitted q later
      ];
    }

-- and nobody else has omitted something by that
pub unomitted_shuts : (qs : List ℕ) (log : Log) (q : ℕ) → (IsIn q qs → ⊥) → HasOmitted (after (map shut_act qs) log) q
    → HasOmitted log q
unomitted_shuts [] log q out is = is
unomitted_shuts (n ∷ qs) log q out is =
    elim (unomitted_shuts qs (Closed (record { 0 = n }) ∷ log) q (λ j. out (inr j)) is) [
      | inl now ↦ absurd (out (inl (sym now.0)))
      | inr before ↦ before
    ]

-- how one that was connected is lost then
pub shut_lost : (t : Trail) → is_connected t ≡ true → IsLost (ClosedFor Omits) (LostItem mark.Closed ∷ t)
shut_lost t on = record { off = refl; by = inr (off_unfailed t on, inl (on, inl refl)) }
