-- What one look at the rows of a block tells.
use Rattle.std.proofs.Common.{◌≡◌, ◌≢◌, inl, inr, ℕ, ◌<◌, ◌^◌, Bool, true, false, ◌&&◌, ◌||◌, if◌then◌else◌, List, [], ◌∷◌, get_or, Option, Some, None, refl, sym, ◌∙◌, ap, subst}
use Rattle.std.specs.List.{Contains}
use Rattle.std.specs.Prelude.{MatchOption, OnOk, Result, Ok, Err}
use Rattle.std.proofs.lemmas.Bool.{cases_eq}
use Rattle.cf_bytes.specs.declared.hash.Hash32.{Hash32}
use Rattle.cf_filter.specs.Filter.{filter_header_of}
use Rattle.cf_headers.specs.Chain.{Hash}
use Rattle.cf_headers.specs.Rules.{same}
use Rattle.cf_headers.specs.Nodes.{Names, is_found}
use Rattle.cf_headers.proofs.Pools.{in_rest, none_left}
use Rattle.cf_dispute.specs.declared.claim.At.TheVariants.{Differ}
use Rattle.cf_dispute.specs.declared.claim.Claim.{Claim}
use Rattle.cf_dispute.specs.declared.rows.Row.{Row}
use Rattle.cf_dispute.specs.declared.rows.Look.{Look}
use Rattle.cf_dispute.specs.Claims.{Table, Claims, IsAt, claim_of, with_claim}
use Rattle.cf_dispute.specs.Rows.{has, RowsByName, IsTable, IsClaimed, IsRow, IsRowOf, HasNone, IsOfBlock, IsMade, IsLook, no_look, seen_of, seen_at, tables_by}
use Rattle.cf_dispute.proofs.PutIn.{same_true, same_from}
use Rattle.cf_dispute.proofs.RowLaws.{block_same, looked_start, looked_on, looked_none, at_start, no_row, row_claims, claim_row, by_places, off_same}

-- the claim that is made of a hash
pub made_claim : (hash header before : Hash32) → header.0 ≡ filter_header_of hash.0 before.0 → record { hash = hash; header = header } ≡ claim_of hash before
made_claim hash header before e = ap (λ (x : List ℕ). let c : Claim = record { hash = hash; header = record { 0 = x } } in c) e

pub look_start : (rows : RowsByName) (names : Names) (p : ℕ) (block : Hash32) (claim : Claim) (r : List (Hash32 × ℕ)) → IsTable rows names
    → ((n : ℕ) → n < 2 ^ 32 → is_found names block n → Contains r (block, n)) → IsLook rows p block claim no_look r
look_start rows names p block claim r t complete = record {
  found = tt;
  out = λ off. looked_start rows names p block r t complete;
  agreed = λ off n row is eb. inr (at_start rows names block r t complete n row is eb);
  differs = λ on. absurd (cc on);
  bare = λ e. at_start rows names block r t complete;
  of_block = tt;
}

same_row : (rows : RowsByName) (x : Hash32 × ℕ) (n : ℕ) (a b : Row) → rows x.1 ≡ Some a → (b.block, n) ≡ x → rows n ≡ Some b → b ≡ a
same_row rows x n a b at it is =
    let both : Some b ≡ Some a = sym is ∙ ap rows (ap (λ (q : Hash32 × ℕ). q.1) it) ∙ at in
    cc

look_skip : (rows : RowsByName) (p : ℕ) (block : Hash32) (claim : Claim) (look : Look) (x : Hash32 × ℕ) (rest : List (Hash32 × ℕ))
    → ((row : Row) → rows x.1 ≡ Some row → row.block.0 ≡ block.0 → ⊥) → IsLook rows p block claim look (x ∷ rest) → IsLook rows p block claim look rest
look_skip rows p block claim look x rest miss l = record {
  found = l.found;
  out = λ off. looked_on rows p block.0 x rest (l.out off) (λ row is eb h. miss row is eb);
  agreed = λ off n row is eb. elim (l.agreed off n row is eb) [
    | inl e ↦ inl e
    | inr later ↦ elim (in_rest x (row.block, n) rest later) [
      | inr more ↦ inr more
      | inl it ↦ absurd (miss row (ap rows (sym (ap (λ (q : Hash32 × ℕ). q.1) it)) ∙ is) eb)
    ]
  ];
  differs = l.differs;
  bare = λ none n row is eb. elim (in_rest x (row.block, n) rest (l.bare none n row is eb)) [
    | inr later ↦ later
    | inl it ↦ absurd (miss row (ap rows (sym (ap (λ (q : Hash32 × ℕ). q.1) it)) ∙ is) eb)
  ];
  of_block = l.of_block;
}

or_none : (a b : Bool) → (a || b) ≡ false → (a ≡ false) × (b ≡ false)
or_none false false e = (refl, refl)
or_none false true e = absurd (cc e)
or_none true b e = absurd (cc e)

true_not : (b : Bool) → b ≡ true → b ≡ false → ⊥
true_not b on off = (let e : true ≡ false = sym on ∙ off in cc)

-- a row of this hash and the header before it claims what is made of them
made_here : (row : Row) (before hash : Hash32) → IsMade row → row.claim.hash ≡ hash → row.before ≡ before → row.claim ≡ claim_of hash before
made_here row before hash made eh ep = made ∙ ap (λ (x : Hash32). claim_of x row.before) eh ∙ ap (λ (x : Hash32). claim_of hash x) ep

found_on : (rows : RowsByName) (block before hash : Hash32) (n : ℕ) (row : Row) (look : Option (ℕ × Hash32)) (h d : Bool) → IsMade row → rows n ≡ Some row → row.block.0 ≡ block.0
    → same row.claim.hash.0 hash.0 ≡ h → same row.before.0 before.0 ≡ d → MatchOption look (Unit {0}) (λ f. IsRow rows block (claim_of hash before) f.0 × (f.1 ≡ (claim_of hash before).header))
    → MatchOption (if h && d then Some (n, row.claim.header) else look) (Unit {0}) (λ f. IsRow rows block (claim_of hash before) f.0 × (f.1 ≡ (claim_of hash before).header))
found_on rows block before hash n row look true true made is eb eh ed l =
    let one : row.claim ≡ claim_of hash before = made_here row before hash made (block_same row.claim.hash hash (same_true row.claim.hash.0 hash.0 eh)) (block_same row.before before (same_true row.before.0 before.0 ed)) in
    ((row, (is, (block_same row.block block eb, one))), ap (λ (c : Claim). c.header) one)
found_on rows block before hash n row look true false made is eb eh ed l = l
found_on rows block before hash n row look false d made is eb eh ed l = l

agreed_if : (h differ : Bool) → (if h then differ else true) ≡ false → (h ≡ true) × (differ ≡ false)
agreed_if true differ e = (refl, e)
agreed_if false differ e = absurd (cc e)

look_row : (rows : RowsByName) (names : Names) (p : ℕ) (block before hash : Hash32) (look : Look) (x : Hash32 × ℕ) (rest : List (Hash32 × ℕ)) (row : Row) → IsTable rows names
    → rows x.1 ≡ Some row → row.block.0 ≡ block.0 → IsLook rows p block (claim_of hash before) look (x ∷ rest) → IsLook rows p block (claim_of hash before) (seen_of row look x.1 p before hash) rest
look_row rows names p block before hash look x rest row t here eb l = record {
  found = found_on rows block before hash x.1 row look.found (same row.claim.hash.0 hash.0) (same row.before.0 before.0) (t.made x.1 row here) here eb refl refl l.found;
  out = λ off.
      let w = or_none look.is_in (has row.peers p) off in
      looked_on rows p block.0 x rest (l.out w.0) (λ other is b h.
      let one : other ≡ row = (let both : Some other ≡ Some row = sym is ∙ here in cc) in
      true_not (has row.peers p) (ap (λ (r : Row). has r.peers p) (sym one) ∙ h) w.1);
  agreed = λ off n other is b.
      let w = agreed_if (same row.claim.hash.0 hash.0) look.differ off in
      elim (l.agreed w.1 n other is b) [
        | inl e ↦ inl e
        | inr later ↦ elim (in_rest x (other.block, n) rest later) [
          | inr more ↦ inr more
          | inl it ↦ inl (ap (λ (r : Row). r.claim.hash) (same_row rows x n row other here it is) ∙ block_same row.claim.hash hash (same_true row.claim.hash.0 hash.0 w.0))
        ]
      ];
  differs = by (same row.claim.hash.0 hash.0) refl;
  bare = λ none. absurd (cc none);
  of_block = (row, (here, block_same row.block block eb));
}
  where
    by : (h : Bool) → same row.claim.hash.0 hash.0 ≡ h → (if h then look.differ else true) ≡ true → (other : Hash32) × (((n : ℕ) × IsRowOf rows block.0 other n) × (other ≢ hash))
    by true e on = l.differs on
    by false e on = (row.claim.hash, ((x.1, (row, (here, (eb, refl)))), λ f. off_same row.claim.hash.0 hash.0 false e refl (ap (λ (z : Hash32). z.0) f)))

pub look_on : (rows : RowsByName) (names : Names) (p : ℕ) (block before hash : Hash32) (look : Look) (x : Hash32 × ℕ) (rest : List (Hash32 × ℕ)) → IsTable rows names
    → IsLook rows p block (claim_of hash before) look (x ∷ rest) → IsLook rows p block (claim_of hash before) (seen_at look x.1 p block before hash (rows x.1)) rest
look_on rows names p block before hash look x rest t l = by (rows x.1) refl where
  by : (o : Option Row) → rows x.1 ≡ o → IsLook rows p block (claim_of hash before) (seen_at look x.1 p block before hash o) rest
  by None e = look_skip rows p block (claim_of hash before) look x rest (λ row is eb. no_row (rows x.1) row (sym e) is) l
  by (Some row) e = by_block (same row.block.0 block.0) refl where
    by_block : (b : Bool) → same row.block.0 block.0 ≡ b → IsLook rows p block (claim_of hash before) (if b then seen_of row look x.1 p before hash else look) rest
    by_block true eb = look_row rows names p block before hash look x rest row t e (same_true row.block.0 block.0 eb) l
    by_block false eb =
        look_skip rows p block (claim_of hash before) look x rest (λ other is b.
        let one : other ≡ row = (let both : Some other ≡ Some row = sym is ∙ e in cc) in
        off_same row.block.0 block.0 false eb refl (ap (λ (r : Row). r.block.0) (sym one) ∙ b)) l

-- where a look tells so, the peer claims nothing of the block
pub look_out : (rows : RowsByName) (p : ℕ) (block : Hash32) (claim : Claim) (look : Look) → IsLook rows p block claim look [] → look.is_in ≡ false → IsClaimed rows p block.0 None
look_out rows p block claim look l off = looked_none rows p block.0 (l.out off)

-- the row that was found
pub look_found : (rows : RowsByName) (p : ℕ) (block : Hash32) (claim : Claim) (look : Look) (f : ℕ × Hash32) → IsLook rows p block claim look [] → look.found ≡ Some f → IsRow rows block claim f.0 × (f.1 ≡ claim.header)
look_found rows p block claim look f l e = subst (λ (o : Option (ℕ × Hash32)). MatchOption o (Unit {0}) (λ g. IsRow rows block claim g.0 × (g.1 ≡ claim.header))) e l.found

-- a row of the block, or that there is none
pub look_other : (rows : RowsByName) (p : ℕ) (block : Hash32) (claim : Claim) (look : Look) → IsLook rows p block claim look []
    → MatchOption look.row (HasNone rows block) (IsOfBlock rows block)
look_other rows p block claim look l = by look.row refl where
  by : (o : Option ℕ) → look.row ≡ o → MatchOption o (HasNone rows block) (IsOfBlock rows block)
  by None e = λ n row is eb. none_left (row.block, n) (l.bare e n row is (ap (λ (x : Hash32). x.0) eb))
  by (Some n) e = subst (λ (o : Option ℕ). MatchOption o (Unit {0}) (IsOfBlock rows block)) e l.of_block

-- ---- once the claim is put

with_here : (block : Hash) (claim : Claim) (table : Table) → with_claim block claim table block ≡ Some claim
with_here block claim table = ap (λ (b : Bool). let o : Option Claim = if b then Some claim else table block in o) (same_from block block refl)

some_claim : (a b : Claim) → Some a ≡ Some b → a ≡ b
some_claim a b e = cc

none_some : (o : Option Claim) (claim : Claim) → o ≡ None → o ≡ Some claim → ⊥
none_some None claim none some = cc some
none_some (Some c) claim none some = cc none

pub agreed_after : (slots new : List (Option Row)) (p : ℕ) (block : Hash32) (claim : Claim) (look : Look) → IsLook (λ n. get_or slots n None) p block claim look [] → look.differ ≡ false
    → ((b : Hash) → tables_by new p b ≡ with_claim block.0 claim (tables_by slots p) b) → ((q : ℕ) → q ≢ p → (b : Hash) → tables_by new q b ≡ tables_by slots q b)
    → IsAt (tables_by new) block.0 Differ → ⊥
agreed_after slots new p block claim look l off put others d = d.1.1.1.1.2 (each d.0 d.1.1.0 d.1.1.1.1.0 ∙ sym (each d.1.0 d.1.1.1.0 d.1.1.1.1.1)) where
  each : (q : ℕ) (h : Hash32) → Claims (tables_by new) q block.0 h → h ≡ claim.hash
  each q h c = elim (cases_eq q p) [
    | inl e ↦
        let is : Some c.0 ≡ Some claim = sym c.1 ∙ ap (λ (k : ℕ). tables_by new k block.0) e ∙ put block.0 ∙ with_here block.0 claim (tables_by slots p) in
        sym c.2 ∙ ap (λ (x : Claim). x.hash) (some_claim c.0 claim is)
    | inr ne ↦
        let w = claim_row (λ n. get_or slots n None) (tables_by slots) block.0 q (tables_by slots q block.0) c.0 (by_places slots q block.0) (sym (others q ne block.0) ∙ c.1) in
        elim (l.agreed off w.0 w.1.0 w.1.1.0 w.1.1.1.0) [
          | inl e ↦ sym c.2 ∙ sym w.1.1.1.1 ∙ e
          | inr none ↦ absurd (none_left (w.1.0.block, w.0) none)
        ]
  ]

pub differs_after : (slots new : List (Option Row)) (names : Names) (p : ℕ) (block : Hash32) (claim : Claim) (look : Look) → IsTable (λ n. get_or slots n None) names → IsLook (λ n. get_or slots n None) p block claim look []
    → look.differ ≡ true → tables_by slots p block.0 ≡ None
    → ((b : Hash) → tables_by new p b ≡ with_claim block.0 claim (tables_by slots p) b) → ((q : ℕ) → q ≢ p → (b : Hash) → tables_by new q b ≡ tables_by slots q b)
    → IsAt (tables_by new) block.0 Differ
differs_after slots new names p block claim look t l on free put others =
    let d = l.differs on in
    let w = row_claims (λ n. get_or slots n None) names (tables_by slots) block.0 d.0 d.1.0.0 t (λ q b. by_places slots q b) d.1.0.1 in
    let ne : w.0 ≢ p = λ e. none_some (tables_by slots p block.0) w.1.0 free (ap (λ (k : ℕ). tables_by slots k block.0) (sym e) ∙ w.1.1) in
    let mine : Claims (tables_by new) p block.0 claim.hash = (claim, put block.0 ∙ with_here block.0 claim (tables_by slots p), refl) in
    let yours : Claims (tables_by new) w.0 block.0 d.0 = (w.1.0, others w.0 ne block.0 ∙ w.1.1, w.1.2) in
    (p, (w.0, (claim.hash, (d.0, (mine, yours, λ e. d.1.1 (sym e))))))

pub on_ok : {A B P Q : Type 0} (r : Result A B) → (P → Q) → OnOk r P → OnOk r Q
on_ok (Ok a) f h = f h
on_ok (Err e) f h = tt
