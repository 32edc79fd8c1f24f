-- A step over a source.
use Rattle.std.proofs.Common.{◌≡◌, ℕ, zero, suc, ◌≤◌, ◌+◌, ◌⊎◌, inl, inr, Bool, true, false, ◌&&◌, ◌==◌, List, [], ◌∷◌, ◌++◌, length, Option, Some, None, Result, Ok, Err, refl, sym, ◌∙◌, ap, subst, arith, le-ltb, length-append}
use Rattle.std.specs.Prelude.{take, option_map, IfOk, IfSome, if◌then◌else◌, nat_le, nat_lt, drop, ◌-◌}
use Rattle.cf_headers.specs.Chain.{height_limit}
use Rattle.std.proofs.lemmas.List.{append-nil, drop_at, drop_all}
use Rattle.std.proofs.Math.Seq.{take-append-add}
use Rattle.cf_bytes.specs.Cut.{◌>>=◌, Read}
use Rattle.cf_bytes.specs.declared.memory.Refused.{Refused}
use Rattle.cf_bytes.specs.declared.memory.Refused.TheVariants.{No, NoMemory}
use Rattle.cf_block.specs.declared.tx.Block.{Block}
use Rattle.cf_block.specs.declared.commitment.CommitFault.{CommitFault}
use Rattle.cf_block.specs.Commitment.{commit_fault}
use Rattle.cf_block.specs.Stored.{stored_block_at}
use Rattle.cf_bytes.specs.declared.cut.CutFault.TheVariants.{Short}
use Rattle.cf_block.specs.declared.fault.BlockFault.{BlockFault}
use Rattle.cf_headers.specs.declared.rules.HeaderFault.{HeaderFault}
use Rattle.cf_headers.specs.Rules.{fault_after}
use Rattle.cf_chain.specs.Coins.{CoinMap}
use Rattle.cf_conn.specs.Source.{with_front}
use Rattle.cf_conn.specs.Window.{Pane, IsOver, beyond, seen}
use Rattle.cf_coins.specs.declared.fault.CoinFault.{CoinFault}
use Rattle.cf_walk.specs.declared.cause.RecordCause.{RecordCause}
use Rattle.cf_walk.specs.declared.cause.RecordCause.TheVariants.{Cut, Magic, TooHigh}
use Rattle.cf_walk.specs.declared.judge.Judge.{Judge}
use Rattle.cf_walk.specs.Records.{Taken, cut_off, is_magic, magic_at, length_at, head_at, text_at, record_at}
use Rattle.cf_coins.specs.Spending.{spend_txs}
use Rattle.cf_walk.specs.Files.{all_zeros, in_block, in_header, in_height, in_commitment, in_coins, or_else, block_here}
use Rattle.cf_walk.specs.declared.walk.WalkStop.{WalkStop}
use Rattle.cf_walk.specs.declared.walk.WalkStop.TheVariants as stops
use Rattle.cf_walk.specs.Judging.{EndsWith, IsBlank, IsReady, IsWhole, Firm, Strips, Walks, WalksOver, cause_by, block_unless, next_by}
use Rattle.cf_walk.proofs.FileLaws.{both, is_zero}
use Rattle.cf_walk.proofs.WalkFirm.{next_firm}

-- ---- no other cause is feigned by what didn't come yet

or_uncut : (a b : Option RecordCause) → (a ≡ Some Cut → ⊥) → (b ≡ Some Cut → ⊥) → or_else a b ≡ Some Cut → ⊥
or_uncut (Some c) b na nb e = na e
or_uncut None b na nb e = nb e

header_uncut : (o : Option HeaderFault) → in_header o ≡ Some Cut → ⊥
header_uncut None e = cc
header_uncut (Some f) e = cc

height_uncut : (b : Bool) → (if b then Some TooHigh else None) ≡ Some Cut → ⊥
height_uncut true e = cc
height_uncut false e = cc

commit_uncut : (o : Option CommitFault) → in_commitment o ≡ Some Cut → ⊥
commit_uncut None e = cc
commit_uncut (Some f) e = cc

coins_uncut : (r : Result CoinMap CoinFault) → in_coins r ≡ Some Cut → ⊥
coins_uncut (Ok c) e = cc
coins_uncut (Err f) e = cc

cause_uncut : (tip past : List ℕ) (height : ℕ) (coins : CoinMap) (b : Block) → cause_by tip past height coins b ≡ Some Cut → ⊥
cause_uncut tip past height coins b =
    or_uncut (in_header (fault_after tip past b.header)) _ (header_uncut (fault_after tip past b.header))
    (or_uncut (in_height height) _ (height_uncut (nat_le height_limit height))
    (or_uncut (in_commitment (commit_fault b)) (in_coins (spend_txs coins b.txs)) (commit_uncut (commit_fault b)) (coins_uncut (spend_txs coins b.txs))))

passed_cut : (c : RecordCause) (b : Block) (rest : List ℕ) → block_unless (Some c) b rest ≡ Err Cut → c ≡ Cut
passed_cut c b rest e = cc

passed_uncut : (o : Option RecordCause) (b : Block) (rest : List ℕ) → (o ≡ Some Cut → ⊥) → block_unless o b rest ≡ Err Cut → ⊥
passed_uncut None b rest never e = cc
passed_uncut (Some c) b rest never e = never (ap Some (passed_cut c b rest e))

block_uncut : (cause : Block → Option RecordCause) → ((b : Block) → cause b ≡ Some Cut → ⊥) → (r : Read Block BlockFault) (rest : List ℕ) → (in_block r >>= λ b. block_unless (cause b) b rest) ≡ Err Cut → ⊥
block_uncut cause never (Ok x) rest e = passed_uncut (cause x.0) x.0 rest (never x.0) e
block_uncut cause never (Err f) rest e = cc

abbrev refusal : RecordCause → Taken Block
refusal c = Err c

cut_is : (c : RecordCause) → refusal c ≡ refusal Cut → c ≡ Cut
cut_is c e = cc

text_uncut : (cause : Block → Option RecordCause) → ((b : Block) → cause b ≡ Some Cut → ⊥) → (r : Taken (List ℕ)) → (r >>= λ text. in_block (stored_block_at text.0) >>= λ b. block_unless (cause b) b text.1) ≡ Err Cut → r ≡ Err Cut
text_uncut cause never (Ok text) e = absurd (block_uncut cause never (stored_block_at text.0) text.1 e)
text_uncut cause never (Err c) e = ap Err (cut_is c e)

next_cut : (j : Judge) (bytes : List ℕ) → next_by j bytes ≡ Err Cut → record_at bytes ≡ Err Cut
unfolding next_by
next_cut j bytes e = text_uncut (cause_by j.tip.0 j.past j.height j.coins) (cause_uncut j.tip.0 j.past j.height j.coins) (record_at bytes) e

none_uncut : (o : Option RecordCause) → o ≡ None → o ≡ Some Cut → ⊥
none_uncut o none e = cc

pub here_cut : (bytes : List ℕ) → block_here bytes ≡ Err Cut → record_at bytes ≡ Err Cut
unfolding block_here
here_cut bytes e = text_uncut (λ b. None) (λ b. none_uncut None refl) (record_at bytes) e

-- ---- zeros

zeros_split : (z : Bool) (xs b : List ℕ) → (all_zeros xs ≡ false → all_zeros (xs ++ b) ≡ false) → (z && all_zeros xs) ≡ false → (z && all_zeros (xs ++ b)) ≡ false
zeros_split true xs b on e = on e
zeros_split false xs b on e = refl

zeros_front : (a b : List ℕ) → all_zeros a ≡ false → all_zeros (a ++ b) ≡ false
zeros_front [] b e = cc
zeros_front (x ∷ xs) b e = zeros_split (x == 0) xs b (zeros_front xs b) e

-- ---- the step over what is held is that over all

pub whole_walks : (j : Judge) (held left rest : List ℕ) (r : Result (Option Block) (Refused RecordCause)) → IsWhole held → Walks (next_by j held) held rest r → Walks (next_by j (held ++ left)) (held ++ left) (rest ++ left) r
whole_walks j held left rest (Ok (Some b)) whole w =
    let P : Taken Block → Type 0 = λ t. Firm t left (next_by j (held ++ left)) in
    (zeros_front held left w.0, subst P w.1 (next_firm j held left))
whole_walks j held left rest (Ok None) whole w = absurd (let some = whole.0 in cc)
whole_walks j held left rest (Err (No cause)) whole w =
    let P : Taken Block → Type 0 = λ t. Firm t left (next_by j (held ++ left)) in
    let firm = subst P w.1 (next_firm j held left) in
    (zeros_front held left w.0, firm (λ is. whole.1 (next_cut j held (w.1 ∙ ap Err is))))
whole_walks j held left rest (Err NoMemory) whole w = tt

pub over_walks : (j : Judge) (held left rest : List ℕ) (r : Result (Option Block) (Refused RecordCause)) → left ≡ [] → Walks (next_by j held) held rest r → Walks (next_by j (held ++ left)) (held ++ left) (rest ++ left) r
over_walks j held left rest r none w =
    let P : List ℕ → List ℕ → Type 0 = λ a b. Walks (next_by j a) a b r in
    let all : held ≡ held ++ left = sym (ap (λ (l : List ℕ). held ++ l) none ∙ append-nil held) in
    let end : rest ≡ rest ++ left = sym (ap (λ (l : List ℕ). rest ++ l) none ∙ append-nil rest) in
    subst (λ (a : List ℕ). P a (rest ++ left)) all (subst (λ (b : List ℕ). P held b) end w)

-- ---- what is held, and all the bytes that count

some_is : (a b : List ℕ) → Some a ≡ Some b → a ≡ b
some_is a b e = cc

told_so : (o : Option (List ℕ)) (held all : List ℕ) → with_front held o ≡ Some all → (behind : List ℕ) × (o ≡ Some behind) × (held ++ behind ≡ all)
told_so None held all e = cc
told_so (Some l) held all e = (l, refl, some_is (held ++ l) all e)

take_none : (n : ℕ) → take {A = ℕ} n [] ≡ []
take_none zero = refl
take_none (suc n) = refl

drop_none : (n : ℕ) → drop {A = ℕ} n [] ≡ []
drop_none zero = refl
drop_none (suc n) = refl

pub drop_after : (xs l : List ℕ) (k : ℕ) → drop (length xs + k) (xs ++ l) ≡ drop k l
drop_after [] l k = let none : 0 + k ≡ k = omega arith in ap (λ (n : ℕ). drop n l) none
drop_after (x ∷ xs) l k = let more : suc (length xs) + k ≡ suc (length xs + k) = omega arith in ap (λ (n : ℕ). drop n (x ∷ (xs ++ l))) more ∙ drop_after xs l k

count_same : (a b : Pane) (l m : List ℕ) → a.held ++ l ≡ b.held ++ m → length a.held + a.room ≡ length b.held + b.room → a.held ++ take a.room l ≡ b.held ++ take b.room m
count_same a b l m all bound = sym (take-append-add a.held l a.room) ∙ (λ i. take (bound i) (all i)) ∙ take-append-add b.held m b.room

behind_same : (a b : Pane) (l m : List ℕ) → a.held ++ l ≡ b.held ++ m → length a.held + a.room ≡ length b.held + b.room → drop a.room l ≡ drop b.room m
behind_same a b l m all bound = sym (drop_after a.held l a.room) ∙ (λ i. drop (bound i) (all i)) ∙ drop_after b.held m b.room

none_left : (o : Option (List ℕ)) (held : List ℕ) → with_front held o ≡ None → o ≡ None
none_left None held e = refl
none_left (Some l) held e = cc

-- reading on takes nothing
same_as_before : (see : Pane → Option (List ℕ) → Option (List ℕ)) (part : Pane → List ℕ → List ℕ) → ((w : Pane) → see w None ≡ None) → ((w : Pane) (l : List ℕ) → see w (Some l) ≡ Some (part w l))
    → ((a b : Pane) (l m : List ℕ) → a.held ++ l ≡ b.held ++ m → length a.held + a.room ≡ length b.held + b.room → part a l ≡ part b m)
    → (old new : Pane) (before later : Option (List ℕ)) → with_front new.held later ≡ with_front old.held before → length new.held + new.room ≡ length old.held + old.room → see new later ≡ see old before
same_as_before see part none some each old new None later same bound = ap (see new) (none_left later new.held same) ∙ none new ∙ sym (none old)
same_as_before see part none some each old new (Some left) later same bound =
    let t = told_so later new.held (old.held ++ left) same in
    ap (see new) t.1 ∙ some new t.0 ∙ ap Some (each new old t.0 left t.2 bound) ∙ sym (some old left)

pub seen_same : (old new : Pane) (before later : Option (List ℕ)) → with_front new.held later ≡ with_front old.held before → length new.held + new.room ≡ length old.held + old.room
    → seen new later ≡ seen old before
seen_same = same_as_before seen (λ w l. w.held ++ take w.room l) (λ w. refl) (λ w l. refl) count_same

pub beyond_same : (old new : Pane) (before later : Option (List ℕ)) → with_front new.held later ≡ with_front old.held before → length new.held + new.room ≡ length old.held + old.room
    → beyond new later ≡ beyond old before
beyond_same = same_as_before beyond (λ w l. drop w.room l) (λ w. refl) (λ w l. refl) behind_same

pub record Prepared (w : Pane) (left : Option (List ℕ)) (bytes : List ℕ) : Type 0 where
  pub behind : List ℕ
  pub told : option_map (λ l. take w.room l) left ≡ Some behind
  pub all : w.held ++ behind ≡ bytes
  pub enough : IsWhole w.held ⊎ (behind ≡ [])

enough_so : (w : Pane) (l : List ℕ) → IsWhole w.held ⊎ IsOver w (Some l) → IsWhole w.held ⊎ (take w.room l ≡ [])
enough_so w l (inl whole) = inl whole
enough_so w l (inr (inl full)) = inr (ap (λ (n : ℕ). take n l) full)
enough_so w l (inr (inr ended)) = inr (ap (λ (l : List ℕ). take w.room l) ended ∙ take_none w.room)

prepared : (w : Pane) (left : Option (List ℕ)) (bytes : List ℕ) → IsWhole w.held ⊎ IsOver w left → seen w left ≡ Some bytes → Prepared w left bytes
prepared w None bytes ready is = cc
prepared w (Some l) bytes ready is = record { behind = take w.room l; told = refl; all = some_is (w.held ++ take w.room l) bytes is; enough = enough_so w l ready }

pub step_over : (j : Judge) (new : Pane) (later : Option (List ℕ)) (bytes rest : List ℕ) (r : Result (Option Block) (Refused RecordCause)) (p : Prepared new later bytes)
    → Walks (next_by j new.held) new.held rest r → Walks (next_by j bytes) bytes (rest ++ p.behind) r
step_over j new later bytes rest r p w =
    let P : List ℕ → Type 0 = λ all. Walks (next_by j all) all (rest ++ p.behind) r in
    subst P p.all (by_enough p.enough)
  where
    by_enough : (IsWhole new.held ⊎ (p.behind ≡ [])) → Walks (next_by j (new.held ++ p.behind)) (new.held ++ p.behind) (rest ++ p.behind) r
    by_enough (inl whole) = whole_walks j new.held p.behind rest r whole w
    by_enough (inr none) = over_walks j new.held p.behind rest r none w

pub drop_end : (held text rest : List ℕ) (n : ℕ) → held ≡ text ++ rest → n ≡ length held - length rest → drop n held ≡ rest
drop_end held text rest n e is =
    let k : n ≡ length text = omega (arith, is, ap length e, length-append text rest) in
    ap (λ (m : ℕ). drop m held) k ∙ ap (drop (length text)) e ∙ drop_at text rest (length text) refl

-- ---- a step's answers

-- a block
pub given_over : (j : Judge) (old new : Pane) (left : Option (List ℕ)) (bytes others : List ℕ) (b : Block) → IsWhole old.held ⊎ IsOver old left → new.room ≡ old.room
    → Walks (next_by j old.held) old.held new.held (Ok (Some b)) → seen old left ≡ Some bytes → beyond old left ≡ Some others
    → WalksOver (next_by j bytes) bytes others (seen new left) (beyond new left) (Ok (Some b))
given_over j old new left bytes others b ready room w is behind =
    let p = prepared old left bytes ready is in
    let s = step_over j old left bytes new.held (Ok (Some b)) p w in
    let now : seen new left ≡ Some (new.held ++ p.behind) = ap (λ (n : ℕ). with_front new.held (option_map (λ l. take n l) left)) room ∙ ap (with_front new.held) p.told in
    let later : beyond new left ≡ Some others = ap (λ (n : ℕ). option_map (λ l. drop n l) left) room ∙ behind in
    (s.0, new.held ++ p.behind, s.1, now, later)

-- no more comes, where what is held isn't whole
pub over_here : (old new : Pane) (left : Option (List ℕ)) → IsWhole old.held ⊎ IsOver old left → new.room ≡ old.room → (IsWhole old.held → ⊥) → IsOver new left
over_here old new left (inl whole) room never = absurd (never whole)
over_here old new left (inr (inl full)) room never = inl (room ∙ full)
over_here old new left (inr (inr ended)) room never = inr ended

pub cut_whole : (j : Judge) (bytes : List ℕ) → next_by j bytes ≡ Err Cut → IsWhole bytes → ⊥
cut_whole j bytes e whole = whole.1 (next_cut j bytes e)

ends_none : (read : Taken Block) (bytes others : List ℕ) (new behind : Option (List ℕ)) (r : Result (Option Block) WalkStop) → all_zeros bytes ≡ true → EndsWith None others r → WalksOver read bytes others new behind r
ends_none read bytes others new behind (Ok None) z e = (z, e)
ends_none read bytes others new behind (Ok (Some b)) z e = absurd e
ends_none read bytes others new behind (Err (stops.Cause c)) z e = absurd e
ends_none read bytes others new behind (Err stops.TooBig) z e = (e, inl z)
ends_none read bytes others new behind (Err (stops.Read f)) z e = tt

ends_cut : (read : Taken Block) (bytes others : List ℕ) (new behind : Option (List ℕ)) (r : Result (Option Block) WalkStop) → all_zeros bytes ≡ false → read ≡ Err Cut → EndsWith (Some Cut) others r
    → WalksOver read bytes others new behind r
ends_cut read bytes others new behind (Ok None) z is e = absurd e
ends_cut read bytes others new behind (Ok (Some b)) z is e = absurd e
ends_cut read bytes others new behind (Err (stops.Cause c)) z is e = (z, is ∙ ap Err (sym e.0), λ _. e.1)
ends_cut read bytes others new behind (Err stops.TooBig) z is e = (e, inr (z, is))
ends_cut read bytes others new behind (Err (stops.Read f)) z is e = tt

same_room : (old new : Pane) (left : Option (List ℕ)) (others : List ℕ) (P : List ℕ → Type 0) → new.room ≡ old.room → beyond old left ≡ Some others → IfSome (beyond new left) P → P others
same_room old new left others P room behind is =
    subst (λ (o : Option (List ℕ)). IfSome o P) (ap (λ (n : ℕ). option_map (λ l. drop n l) left) room ∙ behind) is

-- no record is left
pub none_over : (j : Judge) (old new : Pane) (left s t : Option (List ℕ)) (bytes others : List ℕ) (r : Result (Option Block) WalkStop) → IsWhole old.held ⊎ IsOver old left → new.room ≡ old.room
    → all_zeros old.held ≡ true → IfSome (beyond new left) (λ o. EndsWith None o r) → seen old left ≡ Some bytes → beyond old left ≡ Some others → WalksOver (next_by j bytes) bytes others s t r
none_over j old new left s t bytes others r ready room z ends is behind =
    let p = prepared old left bytes ready is in
    let all : all_zeros bytes ≡ true = step_over j old left bytes [] (Ok None) p z in
    ends_none (next_by j bytes) bytes others s t r all (same_room old new left others (λ o. EndsWith None o r) room behind ends)

-- a record is cut off
pub cut_over : (j : Judge) (old new : Pane) (left s t : Option (List ℕ)) (bytes others : List ℕ) (r : Result (Option Block) WalkStop) → IsWhole old.held ⊎ IsOver old left → new.room ≡ old.room
    → Walks (next_by j old.held) old.held new.held (Err (No Cut)) → IfSome (beyond new left) (λ o. EndsWith (Some Cut) o r) → seen old left ≡ Some bytes → beyond old left ≡ Some others
    → WalksOver (next_by j bytes) bytes others s t r
cut_over j old new left s t bytes others r ready room w ends is behind =
    let p = prepared old left bytes ready is in
    let all = step_over j old left bytes new.held (Err (No Cut)) p w in
    ends_cut (next_by j bytes) bytes others s t r all.0 all.1 (same_room old new left others (λ o. EndsWith (Some Cut) o r) room behind ends)

-- a record is refused for another cause
pub bad_over : (j : Judge) (old new : Pane) (left s t : Option (List ℕ)) (bytes others : List ℕ) (cause : RecordCause) → IsWhole old.held ⊎ IsOver old left
    → Walks (next_by j old.held) old.held new.held (Err (No cause)) → (cause ≡ Cut → ⊥) → seen old left ≡ Some bytes → beyond old left ≡ Some others
    → WalksOver (next_by j bytes) bytes others s t (Err (stops.Cause cause))
bad_over j old new left s t bytes others cause ready w uncut is behind =
    let p = prepared old left bytes ready is in
    let all = step_over j old left bytes new.held (Err (No cause)) p w in
    (all.0, all.1, λ e. absurd (uncut e))

-- what was made ready, where it isn't zeros alone
pub ready_so : (w : Pane) (left : Option (List ℕ)) → IsReady w left → (IsBlank w.held → ⊥) → IsWhole w.held ⊎ IsOver w left
ready_so w left (inl whole) never = inl whole
ready_so w left (inr (inl blank)) never = absurd (never blank)
ready_so w left (inr (inr over)) never = inr over

-- none is no block
pub none_then : (r : Result (Option Block) WalkStop) (P : Block → Type 0) → IfOk r (λ o. o ≡ None) → IfOk r (λ o. IfSome o P)
none_then (Ok None) P e = tt
none_then (Ok (Some b)) P e = cc
none_then (Err s) P e = tt

-- ---- zeros that are no record's beginning

first_zeros : (bytes : List ℕ) → 8 ≤ length bytes → all_zeros bytes ≡ true → (more : List ℕ) × (bytes ≡ 0 ∷ 0 ∷ 0 ∷ 0 ∷ more) × (4 ≤ length more)
first_zeros [] many z = absurd (omega (arith, many))
first_zeros (a ∷ []) many z = absurd (omega (arith, many))
first_zeros (a ∷ b ∷ []) many z = absurd (omega (arith, many))
first_zeros (a ∷ b ∷ c ∷ []) many z = absurd (omega (arith, many))
first_zeros (a ∷ b ∷ c ∷ d ∷ more) many z =
    let p = both (a == 0) (all_zeros (b ∷ c ∷ d ∷ more)) z in
    let q = both (b == 0) (all_zeros (c ∷ d ∷ more)) p.1 in
    let r = both (c == 0) (all_zeros (d ∷ more)) q.1 in
    let s = both (d == 0) (all_zeros more) r.1 in
    (more, (λ i. is_zero a p.0 i ∷ is_zero b q.0 i ∷ is_zero c r.0 i ∷ is_zero d s.0 i ∷ more), omega (arith, many))

head_refused : (more : List ℕ) → 4 ≤ length more → head_at (0 ∷ 0 ∷ 0 ∷ 0 ∷ more) ≡ Err Magic
unfolding head_at magic_at
head_refused more many =
    let all : List ℕ = 0 ∷ 0 ∷ 0 ∷ 0 ∷ more in
    let eight : nat_lt (length all) 8 ≡ false = le-ltb (length all) 8 (omega (arith, many)) in
    let four : nat_lt (length all) 4 ≡ false = le-ltb (length all) 4 (omega (arith, many)) in
    ap (λ (t : Bool). if t then Err Cut else (magic_at all >>= λ m. length_at m.1)) eight
    ∙ ap (λ (t : Bool). (cut_off (if t then Err (Short, all) else Ok (take 4 all, drop 4 all)) >>= is_magic) >>= λ m. length_at m.1) four

zeros_refused : (j : Judge) (held more : List ℕ) → IsBlank held → next_by j (held ++ more) ≡ Err Magic
unfolding next_by record_at
zeros_refused j held more blank =
    let f = first_zeros held blank.0 blank.1 in
    let many : 4 ≤ length (f.0 ++ more) = omega (arith, f.2, length-append f.0 more) in
    ap (next_by j) (ap (λ (l : List ℕ). l ++ more) f.1)
    ∙ ap (λ r. (r >>= λ n. text_at n.0 n.1) >>= λ text. in_block (stored_block_at text.0) >>= λ b. block_unless (cause_by j.tip.0 j.past j.height j.coins b) b text.1) (head_refused (f.0 ++ more) many)

zeros_append : (a b : List ℕ) → all_zeros a ≡ true → all_zeros (a ++ b) ≡ all_zeros b
zeros_append [] b z = refl
zeros_append (x ∷ xs) b z =
    let p = both (x == 0) (all_zeros xs) z in
    ap (λ (t : Bool). t && all_zeros (xs ++ b)) p.0 ∙ zeros_append xs b p.1

front_of : (w : Pane) (left : Option (List ℕ)) (bytes : List ℕ) → seen w left ≡ Some bytes → (more : List ℕ) × (w.held ++ more ≡ bytes)
front_of w None bytes is = cc
front_of w (Some l) bytes is = (take w.room l, some_is (w.held ++ take w.room l) bytes is)

stripped : (before after : Option (List ℕ)) (bytes : List ℕ) → Strips before after → before ≡ Some bytes → (rest : List ℕ) × (after ≡ Some rest) × (all_zeros bytes ≡ all_zeros rest)
stripped before after bytes strips is = subst (λ (o : Option (List ℕ)). Strips o after) is strips

-- what follows the zeros is no record
pub zeros_bad : (j : Judge) (old new : Pane) (left later s t : Option (List ℕ)) (bytes others : List ℕ) → IsBlank old.held → Strips (seen old left) (seen new later)
    → IfSome (seen new later) (λ b. all_zeros b ≡ false) → seen old left ≡ Some bytes → WalksOver (next_by j bytes) bytes others s t (Err (stops.Cause Magic))
zeros_bad j old new left later s t bytes others blank strips some is =
    let st = stripped (seen old left) (seen new later) bytes strips is in
    let on : all_zeros st.0 ≡ false = subst (λ (o : Option (List ℕ)). IfSome o (λ b. all_zeros b ≡ false)) st.1 some in
    let f = front_of old left bytes is in
    (st.2 ∙ on, ap (next_by j) (sym f.1) ∙ zeros_refused j old.held f.0 blank, λ e. absurd (apart e))
  where
    apart : Magic ≡ Cut → ⊥
    apart e = cc

nothing_left : (w : Pane) (left : Option (List ℕ)) (rest : List ℕ) → w.held ≡ [] → IsOver w left → seen w left ≡ Some rest → rest ≡ []
nothing_left w None rest none over is = cc
nothing_left w (Some l) rest none over is = sym (some_is (w.held ++ take w.room l) rest is) ∙ (λ i. none i ++ taken over i)
  where
    taken : IsOver w (Some l) → take w.room l ≡ []
    taken (inl full) = ap (λ (n : ℕ). take n l) full
    taken (inr ended) = ap (λ (x : List ℕ). take w.room x) ended ∙ take_none w.room

-- zeros alone were left
pub zeros_end : (j : Judge) (old new : Pane) (left later s t : Option (List ℕ)) (bytes others : List ℕ) (r : Result (Option Block) WalkStop) → Strips (seen old left) (seen new later) → new.held ≡ []
    → IsOver new later → beyond new later ≡ beyond old left → IfSome (beyond new later) (λ o. EndsWith None o r) → seen old left ≡ Some bytes → beyond old left ≡ Some others
    → WalksOver (next_by j bytes) bytes others s t r
zeros_end j old new left later s t bytes others r strips none over same ends is behind =
    let st = stripped (seen old left) (seen new later) bytes strips is in
    let all : all_zeros bytes ≡ true = st.2 ∙ ap all_zeros (nothing_left new later st.0 none over st.1) in
    ends_none (next_by j bytes) bytes others s t r all (subst (λ (o : Option (List ℕ)). IfSome o (λ o. EndsWith None o r)) (same ∙ behind) ends)

-- ---- zeros are dropped

strips_step : (w : Pane) (left : Option (List ℕ)) → all_zeros w.held ≡ true → Strips (seen w left) (seen (record { held = []; room = w.room }) left)
strips_step w None z = tt
strips_step w (Some l) z = (take w.room l, refl, zeros_append w.held (take w.room l) z)

strips_both : (a b c : Option (List ℕ)) → Strips a b → Strips b c → Strips a c
strips_both None b c first later = tt
strips_both (Some bytes) b c first later =
    let st = stripped b c first.0 later first.1 in
    (st.0, st.1, first.2 ∙ st.2)

pub strips_more : (first : Option (List ℕ)) (old taken new : Pane) (left later : Option (List ℕ)) (n : ℕ) → Strips first (seen old left) → all_zeros old.held ≡ true → n ≡ length old.held
    → taken ≡ record { held = drop n old.held; room = old.room } → with_front new.held later ≡ with_front taken.held left → length new.held + new.room ≡ length taken.held + taken.room
    → Strips first (seen new later)
strips_more first old taken new left later n so_far z is after same bound =
    let gone : drop n old.held ≡ [] = drop_all n old.held (omega (arith, is)) in
    let empty : taken ≡ record { held = []; room = old.room } = after ∙ (λ i. record { held = gone i; room = old.room }) in
    let now : seen new later ≡ seen (record { held = []; room = old.room }) left = seen_same taken new left later same bound ∙ ap (λ (w : Pane). seen w left) empty in
    subst (λ (o : Option (List ℕ)). Strips first o) (sym now) (strips_both first (seen old left) (seen (record { held = []; room = old.room }) left) so_far (strips_step old left z))

pub behind_more : (first : Option (List ℕ)) (old taken new : Pane) (left later : Option (List ℕ)) (n : ℕ) → beyond old left ≡ first → taken ≡ record { held = drop n old.held; room = old.room }
    → with_front new.held later ≡ with_front taken.held left → length new.held + new.room ≡ length taken.held + taken.room → beyond new later ≡ first
behind_more first old taken new left later n so_far after same bound = beyond_same taken new left later same bound ∙ ap (λ (w : Pane). beyond w left) after ∙ so_far
