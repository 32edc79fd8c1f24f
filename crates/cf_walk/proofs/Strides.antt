-- What a walk has given, call by call.
use Rattle.std.proofs.Common.{◌≡◌, ℕ, zero, suc, ◌<◌, ◌≤◌, ◌+◌, ◌⊎◌, inl, inr, Bool, true, false, List, [], ◌∷◌, ◌++◌, length, take, Option, Some, None, Result, Ok, Err, ◌==◌, refl, sym, ◌∙◌, ap, subst, arith, length-drop}
use Rattle.std.specs.Prelude.{option_map, IfSome, if◌then◌else◌}
use Rattle.std.proofs.lemmas.List.{take_all, append-nil}
use Rattle.cf_block.specs.declared.tx.Block.{Block}
use Rattle.cf_block.specs.Tx.{IsBlock}
use Rattle.cf_conn.specs.Source.{with_front}
use Rattle.cf_conn.specs.Window.{Pane, IsOver, beyond, seen}
use Rattle.cf_headers.specs.Chain.{height_limit}
use Rattle.cf_walk.specs.declared.cause.BadBlock.{BadBlock}
use Rattle.cf_walk.specs.declared.cause.RecordCause.{RecordCause}
use Rattle.cf_walk.specs.declared.cause.RecordCause.TheVariants.{Cut}
use Rattle.cf_walk.specs.declared.judge.Judge.{Judge}
use Rattle.cf_walk.specs.declared.walk.Walk.{Walk}
use Rattle.cf_walk.specs.Records.{Taken}
use Rattle.cf_walk.specs.Files.{all_zeros, block_here, is_first, behind_first, after_genesis, blocks_from, blocks_at, most_blocks}
use Rattle.cf_walk.specs.Judging.{BeginsWith, Firm, IsBlank, IsReady, IsWhole, StandsOn, WalksOver, next_by, after_by}
use Rattle.cf_walk.specs.Striding.{Gives, IsWalking, NoneFails, behind_them, end_of, that_count}
use Rattle.cf_walk.proofs.FileLaws.{both, is_zero, none_at_zero, read_from}
use Rattle.cf_walk.proofs.FileSteps.{ends}
use Rattle.cf_walk.proofs.WalkFirm.{here_firm}
use Rattle.cf_walk.proofs.WalkSource.{beyond_same, here_cut, seen_same}
use Rattle.cf_walk.proofs.WalkSteps.{end_bad, end_more, stands_more}

-- ---- the start

pub walk_starts : (w : Walk) (bytes : List ℕ) → StandsOn w.judge [] → w.window ≡ record { held = []; room = most_blocks } → w.before ≡ 0 → w.begun ≡ false → IsWalking bytes w (Some bytes) []
unfolding that_count behind_them
walk_starts w bytes stands window before begun = record {
  stands = stands;
  few = omega (arith, before);
  fresh = λ _. (refl, before);
  rest = take most_blocks bytes;
  told = ap (λ (p : Pane). seen p (Some bytes)) window;
  others = ap (λ (p : Pane). beyond p (Some bytes)) window;
  exact = ap (λ (b : Bool). end_of b w.before [] (take most_blocks bytes)) (sym begun);
}

-- ---- genesis's record

test_more : (is : Bool) (rest more : List ℕ) → (if is then Some (rest ++ more) else None) ≡ option_map (λ l. l ++ more) (if is then Some rest else None)
test_more true rest more = refl
test_more false rest more = refl

behind_more : (more : List ℕ) (r s : Taken Block) → Firm r more s → (r ≡ Err Cut → ⊥) → behind_first s ≡ option_map (λ l. l ++ more) (behind_first r)
behind_more more (Ok x) s firm uncut = ap behind_first firm ∙ test_more (is_first x.0) x.1 more
behind_more more (Err cause) s firm uncut = ap behind_first (firm (λ e. uncut (ap Err e)))

-- where a record is whole, it is genesis's whatever follows, or never
first_whole : (held more : List ℕ) → IsWhole held → after_genesis (held ++ more) ≡ option_map (λ l. l ++ more) (after_genesis held)
unfolding after_genesis
first_whole held more whole = behind_more more (block_here held) (block_here (held ++ more)) (here_firm held more) (λ e. whole.1 (here_cut held e))

-- where zeros are held, it never is
first_blank : (held more : List ℕ) → IsBlank held → after_genesis (held ++ more) ≡ option_map (λ l. l ++ more) (after_genesis held)
unfolding after_genesis
first_blank [] more blank = absurd (omega (arith, blank.0))
first_blank (a ∷ held) more blank =
    let zeroth : a ≡ 0 = is_zero a (both (a == 0) (all_zeros held) blank.1).0 in
    let all : behind_first (block_here (a ∷ (held ++ more))) ≡ None = ap (λ (x : ℕ). behind_first (block_here (x ∷ (held ++ more)))) zeroth ∙ none_at_zero (held ++ more) in
    let some : behind_first (block_here (a ∷ held)) ≡ None = ap (λ (x : ℕ). behind_first (block_here (x ∷ held))) zeroth ∙ none_at_zero held in
    all ∙ ap (option_map (λ (l : List ℕ). l ++ more)) (sym some)

with_none : (o : Option (List ℕ)) (more : List ℕ) → more ≡ [] → o ≡ option_map (λ l. l ++ more) o
with_none None more none = refl
with_none (Some l) more none = ap Some (sym (append-nil l) ∙ ap (λ (m : List ℕ). l ++ m) (sym none))

-- where no more comes, it is that of what is held
first_over : (held more : List ℕ) → more ≡ [] → after_genesis (held ++ more) ≡ option_map (λ l. l ++ more) (after_genesis held)
first_over held more none = ap (λ (m : List ℕ). after_genesis (held ++ m)) none ∙ ap after_genesis (append-nil held) ∙ with_none (after_genesis held) more none

take_none : (n : ℕ) → take {A = ℕ} n [] ≡ []
take_none zero = refl
take_none (suc n) = refl

none_comes : (w : Pane) (l : List ℕ) → IsOver w (Some l) → take w.room l ≡ []
none_comes w l (inl full) = ap (λ (k : ℕ). take k l) full
none_comes w l (inr ended) = ap (λ (x : List ℕ). take w.room x) ended ∙ take_none w.room

first_seen : (w : Pane) (l : List ℕ) → IsReady w (Some l) → after_genesis (w.held ++ take w.room l) ≡ option_map (λ r. r ++ take w.room l) (after_genesis w.held)
first_seen w l (inl whole) = first_whole w.held (take w.room l) whole
first_seen w l (inr (inl blank)) = first_blank w.held (take w.room l) blank
first_seen w l (inr (inr over)) = first_over w.held (take w.room l) (none_comes w l over)

some_is : (a b : List ℕ) → Some a ≡ Some b → a ≡ b
some_is a b e = cc

-- where it stands first
passed_first : (w : Pane) (left : Option (List ℕ)) (rest gone : List ℕ) → IsReady w left → after_genesis w.held ≡ Some gone → seen w left ≡ Some rest
    → (more : List ℕ) × (seen (record { held = gone; room = w.room }) left ≡ Some more) × (blocks_at rest ≡ blocks_from 1 zero [] more)
passed_first w None rest gone ready first told = cc
passed_first w (Some l) rest gone ready first told =
    let all : w.held ++ take w.room l ≡ rest = some_is (w.held ++ take w.room l) rest told in
    let begun : after_genesis rest ≡ Some (gone ++ take w.room l) =
    ap after_genesis (sym all) ∙ first_seen w l ready ∙ ap (option_map (λ (r : List ℕ). r ++ take w.room l)) first in
    (gone ++ take w.room l, refl, read_from rest (Some (gone ++ take w.room l)) begun)

-- where it doesn't
no_first : (w : Pane) (left : Option (List ℕ)) (rest : List ℕ) → IsReady w left → after_genesis w.held ≡ None → seen w left ≡ Some rest
    → blocks_at rest ≡ blocks_from 0 zero [] rest
no_first w None rest ready first told = cc
no_first w (Some l) rest ready first told =
    let all : w.held ++ take w.room l ≡ rest = some_is (w.held ++ take w.room l) rest told in
    let begun : after_genesis rest ≡ None =
    ap after_genesis (sym all) ∙ first_seen w l ready ∙ ap (option_map (λ (r : List ℕ). r ++ take w.room l)) first in
    read_from rest None begun

unbegun : (bytes rest : List ℕ) (w : Walk) (blocks : List Block) → w.begun ≡ false → blocks_at (that_count bytes) ≡ end_of w.begun w.before blocks rest → blocks_at (that_count bytes) ≡ blocks_at rest
unbegun bytes rest w blocks begun exact = exact ∙ ap (λ (b : Bool). end_of b w.before blocks rest) begun

pub begins_after : (bytes gone : List ℕ) (old new : Walk) (before later : Option (List ℕ)) (w : Pane) (blocks : List Block) → old.begun ≡ false
    → with_front w.held later ≡ with_front old.window.held before → length w.held + w.room ≡ length old.window.held + old.window.room → IsReady w later → after_genesis w.held ≡ Some gone
    → new.judge ≡ old.judge → new.window ≡ record { held = gone; room = w.room } → new.before ≡ 1 → new.begun ≡ true
    → IsWalking bytes old before blocks → IsWalking bytes new later blocks
begins_after bytes gone old new before later w blocks fresh same bound ready first judge window one begun way =
    let none : blocks ≡ [] = (way.fresh fresh).0 in
    let p = passed_first w later way.rest gone ready first (seen_same old.window w before later same bound ∙ way.told) in
    record {
      stands = subst (λ (j : Judge). StandsOn j blocks) (sym judge) way.stands;
      few = omega (arith, one);
      fresh = λ e. let is : true ≡ false = sym begun ∙ e in cc;
      rest = p.0;
      told = ap (λ (x : Pane). seen x later) window ∙ p.1;
      others = ap (λ (x : Pane). beyond x later) window ∙ beyond_same old.window w before later same bound ∙ way.others;
      exact = unbegun bytes way.rest old blocks fresh way.exact ∙ p.2 ∙ (λ i. end_of (sym begun i) (sym one i) (sym none i) p.0);
    }

pub begins_alone : (bytes : List ℕ) (old new : Walk) (before later : Option (List ℕ)) (w : Pane) (blocks : List Block) → old.begun ≡ false
    → with_front w.held later ≡ with_front old.window.held before → length w.held + w.room ≡ length old.window.held + old.window.room → IsReady w later → after_genesis w.held ≡ None
    → new.judge ≡ old.judge → new.window ≡ w → new.before ≡ old.before → new.begun ≡ true
    → IsWalking bytes old before blocks → IsWalking bytes new later blocks
begins_alone bytes old new before later w blocks fresh same bound ready first judge window unchanged begun way =
    let none : blocks ≡ [] = (way.fresh fresh).0 in
    let zeroth : new.before ≡ 0 = unchanged ∙ (way.fresh fresh).1 in
    let told : seen w later ≡ Some way.rest = seen_same old.window w before later same bound ∙ way.told in
    record {
      stands = subst (λ (j : Judge). StandsOn j blocks) (sym judge) way.stands;
      few = omega (arith, zeroth);
      fresh = λ e. let is : true ≡ false = sym begun ∙ e in cc;
      rest = way.rest;
      told = ap (λ (x : Pane). seen x later) window ∙ told;
      others = ap (λ (x : Pane). beyond x later) window ∙ beyond_same old.window w before later same bound ∙ way.others;
      exact = unbegun bytes way.rest old blocks fresh way.exact ∙ no_first w later way.rest ready first told ∙ (λ i. end_of (sym begun i) (sym zeroth i) (sym none i) way.rest);
    }

-- ---- a call's answers

few_bytes : (bytes : List ℕ) → behind_them bytes ≡ [] → length bytes ≤ most_blocks
unfolding behind_them
few_bytes bytes none = omega (arith, ap length none, length-drop most_blocks bytes)

many_bytes : (bytes : List ℕ) → 0 < length (behind_them bytes) → most_blocks < length bytes
unfolding behind_them
many_bytes bytes some = omega (arith, some, length-drop most_blocks bytes)

pub all_count : (bytes : List ℕ) → length bytes ≤ most_blocks → that_count bytes ≡ bytes
unfolding that_count
all_count bytes few = take_all most_blocks bytes few

begun_end : (bytes : List ℕ) (w : Walk) (left : Option (List ℕ)) (blocks : List Block) → w.begun ≡ true → (way : IsWalking bytes w left blocks) → blocks_at (that_count bytes) ≡ blocks_from w.before zero blocks way.rest
begun_end bytes w left blocks begun way = way.exact ∙ ap (λ (b : Bool). end_of b w.before blocks way.rest) begun

pub gives_block : (bytes : List ℕ) (old new : Walk) (before later : Option (List ℕ)) (blocks : List Block) (b : Block) (more : List ℕ) (way : IsWalking bytes old before blocks) → old.begun ≡ true
    → all_zeros way.rest ≡ false → next_by old.judge way.rest ≡ Ok (b, more) → seen new.window later ≡ Some more → beyond new.window later ≡ Some (behind_them bytes) → BeginsWith b way.rest more → IsBlock b
    → new.judge ≡ after_by old.judge b → new.before ≡ old.before → new.begun ≡ old.begun → IsWalking bytes new later (blocks ++ b ∷ [])
gives_block bytes old new before later blocks b more way begun some e told others has fits judge same_before same_begun = record {
  stands = subst (λ (j : Judge). StandsOn j (blocks ++ b ∷ [])) (sym judge) (stands_more old.judge blocks b way.rest more way.stands e fits);
  few = omega (arith, same_before, way.few);
  fresh = λ fresh. let is : true ≡ false = sym begun ∙ sym same_begun ∙ fresh in cc;
  rest = more;
  told = told;
  others = others;
  exact = begun_end bytes old before blocks begun way ∙ end_more old.before way.rest more old.judge blocks b some e has way.stands
      ∙ (λ i. end_of (sym (same_begun ∙ begun) i) (sym same_before i) (blocks ++ b ∷ []) more);
}

pub gives_none : (bytes : List ℕ) (old : Walk) (before : Option (List ℕ)) (blocks : List Block) (way : IsWalking bytes old before blocks) → old.begun ≡ true → all_zeros way.rest ≡ true → behind_them bytes ≡ []
    → (length bytes ≤ most_blocks) × (blocks_at bytes ≡ Ok blocks)
gives_none bytes old before blocks way begun zeros none =
    let few = few_bytes bytes none in
    (few, ap blocks_at (sym (all_count bytes few)) ∙ begun_end bytes old before blocks begun way ∙ ends old.before blocks way.rest zeros)

pub gives_bad : (bytes : List ℕ) (old : Walk) (before : Option (List ℕ)) (blocks : List Block) (cause : RecordCause) (number : ℕ) (way : IsWalking bytes old before blocks) → old.begun ≡ true → all_zeros way.rest ≡ false
    → next_by old.judge way.rest ≡ Err cause → (cause ≡ Cut → behind_them bytes ≡ []) → (old.before ≤ 1 → old.judge.height ≤ height_limit → number ≡ suc (old.before + old.judge.height))
    → (blocks_at (that_count bytes) ≡ Err (record { number = number; cause = cause })) × (cause ≡ Cut → length bytes ≤ most_blocks)
gives_bad bytes old before blocks cause number way begun some e cut is =
    let up = is way.few (omega (arith, way.stands.height, way.stands.good.height)) in
    (begun_end bytes old before blocks begun way ∙ end_bad old.before number way.rest old.judge blocks cause some e up way.stands, λ c. few_bytes bytes (cut c))

none_fails_ok : (r : Result (List Block) BadBlock) (blocks : List Block) → r ≡ Ok blocks → NoneFails r
none_fails_ok r blocks e = subst NoneFails (sym e) tt

none_fails_cut : (r : Result (List Block) BadBlock) (number : ℕ) → r ≡ Err (record { number = number; cause = Cut }) → NoneFails r
none_fails_cut r number e = subst NoneFails (sym e) refl

pub gives_more : (bytes : List ℕ) (old : Walk) (before : Option (List ℕ)) (blocks : List Block) (way : IsWalking bytes old before blocks) → old.begun ≡ true → 0 < length (behind_them bytes)
    → (all_zeros way.rest ≡ true) ⊎ ((all_zeros way.rest ≡ false) × (next_by old.judge way.rest ≡ Err Cut)) → (most_blocks < length bytes) × NoneFails (blocks_at (that_count bytes))
gives_more bytes old before blocks way begun some (inl zeros) =
    (many_bytes bytes some, none_fails_ok (blocks_at (that_count bytes)) blocks (begun_end bytes old before blocks begun way ∙ ends old.before blocks way.rest zeros))
gives_more bytes old before blocks way begun some (inr cut) = (
  many_bytes bytes some,
  none_fails_cut (blocks_at (that_count bytes)) (suc (old.before + old.judge.height))
      (begun_end bytes old before blocks begun way ∙ end_bad old.before (suc (old.before + old.judge.height)) way.rest old.judge blocks Cut cut.0 cut.1 refl way.stands),
)

pub gives_ok : (bytes : List ℕ) (old new : Walk) (before later : Option (List ℕ)) (blocks : List Block) (o : Option Block) (way : IsWalking bytes old before blocks) → old.begun ≡ true
    → WalksOver (next_by old.judge way.rest) way.rest (behind_them bytes) (seen new.window later) (beyond new.window later) (Ok o)
    → IfSome o (λ b. IfSome (seen new.window later) (λ rest. BeginsWith b way.rest rest)) → IfSome o (λ b. new.judge ≡ after_by old.judge b) → IfSome o IsBlock
    → new.before ≡ old.before → new.begun ≡ old.begun → Gives bytes blocks (Ok o) new later
gives_ok bytes old new before later blocks None way begun w found after fits same_before same_begun = gives_none bytes old before blocks way begun w.0 w.1
gives_ok bytes old new before later blocks (Some b) way begun w found after fits same_before same_begun =
    let has : BeginsWith b way.rest w.1 = subst (λ (o : Option (List ℕ)). IfSome o (λ rest. BeginsWith b way.rest rest)) w.3 found in
    gives_block bytes old new before later blocks b w.1 way begun w.0 w.2 w.3 w.4 has fits after same_before same_begun
