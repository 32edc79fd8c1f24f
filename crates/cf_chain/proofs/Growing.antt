-- What the serving machine of a chain that grows answers.
use Rattle.std.proofs.Common.{◌≡◌, ℕ, ℤ, ◌<◌, Bool, true, false, List, [], ◌∷◌, ◌++◌, length, inl, inr, refl, sym, ap, ◌∙◌, arith, lt-ltb, le-ltb}
use Rattle.std.specs.Prelude.{◌==◌, if◌then◌else◌, nat_lt}
use Rattle.std.proofs.lemmas.Bool.{cases_Bool, false≢true, eqb-true}
use Rattle.cf_block.specs.declared.tx.Block.{Block}
use Rattle.cf_msg.specs.declared.msg.Msg.{Msg}
use Rattle.cf_msg.specs.declared.msg.Msg.TheVariants.{Version}
use Rattle.cf_msg.specs.Message.{is_version}
use Rattle.cf_chain.specs.Grow.{TipMark, NotMet, TipTold, mark_at, announcement, top_hash, growing_answers, GrowAnswer, grow_answer, IsToldFirst, Service, served_all, Asking, asked_by, answers_over, IsAnsweredAlone}

pub alone : (now : ℤ) (nonce : ℕ) (fits : List Block → Block → Bool) (blocks : List Block) (asked : List Asking) (c : ℕ)
    → IsAnsweredAlone now nonce fits blocks asked c
alone now nonce fits blocks [] c = record { replies = refl; mark = refl }
alone now nonce fits blocks (x ∷ asked) c = by_asker (c == x.0) refl (alone now nonce fits blocks asked c) where
  s : Service
  s = served_all now nonce fits blocks asked

  at : GrowAnswer
  at = answers_over now nonce (asked_by now nonce fits blocks c asked)

  by_asker : (b : Bool) → (c == x.0) ≡ b → IsAnsweredAlone now nonce fits blocks asked c → IsAnsweredAlone now nonce fits blocks (x ∷ asked) c
  by_asker true is before =
      let same : c ≡ x.0 = eqb-true c x.0 is in
      let mark : s.marks x.0 ≡ at.mark = ap s.marks (sym same) ∙ before.mark in
      let replies : s.replies x.0 ≡ at.replies = ap s.replies (sym same) ∙ before.replies in
      record {
        replies = rw is (
            ap (λ (m : TipMark). s.replies x.0 ++ (grow_answer now nonce s.blocks m x.1).replies) mark
            ∙ ap (λ (ms : List Msg). ms ++ (grow_answer now nonce s.blocks at.mark x.1).replies) replies
            );
        mark = rw is (ap (λ (m : TipMark). (grow_answer now nonce s.blocks m x.1).mark) mark);
      }
  by_asker false is before = record { replies = rw is before.replies; mark = rw is before.mark }

pub none_before : (now : ℤ) (nonce : ℕ) (blocks : List Block) (m : Msg) → is_version m ≡ false → (grow_answer now nonce blocks NotMet m).replies ≡ []
none_before now nonce blocks (Version version services time to from number agent height relay) is = absurd (false≢true (sym is))
none_before now nonce blocks m is = refl

pub at_mark : (now : ℤ) (nonce : ℕ) (blocks : List Block) (m : Msg)
    → (grow_answer now nonce blocks (mark_at blocks) m).replies ≡ growing_answers now nonce blocks true m
at_mark now nonce blocks m =
    ap (λ (b : Bool). (if b then announcement (top_hash blocks) ∷ [] else []) ++ growing_answers now nonce blocks true m)
    (le-ltb (length blocks) (length blocks) (omega arith))

pub told_of : (now : ℤ) (nonce height : ℕ) (hash : List ℕ) (blocks : List Block) (m : Msg) → height < length blocks
    → IsToldFirst now nonce blocks (grow_answer now nonce blocks (TipTold height hash) m) m
told_of now nonce height hash blocks m lt =
    let up = lt-ltb height (length blocks) lt in
    record {
      replies = ap (λ (b : Bool). (if b then announcement (top_hash blocks) ∷ [] else []) ++ growing_answers now nonce blocks true m) up;
      mark = ap (λ (b : Bool). if b then mark_at blocks else TipTold height hash) up;
    }
