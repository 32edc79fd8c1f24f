-- One send, and what a peer makes of it.
use Rattle.std.proofs.Common.{◌≡◌, ℕ, Bool, true, List, [], ◌∷◌, ◌++◌, Option, Some, None, refl, sym, ◌∙◌, ap, subst, inl, inr, suc, length, ◌<◌}
use Rattle.std.specs.Prelude.{◌||◌, pos, option_to_list, slice_get, slice_set}
use Rattle.std.proofs.lemmas.List.{append-nil}
use Rattle.cf_block.specs.declared.tx.Block.{Block}
use Rattle.cf_chain.specs.Serve.{replies, replies_to}
use Rattle.cf_msg.specs.declared.msg.Msg.{Msg}
use Rattle.cf_msg.specs.Message.{is_version}
use Rattle.cf_server.specs.Serving.{text_of}
use Rattle.cf_server.proofs.Texts.{text-nil}
use Rattle.cf_played.specs.declared.kind.Way.{Way}
use Rattle.cf_played.specs.declared.kind.Way.TheVariants.{Honest, Omits, Silent}
use Rattle.cf_played.specs.declared.player.Player.{Player}
use Rattle.cf_played.specs.Answers.{frames_from, heard_of, is_plain, seen_after}
use Rattle.cf_played.specs.Frames.{AreFramesAlike}
use Rattle.cf_played.specs.Players.{HearsAt, IsAnswered}
use Rattle.cf_played.proofs.Alike.{no_frames}

heard_none : (way : Way) → heard_of way [] ≡ []
heard_none Honest = refl
heard_none Omits = refl
heard_none Silent = refl

-- the frames of the replies to one message
pub frames_one : (seen : Bool) (blocks : List Block) (m : Msg) → text_of (replies_to (pos 0) 0 blocks seen m) ≡ frames_from seen blocks (m ∷ [])
frames_one seen blocks m = ap text_of (sym (append-nil (replies_to (pos 0) 0 blocks seen m)))

unheard : (old new : Player) (m : Option Msg) → heard_of old.way (option_to_list m) ≡ [] → new ≡ old → IsAnswered old m new
unheard old new m none is = subst (λ (p : Player). IsAnswered old m p) (sym is) (record {
  blocks = refl;
  way = refl;
  seen = ap (seen_after old.seen) (sym none);
  more = [];
  joined = sym (append-nil old.waiting);
  alike = subst (λ (ms : List Msg). AreFramesAlike (replies (pos 0) 0 old.index old.seen ms) []) (sym none) no_frames;
  text = λ plain. sym (append-nil old.waiting) ∙ ap (λ (s : List ℕ). old.waiting ++ s) (sym (ap (frames_from old.seen old.index) none ∙ text-nil));
})

-- it spells nothing; it isn't answered
pub nothing_heard : (old new : Player) (m : Option Msg) → m ≡ None → new ≡ old → IsAnswered old m new
nothing_heard old new m none is = unheard old new m (ap (λ (o : Option Msg). heard_of old.way (option_to_list o)) none ∙ heard_none old.way) is

pub passed_over : (old new : Player) (mm : Option Msg) (m : Msg) → mm ≡ Some m → heard_of old.way (m ∷ []) ≡ [] → new ≡ old → IsAnswered old mm new
passed_over old new mm m some none is = unheard old new mm (ap (λ (o : Option Msg). heard_of old.way (option_to_list o)) some ∙ none) is

-- it is answered
pub one_heard : (old new : Player) (mm : Option Msg) (m : Msg) (text : List ℕ) → mm ≡ Some m → heard_of old.way (m ∷ []) ≡ m ∷ [] → (is_plain old.way ≡ true → text ≡ frames_from old.seen old.index (m ∷ []))
    → AreFramesAlike (replies_to (pos 0) 0 old.index old.seen m) text → new.index ≡ old.index → new.way ≡ old.way → new.seen ≡ (is_version m || old.seen) → new.waiting ≡ old.waiting ++ text → IsAnswered old mm new
one_heard old new mm m text some heard told alike blocks way seen waiting =
    let all : heard_of old.way (option_to_list mm) ≡ m ∷ [] = ap (λ (o : Option Msg). heard_of old.way (option_to_list o)) some ∙ heard in
    record {
      blocks = blocks;
      way = way;
      seen = seen ∙ ap (seen_after old.seen) (sym all);
      more = text;
      joined = waiting;
      alike = subst (λ (ms : List Msg). AreFramesAlike (replies (pos 0) 0 old.index old.seen ms) text) (sym all)
          (subst (λ (ns : List Msg). AreFramesAlike ns text) (sym (append-nil (replies_to (pos 0) 0 old.index old.seen m))) alike);
      text = λ plain. waiting ∙ ap (λ (s : List ℕ). old.waiting ++ s) (told plain ∙ ap (frames_from old.seen old.index) (sym all));
    }

-- ---- among all

pub nobody_low : (old new : List Player) (p : ℕ) (m : Option Msg) → p ≡ 0 → new ≡ old → HearsAt old p m new
nobody_low old new p m low same = record { outcome = inl (inl low, same) }

pub nobody_high : (old new : List Player) (p : ℕ) (m : Option Msg) → length old < p → new ≡ old → HearsAt old p m new
nobody_high old new p m high same = record { outcome = inl (inr high, same) }

pub heard_at : (old new : List Player) (p place : ℕ) (m : Option Msg) (before after : Player) → slice_get old place ≡ Some before → new ≡ slice_set old place after → p ≡ suc place → IsAnswered before m after
    → HearsAt old p m new
heard_at old new p place m before after at is number answered =
    record { outcome = inr (record { place = place; number = number; before = before; after = after; at = at; new_is = is; answered = answered }) }

-- who hears it, by its number
pub ruleset hears = (nobody_low, nobody_high, heard_at)
