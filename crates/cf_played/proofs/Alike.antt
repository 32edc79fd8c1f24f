-- Frames of messages that are like the machine's.
use Rattle.std.proofs.Common.{◌≡◌, ℕ, ◌+◌, ◌<◌, Bool, false, List, [], ◌∷◌, ◌++◌, length, take, refl, sym, ◌∙◌, ap, subst, inl, get_or, append_assoc}
use Rattle.std.specs.Prelude.{◌||◌, pos}
use Rattle.std.proofs.lemmas.List.{append-nil, map-append, take_at, take_more}
use Rattle.cf_block.specs.declared.tx.Block.{Block}
use Rattle.cf_chain.specs.Serve.{replies, replies_to}
use Rattle.cf_frame.specs.Frame.{spelling}
use Rattle.cf_msg.specs.declared.msg.Msg.{Msg}
use Rattle.cf_msg.specs.Message.{frame_of, is_version}
use Rattle.cf_peer.specs.Acts.{IsSendable}
use Rattle.cf_wires.specs.Log.{Log}
use Rattle.cf_server.specs.declared.reply.Reply.{Reply}
use Rattle.cf_server.specs.Replies.{message_of, messages_of}
use Rattle.cf_server.proofs.Lists.{all-append}
use Rattle.cf_server.proofs.Texts.{text-append, text-cons, text-nil}
use Rattle.cf_played.specs.declared.kind.Way.{Way}
use Rattle.cf_played.specs.Answers.{came, told_to, heard_of, seen_after, AreAlike, HasBegunAlike}
use Rattle.cf_played.specs.Frames.{AreFramesAlike, IsFrameAlike, machine}

-- ---- one frame

-- that of the message itself
pub own_alike : (m : Msg) (text : List ℕ) → IsSendable m → text ≡ spelling (frame_of m) → IsFrameAlike m text
own_alike m text fit is = record { message = m; alike = inl refl; fit = fit; text_is = is }

-- ---- frames, one after another

alike_append : (ms ks ns ls : List Msg) → AreAlike ms ns → AreAlike ks ls → AreAlike (ms ++ ks) (ns ++ ls)
alike_append [] ks [] ls first second = second
alike_append [] ks (n ∷ ns) ls first second = absurd first
alike_append (m ∷ ms) ks [] ls first second = absurd first
alike_append (m ∷ ms) ks (n ∷ ns) ls first second = (first.0, alike_append ms ks ns ls first.1 second)

pub no_frames : AreFramesAlike [] []
no_frames = record { messages = []; alike = tt; fit = tt; text_is = sym text-nil }

pub frames_alike : (ns ks : List Msg) (a b : List ℕ) → AreFramesAlike ns a → AreFramesAlike ks b → AreFramesAlike (ns ++ ks) (a ++ b)
frames_alike ns ks a b first second = record {
  messages = first.messages ++ second.messages;
  alike = alike_append first.messages second.messages ns ks first.alike second.alike;
  fit = all-append IsSendable first.messages second.messages first.fit second.fit;
  text_is = (λ i. first.text_is i ++ second.text_is i) ∙ sym (text-append first.messages second.messages);
}

one_alike : (n : Msg) (text : List ℕ) → IsFrameAlike n text → AreFramesAlike (n ∷ []) text
one_alike n text one = record {
  messages = one.message ∷ [];
  alike = (one.alike, tt);
  fit = (one.fit, tt);
  text_is = one.text_is ∙ sym (text-cons one.message [] ∙ ap (λ (t : List ℕ). spelling (frame_of one.message) ++ t) text-nil ∙ append-nil (spelling (frame_of one.message)));
}

messages_more : (seen : Bool) (blocks : List Block) (replies : List Reply) (i : ℕ) (d : Reply) → i < length replies
    → messages_of (machine seen) blocks (take (i + 1) replies) ≡ messages_of (machine seen) blocks (take i replies) ++ message_of (machine seen) blocks (get_or replies i d) ∷ []
messages_more seen blocks replies i d lt =
    ap (λ (rs : List Reply). messages_of (machine seen) blocks rs) (take_more replies i d lt)
    ∙ map-append (message_of (machine seen) blocks) (take i replies) (get_or replies i d ∷ [])

-- one more
pub more_alike : (seen : Bool) (blocks : List Block) (replies : List Reply) (i : ℕ) (d : Reply) (text frame : List ℕ) → i < length replies
    → AreFramesAlike (messages_of (machine seen) blocks (take i replies)) text → IsFrameAlike (message_of (machine seen) blocks (get_or replies i d)) frame
    → AreFramesAlike (messages_of (machine seen) blocks (take (i + 1) replies)) (text ++ frame)
more_alike seen blocks replies i d text frame lt before next =
    subst (λ (ns : List Msg). AreFramesAlike ns (text ++ frame)) (sym (messages_more seen blocks replies i d lt))
    (frames_alike (messages_of (machine seen) blocks (take i replies)) (message_of (machine seen) blocks (get_or replies i d) ∷ []) text frame before
    (one_alike (message_of (machine seen) blocks (get_or replies i d)) frame next))

-- ---- messages, joined

pub replies_append : (seen : Bool) (blocks : List Block) (a b : List Msg)
    → replies (pos 0) 0 blocks seen (a ++ b) ≡ replies (pos 0) 0 blocks seen a ++ replies (pos 0) 0 blocks (seen_after seen a) b
replies_append seen blocks [] b = refl
replies_append seen blocks (m ∷ ms) b =
    let next : Bool = is_version m || seen in
    ap (λ (ns : List Msg). replies_to (pos 0) 0 blocks seen m ++ ns) (replies_append next blocks ms b)
    ∙ sym (append_assoc (replies_to (pos 0) 0 blocks seen m) (replies (pos 0) 0 blocks next ms) (replies (pos 0) 0 blocks (seen_after next ms) b))

-- what came is a beginning of what came and what waits
pub begun_alike : (way : Way) (blocks : List Block) (log : Log) (p : ℕ) (waiting : List ℕ) → AreFramesAlike (replies (pos 0) 0 blocks false (heard_of way (told_to log p))) (came log p ++ waiting)
    → HasBegunAlike way blocks log p
begun_alike way blocks log p waiting frames = record {
  messages = frames.messages;
  alike = frames.alike;
  fit = frames.fit;
  begun = ap (take (length (came log p))) (sym frames.text_is) ∙ take_at (came log p) waiting (length (came log p)) refl;
}
