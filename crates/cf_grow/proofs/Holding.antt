-- The texts of parts that are put one behind another.
use Rattle.std.proofs.Common.{◌≡◌, ℕ, ◌+◌, ◌<◌, ◌≤◌, Bool, true, false, List, [], ◌∷◌, ◌++◌, length, take, get_or, refl, sym, ap, ◌∙◌, subst, arith, append_assoc, length-append}
use Rattle.std.specs.Prelude.{if◌then◌else◌, ◌^◌}
use Rattle.std.specs.List.{flat_map, AllByRecursion}
use Rattle.std.proofs.lemmas.List.{append-nil, map-append, take_more}
use Rattle.std.proofs.lemmas.List.Concat.{flat_map-append}
use Rattle.cf_block.specs.declared.tx.Block.{Block}
use Rattle.cf_chain.specs.Grow.{announcement, asked_for, is_unknown, unknown_entry, wanted_entries}
use Rattle.cf_bytes.specs.declared.hash.Hash32.{Hash32}
use Rattle.cf_frame.specs.Frame.{spelling}
use Rattle.cf_grow.specs.declared.held.Held.{Held}
use Rattle.cf_grow.specs.declared.parts.Parts.{Parts}
use Rattle.cf_grow.specs.declared.taking.Answer.{Answer}
use Rattle.cf_grow.specs.Growing.{IsAnswerOf, messages_in, news_in}
use Rattle.cf_grow.specs.Held.{text_all, text_in, texts_in}
use Rattle.cf_msg.specs.declared.msg.Inventory.{Inventory}
use Rattle.cf_msg.specs.declared.msg.Msg.{Msg}
use Rattle.cf_msg.specs.declared.msg.Msg.TheVariants.{GetData, Inv}
use Rattle.cf_msg.specs.Message.{HasSpelling, IsEntry, frame_of, payload_of}
use Rattle.cf_msg.proofs.Sizes.{payload_fits}
use Rattle.cf_server.specs.declared.answering.Serving.{Serving}
use Rattle.cf_server.specs.declared.reply.Reply.{Reply}
use Rattle.cf_server.specs.Replies.{message_of, messages_of}
use Rattle.cf_server.specs.Serving.{text_of}
use Rattle.cf_server.proofs.Lists.{all-append}
use Rattle.cf_server.proofs.Texts.{text-append, text-cons, text-nil}

one_text : (m : Msg) → text_of (m ∷ []) ≡ spelling (frame_of m)
one_text m = text-cons m [] ∙ ap (λ t. spelling (frame_of m) ++ t) text-nil ∙ append-nil (spelling (frame_of m))

-- one message more is told
pub held_message : (old new : List ℕ) (m : Msg) (bytes : List ℕ) → new ≡ old ++ bytes → bytes ≡ spelling (frame_of m)
    → new ≡ old ++ text_of (m ∷ [])
held_message old new m bytes is told = is ∙ ap (λ (t : List ℕ). old ++ t) (told ∙ sym (one_text m))

-- nothing more
pub held_none : (old : List ℕ) → old ≡ old ++ text_of []
held_none old = sym (ap (λ (t : List ℕ). old ++ t) text-nil ∙ append-nil old)

-- no parts yet
pub parts_none : (served : Serving) (blocks : List Block) (replies : List Reply) (none : List Held) → none ≡ []
    → texts_in none ≡ text_of (messages_of served blocks (take 0 replies))
parts_none served blocks replies none is = ap texts_in is ∙ sym text-nil

-- the replies, one by one
pub held_next : (served : Serving) (blocks : List Block) (replies : List Reply) (i : ℕ) (d : Reply) (old new : List Held) (part : Held) → i < length replies
    → texts_in old ≡ text_of (messages_of served blocks (take i replies))
    → new ≡ old ++ part ∷ [] → text_in part ≡ spelling (frame_of (message_of served blocks (get_or replies i d)))
    → texts_in new ≡ text_of (messages_of served blocks (take (i + 1) replies))
held_next served blocks replies i d old new part lt before is told =
    let reply : Reply = get_or replies i d in
    let front : List ℕ = text_of (messages_of served blocks (take i replies)) in
    let frame : List ℕ = spelling (frame_of (message_of served blocks reply)) in
    let both : text_of (messages_of served blocks (take (i + 1) replies)) ≡ front ++ frame =
    ap (λ (rs : List Reply). text_of (messages_of served blocks rs)) (take_more replies i d lt)
    ∙ ap text_of (map-append (message_of served blocks) (take i replies) (reply ∷ []))
    ∙ text-append (messages_of served blocks (take i replies)) (message_of served blocks reply ∷ [])
    ∙ ap (λ (t : List ℕ). front ++ t) (one_text (message_of served blocks reply)) in
    ap texts_in is ∙ flat_map-append text_in old (part ∷ [])
    ∙ ap (λ (t : List ℕ). texts_in old ++ t) (append-nil (text_in part) ∙ told)
    ∙ ap (λ (t : List ℕ). t ++ frame) before ∙ sym both

-- one part more
pub longer_by_one : (old new : List Held) (part : Held) (n : ℕ) → new ≡ old ++ part ∷ [] → length old ≡ n → length new ≡ n + 1
longer_by_one old new part n is long = omega (arith, ap length is, length-append old (part ∷ []), long)

-- all of an answer
pub held_all : (served : Serving) (blocks : List Block) (a : Answer) (none one two told : List ℕ) (rest : List Held) → none ≡ []
    → one ≡ none ++ text_of (news_in a.news) → two ≡ one ++ text_of (asked_for a.wants) → told ≡ two
    → texts_in rest ≡ text_of (messages_of served blocks a.plain)
    → told ++ texts_in rest ≡ text_of (messages_in served blocks a)
held_all served blocks a none one two told rest e p q same r =
    let news : List ℕ = text_of (news_in a.news) in
    let wants : List ℕ = text_of (asked_for a.wants) in
    let plain : List ℕ = text_of (messages_of served blocks a.plain) in
    let first : told ≡ news ++ wants = same ∙ q ∙ ap (λ (t : List ℕ). t ++ wants) (p ∙ ap (λ (t : List ℕ). t ++ news) e) in
    ap (λ (t : List ℕ). t ++ texts_in rest) first ∙ ap (λ (t : List ℕ). (news ++ wants) ++ t) r
    ∙ append_assoc news wants plain
    ∙ ap (λ (t : List ℕ). news ++ t) (sym (text-append (asked_for a.wants) (messages_of served blocks a.plain)))
    ∙ sym (text-append (news_in a.news) (asked_for a.wants ++ messages_of served blocks a.plain))

-- ---- what is asked for is a part of what was told of

some_entries : (b : Bool) (e : Inventory) → length (if b then e ∷ [] else []) ≤ 1
some_entries true e = omega arith
some_entries false e = omega arith

unknown_few : (blocks : List Block) (entries : List Inventory)
    → length (flat_map (unknown_entry blocks) entries) ≤ length entries
unknown_few blocks [] = omega arith
unknown_few blocks (e ∷ es) =
    omega (
      arith,
      length-append (unknown_entry blocks e) (flat_map (unknown_entry blocks) es),
      some_entries (is_unknown blocks e) e,
      unknown_few blocks es,
    )

some_fit : (b : Bool) (e : Inventory) → IsEntry e → AllByRecursion IsEntry (if b then e ∷ [] else [])
some_fit true e fits = (fits, tt)
some_fit false e fits = tt

unknown_fit : (blocks : List Block) (entries : List Inventory) → AllByRecursion IsEntry entries
    → AllByRecursion IsEntry (flat_map (unknown_entry blocks) entries)
unknown_fit blocks [] all = tt
unknown_fit blocks (e ∷ es) all =
    all-append IsEntry (unknown_entry blocks e) (flat_map (unknown_entry blocks) es) (some_fit (is_unknown blocks e) e all.0) (unknown_fit blocks es all.1)

none_few : (wants : List Inventory) → wants ≡ [] → length wants ≤ 50000
none_few wants e = omega (arith, ap length e)

pub wants_few : (blocks : List Block) (met : Bool) (m : Msg) (wants : List Inventory) → HasSpelling m
    → wants ≡ wanted_entries blocks met m → length wants ≤ 50000
wants_few blocks true (Inv entries) wants fits is = omega (arith, ap length is, unknown_few blocks entries, fits.0)
wants_few blocks true m wants fits is = none_few wants is
wants_few blocks false m wants fits is = none_few wants is

pub wants_fit : (blocks : List Block) (met : Bool) (m : Msg) (wants : List Inventory) → HasSpelling m
    → wants ≡ wanted_entries blocks met m → AllByRecursion IsEntry wants
wants_fit blocks true (Inv entries) wants fits is = subst (AllByRecursion IsEntry) (sym is) (unknown_fit blocks entries fits.1)
wants_fit blocks true m wants fits is = subst (AllByRecursion IsEntry) (sym is) tt
wants_fit blocks false m wants fits is = subst (AllByRecursion IsEntry) (sym is) tt

-- ---- what fits into a frame

pub wants_payload : (wants : List Inventory) → length wants ≤ 50000 → AllByRecursion IsEntry wants
    → length (payload_of (GetData wants)) ≤ 4000000
wants_payload wants few fit = payload_fits (GetData wants) (few, fit) tt

pub announcement_fits : (kind : ℕ) (hash : Hash32) (none entries : List Inventory) → kind < 2 ^ 32 → length hash.0 ≡ 32 → none ≡ []
    → entries ≡ none ++ (record { kind = kind; hash = hash }) ∷ [] → length (payload_of (Inv entries)) ≤ 4000000
announcement_fits kind hash none entries low long empty is =
    subst (λ (es : List Inventory). length (payload_of (Inv es)) ≤ 4000000)
    (sym (is ∙ ap (λ (es : List Inventory). es ++ (record { kind = kind; hash = hash }) ∷ []) empty))
    (payload_fits (Inv ((record { kind = kind; hash = hash }) ∷ [])) (omega arith, (record { kind = low; hash = long }, tt)) tt)

pub held_announcement : (old new : List ℕ) (hash : Hash32) (none entries : List Inventory) → none ≡ [] → entries ≡ none ++ (record { kind = 2; hash = hash }) ∷ []
    → new ≡ old ++ text_of (Inv entries ∷ []) → new ≡ old ++ text_of (announcement hash.0 ∷ [])
held_announcement old new hash none entries empty is told =
    told
    ∙ ap (λ (es : List Inventory). old ++ text_of (Inv es ∷ [])) (is ∙ ap (λ (es : List Inventory). es ++ (record { kind = 2; hash = hash }) ∷ []) empty)

-- ---- what is asked for

pub held_asked_none : (old : List ℕ) (wants : List Inventory) → length wants ≡ 0 → old ≡ old ++ text_of (asked_for wants)
held_asked_none old [] none = held_none old
held_asked_none old (e ∷ es) none = absurd (omega (arith, none))

pub held_asked : (old new : List ℕ) (wants : List Inventory) → (length wants ≡ 0 → ⊥) → new ≡ old ++ text_of (GetData wants ∷ [])
    → new ≡ old ++ text_of (asked_for wants)
held_asked old new [] some is = absurd (some refl)
held_asked old new (e ∷ es) some is = is

-- what is held is what is answered
pub held_told : (served : Serving) (blocks : List Block) (a : Answer) (parts : Parts) (messages : List Msg)
    → IsAnswerOf served blocks a messages → text_all parts ≡ text_of (messages_in served blocks a)
    → text_all parts ≡ text_of messages
held_told served blocks a parts messages answer is = is ∙ ap text_of answer.told

-- what is wanted has a spelling, and what is held is what is answered
pub ruleset told_so = (wants_few, wants_fit, held_told)

-- what is asked for, or nothing
pub ruleset asked_so = (held_asked, held_asked_none, wants_payload)
