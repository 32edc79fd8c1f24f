-- What a growing chain tells a connection.
use Rattle.std.proofs.Common.{◌≡◌, ℕ, ◌<◌, ◌≤◌, Bool, true, false, inl, inr, List, [], ◌∷◌, ◌++◌, length, Option, Some, None, refl, sym, ap, ◌∙◌, subst, arith, lt-ltb, le-ltb, slice_get}
use Rattle.std.specs.Prelude.{option_map, if◌then◌else◌, ◌||◌}
use Rattle.std.proofs.lemmas.Bool.{false≢true}
use Rattle.cf_bytes.specs.declared.hash.Hash32.{Hash32}
use Rattle.cf_block.specs.declared.tx.Block.{Block}
use Rattle.cf_block.specs.Header.{block_hash_of}
use Rattle.cf_chain.specs.Grow.{TipMark, NotMet, TipTold, mark_at, is_met, announcement, asked_for, wanted_entries, growing_answers, top_hash, told_first, marked, grow_answer}
use Rattle.cf_chain.specs.Heights.{all_blocks}
use Rattle.cf_chain.specs.Serve.{replies_to}
use Rattle.cf_chain.proofs.Tops.{top_at}
use Rattle.cf_msg.specs.declared.msg.Msg.{Msg}
use Rattle.cf_msg.specs.Message.{is_version}
use Rattle.cf_server.specs.declared.answering.Serving.{Serving}
use Rattle.cf_grow.specs.declared.taking.Answer.{Answer}
use Rattle.cf_grow.specs.declared.mark.ServedMark.{ServedMark}
use Rattle.cf_grow.specs.declared.mark.Shrunk.{Shrunk as Hashes}
use Rattle.cf_grow.specs.declared.mark.TakeFail.TheVariants.{Shrunk}
use Rattle.cf_server.specs.declared.reply.Reply.{Reply}
use Rattle.cf_grow.specs.Growing.{told_by, moved, news_in, HasMark, IsAnswerOf, IsRefusal}
use Rattle.cf_grow.specs.Standing.{Keeps, hash_in}
use Rattle.cf_server.specs.Replies.{messages_of, AreRepliesOf, Adds}

abbrev hash_of_bytes : List ℕ → Option Hash32
hash_of_bytes x = Some (record { 0 = x })

-- the hash at the chain's height
some_top : (o : Option Block) (top : List ℕ) → option_map (λ (b : Block). block_hash_of b.header) o ≡ Some top
    → option_map {U = Hash32} (λ (b : Block). record { 0 = block_hash_of b.header }) o ≡ Some (record { 0 = top })
some_top None top e = cc
some_top (Some b) top e = (let one : block_hash_of b.header ≡ top = cc in ap (λ (x : List ℕ). hash_of_bytes x) one)

pub top_some : (blocks : List Block) (n : ℕ) (o : Option Hash32) → n ≡ length blocks → o ≡ hash_in blocks n
    → o ≡ Some (record { 0 = top_hash blocks })
top_some blocks n o e is = is ∙ ap (hash_in blocks) e
    ∙ some_top (slice_get (all_blocks blocks) (length blocks)) (top_hash blocks) (top_at blocks)

pub top_is : (blocks : List Block) (n : ℕ) (o : Option Hash32) (hash : Hash32) → n ≡ length blocks
    → o ≡ hash_in blocks n → o ≡ Some hash → hash.0 ≡ top_hash blocks
top_is blocks n o hash e is f =
    let both : Some hash ≡ Some (record { 0 = top_hash blocks }) = sym f ∙ top_some blocks n o e is in
    let one : hash ≡ record { 0 = top_hash blocks } = cc in
    ap (λ (h : Hash32). h.0) one

pub top_none : (blocks : List Block) (n : ℕ) (o : Option Hash32) → n ≡ length blocks → o ≡ hash_in blocks n → o ≡ None
    → ⊥
top_none blocks n o e is f = absurd (none_some (record { 0 = top_hash blocks }) (sym f ∙ top_some blocks n o e is)) where
  none_some : (h : Hash32) → None ≡ Some h → ⊥
  none_some h both = cc

-- the tip is told first
pub news_none : (blocks : List Block) (seen : Bool) (height : ℕ) (hash : Hash32) → seen ≡ false
    → [] ≡ told_first blocks (told_by seen height hash)
news_none blocks seen height hash off = sym (ap (λ (b : Bool). told_first blocks (told_by b height hash)) off)

pub news_up : (blocks : List Block) (seen : Bool) (height : ℕ) (hash top : Hash32) → seen ≡ true
    → height < length blocks → top.0 ≡ top_hash blocks
    → announcement top.0 ∷ [] ≡ told_first blocks (told_by seen height hash)
news_up blocks seen height hash top on up is =
    ap (λ (x : List ℕ). announcement x ∷ []) is
    ∙ sym (ap (λ (b : Bool). told_first blocks (told_by b height hash)) on ∙ ap (λ (b : Bool). if b then announcement (top_hash blocks) ∷ [] else []) (lt-ltb height (length blocks) up))

pub news_at : (blocks : List Block) (seen : Bool) (height : ℕ) (hash : Hash32) → seen ≡ true → length blocks ≤ height
    → [] ≡ told_first blocks (told_by seen height hash)
news_at blocks seen height hash on over =
    sym (ap (λ (b : Bool). told_first blocks (told_by b height hash)) on ∙ ap (λ (b : Bool). if b then announcement (top_hash blocks) ∷ [] else []) (le-ltb height (length blocks) over))

-- the mark
at_tip : (blocks : List Block) (n : ℕ) (top : Hash32) → n ≡ length blocks → top.0 ≡ top_hash blocks
    → TipTold n top.0 ≡ mark_at blocks
at_tip blocks n top e is = ap (λ (k : ℕ). TipTold k top.0) e ∙ ap (λ (x : List ℕ). TipTold (length blocks) x) is

pub moves_first : (blocks : List Block) (seen now : Bool) (height n : ℕ) (hash top : Hash32) → seen ≡ false
    → n ≡ length blocks → top.0 ≡ top_hash blocks
    → told_by now n top ≡ moved blocks (told_by seen height hash) now
moves_first blocks seen true height n hash top off e is = at_tip blocks n top e is
    ∙ sym (ap (λ (b : Bool). moved blocks (told_by b height hash) true) off)
moves_first blocks seen false height n hash top off e is = sym (ap (λ (b : Bool). moved blocks (told_by b height hash) false) off)

pub moves_up : (blocks : List Block) (seen now : Bool) (height n : ℕ) (hash top : Hash32) → seen ≡ true → now ≡ true
    → n ≡ length blocks → top.0 ≡ top_hash blocks → height < n
    → told_by now n top ≡ moved blocks (told_by seen height hash) now
moves_up blocks seen now height n hash top on still e is up =
    ap (λ (b : Bool). told_by b n top) still ∙ at_tip blocks n top e is
    ∙ sym (ap (λ (b : Bool). moved blocks (told_by b height hash) now) on ∙ ap (λ (b : Bool). if b then mark_at blocks else TipTold height hash.0) (lt-ltb height (length blocks) (omega (arith, up, e))))

pub moves_not : (blocks : List Block) (seen now : Bool) (height n : ℕ) (hash : Hash32) → seen ≡ true → now ≡ true
    → n ≡ length blocks → n ≤ height
    → told_by now height hash ≡ moved blocks (told_by seen height hash) now
moves_not blocks seen now height n hash on still e over =
    ap (λ (b : Bool). told_by b height hash) still
    ∙ sym (ap (λ (b : Bool). moved blocks (told_by b height hash) now) on ∙ ap (λ (b : Bool). if b then mark_at blocks else TipTold height hash.0) (le-ltb height (length blocks) (omega (arith, over, e))))

moved_is : (blocks : List Block) (told : TipMark) (seen : Bool) (m : Msg) → is_met told ≡ seen
    → moved blocks told (is_version m || seen) ≡ marked blocks told m
moved_is blocks NotMet true m e = absurd (false≢true e)
moved_is blocks NotMet false m e = by_version (is_version m) where
  by_version : (b : Bool) → moved blocks NotMet (b || false) ≡ (if b then mark_at blocks else NotMet)
  by_version true = refl
  by_version false = refl
moved_is blocks (TipTold height hash) seen m e = refl

met_is : (seen : Bool) (height : ℕ) (hash : Hash32) → is_met (told_by seen height hash) ≡ seen
met_is true height hash = refl
met_is false height hash = refl

pub mark_moved : (blocks : List Block) (seen now : Bool) (height : ℕ) (hash : Hash32) (m : Msg)
    → now ≡ (is_version m || seen)
    → moved blocks (told_by seen height hash) now ≡ marked blocks (told_by seen height hash) m
mark_moved blocks seen now height hash m e = ap (λ (b : Bool). moved blocks (told_by seen height hash) b) e
    ∙ moved_is blocks (told_by seen height hash) seen m (met_is seen height hash)

-- the answer
pub answer_is : (served : Serving) (blocks : List Block) (height : ℕ) (hash : Hash32) (m : Msg) (a : Answer)
    → news_in a.news ≡ told_first blocks (told_by served.seen height hash)
    → a.wants ≡ wanted_entries blocks served.seen m
    → Adds served blocks [] a.plain (replies_to served.time served.nonce blocks served.seen m)
    → IsAnswerOf served blocks a (grow_answer served.time served.nonce blocks (told_by served.seen height hash) m).replies
answer_is served blocks height hash m a news wants adds =
    let same : a.plain ≡ adds.added = adds.joined in
    record {
      told =
          ap (λ (ms : List Msg). ms ++ (asked_for a.wants ++ messages_of served blocks a.plain)) news
          ∙ ap (λ es. told_first blocks (told_by served.seen height hash) ++ (asked_for es ++ messages_of served blocks a.plain)) wants
          ∙ ap (λ (ms : List Msg). told_first blocks (told_by served.seen height hash) ++ (asked_for (wanted_entries blocks served.seen m) ++ ms)) (ap (λ (rs : List Reply). messages_of served blocks rs) same ∙ adds.told)
          ∙ ap (λ (b : Bool). told_first blocks (told_by served.seen height hash) ++ growing_answers served.time served.nonce blocks b m) (sym (met_is served.seen height hash));
      each = subst (λ (rs : List Reply). AreRepliesOf blocks rs) (sym same) adds.each;
    }

-- a mark that doesn't stand, which was told then
pub mark_lost : (blocks : List Block) (mark : ServedMark) (s : Hashes) → (HasMark blocks mark → ⊥) → s.seen ≡ mark.hash → s.found ≡ hash_in blocks mark.height
    → IsRefusal blocks mark (Shrunk s)
mark_lost blocks mark s lost seen found = inl (by_seen mark.served.seen refl, (seen, found, λ same. lost (λ on. sym found ∙ same))) where
  by_seen : (b : Bool) → mark.served.seen ≡ b → mark.served.seen ≡ true
  by_seen true is = is
  by_seen false is = absurd (lost (λ on. absurd (false≢true (sym is ∙ on))))

-- a first tip that doesn't
pub first_lost : (blocks : List Block) (mark : ServedMark) (s : Hashes) → (Keeps blocks mark.first → ⊥) → s.seen ≡ mark.first.hash → s.found ≡ hash_in blocks mark.first.height
    → IsRefusal blocks mark (Shrunk s)
first_lost blocks mark s lost seen found = inr (seen, found, λ same. lost (sym found ∙ same))

-- where the mark goes
pub ruleset moves = (moves_first, moves_up, moves_not)

-- what is answered, and where the mark goes, or why it is refused
pub ruleset taken_so = (answer_is, mark_moved, mark_lost, first_lost)
