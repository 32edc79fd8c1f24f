-- A frame is answered by one step under the lock.
use Rattle.std.proofs.Common.{◌≡◌, ℕ, Bool, true, false, inl, inr, List, Option, Some, Result, Ok, Err, refl, sym, ap, ◌∙◌, subst}
use Rattle.std.specs.Prelude.{IfOk}
use Rattle.cf_bytes.specs.declared.hash.Hash32.{Hash32}
use Rattle.cf_bytes.specs.declared.memory.Refused.{Refused}
use Rattle.cf_block.specs.declared.tx.Block.{Block}
use Rattle.cf_chain.specs.Good.{IsGoodChain}
use Rattle.cf_chain.specs.Grow.{TipMark, TipTold}
use Rattle.cf_frame.specs.declared.frame.Frame.{Frame}
use Rattle.cf_frame.specs.Frame.{IsFrame}
use Rattle.cf_bytes.specs.Cut.{IsBytes}
use Rattle.cf_grow.specs.declared.grown.Taken.{Taken}
use Rattle.cf_grow.specs.declared.ending.Ending.TheVariants.{Served}
use Rattle.cf_grow.specs.declared.mark.ServedMark.{ServedMark}
use Rattle.cf_grow.specs.declared.mark.Shrunk.{Shrunk as Hashes}
use Rattle.cf_grow.specs.declared.mark.TakeFail.{TakeFail}
use Rattle.cf_grow.specs.declared.mark.TakeFail.TheVariants.{Shrunk as NotThere, NoMemory as OutOfMemory}
use Rattle.cf_grow.specs.Growing.{begun_in, told_by, mark_of, IsRefusal, IsRefused, IsStep, Misses}
use Rattle.cf_grow.specs.Standing.{Start, hash_in, StandsOn}
use Rattle.cf_grow.specs.Held.{text_all}
use Rattle.cf_grow.specs.Serving.{Answers, Answered, AnswersFrame, IsShrunk, ending_of}
use Rattle.cf_msg.specs.declared.msg.Msg.{Msg}
use Rattle.cf_msg.specs.declared.msg.Malformed.{Malformed}
use Rattle.cf_msg.specs.Message.{HasSpelling}
use Rattle.cf_msg.specs.Reading.{message_of, Answers as ReadsAs}
use Rattle.cf_msg.proofs.Table.{carried}
use Rattle.cf_server.specs.declared.outcome.ServeEnd.{ServeEnd}
use Rattle.cf_server.specs.declared.outcome.ServeEnd.TheVariants.{Closed, BadFrame, Malformed as MalformedFrame, ReadFault, WriteFault, Tired, NoMemory}
use Rattle.cf_server.specs.Serving.{Whole}
use Rattle.cf_server.specs.Taking.{Sends}

-- what was read is spelled
pub spelled_of : (f : Frame) (payload : List ℕ) (r : Result Msg (Refused Malformed)) → ReadsAs (message_of f) r → IsFrame f → payload ≡ f.payload → IsBytes payload
    → IfOk r HasSpelling
spelled_of f payload (Ok m) reads frame same bytes = (carried f m frame (subst IsBytes same bytes) reads).fits
spelled_of f payload (Err e) reads frame same bytes = tt

stands_by : (blocks : List Block) (seen : Bool) (height : ℕ) (hash : Hash32) → (seen ≡ true → hash_in blocks height ≡ Some hash) → StandsOn blocks (told_by seen height hash)
stands_by blocks true height hash has = has refl
stands_by blocks false height hash has = tt

-- a step answers the message by a good chain that has the first tip, and on which the mark stands
pub step_answers : (mark now : ServedMark) (m : Msg) (taken : Taken) → IsStep mark now m taken
    → Answers (begun_in mark) mark.served.nonce (mark_of mark) m (mark_of now) (text_all taken.parts)
step_answers mark now m taken step = record {
  chain = step.chain;
  good = step.good;
  keeps = step.keeps;
  stands = stands_by step.chain mark.served.seen mark.height mark.hash step.has;
  written = step.answer;
  moved = step.next;
}

-- a refusal tells of a good chain that hasn't what was told
shrunk_by : (now : Start) (seen : Bool) (height : ℕ) (hash : Hash32) (s : Hashes) (blocks : List Block) → IsGoodChain blocks
    → seen ≡ true → Misses blocks height hash s → IsShrunk now (told_by seen height hash) s
shrunk_by now seen height hash s blocks good met misses = record {
  chain = blocks;
  good = good;
  height = height;
  told = inl (ap (λ (b : Bool). told_by b height hash) met ∙ ap (λ (h : Hash32). TipTold height h.0) (sym misses.0));
  found = misses.1;
  other = λ same. misses.2 (same ∙ ap Some misses.0);
}

-- or the tip that the server began with
shrunk_first : (now : Start) (mark : TipMark) (s : Hashes) (blocks : List Block) → IsGoodChain blocks → Misses blocks now.tip.height now.tip.hash s
    → IsShrunk now mark s
shrunk_first now mark s blocks good misses = record {
  chain = blocks;
  good = good;
  height = now.tip.height;
  told = inr (refl, sym misses.0);
  found = misses.1;
  other = λ same. misses.2 (same ∙ ap Some misses.0);
}

shrunk_either : (mark : ServedMark) (s : Hashes) (blocks : List Block) → IsGoodChain blocks → IsRefusal blocks mark (NotThere s)
    → IsShrunk (begun_in mark) (mark_of mark) s
shrunk_either mark s blocks good (inl told) = shrunk_by (begun_in mark) mark.served.seen mark.height mark.hash s blocks good told.0 told.1
shrunk_either mark s blocks good (inr first) = shrunk_first (begun_in mark) (mark_of mark) s blocks good first

-- a frame whose message is refused
pub refused_frame : (fail : TakeFail) (nonce : ℕ) (read : Result Msg Malformed) (m : Msg) (mark : ServedMark) (next : TipMark) (o : Option (List ℕ)) → read ≡ Ok m → IsRefused mark fail
    → AnswersFrame (Err (ending_of fail)) (begun_in mark) nonce read (mark_of mark) next o o
refused_frame (NotThere s) nonce read m mark next o is refused = ((m, is), shrunk_either mark s refused.chain refused.good refused.refusal, refl)
refused_frame OutOfMemory nonce read m mark next o is refused = inl refl

-- one whose answer is sent in part
pub frame_failed : (outcome : ServeEnd) (now : Start) (nonce : ℕ) (read : Result Msg Malformed) (m : Msg) (mark next : TipMark) (text : List ℕ) (o p : Option (List ℕ)) → read ≡ Ok m
    → Answers now nonce mark m next text → Sends (Err outcome) o p text → AnswersFrame (Err (Served outcome)) now nonce read mark next o p
frame_failed WriteFault now nonce read m mark next text o p is answers sends = inr (record { message = m; is = is; next = next; text = text; answers = answers; begins = sends })
frame_failed NoMemory now nonce read m mark next text o p is answers sends = inr (record { message = m; is = is; next = next; text = text; answers = answers; begins = sends })
frame_failed Closed now nonce read m mark next text o p is answers sends = absurd sends
frame_failed (BadFrame fault) now nonce read m mark next text o p is answers sends = absurd sends
frame_failed (MalformedFrame fault) now nonce read m mark next text o p is answers sends = absurd sends
frame_failed ReadFault now nonce read m mark next text o p is answers sends = absurd sends
frame_failed Tired now nonce read m mark next text o p is answers sends = absurd sends

-- one whose answer is sent whole
pub frame_answered : (now : Start) (nonce : ℕ) (read : Result Msg Malformed) (m : Msg) (mark next : TipMark) (text : List ℕ) (o p : Option (List ℕ)) → read ≡ Ok m
    → Answers now nonce mark m next text → Whole o p text → Answered now nonce read mark next o p
frame_answered now nonce read m mark next text o p is answers whole = record { message = m; is = is; text = text; answers = answers; written = whole }
