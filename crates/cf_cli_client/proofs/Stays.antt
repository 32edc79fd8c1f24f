-- What a run that follows has written, and how it ended.
use Rattle.std.proofs.Common.{◌≡◌, ◌≢◌, inl, inr, ℕ, ◌+◌, ◌≤◌, Bool, true, false, List, [], ◌∷◌, ◌++◌, length, take, Option, Some, None, refl, sym, ◌∙◌, ap, subst, arith, append_assoc, length-append}
use Rattle.std.specs.Global.{Global}
use Rattle.std.specs.Prelude.{◌⊎◌, IfSome, String}
use Rattle.std.proofs.lemmas.Bool.{both_ways, false≢true}
use Rattle.std.proofs.lemmas.List.{append-nil}
use Rattle.std.proofs.Math.Seq.{take-length, take-append-add}
use Rattle.cf_bytes.specs.Outside.{HasRisen, with_more}
use Rattle.cf_block.specs.declared.tx.Block.{Block}
use Rattle.cf_chain.specs.Grow.{top_hash}
use Rattle.cf_headers.specs.Store.{Chains}
use Rattle.cf_run.specs.declared.outcome.End.{End}
use Rattle.cf_run.specs.declared.outcome.End.TheVariants.{Synced as IsSynced, NoPeers as HasNoPeers, Tired as IsTired, Ended as HasEnded}
use Rattle.cf_run.specs.declared.trace.TraceLine.{TraceLine}
use Rattle.cf_run.specs.declared.outcome.Outcome.{Outcome}
use Rattle.cf_run.specs.Names.{names_in}
use Rattle.cf_run.specs.Run.{WasRun, kept_lines}
use Rattle.cf_run.specs.Whole.{EndsWithin, GivesUp, IsOutcome, LeavesWires}
use Rattle.cf_run.specs.Texts.{HasBegun, HasPut, HasPutBut, HasPutSo, HasPutSome, IsOver, joined}
use Rattle.cf_run.specs.declared.texts.TextFail.{TextFail}
use Rattle.cf_run.specs.declared.texts.TextFail.TheVariants.{Failed as HasFailed, NoMemory as LacksMemory}
use Rattle.cf_place.specs.declared.place.PeerEnd.{PeerEnd}
use Rattle.cf_place.specs.Standing.{Greeting}
use Rattle.cf_peer.specs.declared.mode.Mode.TheVariants.{Following}
use Rattle.cf_peer.specs.Trail.{trail}
use Rattle.cf_sync.specs.Fetching.{AreBytes, IsConnected, IsQuiet, RightlyIn, following}
use Rattle.cf_sync.specs.Growing.{FollowTheorem, IsTold, OthersShowNone}
use Rattle.cf_sync.specs.Putting.{ArePut, WerePut}
use Rattle.cf_run.proofs.Turns.{told_so}
use Rattle.cf_sync.proofs.Follows.{growing_never}
use Rattle.cf_sync.proofs.LastText.{last_text}
use Rattle.cf_wires.specs.Log.{Log, Told}
use Rattle.cf_wires.specs.Wires.{Made}
use Rattle.cf_scan.specs.HistoryText.{history_text}
use Rattle.cf_scan.specs.Scan.{scan_of}
use Rattle.cf_answers.specs.declared.status.Status.{Status}
use Rattle.cf_answers.specs.declared.status.Status.TheVariants.{Done, NoMemory, Usage, BadFile, FileFault, OutFault, NoPeers, Tired, Ended, LinkFault, NoNonce, NoHeight, NotThere, NotInChain, NotAddress}
use Rattle.cf_answers.specs.Writing.{CountsOut}
use Rattle.cf_cli_client.specs.Leaving.{CountsOn}
use Rattle.cf_cli_client.specs.Following.{BegunTexts, CutShort, EndsBy, GivenUp, Grows, KeptOn, CameToEnd, TalliedOn, WasOverOn, with_trace}
use Rattle.cf_answers.specs.Statuses.{has_run, is_over, was_refused, was_unbegun}
use Rattle.cf_cli_client.specs.Theorem.{AnswersTo, IsComplete, IsOfRun}
use Rattle.cf_cli_client.proofs.Tallies.{ended_as, not_run, run_tallied, spent_tallied, unwritten_tallied}
use Rattle.cf_cli_client.proofs.Runs.{followed_by, somebody_left}

-- a run that ended so is over
pub over_by : (end : End) (ends : List PeerEnd) (status : Status) → AnswersTo end ends status → is_over status ≡ true
over_by IsSynced ends status is = ap is_over is
over_by HasNoPeers ends status is = ap is_over is.1
over_by IsTired ends status is = ap is_over is
over_by HasEnded ends status is = ap is_over is

-- so its sink hasn't failed
pub counts_fine : (status : Status) (old new : ℕ) → is_over status ≡ true → new ≡ old → CountsOut status old new
counts_fine status old new over same = record { fault = λ is. absurd (false≢true (sym (ap is_over is) ∙ over)); fine = λ ne. same }

-- the same of what goes on once its sink has failed; but where its record fails behind it nothing is said
pub counts_on : (recorded : Bool) (status : Status) (old new : ℕ) → CountsOut status old new → CountsOn recorded status old new
counts_on recorded status old new counts = record { fault = counts.fault; fine = λ ne fine. counts.fine ne }

pub counts_behind : (recorded : Bool) (status : Status) (old new : ℕ) → recorded ≡ true → status ≢ OutFault
    → ((status ≢ FileFault) × (status ≢ NoMemory) → ⊥) → CountsOn recorded status old new
counts_behind recorded status old new on ne one = record { fault = λ is. absurd (ne is); fine = λ no fine. absurd (one (fine on)) }

-- where somebody is left it is complete
complete_by : (end : End) (ends : List PeerEnd) (status : Status) (recorded : Bool) → AnswersTo end ends status → end ≢ HasNoPeers → IsComplete status recorded
complete_by IsSynced ends status recorded is somebody = subst (λ (s : Status). IsComplete s recorded) (sym is) tt
complete_by HasNoPeers ends status recorded is somebody = absurd (somebody refl)
complete_by IsTired ends status recorded is somebody = subst (λ (s : Status). IsComplete s recorded) (sym is) tt
complete_by HasEnded ends status recorded is somebody = subst (λ (s : Status). IsComplete s recorded) (sym is) tt

-- what is answered to a file is no end of a run; what wasn't refused was begun, and what was carried out wasn't refused
record IsAnswer (status : Status) : Type 0 where
  over : has_run status ≡ false → is_over status ≡ false
  begun : (recorded : Bool) → was_refused status ≡ false → was_unbegun status recorded ≡ false
  run : has_run status ≡ true → was_refused status ≡ false

answer : (status : Status) → IsAnswer status
answer Done = record { over = λ off. cc; begun = λ recorded off. cc; run = λ on. cc }
answer NoMemory = record { over = λ off. cc; begun = λ recorded off. cc; run = λ on. cc }
answer Usage = record { over = λ off. cc; begun = λ recorded off. cc; run = λ on. cc }
answer (BadFile which place cause) = record { over = λ off. cc; begun = λ recorded off. cc; run = λ on. cc }
answer FileFault = record { over = λ off. cc; begun = λ recorded off. cc; run = λ on. cc }
answer OutFault = record { over = λ off. cc; begun = λ recorded off. cc; run = λ on. cc }
answer (NoPeers ends) = record { over = λ off. cc; begun = λ recorded off. cc; run = λ on. cc }
answer Tired = record { over = λ off. cc; begun = λ recorded off. cc; run = λ on. cc }
answer Ended = record { over = λ off. cc; begun = λ recorded off. cc; run = λ on. cc }
answer LinkFault = record { over = λ off. cc; begun = λ recorded off. cc; run = λ on. cc }
answer (NoNonce height) = record { over = λ off. cc; begun = λ recorded off. cc; run = λ on. cc }
answer (NoHeight tip) = record { over = λ off. cc; begun = λ recorded off. cc; run = λ on. cc }
answer (NotThere txid) = record { over = λ off. cc; begun = λ recorded off. cc; run = λ on. cc }
answer (NotInChain block) = record { over = λ off. cc; begun = λ recorded off. cc; run = λ on. cc }
answer (NotAddress cause) = record { over = λ off. cc; begun = λ recorded off. cc; run = λ on. cc }

pub not_over : (status : Status) → has_run status ≡ false → is_over status ≡ false
not_over status = (answer status).over

pub begun_by : (status : Status) (recorded : Bool) → was_refused status ≡ false → was_unbegun status recorded ≡ false
begun_by status = (answer status).begun

pub run_begun : (status : Status) (recorded : Bool) → has_run status ≡ true → was_unbegun status recorded ≡ false
run_begun status recorded on = begun_by status recorded ((answer status).run on)

with_nothing : (before : Option (List ℕ)) → with_more before [] ≡ before
with_nothing None = refl
with_nothing (Some bytes) = ap Some (append-nil bytes)

-- nothing of a text was taken; or all of it
pub nothing_begun : (text : List ℕ) (before : Option (List ℕ)) → HasBegun text before before
nothing_begun text before = record { n = 0; within = omega arith; taken = sym (with_nothing before) }

all_begun : (text : List ℕ) (before after : Option (List ℕ)) → after ≡ with_more before text → HasBegun text before after
all_begun text before after e = record {
  n = length text;
  within = omega arith;
  taken = e ∙ ap (with_more before) (sym (take-length text));
}

-- the last of the texts is written last
last_written : (scripts : List (List ℕ)) (trace : Bool) (lines : List TraceLine) (texts : List (List ℕ)) (before after : Option (List ℕ)) (log : Log)
    → ArePut scripts log texts → after ≡ with_more before (with_trace trace lines (joined texts))
    → (p : ℕ) (blocks : List Block) (first top : ℕ) → Grows log p blocks first → IsTold blocks first (trail log p) top → OthersShowNone log p (take top blocks)
    → IsConnected log p → IsQuiet log
    → EndsBy trace scripts (history_text (scan_of (take top blocks) scripts) (length (take top blocks)) (top_hash (take top blocks))) before after log
last_written scripts trace lines texts before after log puts written p blocks first top grows told none on quiet = record {
  lines = lines;
  texts = texts;
  puts = puts;
  last = last_text scripts log puts.0 texts puts.1.1 p blocks first top grows.apart grows.growing told none on quiet;
  written = written;
}

-- all that was put of a run that is over is what was put where none is
some_put : (scripts : List (List ℕ)) (log : Log) (before after : Option (List ℕ)) → HasPut scripts log before after → HasPutSome scripts log before after
some_put scripts log before after put = inl (record { texts = put.texts; puts = inr put.puts; taken = put.taken })

pub some_put_told : (o : Option Log) (scripts : List (List ℕ)) (before after : Option (List ℕ)) → IfSome o (λ log. HasPut scripts log before after)
    → IfSome o (λ log. HasPutSome scripts log before after)
some_put_told None scripts before after put = tt
some_put_told (Some log) scripts before after put = some_put scripts log before after put

-- the same where no memory was found, and where what takes the texts has failed
pub some_so_told : (o : Option Log) (scripts : List (List ℕ)) (before after : Option (List ℕ)) → IfSome o (λ log. HasPutSo scripts log before after)
    → IfSome o (λ log. HasPutSome scripts log before after)
some_so_told None scripts before after so = tt
some_so_told (Some log) scripts before after so = inl so

pub some_but_told : (o : Option Log) (scripts : List (List ℕ)) (before after : Option (List ℕ)) → IfSome o (λ log. HasPutBut scripts log before after)
    → IfSome o (λ log. HasPutSome scripts log before after)
some_but_told None scripts before after but = tt
some_but_told (Some log) scripts before after but = inr but

-- whichever it was
pub some_by_told : {T : Type 0} (fail : TextFail) (told : T → Option (List ℕ)) (faults : T → ℕ) (scripts names : List (List ℕ)) (t : Told) (before after : T)
    → GivesUp fail told faults scripts names t before after → IfSome t.log (λ log. HasPutSome scripts log (told before) (told after))
some_by_told LacksMemory told faults scripts names t before after so = some_so_told t.log scripts (told before) (told after) so.put
some_by_told HasFailed told faults scripts names t before after cut = some_but_told t.log scripts (told before) (told after) cut.put

-- nothing was put over new wires
pub new_put : (scripts : List (List ℕ)) (log : Log) (before : Option (List ℕ)) → log ≡ [] → HasPutSome scripts log before before
new_put scripts log before none = inl (record {
  texts = [];
  puts = inl (subst (λ (l : Log). WerePut scripts l []) (sym none) refl);
  taken = sym (with_nothing before);
})

pub new_put_told : (o : Option Log) (scripts : List (List ℕ)) (before : Option (List ℕ)) → IfSome o (λ log. log ≡ []) → IfSome o (λ log. HasPutSome scripts log before before)
new_put_told None scripts before none = tt
new_put_told (Some log) scripts before none = new_put scripts log before none

pub new_all : (scripts : List (List ℕ)) (log : Log) (before : Option (List ℕ)) → log ≡ [] → HasPut scripts log before before
new_all scripts log before none = record {
  texts = [];
  puts = subst (λ (l : Log). ArePut scripts l []) (sym none) ([], (refl, record { at_rest = λ rest. absurd (false≢true rest.there); elsewhere = λ busy. refl }));
  taken = sym (with_nothing before);
}

-- a text that was begun behind others
with_both : (before : Option (List ℕ)) (a b : List ℕ) → with_more (with_more before a) b ≡ with_more before (a ++ b)
with_both None a b = refl
with_both (Some bytes) a b = ap Some (append_assoc bytes a b)

begun_behind : (text : List ℕ) (texts : List (List ℕ)) (before after : Option (List ℕ)) → HasBegun text (with_more before (joined texts)) after
    → HasBegun (joined (text ∷ texts)) before after
begun_behind text texts before after begun =
    let size = length-append (joined texts) text in
    record {
      n = length (joined texts) + begun.n;
      within = omega (arith, size, begun.within);
      taken = begun.taken ∙ with_both before (joined texts) (take begun.n text) ∙ ap (with_more before) (sym (take-append-add (joined texts) text begun.n));
    }

-- whatever was put of a run that was given up, no trace before it, is a beginning of its texts
some_begun : (scripts : List (List ℕ)) (before after : Option (List ℕ)) (log : Log) → HasPutSome scripts log before after → BegunTexts false scripts before after log
some_begun scripts before after log (inl so) = record {
  lines = [];
  traced = inl refl;
  texts = so.texts;
  puts = so.puts;
  begun = all_begun (joined so.texts) before after so.taken;
}
some_begun scripts before after log (inr but) = record {
  lines = [];
  traced = inl refl;
  texts = but.text ∷ but.texts;
  puts = inr (but.texts, (but.earlier, but.due));
  begun = begun_behind but.text but.texts before after but.begun;
}

-- or nothing of it was written
some_unwritten : (trace : Bool) (scripts : List (List ℕ)) (first told before : Option (List ℕ)) (log : Log) → BegunTexts false scripts first told log
    → BegunTexts trace scripts before before log
some_unwritten trace scripts first told before log begun = record {
  lines = [];
  traced = inr (inl refl);
  texts = begun.texts;
  puts = begun.puts;
  begun = nothing_begun (with_trace trace [] (joined begun.texts)) before;
}

-- texts that were kept from the first on are all that is kept
kept_bytes : (old now bytes : List ℕ) (texts : List (List ℕ)) → old ≡ [] → bytes ≡ now → Some now ≡ with_more (Some old) (joined texts) → bytes ≡ joined texts
kept_bytes old now bytes texts none same put =
    let all : now ≡ old ++ joined texts = cc in
    same ∙ all ∙ ap (λ (x : List ℕ). x ++ joined texts) none

-- and they are written behind the trace
pub tape_written : (trace : Bool) (lines : List TraceLine) (old now bytes text : List ℕ) (before after : Option (List ℕ)) → old ≡ [] → bytes ≡ now
    → text ≡ with_trace trace lines bytes → after ≡ with_more before text
    → (texts : List (List ℕ)) → Some now ≡ with_more (Some old) (joined texts) → after ≡ with_more before (with_trace trace lines (joined texts))
tape_written trace lines old now bytes text before after none same is written texts put =
    written ∙ ap (with_more before) (is ∙ ap (with_trace trace lines) (kept_bytes old now bytes texts none same put))

pub tape_begun : (trace : Bool) (lines : List TraceLine) (old now bytes text : List ℕ) (before after : Option (List ℕ)) → old ≡ [] → bytes ≡ now
    → text ≡ with_trace trace lines bytes → (n : ℕ) → n ≤ length text → after ≡ with_more before (take n text)
    → (texts : List (List ℕ)) → Some now ≡ with_more (Some old) (joined texts) → HasBegun (with_trace trace lines (joined texts)) before after
tape_begun trace lines old now bytes text before after none same is n low written texts put =
    subst (λ (t : List ℕ). HasBegun t before after) (is ∙ ap (with_trace trace lines) (kept_bytes old now bytes texts none same put))
    (record { n = n; within = low; taken = written })

stayed_kept : (status : Status) (recorded trace : Bool) (scripts names : List (List ℕ)) (before after : Option (List ℕ)) (log : Log)
    → (s : CameToEnd status trace scripts names before after log) → FollowTheorem scripts s.run.height s.run.tip s.run.entries log → KeptOn status recorded trace scripts names before after log
stayed_kept status recorded trace scripts names before after log s theorem = record {
  last = λ p blocks first top grows told none quiet over.
      last_written scripts trace s.run.lines s.texts before after log s.puts s.written p blocks first top grows told none
      (theorem.somebody p blocks first grows.apart grows.growing) quiet;
  complete = λ p blocks first grows.
      complete_by s.run.end s.ends status recorded s.answered
      (somebody_left s.run.end log p s.run.followed.why (theorem.somebody p blocks first grows.apart grows.growing));
  never = λ p blocks first grows. theorem.never p blocks first grows.apart grows.growing;
  ran = λ over. s;
  begun = λ off. absurd (both_ways (is_over status) off (over_by s.run.end s.ends status s.answered));
  right = (s.run.followed.asked.bytes, s.run.followed.asked.rightly);
  run = λ ne. inr s.run.followed.run;
}

-- nothing of it was given up
pub over_given : (o : Option Log) (status : Status) (scripts names : List (List ℕ)) (before after : Option (List ℕ)) (old new : ℕ) → is_over status ≡ true
    → new ≡ old → IfSome o (λ log. GivenUp status scripts names before after old new log)
over_given None status scripts names before after old new over same = tt
over_given (Some log) status scripts names before after old new over same = record {
  some = λ off. absurd (both_ways (is_over status) off over);
  tried = λ off enough. absurd (both_ways (is_over status) off over);
  refused = λ is. absurd (false≢true (sym (ap is_over is) ∙ over));
  unrecorded = λ is. absurd (false≢true (sym (ap is_over is) ∙ over));
  tells = inl same;
}

-- behind the trace stand the lines that are wanted, whether or not the others are kept
same_behind : (trace : Bool) (kept lines : List TraceLine) (bytes : List ℕ) → kept ≡ kept_lines trace lines → with_trace trace kept bytes ≡ with_trace trace lines bytes
same_behind true kept lines bytes same = ap (λ (xs : List TraceLine). with_trace true xs bytes) same
same_behind false kept lines bytes same = refl

-- all its texts were written, by what takes them
pub stayed_told : (log : Option Log) (counts : Chains → ℕ → Type 0) (scripts names : List (List ℕ)) (o : Outcome) (status : Status) (recorded trace : Bool) (first told before after : Option (List ℕ))
    → IfSome log (IsOutcome counts (following scripts) trace names o) → IfSome log (λ l. FollowTheorem scripts o.height o.tip o.history l)
    → AnswersTo o.end o.ends.items status → IfSome log (λ l. HasPut scripts l first told)
    → ((texts : List (List ℕ)) → told ≡ with_more first (joined texts) → after ≡ with_more before (with_trace trace o.trace.items (joined texts)))
    → IfSome log (λ l. KeptOn status recorded trace scripts names before after l)
stayed_told None counts scripts names o status recorded trace first told before after is theorem answered put write = tt
stayed_told (Some log) counts scripts names o status recorded trace first told before after is theorem answered put write =
    stayed_kept status recorded trace scripts names before after log (record {
      run = followed_by counts (following scripts) trace names o log is;
      ends = o.ends.items;
      stands = is.ends;
      answered = answered;
      texts = put.texts;
      puts = put.puts;
      written = subst (λ (t : List ℕ). after ≡ with_more before t) (same_behind trace o.trace.items is.lines (joined put.texts) is.kept)
          (write put.texts put.taken);
    }) theorem

-- it is over, but the sink has failed: what was written of it
pub cut_told : (log : Option Log) (counts : Chains → ℕ → Type 0) (scripts names : List (List ℕ)) (o : Outcome) (trace : Bool) (first told before after : Option (List ℕ))
    → IfSome log (IsOutcome counts (following scripts) trace names o) → IfSome log (λ l. HasPut scripts l first told)
    → ((texts : List (List ℕ)) → told ≡ with_more first (joined texts) → HasBegun (with_trace trace o.trace.items (joined texts)) before after)
    → IfSome log (λ l. CutShort trace scripts names before after l)
cut_told None counts scripts names o trace first told before after is put begin = tt
cut_told (Some log) counts scripts names o trace first told before after is put begin = record {
  run = followed_by counts (following scripts) trace names o log is;
  texts = put.texts;
  puts = put.puts;
  begun = subst (λ (t : List ℕ). HasBegun t before after) (same_behind trace o.trace.items is.lines (joined put.texts) is.kept)
      (begin put.texts put.taken);
}

-- and what holds of it
pub unwritten_told : (log : Option Log) (scripts names : List (List ℕ)) (o : Outcome) (recorded trace : Bool) (before after : Option (List ℕ))
    → IfSome log (λ l. CutShort trace scripts names before after l) → IfSome log (λ l. FollowTheorem scripts o.height o.tip o.history l)
    → IfSome log (λ l. KeptOn OutFault recorded trace scripts names before after l)
unwritten_told None scripts names o recorded trace before after short theorem = tt
unwritten_told (Some log) scripts names o recorded trace before after short theorem = record {
  last = λ p blocks first top grows told none quiet over. absurd (false≢true over);
  complete = λ p blocks first grows. tt;
  never = λ p blocks first grows. theorem.never p blocks first grows.apart grows.growing;
  ran = λ over. absurd (false≢true over);
  begun = λ off. record {
    lines = short.run.lines;
    traced = inr (inr short.run.followed.traced);
    texts = short.texts;
    puts = inr short.puts;
    begun = short.begun;
  };
  right = (short.run.followed.asked.bytes, short.run.followed.asked.rightly);
  run = λ ne. inr short.run.followed.run;
}

-- a text could not be put
pub failed_told : (o : Option Log) (scripts names : List (List ℕ)) (recorded : Bool) (before after : Option (List ℕ))
    → IfSome o (λ log. HasPutBut scripts log before after) → IfSome o (λ log. AreBytes log × RightlyIn Following log) → IfSome o (WasRun (following scripts) names)
    → IfSome o (λ log. KeptOn OutFault recorded false scripts names before after log)
failed_told None scripts names recorded before after but right run = tt
failed_told (Some log) scripts names recorded before after but right run = record {
  last = λ p blocks first top grows told none quiet over. absurd (false≢true over);
  complete = λ p blocks first grows. tt;
  never = λ p blocks first grows. growing_never log p blocks first right.0 right.1 grows.apart grows.growing;
  ran = λ over. absurd (false≢true over);
  begun = λ off. some_begun scripts before after log (inr but);
  right = right;
  run = λ ne. inr run;
}

pub failed_given : (o : Option Log) (scripts names : List (List ℕ)) (before after : Option (List ℕ)) (old new : ℕ)
    → IfSome o (λ log. HasPutBut scripts log before after) → HasRisen old new → IfSome o (λ log. GivenUp OutFault scripts names before after old new log)
failed_given None scripts names before after old new but risen = tt
failed_given (Some log) scripts names before after old new but risen = record {
  some = λ off. inr but;
  tried = λ off enough. inr (but, risen);
  refused = λ is. (but, risen);
  unrecorded = λ is. cc;
  tells = inr but;
}

-- memory was wanting
spent_kept : (recorded trace : Bool) (scripts names : List (List ℕ)) (before after : Option (List ℕ)) (log : Log) → BegunTexts trace scripts before after log
    → AreBytes log × RightlyIn Following log → KeptOn NoMemory recorded trace scripts names before after log
spent_kept recorded trace scripts names before after log begun right = record {
  last = λ p blocks first top grows told none quiet over. absurd (false≢true over);
  complete = λ p blocks first grows. tt;
  never = λ p blocks first grows. growing_never log p blocks first right.0 right.1 grows.apart grows.growing;
  ran = λ over. absurd (false≢true over);
  begun = λ off. begun;
  right = right;
  run = λ ne. absurd (ne refl);
}

-- with what was put until then
pub spent_told : (o : Option Log) (scripts names : List (List ℕ)) (recorded : Bool) (before after : Option (List ℕ)) → IfSome o (λ log. HasPutSome scripts log before after)
    → IfSome o (λ log. AreBytes log × RightlyIn Following log) → IfSome o (λ log. KeptOn NoMemory recorded false scripts names before after log)
spent_told None scripts names recorded before after put right = tt
spent_told (Some log) scripts names recorded before after put right =
    spent_kept recorded false scripts names before after log (some_begun scripts before after log put) right

spent_so : (scripts names : List (List ℕ)) (before after : Option (List ℕ)) (old new : ℕ) (log : Log)
    → HasPutSome scripts log before after → (new ≡ old) ⊎ HasPutBut scripts log before after
    → GivenUp NoMemory scripts names before after old new log
spent_so scripts names before after old new log put tells = record {
  some = λ off. put;
  tried = λ off enough. absurd (enough refl);
  refused = λ is. cc;
  unrecorded = λ is. cc;
  tells = tells;
}

pub spent_given : (o : Option Log) (scripts names : List (List ℕ)) (before after : Option (List ℕ)) (old new : ℕ)
    → new ≡ old → IfSome o (λ log. HasPutSome scripts log before after)
    → IfSome o (λ log. GivenUp NoMemory scripts names before after old new log)
spent_given None scripts names before after old new same put = tt
spent_given (Some log) scripts names before after old new same put =
    spent_so scripts names before after old new log put (inl same)

-- before anything was written
pub silent_told : (o : Option Log) (scripts names : List (List ℕ)) (recorded trace : Bool) (first told before : Option (List ℕ))
    → IfSome o (λ log. HasPutSome scripts log first told) → IfSome o (λ log. AreBytes log × RightlyIn Following log)
    → IfSome o (λ log. KeptOn NoMemory recorded trace scripts names before before log)
silent_told None scripts names recorded trace first told before put right = tt
silent_told (Some log) scripts names recorded trace first told before put right =
    spent_kept recorded trace scripts names before before log (some_unwritten trace scripts first told before log (some_begun scripts first told log put)) right

-- before anything passed
pub fresh_told : (o : Option Log) (scripts names : List (List ℕ)) (recorded trace : Bool) (before : Option (List ℕ)) → IfSome o (λ log. log ≡ [])
    → IfSome o (λ log. KeptOn NoMemory recorded trace scripts names before before log)
fresh_told o scripts names recorded trace before none =
    silent_told o scripts names recorded trace before before before (new_put_told o scripts before none)
    (told_so o [] (λ log. AreBytes log × RightlyIn Following log) none (tt, tt))

stayed_begun : (status : Status) (trace : Bool) (scripts names : List (List ℕ)) (before after : Option (List ℕ)) (log : Log) → CameToEnd status trace scripts names before after log
    → BegunTexts trace scripts before after log
stayed_begun status trace scripts names before after log s = record {
  lines = s.run.lines;
  traced = inr (inr s.run.followed.traced);
  texts = s.texts;
  puts = inr s.puts;
  begun = all_begun (with_trace trace s.run.lines (joined s.texts)) before after s.written;
}

-- however it ended, the texts were begun
kept_begun : (status : Status) (recorded trace : Bool) (scripts names : List (List ℕ)) (before after : Option (List ℕ)) (log : Log)
    → KeptOn status recorded trace scripts names before after log → BegunTexts trace scripts before after log
kept_begun status recorded trace scripts names before after log kept = by (is_over status) refl where
  by : (b : Bool) → is_over status ≡ b → BegunTexts trace scripts before after log
  by true over = stayed_begun status trace scripts names before after log (kept.ran over)
  by false off = kept.begun off

-- and what was put of them, whatever becomes of the record
kept_some : (status : Status) (recorded : Bool) (scripts names : List (List ℕ)) (before after : Option (List ℕ))
    (old new : ℕ) (log : Log) → KeptOn status recorded false scripts names before after log
    → GivenUp status scripts names before after old new log → HasPutSome scripts log before after
kept_some status recorded scripts names before after old new log kept given = by (is_over status) refl where
  by : (b : Bool) → is_over status ≡ b → HasPutSome scripts log before after
  by true over =
      let s = kept.ran over in
      inl (record { texts = s.texts; puts = inr s.puts; taken = s.written })
  by false off = given.some off

-- the same where no memory is found then
pub spent_behind : (o : Option Log) (status : Status) (recorded : Bool) (scripts names : List (List ℕ))
    (before after : Option (List ℕ)) (old new : ℕ)
    → ((b : Bool) → IfSome o (λ log. KeptOn status b false scripts names before after log))
    → IfSome o (λ log. GivenUp status scripts names before after old new log)
    → IfSome o (λ log. GivenUp NoMemory scripts names before after old new log)
spent_behind None status recorded scripts names before after old new kept given = tt
spent_behind (Some log) status recorded scripts names before after old new kept given =
    spent_so scripts names before after old new log
    (kept_some status recorded scripts names before after old new log (kept recorded) given) given.tells

-- where memory was found it came to its end, or a text of it could not be put
refused_by : (status : Status) → IsOfRun status → was_refused status ≡ false → is_over status ≡ false → status ≢ NoMemory → status ≡ OutFault
refused_by Done is begun off enough = absurd (false≢true (sym off))
refused_by NoMemory is begun off enough = absurd (enough refl)
refused_by Usage is begun off enough = absurd is
refused_by (BadFile which place cause) is begun off enough = absurd (false≢true (sym begun))
refused_by FileFault is begun off enough = absurd (false≢true (sym begun))
refused_by OutFault is begun off enough = refl
refused_by (NoPeers ends) is begun off enough = absurd (false≢true (sym off))
refused_by Tired is begun off enough = absurd (false≢true (sym off))
refused_by Ended is begun off enough = absurd (false≢true (sym off))
refused_by LinkFault is begun off enough = absurd is
refused_by (NoNonce height) is begun off enough = absurd is
refused_by (NoHeight tip) is begun off enough = absurd is
refused_by (NotThere txid) is begun off enough = absurd is
refused_by (NotInChain block) is begun off enough = absurd is
refused_by (NotAddress cause) is begun off enough = absurd is

stayed_or_refused : (status : Status) (recorded : Bool) (scripts names : List (List ℕ)) (before after : Option (List ℕ)) (old new : ℕ) (log : Log)
    → IsOfRun status → was_refused status ≡ false → status ≢ NoMemory → KeptOn status recorded false scripts names before after log
    → GivenUp status scripts names before after old new log
    → ((ended : Status) × CameToEnd ended false scripts names before after log) ⊎ (HasPutBut scripts log before after × HasRisen old new)
stayed_or_refused status recorded scripts names before after old new log is begun enough kept given = by (is_over status) refl where
  by : (b : Bool) → is_over status ≡ b
      → ((ended : Status) × CameToEnd ended false scripts names before after log) ⊎ (HasPutBut scripts log before after × HasRisen old new)
  by true over = inl (status, kept.ran over)
  by false off = inr (given.refused (refused_by status is begun off enough))

-- what was put of them then
given_by : (scripts names : List (List ℕ)) (before after : Option (List ℕ)) (old new : ℕ) (log : Log)
    → ((ended : Status) × CameToEnd ended false scripts names before after log) ⊎ (HasPutBut scripts log before after × HasRisen old new)
    → (new ≡ old) ⊎ HasPutBut scripts log before after
    → GivenUp FileFault scripts names before after old new log
given_by scripts names before after old new log (inl stayed) tells =
    let s = stayed.1 in
    let put : HasPut scripts log before after = record { texts = s.texts; puts = s.puts; taken = s.written } in
    record {
      some = λ off. some_put scripts log before after put;
      tried = λ off enough. inl put;
      refused = λ is. cc;
      unrecorded = λ is. inr (inl stayed);
      tells = tells;
    }
given_by scripts names before after old new log (inr but) tells = record {
  some = λ off. inr but.0;
  tried = λ off enough. inr but;
  refused = λ is. cc;
  unrecorded = λ is. inr (inr but);
  tells = tells;
}

pub unrecorded_given : (o : Option Log) (status : Status) (recorded : Bool) (scripts names : List (List ℕ)) (before after : Option (List ℕ)) (old new : ℕ)
    → IsOfRun status → was_refused status ≡ false → status ≢ NoMemory
    → ((b : Bool) → IfSome o (λ log. KeptOn status b false scripts names before after log))
    → IfSome o (λ log. GivenUp status scripts names before after old new log)
    → IfSome o (λ log. GivenUp FileFault scripts names before after old new log)
unrecorded_given None status recorded scripts names before after old new is begun enough kept given = tt
unrecorded_given (Some log) status recorded scripts names before after old new is begun enough kept given =
    given_by scripts names before after old new log
    (stayed_or_refused status recorded scripts names before after old new log is begun enough (kept recorded) given)
    given.tells

-- the record could not be written
pub unrecorded_on : (o : Option Log) (status : Status) (recorded : Bool) (scripts names : List (List ℕ)) (before after : Option (List ℕ))
    → status ≢ NoMemory → recorded ≡ true → ((b : Bool) → IfSome o (λ log. KeptOn status b false scripts names before after log))
    → IfSome o (λ log. KeptOn FileFault recorded false scripts names before after log)
unrecorded_on None status recorded scripts names before after enough on kept = tt
unrecorded_on (Some log) status recorded scripts names before after enough on kept = record {
  last = λ p blocks first top grows told none quiet over. absurd (false≢true over);
  complete = λ p blocks first grows. on;
  never = (kept recorded).never;
  ran = λ over. absurd (false≢true over);
  begun = λ off. kept_begun status recorded false scripts names before after log (kept recorded);
  right = (kept recorded).right;
  run = λ ne. (kept recorded).run enough;
}

-- or no memory was found for it
pub spent_on : (o : Option Log) (status : Status) (recorded : Bool) (scripts names : List (List ℕ)) (before after : Option (List ℕ))
    → ((b : Bool) → IfSome o (λ log. KeptOn status b false scripts names before after log)) → IfSome o (λ log. KeptOn NoMemory recorded false scripts names before after log)
spent_on None status recorded scripts names before after kept = tt
spent_on (Some log) status recorded scripts names before after kept =
    spent_kept recorded false scripts names before after log (kept_begun status recorded false scripts names before after log (kept recorded)) (kept recorded).right

-- once they were used memory was wanting, or the record could not be written
pub spent_tallied_on : {W : Type 0} {told : W → Told} {faults : W → ℕ} {script : W → Option Made} {keeps : W → Bool} {greeting : Greeting} {names : List (List ℕ)} {turns : ℕ} {before after : W}
    → (status : Status) (was : Told) → has_run status ≡ false → IsOfRun status → LeavesWires told faults script keeps greeting names turns before after
    → TalliedOn status turns (length names) was (told after)
spent_tallied_on status was off answers wires = record {
  tallied = spent_tallied status was off answers wires;
  done = λ same. absurd (not_run status Done off refl same);
}

-- a text could not be put
pub unwritten_tallied_on : {W : Type 0} {told : W → Told} {faults : W → ℕ} {script : W → Option Made} {keeps : W → Bool} {greeting : Greeting} {names : List (List ℕ)} {turns : ℕ} {before after : W}
    → (was : Told) → LeavesWires told faults script keeps greeting names turns before after → (told after).tally.dials ≡ length names
    → TalliedOn OutFault turns (length names) was (told after)
unwritten_tallied_on was wires all = record { tallied = unwritten_tallied was wires all; done = λ same. cc }

-- the run was made over wires that keep a log since then
pub tallied_from : (status : Status) (turns names : ℕ) (was first now : Told) → now.finished ≡ true → TalliedOn status turns names first now → TalliedOn status turns names was now
tallied_from status turns names was first now finished so = record {
  tallied = record {
    answers = so.tallied.answers;
    within = so.tallied.within;
    whole = so.tallied.whole;
    left = inr finished;
    no_peers = so.tallied.no_peers;
    somebody = so.tallied.somebody;
    tired = so.tallied.tired;
    ended = so.tallied.ended;
    early = so.tallied.early;
  };
  done = so.done;
}

-- the run was made, and ended so
pub run_tallied_on : {W : Type 0} {told : W → Told} {faults : W → ℕ} {script : W → Option Made} {keeps : W → Bool} {greeting : Greeting} {turns : ℕ} {before after : W}
    → (names : List (String Global)) (end : End) (ends : List PeerEnd) (status : Status) (was : Told) → AnswersTo end ends status → IsOfRun status
    → LeavesWires told faults script keeps greeting (names_in names) turns before after → EndsWithin end (length names) turns (told after).tally
    → (end ≡ IsSynced → IsOver turns (told after).tally) → TalliedOn status turns (length (names_in names)) was (told after)
run_tallied_on names end ends status was is answers wires within over = record {
  tallied = run_tallied names end ends status was is answers wires within;
  done = λ same. over (ended_as end IsSynced ends status Done is refl same);
}

-- whatever it ended as, it was over
pub was_over_on : (end : End) (names turns : ℕ) (t : Told) → EndsWithin end names turns t.tally → (end ≡ IsSynced → IsOver turns t.tally) → WasOverOn turns t
was_over_on IsSynced names turns t within over = inr (over refl)
was_over_on HasNoPeers names turns t within over = inl (within.no_peers.0 refl)
was_over_on IsTired names turns t within over = inr (inl (within.tired refl))
was_over_on HasEnded names turns t within over = inr (inr (within.ended refl))
