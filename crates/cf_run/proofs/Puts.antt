-- What is put of the texts of a run that follows, from moment to moment.
use Rattle.std.proofs.Common.{◌≡◌, ◌⊎◌, inl, inr, ℕ, ◌≤◌, Bool, true, false, List, [], ◌∷◌, ◌++◌, length, take, String, string_bytes, Option, Some, None, Ok, Err, refl, sym, ◌∙◌, ap, subst, arith, if◌then◌else◌}
use Rattle.std.specs.Prelude.{IfNone, IfSome}
use Rattle.std.specs.Bool.{Decides}
use Rattle.std.proofs.lemmas.Slice.Eq.{bytes_eq-Decides}
use Rattle.std.specs.declared.alloc.Global.{Global}
use Rattle.std.proofs.lemmas.Bool.{both_ways}
use Rattle.std.proofs.lemmas.Option.{IfSome_then}
use Rattle.std.proofs.lemmas.List.{append_assoc, append-nil}
use Rattle.cf_bytes.specs.Outside.{HasRisen, with_more}
use Rattle.cf_bytes.specs.declared.hash.Hash32.{Hash32}
use Rattle.cf_headers.specs.declared.store.HeaderStore.{Ghosts}
use Rattle.cf_match.specs.declared.matcher.Matcher.{Ghosts as Judges}
use Rattle.cf_peer.specs.declared.mode.Mode.{Mode}
use Rattle.cf_peer.specs.declared.mode.Mode.TheVariants.{Following}
use Rattle.cf_peer.specs.Trail.{trail, is_connected}
use Rattle.cf_peer.specs.Asking.{is_open}
use Rattle.cf_place.specs.declared.state.State.TheVariants.{Working, Synced, NoPeers}
use Rattle.cf_place.specs.Standing.{IsState}
use Rattle.cf_scan.specs.declared.history.Entry.{Entry}
use Rattle.cf_scan.specs.HistoryText.{history_text}
use Rattle.cf_wires.specs.declared.event.Delivery.TheVariants.{Ended}
use Rattle.cf_wires.specs.declared.event.Event.TheVariants.{Took}
use Rattle.cf_wires.specs.Log.{Log, Told, Tells, tell, told_finished}
use Rattle.cf_sync.specs.Fetching.{AreBytes, IsAskedOutIn, MayTake, RightlyIn, Rule, following}
use Rattle.cf_tracker.specs.declared.tracker.Report.{Report}
use Rattle.cf_run.specs.declared.shown.Shown.{Shown}
use Rattle.cf_sync.specs.Putting.{IsAtRest, EndsWith, PutsAt, WerePut, ArePut, put}
use Rattle.cf_client.specs.declared.client.Client.{Client}
use Rattle.cf_client.specs.Stands.{Reflects, IsReportOf, rule_by, watch_by}
use Rattle.cf_run.specs.declared.progress.Progress.{Progress}
use Rattle.cf_run.specs.declared.texts.TextFail.{TextFail}
use Rattle.cf_run.specs.declared.texts.TextFail.TheVariants.{NoMemory, Failed}
use Rattle.cf_run.specs.Run.{WasRun}
use Rattle.cf_run.specs.States.{HoldsOver}
use Rattle.cf_run.specs.Texts.{AllPut, ButPut, CountsTexts, HasBegun, HasPut, HasPutBut, HasPutSo, HavePut, IsLast, IsSameTold, last_text, PutBefore, PutBy, PutsBegun, PutsNext, PutsOne, PutsSome, SoPut, SomePut, joined}
use Rattle.cf_run.specs.Whole.{GivesUp, IsShort}
use Rattle.cf_run.proofs.Courses.{puts_taken}
use Rattle.cf_run.proofs.Turns.{ended_holds, mode_same, rule_same, told_so, was_run}

-- ---- what is told, with more after it

more_more : (first : Option (List ℕ)) (a b : List ℕ) → with_more (with_more first a) b ≡ with_more first (a ++ b)
more_more None a b = refl
more_more (Some bytes) a b = ap Some (append_assoc bytes a b)

more_none : (first : Option (List ℕ)) → with_more first [] ≡ first
more_none None = refl
more_none (Some bytes) = ap Some (append-nil bytes)

joined_more : (text : List ℕ) (before : List (List ℕ)) (first old new : Option (List ℕ)) → new ≡ with_more old text → old ≡ with_more first (joined before)
    → new ≡ with_more first (joined (text ∷ before))
joined_more text before first old new more is = more ∙ ap (λ (o : Option (List ℕ)). with_more o text) is ∙ more_more first (joined before) text

-- nothing of it, or so much
pub begun_none : (text : List ℕ) (now : Option (List ℕ)) → HasBegun text now now
begun_none text now = record { n = 0; within = omega arith; taken = sym (more_none now) }

pub begun_so : (text bytes : List ℕ) (old new : Option (List ℕ)) → bytes ≡ text → ((n : ℕ) × (n ≤ length bytes) × (new ≡ with_more old (take n bytes))) → HasBegun text old new
begun_so text bytes old new same so_much = subst (λ (x : List ℕ). HasBegun x old new) same (record { n = so_much.0; within = so_much.1; taken = so_much.2 })

-- ---- one text

-- none is the last one
pub last_none : (text : List ℕ) (before : List (List ℕ)) (last : Option (String Global)) → last ≡ None → IsLast last before → put text before ≡ text ∷ before
last_none text before last none is = by (subst (λ (o : Option (String Global)). IsLast o before) none is) where
  by : before ≡ [] → put text before ≡ text ∷ before
  by e = subst (λ (b : List (List ℕ)). put text b ≡ text ∷ b) (sym e) refl

-- it was compared as these bytes
pub added_by : (text bytes : List ℕ) (before : List (List ℕ)) (last same : Bool) → bytes ≡ text → last ≡ same → put bytes before ≡ (if last then before else bytes ∷ before)
    → put text before ≡ (if same then before else text ∷ before)
added_by text bytes before last same value is added =
    subst (λ (b : Bool). put text before ≡ (if b then before else text ∷ before)) is
    (subst (λ (x : List ℕ). put x before ≡ (if last then before else x ∷ before)) value added)

pub not_put : (text : List ℕ) (before : List (List ℕ)) (last : Option (String Global)) (now : Option (List ℕ)) → put text before ≡ before → IsLast last before
    → PutsOne text before last now now
not_put text before last now same is = record {
  newest = subst (IsLast last) (sym same) is;
  taken = λ first old. subst (λ (texts : List (List ℕ)). now ≡ with_more first (joined texts)) (sym same) old;
}

-- the last text tells the same
same_text : (a b : Report) → IsSameTold a b → history_text a.history a.height a.tip.0 ≡ history_text b.history b.height b.tip.0
same_text a b same =
    ap (λ (entries : List Entry). history_text entries a.height a.tip.0) same.history
    ∙ ap (λ (height : ℕ). history_text b.history height a.tip.0) same.height ∙ ap (λ (tip : List ℕ). history_text b.history b.height tip) same.tip

put_again : (text : List ℕ) (before : List (List ℕ)) → EndsWith text before → put text before ≡ before
put_again text before ends = subst (λ (b : List (List ℕ)). put text b ≡ b) (sym ends.1)
    (ap (λ (same : Bool). if same then text ∷ ends.0 else text ∷ text ∷ ends.0) ((bytes_eq-Decides text text).1 refl))

pub told_again : (last : Option Shown) (report : Report) (before : List (List ℕ)) (told : Bool) → told ≡ true
    → IfSome last (λ shown. Decides told (IsSameTold shown.report report)) → IfNone last (told ≡ false) → IsLast (last_text last) before
    → put (history_text report.history report.height report.tip.0) before ≡ before
told_again None report before told is some none last = absurd (both_ways told none is)
told_again (Some shown) report before told is some none last =
    let text : string_bytes shown.text ≡ history_text report.history report.height report.tip.0 = shown.tells ∙ same_text shown.report report (some.0 is) in
    subst (λ (t : List ℕ). put t before ≡ before) text (put_again (string_bytes shown.text) before last)

pub one_put : (text : List ℕ) (before : List (List ℕ)) (s : String Global) (old new : Option (List ℕ)) → put text before ≡ text ∷ before → string_bytes s ≡ text
    → new ≡ with_more old text → PutsOne text before (Some s) old new
one_put text before s old new added is more = record {
  newest = (before, added ∙ ap (λ (x : List ℕ). x ∷ before) (sym is));
  taken = λ first so_far. subst (λ (texts : List (List ℕ)). new ≡ with_more first (joined texts)) (sym added) (joined_more text before first old new more so_far);
}

-- it isn't put
pub begun_by : (fail : TextFail) (text : List ℕ) (before : List (List ℕ)) (old new : Option (List ℕ)) → put text before ≡ text ∷ before → HasBegun text old new
    → (fail ≡ NoMemory → new ≡ old) → PutsBegun fail text before old new
begun_by NoMemory text before old new added begun none = none refl
begun_by Failed text before old new added begun none = (added, begun)

-- ---- what a moment adds

pub busy_unrested : (log : Log) → IsState Working log → IsAtRest log → ⊥
busy_unrested log busy rest = both_ways (is_open (trail log busy.0)) (rest.quiet busy.0) busy.1

pub alone_unrested : (log : Log) → IsState NoPeers log → IsAtRest log → ⊥
alone_unrested log none rest = both_ways (is_connected (trail log rest.who)) (none rest.who) rest.there

-- nothing, where it isn't one of rest
pub none_next : {H M : Type 0} {g : Ghosts H} {j : Judges M} (c : Client H M g j) (before : List (List ℕ)) (last : Option (String Global)) (now : Option (List ℕ)) → IsLast last before
    → ((log : Log) → Reflects c log → IsAtRest log → ⊥) → PutsNext c before last now now
none_next c before last now is unrested = record {
  texts = before;
  newest = is;
  puts = λ log reflects bytes right. record { at_rest = λ rest. absurd (unrested log reflects rest); elsewhere = λ not_it. refl };
  taken = λ first old. old;
}

-- the text of what the client tells then
at_rest_puts : {H M : Type 0} {g : Ghosts H} {j : Judges M} (c : Client H M g j) (before : List (List ℕ)) (height : ℕ) (hash : Hash32) (entries : List Entry) (log : Log)
    → (rule_by c).mode ≡ Following → IsState Synced log → IsReportOf (rule_by c) height hash entries log → AreBytes log → RightlyIn Following log
    → PutsAt (watch_by c) log before (put (history_text entries height hash.0) before)
at_rest_puts c before height hash entries log follows state report bytes right = record {
  at_rest = λ rest. (
    height,
    (
      hash,
      (
        entries,
        (
          record {
            watchable = report.watchable;
            bytes = bytes;
            rightly = right;
            told = report.told;
            asked_out = λ p on idle. subst (λ (m : Mode). IsAskedOutIn m (watch_by c) log report.told.chain p) follows (report.asked_out p on idle);
          },
          refl,
        ),
      ),
    ),
  );
  elsewhere = λ not_it. absurd (not_it (record { quiet = state.0; who = state.1.0; there = state.1.1 }));
}

-- this is that text
text_puts : {H M : Type 0} {g : Ghosts H} {j : Judges M} (c : Client H M g j) (before : List (List ℕ)) (text : List ℕ) (height : ℕ) (hash : Hash32) (entries : List Entry)
    → (rule_by c).mode ≡ Following → ((log : Log) → Reflects c log → IsState Synced log) → ((log : Log) → Reflects c log → IsReportOf (rule_by c) height hash entries log)
    → text ≡ history_text entries height hash.0
    → (log : Log) → Reflects c log → AreBytes log → RightlyIn Following log → PutsAt (watch_by c) log before (put text before)
text_puts c before text height hash entries follows state report is log reflects bytes right =
    subst (λ (x : List ℕ). PutsAt (watch_by c) log before (put x before)) (sym is)
    (at_rest_puts c before height hash entries log follows (state log reflects) (report log reflects) bytes right)

pub one_next : {H M : Type 0} {g : Ghosts H} {j : Judges M} (c : Client H M g j) (before : List (List ℕ)) (last : Option (String Global)) (old new : Option (List ℕ)) (text : List ℕ) (height : ℕ) (hash : Hash32)
    (entries : List Entry) → (rule_by c).mode ≡ Following → ((log : Log) → Reflects c log → IsState Synced log)
    → ((log : Log) → Reflects c log → IsReportOf (rule_by c) height hash entries log) → text ≡ history_text entries height hash.0
    → PutsOne text before last old new → PutsNext c before last old new
one_next c before last old new text height hash entries follows state report is one = record {
  texts = put text before;
  newest = one.newest;
  puts = text_puts c before text height hash entries follows state report is;
  taken = one.taken;
}

-- it isn't put
pub some_puts : {H M : Type 0} {g : Ghosts H} {j : Judges M} (fail : TextFail) (c : Client H M g j) (before : List (List ℕ)) (old new : Option (List ℕ)) (text : List ℕ) (height : ℕ) (hash : Hash32)
    (entries : List Entry) → (rule_by c).mode ≡ Following → ((log : Log) → Reflects c log → IsState Synced log)
    → ((log : Log) → Reflects c log → IsReportOf (rule_by c) height hash entries log) → text ≡ history_text entries height hash.0
    → PutsBegun fail text before old new → PutsSome fail c before old new
some_puts NoMemory c before old new text height hash entries follows state report is same = same
some_puts Failed c before old new text height hash entries follows state report is begun = record {
  text = text;
  due = λ log reflects bytes right.
      subst (λ (texts : List (List ℕ)). PutsAt (watch_by c) log before texts) begun.0 (text_puts c before text height hash entries follows state report is log reflects bytes right);
  begun = begun.1;
}

-- ---- over wires

-- the rule of a client that follows
by_rule : {H M : Type 0} {g : Ghosts H} {j : Judges M} (c : Client H M g j) (watch : List (List ℕ))
    → (rule_by c).mode ≡ Following → watch_by c ≡ watch → rule_by c ≡ following watch
by_rule c watch follows same =
    subst (λ (w : List (List ℕ)). rule_by c ≡ following w) same
    (subst (λ (m : Mode). rule_by c ≡ record { watch = watch_by c; mode = m }) follows refl)

-- the log is that of a run
run_now : {H M : Type 0} {g : Ghosts H} {j : Judges M} (c : Client H M g j) (progress : Progress)
    (called : List (List ℕ)) (t : Told) (rule : Rule) → HoldsOver c progress called t → rule_by c ≡ rule
    → IfSome t.log (WasRun rule called)
run_now c progress called t rule holds same =
    told_so t.log holds.actual (WasRun rule called) holds.notes.tells.content
    (subst (λ (r : Rule). WasRun r called holds.actual) same (was_run c progress called t holds))

-- what is put at a moment
put_at : {H M : Type 0} {g : Ghosts H} {j : Judges M} (c : Client H M g j) (progress : Progress) (called : List (List ℕ)) (t : Told) (watch before texts : List (List ℕ)) (holds : HoldsOver c progress called t)
    → watch_by c ≡ watch → PutsAt (watch_by c) holds.actual before texts → PutBefore watch before t → PutBy watch texts t
put_at c progress called t watch before texts holds same puts were = by t.log holds.notes.tells.content were where
  by : (o : Option Log) → IfSome o (λ l. l ≡ holds.actual) → IfSome o (λ log. WerePut watch log before) → IfSome o (λ log. ArePut watch log texts)
  by None is w = tt
  by (Some log) is w = (
    before,
    (
      w,
      subst (λ (l : Log). PutsAt watch l before texts) (sym is) (subst (λ (x : List (List ℕ)). PutsAt x holds.actual before texts) same puts),
    ),
  )

-- a client that follows, with what was put so far and what is put now
pub record Putting {H M : Type 0} {g : Ghosts H} {j : Judges M} (c : Client H M g j) (progress : Progress)
    (called : List (List ℕ)) (t : Told) (watch : List (List ℕ)) (last : Option (String Global))
    (first now : Option (List ℕ)) : Type 0 where
  pub holds : HoldsOver c progress called t
  pub follows : (rule_by c).mode ≡ Following
  pub watched : watch_by c ≡ watch
  pub have : HavePut watch last t first now

put_by : {H M : Type 0} {g : Ghosts H} {j : Judges M} {c : Client H M g j} {progress : Progress}
    {called : List (List ℕ)} {t : Told} {watch : List (List ℕ)} {last next : Option (String Global)}
    {first old new : Option (List ℕ)} (putting : Putting c progress called t watch last first old)
    (more : PutsNext c putting.have.texts next old new) → PutBy watch more.texts t
put_by {c = c} {progress = progress} {called = called} {t = t} {watch = watch} putting more =
    let holds = putting.holds in
    put_at c progress called t watch putting.have.texts more.texts holds putting.watched
    (more.puts holds.actual holds.reflects holds.notes.bytes
    (subst (λ (m : Mode). RightlyIn m holds.actual) putting.follows holds.notes.rightly)) putting.have.puts

pub all_by : {H M : Type 0} {g : Ghosts H} {j : Judges M} {c : Client H M g j} {progress : Progress}
    {called : List (List ℕ)} {t : Told} {watch : List (List ℕ)} {last next : Option (String Global)}
    {first old new : Option (List ℕ)} (putting : Putting c progress called t watch last first old)
    → PutsNext c putting.have.texts next old new → AllPut watch t first new
all_by {first = first} putting more = record {
  texts = more.texts;
  puts = put_by putting more;
  taken = more.taken first putting.have.taken;
}

pub some_by : {H M : Type 0} {g : Ghosts H} {j : Judges M} {c : Client H M g j} {progress : Progress}
    {called : List (List ℕ)} {t : Told} {watch : List (List ℕ)} {last : Option (String Global)}
    {first old : Option (List ℕ)} (fail : TextFail) (new : Option (List ℕ))
    (putting : Putting c progress called t watch last first old) → PutsSome fail c putting.have.texts old new
    → SomePut fail watch called t first new
some_by NoMemory new putting more = record {
  texts = putting.have.texts;
  puts = inl putting.have.puts;
  taken = more ∙ putting.have.taken;
}
some_by {c = c} {progress = progress} {called = called} {t = t} {watch = watch} Failed new putting more =
    let holds = putting.holds in
    let texts = putting.have.texts in
    record {
      texts = texts;
      text = more.text;
      earlier = putting.have.puts;
      due = told_so t.log holds.actual (λ log. PutsAt watch log texts (more.text ∷ texts)) holds.notes.tells.content
          (subst (λ (x : List (List ℕ)). PutsAt x holds.actual texts (more.text ∷ texts)) putting.watched
          (more.due holds.actual holds.reflects holds.notes.bytes
          (subst (λ (m : Mode). RightlyIn m holds.actual) putting.follows holds.notes.rightly)));
      begun = subst (λ (o : Option (List ℕ)). HasBegun more.text o new) putting.have.taken more.begun;
      run = run_now c progress called t (following watch) holds (by_rule c watch putting.follows putting.watched);
    }

-- and then a delivery is taken
pub have_then : {H M : Type 0} {g : Ghosts H} {j : Judges M} {c : Client H M g j} {progress : Progress}
    {called : List (List ℕ)} {t u : Told} {watch : List (List ℕ)} {last next : Option (String Global)}
    {first old new : Option (List ℕ)} (putting : Putting c progress called t watch last first old)
    → PutsNext c putting.have.texts next old new
    → ((watch texts : List (List ℕ)) → PutBy watch texts t → PutBefore watch texts u) → HavePut watch next u first new
have_then {watch = watch} {first = first} putting more taken =
    record {
      texts = more.texts;
      newest = more.newest;
      puts = taken watch more.texts (put_by putting more);
      taken = more.taken first putting.have.taken;
    }

-- or no memory was found for it
pub some_then : {H M : Type 0} {g : Ghosts H} {j : Judges M} {c : Client H M g j} {progress : Progress}
    {called : List (List ℕ)} {t u : Told} {watch : List (List ℕ)} {last next : Option (String Global)}
    {first old new : Option (List ℕ)} (putting : Putting c progress called t watch last first old)
    → PutsNext c putting.have.texts next old new
    → ((watch texts : List (List ℕ)) → PutBy watch texts t → PutBefore watch texts u ⊎ PutBy watch texts u)
    → SoPut watch u first new
some_then {watch = watch} {first = first} putting more taken =
    record {
      texts = more.texts;
      puts = taken watch more.texts (put_by putting more);
      taken = more.taken first putting.have.taken;
    }

-- or the end is, of which the client isn't told
pub putting_ended : {H M : Type 0} {g : Ghosts H} {j : Judges M} {c d : Client H M g j} {progress noted : Progress}
    {called : List (List ℕ)} {t u : Told} {watch : List (List ℕ)} {last next : Option (String Global)}
    {first old new : Option (List ℕ)} (putting : Putting c progress called t watch last first old)
    → PutsNext c putting.have.texts next old new
    → d ≡ c → noted ≡ progress → u ≡ tell (Took Ended) t → MayTake (rule_by c).mode putting.holds.actual
    → Putting d noted called u watch next first new
putting_ended {c = c} {d = d} {t = t} {u = u} putting more same notes told may = record {
  holds = ended_holds {c = c} {d = d} same notes told putting.holds may;
  follows = mode_same {c = c} {d = d} same putting.follows;
  watched = ap (λ (r : Rule). r.watch) (rule_same {c = c} {d = d} same) ∙ putting.watched;
  have = have_then putting more (puts_taken Ended t u told);
}

-- nothing was put yet
pub none_have : (watch : List (List ℕ)) (t : Told) (now : Option (List ℕ)) → PutBefore watch [] t → HavePut watch None t now now
none_have watch t now were = record { texts = []; newest = refl; puts = were; taken = sym (more_none now) }

pub none_before : (watch : List (List ℕ)) (t : Told) → Tells [] t → PutBefore watch [] t
none_before watch t tells = by t.log tells.content where
  by : (o : Option Log) → IfSome o (λ l. l ≡ []) → IfSome o (λ log. WerePut watch log [])
  by None is = tt
  by (Some log) is = subst (λ (l : Log). WerePut watch l []) (sym is) refl

-- ---- of a whole run

pub all_told : (watch : List (List ℕ)) (t : Told) (before now : Option (List ℕ)) → AllPut watch t before now → IfSome t.log (λ log. HasPut watch log before now)
all_told watch t before now all = IfSome_then t.log all.puts
    (λ log puts. record { texts = all.texts; puts = puts; taken = all.taken })

pub all_some : (watch : List (List ℕ)) (t : Told) (before now : Option (List ℕ)) → AllPut watch t before now → SoPut watch t before now
all_some watch t before now all = record { texts = all.texts; puts = inr all.puts; taken = all.taken }

pub none_put : (watch : List (List ℕ)) (t : Told) (now : Option (List ℕ)) → PutBefore watch [] t → SoPut watch t now now
none_put watch t now were = record { texts = []; puts = inl were; taken = sym (more_none now) }

-- of one that was given up
so_told : (watch : List (List ℕ)) (t : Told) (before now : Option (List ℕ)) → SoPut watch t before now
    → IfSome t.log (λ log. HasPutSo watch log before now)
so_told watch t before now so = by t.log so.puts where
  by : (o : Option Log) → IfSome o (λ log. WerePut watch log so.texts) ⊎ IfSome o (λ log. ArePut watch log so.texts) → IfSome o (λ log. HasPutSo watch log before now)
  by None puts = tt
  by (Some log) puts = record { texts = so.texts; puts = puts; taken = so.taken }

pub is_short : {T : Type 0} (told : T → Option (List ℕ)) (faults : T → ℕ) (watch : List (List ℕ)) (t : Told)
    (before after : T) → SoPut watch t (told before) (told after) → faults after ≡ faults before
    → IsShort told faults watch t.log before after
is_short told faults watch t before after so fine =
    record { put = so_told watch t (told before) (told after) so; fine = fine }

but_told : (watch called : List (List ℕ)) (t : Told) (before now : Option (List ℕ)) → ButPut watch called t before now
    → IfSome t.log (λ log. HasPutBut watch log before now)
but_told watch called t before now but = by t.log but.earlier but.due where
  by : (o : Option Log) → IfSome o (λ log. WerePut watch log but.texts) → IfSome o (λ log. PutsAt watch log but.texts (but.text ∷ but.texts))
      → IfSome o (λ log. HasPutBut watch log before now)
  by None earlier due = tt
  by (Some log) earlier due = record { texts = but.texts; text = but.text; earlier = earlier; due = due; begun = but.begun }

pub gives_up : {T : Type 0} (fail : TextFail) (told : T → Option (List ℕ)) (faults : T → ℕ)
    (watch called : List (List ℕ)) (t : Told) (before after : T)
    → SomePut fail watch called t (told before) (told after) → t.tally.dials ≡ length called
    → (fail ≡ NoMemory → faults after ≡ faults before) → (fail ≡ Failed → HasRisen (faults before) (faults after))
    → GivesUp fail told faults watch called t before after
gives_up NoMemory told faults watch called t before after some dials fine risen =
    is_short told faults watch t before after some (fine refl)
gives_up Failed told faults watch called t before after but dials fine risen = record {
  put = but_told watch called t (told before) (told after) but;
  run = but.run;
  dialled = dials;
  risen = risen refl;
}

-- and its wires are finished
pub gives_finished : {T : Type 0} (fail : TextFail) (told : T → Option (List ℕ)) (faults : T → ℕ)
    (watch called : List (List ℕ)) (t : Told) (before after : T)
    → GivesUp fail told faults watch called t before after → GivesUp fail told faults watch called
    (told_finished t) before after
gives_finished NoMemory told faults watch called t before after short = short
gives_finished Failed told faults watch called t before after cut =
    record { put = cut.put; run = cut.run; dialled = cut.dialled; risen = cut.risen }

-- ---- what is counted of what takes the texts

pub texts_ok : {A T : Type 0} {faults holds : T → ℕ} {x : A} {t u : T} → faults u ≡ faults t → holds u ≡ holds t
    → CountsTexts faults holds (Ok x) t u
texts_ok fine same =
    record { fine = fine; short = λ is. absurd (cc is); failed = λ is. absurd (cc is); same_reference = same }

-- no memory was found, and it hasn't failed
pub texts_short : {A T : Type 0} {faults holds : T → ℕ} {t u : T} → faults u ≡ faults t → holds u ≡ holds t
    → CountsTexts {A = A} faults holds (Err NoMemory) t u
texts_short fine same =
    record { fine = tt; short = λ is. fine; failed = λ is. absurd (cc is); same_reference = same }

-- nor had it before a call that wasn't done
pub texts_err : {A B T : Type 0} {faults holds : T → ℕ} (fail : TextFail) {t u v : T} → faults u ≡ faults t → holds u ≡ holds t
    → CountsTexts {A = A} faults holds (Err fail) u v → CountsTexts {A = B} faults holds (Err fail) t v
texts_err {faults = faults} fail {v = v} fine same texts = record {
  fine = tt;
  short = λ is. texts.short (cc is) ∙ fine;
  failed = λ is. subst (λ (n : ℕ). HasRisen n (faults v)) fine (texts.failed (cc is));
  same_reference = texts.same_reference ∙ same;
}
