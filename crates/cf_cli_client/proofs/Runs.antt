-- What the end of a run says of the answer.
use Rattle.std.proofs.Common.{◌≡◌, ◌≢◌, inl, inr, ℕ, Bool, true, false, List, length, Option, Some, None, refl, sym, ◌∙◌, ap, subst}
use Rattle.std.specs.Prelude.{not, ◌&&◌, ◌||◌, IfSome}
use Rattle.std.proofs.lemmas.Bool.{both_ways}
use Rattle.cf_block.specs.declared.tx.Block.{Block}
use Rattle.cf_bytes.specs.Outside.{with_more}
use Rattle.cf_bytes.specs.declared.hash.Hash32.{Hash32}
use Rattle.cf_headers.specs.Chain.{tip_hash}
use Rattle.cf_headers.specs.Store.{Chains}
use Rattle.cf_chain.specs.Good.{headers_of}
use Rattle.cf_run.specs.declared.outcome.End.{End}
use Rattle.cf_run.specs.declared.outcome.End.TheVariants.{Synced as IsSynced, NoPeers as HasNoPeers, Tired as IsTired, Ended as HasEnded}
use Rattle.cf_run.specs.declared.trace.TraceLine.{TraceLine}
use Rattle.cf_place.specs.declared.place.PeerEnd.{PeerEnd}
use Rattle.cf_place.specs.Standing.{EndsTell}
use Rattle.cf_run.specs.declared.outcome.Outcome.{Outcome}
use Rattle.cf_run.specs.Run.{IsEnd, kept_lines}
use Rattle.cf_run.specs.Texts.{IsOver}
use Rattle.cf_run.specs.Whole.{EndsWithin, IsOutcome}
use Rattle.cf_peer.specs.Asking.{is_open, is_idle, request}
use Rattle.cf_wires.specs.Log.{Log, Tally, Told}
use Rattle.cf_peer.specs.Trail.{Trail, trail, is_connected, ready}
use Rattle.cf_scan.specs.declared.history.Entry.{Entry}
use Rattle.cf_scan.specs.HistoryText.{history_text}
use Rattle.cf_scan.specs.Scan.{scan_of}
use Rattle.cf_peer.specs.declared.mode.Mode.TheVariants.{Once}
use Rattle.cf_sync.proofs.Settles.{honest_never_closed}
use Rattle.cf_sync.specs.Fetching.{AreBytes, IsQuiet, IsBusy, IsConnected, RightlyIn, Rule, once}
use Rattle.cf_sync.specs.Sync.{SyncTheorem, IsHistoryOf}
use Rattle.cf_answers.specs.declared.status.Status.{Status}
use Rattle.cf_answers.specs.declared.status.Status.TheVariants.{Done, NoMemory, Usage, BadFile, FileFault, OutFault, NoPeers, Tired, Ended, LinkFault, NoNonce, NoHeight, NotThere, NotInChain, NotAddress}
use Rattle.cf_run_text.specs.Texts.{run_text}
use Rattle.cf_cli_client.specs.Theorem.{IsAnswerOf, IsDoneOrFault, IsComplete, KeptOnce, AnswerTellsEnds, AnswersTo, RanBy, WasOver}

-- the answer, where the text was written
pub answered : (end : End) (ends : List PeerEnd) (status : Status) (before after : Option (List ℕ)) (text : List ℕ) → AnswersTo end ends status → after ≡ with_more before text → IsAnswerOf end status before after text
answered IsSynced ends status before after text is e = subst (λ (s : Status). IsAnswerOf IsSynced s before after text) (sym is) (refl, e)
answered HasNoPeers ends status before after text is e = subst (λ (s : Status). IsAnswerOf HasNoPeers s before after text) (sym is.1) (refl, e)
answered IsTired ends status before after text is e = subst (λ (s : Status). IsAnswerOf IsTired s before after text) (sym is) (refl, e)
answered HasEnded ends status before after text is e = subst (λ (s : Status). IsAnswerOf HasEnded s before after text) (sym is) (refl, e)

busy_not_quiet : (log : Log) → IsBusy log → IsQuiet log → ⊥
busy_not_quiet log busy quiet = both_ways (is_open (trail log busy.0)) (quiet busy.0) busy.1

ended_not_quiet : (log : Log) → IsEnd HasEnded log → IsQuiet log → ⊥
ended_not_quiet log why quiet = busy_not_quiet why.0 why.1.1 (λ p. subst (λ (l : Log). is_open (trail l p) ≡ false) why.1.0 (quiet p))

-- a run doesn't end for want of peers where somebody is connected
pub somebody_left : (end : End) (log : Log) (p : ℕ) → IsEnd end log → IsConnected log p → end ≢ HasNoPeers
somebody_left end log p why here is = let nobody : IsEnd HasNoPeers log = subst (λ (e : End). IsEnd e log) is why in both_ways (is_connected (trail log p)) (nobody p) here

settles : (end : End) (status : Status) (recorded : Bool) (before after : Option (List ℕ)) (text : List ℕ) (log : Log) → IsAnswerOf end status before after text → IsEnd end log → end ≢ HasNoPeers → IsQuiet log → IsDoneOrFault status recorded
settles end Done recorded before after text log answer why somebody quiet = tt
settles end OutFault recorded before after text log answer why somebody quiet = tt
settles end NoMemory recorded before after text log answer why somebody quiet = tt
settles end (NoPeers ends) recorded before after text log answer why somebody quiet = absurd (somebody answer.0)
settles end Tired recorded before after text log answer why somebody quiet = absurd (busy_not_quiet log (subst (λ (e : End). IsEnd e log) answer.0 why) quiet)
settles end Ended recorded before after text log answer why somebody quiet = absurd (ended_not_quiet log (subst (λ (e : End). IsEnd e log) answer.0 why) quiet)
settles end Usage recorded before after text log answer why somebody quiet = absurd answer
settles end (BadFile which place cause) recorded before after text log answer why somebody quiet = absurd answer
settles end FileFault recorded before after text log answer why somebody quiet = absurd answer
settles end LinkFault recorded before after text log answer why somebody quiet = absurd answer
settles end (NoNonce height) recorded before after text log answer why somebody quiet = absurd answer
settles end (NoHeight tip) recorded before after text log answer why somebody quiet = absurd answer
settles end (NotThere txid) recorded before after text log answer why somebody quiet = absurd answer
settles end (NotInChain block) recorded before after text log answer why somebody quiet = absurd answer
settles end (NotAddress cause) recorded before after text log answer why somebody quiet = absurd answer

completes : (end : End) (status : Status) (recorded : Bool) (before after : Option (List ℕ)) (text : List ℕ) → IsAnswerOf end status before after text → end ≢ HasNoPeers → IsComplete status recorded
completes end Done recorded before after text answer somebody = tt
completes end OutFault recorded before after text answer somebody = tt
completes end NoMemory recorded before after text answer somebody = tt
completes end (NoPeers ends) recorded before after text answer somebody = absurd (somebody answer.0)
completes end Tired recorded before after text answer somebody = tt
completes end Ended recorded before after text answer somebody = tt
completes end Usage recorded before after text answer somebody = absurd answer
completes end (BadFile which place cause) recorded before after text answer somebody = absurd answer
completes end FileFault recorded before after text answer somebody = absurd answer
completes end LinkFault recorded before after text answer somebody = absurd answer
completes end (NoNonce height) recorded before after text answer somebody = absurd answer
completes end (NoHeight tip) recorded before after text answer somebody = absurd answer
completes end (NotThere txid) recorded before after text answer somebody = absurd answer
completes end (NotInChain block) recorded before after text answer somebody = absurd answer
completes end (NotAddress cause) recorded before after text answer somebody = absurd answer

-- the text of a run that is synced, without a trace
synced_text : (trace : Bool) (lines : List TraceLine) (end : End) (entries history : List Entry) (height : ℕ) (tip : Hash32) (n : ℕ) (hash : List ℕ)
    → trace ≡ false → end ≡ IsSynced → entries ≡ history → height ≡ n → tip.0 ≡ hash → run_text trace lines end entries height tip ≡ history_text history n hash
synced_text trace lines end entries history height tip n hash off is same high low = rw (off, is, same, high, low) refl

-- what was written by a run that answers Done
done_text : (status : Status) (end : End) (before after : Option (List ℕ)) (text : List ℕ) → IsAnswerOf end status before after text → status ≡ Done → (end ≡ IsSynced) × (after ≡ with_more before text)
done_text status end before after text answer is = subst (λ (s : Status). IsAnswerOf end s before after text) is answer

-- with nothing open it is the history of the chain of blocks
history_written : (watch : List (List ℕ)) (blocks : List Block) (end : End) (height : ℕ) (tip : Hash32) (entries : List Entry) (lines : List TraceLine) (trace : Bool) (before after : Option (List ℕ))
    → IsHistoryOf watch blocks height tip entries → trace ≡ false → end ≡ IsSynced → after ≡ with_more before (run_text trace lines end entries height tip)
    → after ≡ with_more before (history_text (scan_of blocks watch) (length blocks) (tip_hash (headers_of blocks)))
history_written watch blocks end height tip entries lines trace before after told off is e =
    e ∙ ap (with_more before) (synced_text trace lines end entries (scan_of blocks watch) height tip (length blocks) (tip_hash (headers_of blocks)) off is told.history told.height_is told.tip_is)

quiet_once_synced : (end : End) (log : Log) → IsEnd end log → end ≡ IsSynced → IsQuiet log
quiet_once_synced end log why is = let synced : IsEnd IsSynced log = subst (λ (e : End). IsEnd e log) is why in synced.0

-- nothing is open to who isn't connected
off_not_open : (t : Trail) → is_connected t ≡ false → is_open t ≡ false
off_not_open t off = ap (λ (b : Bool). b && (not (ready t) || not (is_idle (request t)))) off

-- a run that ended so was over
over_by_end : (end : End) (names turns : ℕ) (log : Log) (tally : Tally) → IsEnd end log → EndsWithin end names turns tally → IsBusy log → IsOver turns tally
over_by_end IsSynced names turns log tally why within busy = absurd (busy_not_quiet log busy why.0)
over_by_end HasNoPeers names turns log tally why within busy = absurd (busy_not_quiet log busy (λ p. off_not_open (trail log p) (why p)))
over_by_end IsTired names turns log tally why within busy = inl (within.tired refl)
over_by_end HasEnded names turns log tally why within busy = inr (within.ended refl)

pub was_over : (counts : Chains → ℕ → Type 0) (rule : Rule) (wanted : Bool) (called : List (List ℕ)) (o : Outcome) (names turns : ℕ) (t : Told)
    → IfSome t.log (IsOutcome counts rule wanted called o) → EndsWithin o.end names turns t.tally → WasOver turns t
was_over counts rule wanted called o names turns t is within = by t.log is where
  by : (l : Option Log) → IfSome l (IsOutcome counts rule wanted called o) → IfSome l (λ log. IsBusy log → IsOver turns t.tally)
  by None outcome = tt
  by (Some log) outcome = over_by_end o.end names turns log t.tally outcome.followed.why within

-- what is put together of a run tells how it went
abbrev pub followed_by : (counts : Chains → ℕ → Type 0) (rule : Rule) (wanted : Bool) (names : List (List ℕ)) (o : Outcome) (log : Log)
    → IsOutcome counts rule wanted names o log → RanBy rule names log
followed_by counts rule wanted names o log is =
    record { end = o.end; height = o.height; tip = o.tip; entries = o.history; lines = is.lines; followed = is.followed }

-- the text of a run has the lines that are wanted, whether or not the others are kept
same_text : (trace : Bool) (kept lines : List TraceLine) (end : End) (entries : List Entry) (height : ℕ) (tip : Hash32) → kept ≡ kept_lines trace lines
    → run_text trace kept end entries height tip ≡ run_text trace lines end entries height tip
same_text true kept lines end entries height tip same = ap (λ (xs : List TraceLine). run_text true xs end entries height tip) same
same_text false kept lines end entries height tip same = refl

kept_of : (counts : Chains → ℕ → Type 0) (watch names : List (List ℕ)) (o : Outcome) (status : Status) (recorded trace : Bool) (before after : Option (List ℕ)) (log : Log)
    → IsOutcome counts (once watch) trace names o log → SyncTheorem watch o.height o.tip o.history log
    → IsAnswerOf o.end status before after (run_text trace o.trace.items o.end o.history o.height o.tip)
    → AnswerTellsEnds status log → KeptOnce status recorded trace watch names before after log
kept_of counts watch names o status recorded trace before after log is theorem answer stands =
    let text : List ℕ = run_text trace o.trace.items o.end o.history o.height o.tip in
    let why : IsEnd o.end log = is.followed.why in
    record {
      writes = λ p blocks serves none same off.
          let done = done_text status o.end before after text answer same in
          let told = theorem.exact p blocks serves.apart serves.honest none (quiet_once_synced o.end log why done.0) in
          history_written watch blocks o.end o.height o.tip o.history o.trace.items trace before after told off done.0 done.1;
      answers = λ p blocks serves quiet.
          let somebody = somebody_left o.end log p why (theorem.somebody p blocks serves.apart serves.honest) in
          settles o.end status recorded before after text log answer why somebody quiet;
      complete = λ p blocks serves.
          let somebody = somebody_left o.end log p why (theorem.somebody p blocks serves.apart serves.honest) in
          completes o.end status recorded before after text answer somebody;
      never = λ p blocks serves. theorem.never p blocks serves.apart serves.honest;
      right = (is.followed.asked.bytes, is.followed.asked.rightly);
      ran = λ made. record {
        run = followed_by counts (once watch) trace names o log is;
        answered = subst (IsAnswerOf o.end status before after)
            (same_text trace o.trace.items is.lines o.end o.history o.height o.tip is.kept) answer;
        stands = stands;
      };
      unrecorded = λ same. absurd (subst (λ (s : Status). IsAnswerOf o.end s before after text) same answer);
    }

-- where no memory is found the run was right until then
pub kept_without : (o : Option Log) (watch names : List (List ℕ)) (recorded trace : Bool) (before after : Option (List ℕ))
    → IfSome o (λ log. AreBytes log × RightlyIn Once log) → IfSome o (λ log. KeptOnce NoMemory recorded trace watch names before after log)
kept_without None watch names recorded trace before after right = tt
kept_without (Some log) watch names recorded trace before after right = record {
  writes = λ p blocks serves none is off. cc;
  answers = λ p blocks serves quiet. tt;
  complete = λ p blocks serves. tt;
  never = λ p blocks serves. honest_never_closed log p blocks right.0 serves.apart right.1 serves.honest;
  right = right;
  ran = λ is. cc;
  unrecorded = λ is. cc;
}

-- where the record can't be written: the run followed the rules, and an honest peer was not closed
pub unrecorded_told : (log : Option Log) (counts : Chains → ℕ → Type 0) (watch names : List (List ℕ)) (o : Outcome) (recorded trace : Bool) (before after : Option (List ℕ)) → recorded ≡ true
    → IfSome log (IsOutcome counts (once watch) trace names o) → IfSome log (λ l. SyncTheorem watch o.height o.tip o.history l)
    → IfSome log (λ l. KeptOnce FileFault recorded trace watch names before after l)
unrecorded_told None counts watch names o recorded trace before after on is theorem = tt
unrecorded_told (Some log) counts watch names o recorded trace before after on is theorem = record {
  writes = λ p blocks serves none same off. cc;
  answers = λ p blocks serves quiet. on;
  complete = λ p blocks serves. on;
  never = λ p blocks serves. theorem.never p blocks serves.apart serves.honest;
  right = (is.followed.asked.bytes, is.followed.asked.rightly);
  ran = λ made. cc;
  unrecorded = λ same. inr (followed_by counts (once watch) trace names o log is);
}

-- how the peers stand that the answer tells of
pub stands_by : (end : End) (ends : List PeerEnd) (status : Status) (log : Log) → AnswersTo end ends status → EndsTell ends log → AnswerTellsEnds status log
stands_by IsSynced ends status log is tell = λ told no. cc
stands_by HasNoPeers ends status log is tell = λ told no. let same : told.items ≡ ends = cc in subst (λ (xs : List PeerEnd). EndsTell xs log) (sym same) tell
stands_by IsTired ends status log is tell = λ told no. cc
stands_by HasEnded ends status log is tell = λ told no. cc

-- where it tells of none
pub stands_unsaid : (log : Log) → AnswerTellsEnds OutFault log
stands_unsaid log = λ told no. cc

-- the run came to its end, and its text was written, or the sink has failed
pub kept_told : (log : Option Log) (counts : Chains → ℕ → Type 0) (watch names : List (List ℕ)) (o : Outcome) (status : Status) (recorded trace : Bool) (before after : Option (List ℕ))
    → IfSome log (IsOutcome counts (once watch) trace names o) → IfSome log (λ l. SyncTheorem watch o.height o.tip o.history l)
    → IsAnswerOf o.end status before after (run_text trace o.trace.items o.end o.history o.height o.tip)
    → ((l : Log) → EndsTell o.ends.items l → AnswerTellsEnds status l)
    → IfSome log (λ l. KeptOnce status recorded trace watch names before after l)
kept_told None counts watch names o status recorded trace before after is theorem answer stands = tt
kept_told (Some log) counts watch names o status recorded trace before after is theorem answer stands =
    kept_of counts watch names o status recorded trace before after log is theorem answer (stands log is.ends)
