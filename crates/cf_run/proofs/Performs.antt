-- How the planned log and the actual one go on when acts are done.
use Rattle.std.proofs.Common.{◌≡◌, ◌≢◌, inl, inr, ℕ, suc, ◌+◌, ◌<◌, ◌≤◌, List, [], ◌∷◌, ◌++◌, length, get_or, set, drop, reverse, add-one, Option, Some, None, Bool, true, false, refl, sym, ◌∙◌, ap, subst, arith, if◌then◌else◌}
use Rattle.std.specs.Prelude.{◌||◌, ◌==◌, IfSome}
use Rattle.std.specs.List.{list_any}
use Rattle.std.proofs.lemmas.Bool.{cases_eq, cases_Bool, cases_lt, both_ways, false≢true}
use Rattle.std.proofs.lemmas.List.{reverse-append, get_or-set_same, get_or-set_other}
use Rattle.std.proofs.Math.Seq.{drop-cons}
use Rattle.std.proofs.Math.ListN.{drop_of_length-le}
use Rattle.cf_headers.specs.Chain.{Hash}
use Rattle.cf_bytes.specs.declared.peer.PeerNo.{PeerNo}
use Rattle.cf_msg.specs.declared.msg.Msg.{Msg}
use Rattle.cf_msg.specs.declared.msg.Msg.TheVariants.{Version, Verack, Ping, Pong, GetHeaders, Headers, GetData, Inv, Block, GetCfilters, Cfilter, GetCfheaders, Cfheaders, GetCfcheckpt, Cfcheckpt, Other}
use Rattle.cf_msg.specs.Message.{command_of}
use Rattle.cf_peer.specs.declared.act.Act.{Act}
use Rattle.cf_peer.specs.declared.act.Act.TheVariants.{Send, Close}
use Rattle.cf_wires.specs.declared.event.Event.{Event}
use Rattle.cf_wires.specs.declared.event.Event.TheVariants.{Sent, SendFailed, Closed}
use Rattle.cf_wires.specs.declared.event.Mark.TheVariants as mark
use Rattle.cf_peer.specs.declared.peer.Cause.{Cause}
use Rattle.cf_peer.specs.Acts.{bytes_of}
use Rattle.cf_wires.specs.Log.{Log, Told, Tells, tally_of, noted, tell, longer}
use Rattle.cf_peer.specs.Trail.{Trail, Part, Item, Asked, Lost, spelled, with_item, part_of, trail, went_on, is_connected, has_failed}
use Rattle.cf_dispute.specs.Claims.{Table}
use Rattle.cf_peer.specs.Asking.{fetched_blocks, given_filters, MayAskIn, MayPing}
use Rattle.cf_peer.specs.declared.mode.Mode.{Mode}
use Rattle.cf_peer.specs.declared.mode.Mode.TheVariants.{Once, Following}
use Rattle.cf_headers.specs.declared.store.HeaderStore.{Ghosts}
use Rattle.cf_match.specs.declared.matcher.Matcher.{Ghosts as Judges}
use Rattle.cf_sync.proofs.Alone.{alone_less}
use Rattle.cf_sync.proofs.Modes.{sends_following}
use Rattle.cf_sync.specs.Blame.{HasOmitted}
use Rattle.cf_sync.specs.Fetching.{IsAlone, counted_part, DeservesIn, IsTested, RightlyIn, Rule, is_after_tick}
use Rattle.cf_match.specs.declared.job.Job.{Job}
use Rattle.cf_sync.proofs.Omitted.{omitted_unfailed}
use Rattle.cf_sync.proofs.Plans.{omits_alike, off_omits_nothing}
use Rattle.cf_holds.proofs.VerdictsGrow.{same_given}
use Rattle.cf_sync.specs.Planned.{is_untold, IsMeant, Alike, IsSameGiven, IsSameTest}
use Rattle.cf_sync.proofs.Planning.{planned_part}
use Rattle.cf_tracker.specs.Tracker.{opens_of, trials_of}
use Rattle.cf_client.specs.declared.client.Client.{Client}
use Rattle.cf_run.specs.declared.progress.Progress.{Progress}
use Rattle.cf_run.specs.declared.progress.SendState.{SendState}
use Rattle.cf_run.specs.declared.progress.SendState.TheVariants.{Fine, Pending, Known}
use Rattle.cf_run.specs.declared.trace.Trace.{Trace}
use Rattle.cf_run.specs.declared.trace.TraceLine.{TraceLine}
use Rattle.cf_run.specs.declared.trace.TraceLine.TheVariants.{Sent as SentLine, Closed as ClosedLine}
use Rattle.cf_place.specs.Places.{entry_of, MayAct, CutFor}
use Rattle.cf_place.specs.Standing.{IsNamed, IsRepliedIn}
use Rattle.cf_client.specs.Stands.{Reflects, count_of, rule_by}
use Rattle.cf_run.specs.Run.{IsTicked, IsTraceOf, kept_lines}
use Rattle.cf_run.specs.States.{Doing, ActsLeft, HasTrace, HoldsOver, closes, state_at, is_pending, is_fine}
use Rattle.cf_sync.proofs.SameFetched.{same_wanted}
use Rattle.cf_holds.proofs.TableGrows.{same_holds}
use Rattle.cf_client.proofs.Spelled.{spelled_bytes}
use Rattle.cf_sync.proofs.Blamed.{tested_stays}
use Rattle.cf_holds.proofs.KeptAims.{closed_on as on_closed, failed_on as on_failed, sent_on as on_sent, test_alike, test_off, trials_alike, trials_stay}
use Rattle.cf_run.proofs.AlikeParts.{deserved_in, deserved_in_off, failed_in_off, replied_in, omits_planned, fits_alike, chain_alike, claims_alike, opens_alike}
use Rattle.cf_run.proofs.Entries.{asked_failed, asked_alike, lost_off, any_failing, failed_still, lost_alike, sent_brought, closed_brought, failing_brought, sent_came, closed_came, failing_came, sent_connected, sent_others, closed_others, failing_others, failing_here, closed_here, sent_here, untold_failing_here, untold_failing_others, untold_closed_here, untold_closed_others, before_failing_here, before_failing_others, closes_here, closes_others}

-- with no act left
only : (b : Bool) → (b || false) ≡ true → b ≡ true
only true h = refl
only false h = absurd (false≢true h)

pub tells_more : (log : Log) (t : Told) (e : Event) → Tells log t → Tells (e ∷ log) (tell e t)
tells_more log t e tells = record { content = longer_is log t.log e tells.content; counts = ap (noted e) tells.counts } where
  longer_is : (log : Log) (o : Option Log) (e : Event) → IfSome o (λ l. l ≡ log) → IfSome (longer e o) (λ l. l ≡ e ∷ log)
  longer_is log None e h = tt
  longer_is log (Some l) e h = ap (λ (k : Log). e ∷ k) h

not_pending : (s : SendState) → is_fine s ≡ true → is_pending s ≡ false
not_pending Fine h = refl
not_pending Pending h = absurd (false≢true h)
not_pending Known h = refl

not_fine : (s : SendState) → is_pending s ≡ true → is_fine s ≡ false
not_fine Fine h = absurd (false≢true h)
not_fine Pending h = refl
not_fine Known h = absurd (false≢true h)

pinged_on : (mode : Mode) (t : Trail) (number : ℕ) → MayPing mode t number → is_connected t ≡ true
pinged_on Once t number h = absurd h
pinged_on Following t number h = h.0.on

asked_on : (mode : Mode) (t : Trail) (m : Msg) → MayAskIn mode t m → is_connected t ≡ true
asked_on mode t (Version version services time to from nonce agent height relay) h = h.0
asked_on mode t Verack h = h.0
asked_on mode t (Ping n) h = pinged_on mode t n h
asked_on mode t (Pong n) h = h.0
asked_on mode t (GetHeaders version locator stop) h = h.0.on
asked_on mode t (Headers hs) h = absurd h
asked_on mode t (GetData entries) h = h.0.on
asked_on mode t (Inv entries) h = absurd h
asked_on mode t (Block block) h = absurd h
asked_on mode t (GetCfilters filter start stop) h = h.0.on
asked_on mode t (Cfilter filter block bytes) h = absurd h
asked_on mode t (GetCfheaders filter start stop) h = h.0.on
asked_on mode t (Cfheaders filter stop previous hashes) h = absurd h
asked_on mode t (GetCfcheckpt filter stop) h = absurd h
asked_on mode t (Cfcheckpt filter stop headers) h = absurd h
asked_on mode t (Other command payload) h = absurd h

-- a connected peer, by the plan, whose failed send isn't pending has had none that isn't told
known_told : {rule : Rule} (acts : List Act) (progress : Progress) (called : List (List ℕ)) (planned : Log) (t : Told) (p : ℕ)
    → is_pending (state_at progress.sends p) ≡ false → is_connected (trail planned p) ≡ true → (doing : Doing rule acts progress called planned t) → is_untold doing.actual p ≡ false
known_told acts progress called planned t p free on doing = elim (cases_Bool (is_untold doing.actual p)) [
  | inl untold ↦ absurd (both_ways (is_connected (trail planned p)) (doing.known p untold free).0 on)
  | inr told ↦ told
]

-- who is connected has the part that was planned
pub connected_same : {rule : Rule} (acts : List Act) (progress : Progress) (called : List (List ℕ)) (planned : Log) (t : Told) → (doing : Doing rule acts progress called planned t) → (q : ℕ) → is_connected (trail doing.actual q) ≡ true → part_of planned q ≡ part_of doing.actual q
connected_same acts progress called planned t doing q on = elim (cases_Bool (is_untold doing.actual q)) [
  | inl untold ↦ absurd (both_ways (is_connected (trail doing.actual q)) (doing.broken q untold).0 on)
  | inr told ↦ elim (doing.plan.told q told) [
    | inl same ↦ same
    | inr off ↦ absurd (both_ways (is_connected (trail doing.actual q)) off.1 on)
  ]
]

-- what is asked is open to nobody by the plan, and so indeed
alone_too : {rule : Rule} (acts : List Act) (progress : Progress) (called : List (List ℕ)) (planned : Log) (t : Told) → (doing : Doing rule acts progress called planned t) → (p : ℕ) (m : Msg) → part_of planned p ≡ part_of doing.actual p
    → IsAlone planned p m → IsAlone doing.actual p m
alone_too acts progress called planned t doing p m same alone = alone_less planned doing.actual p m doing.brought doing.plan.ticked (connected_same acts progress called planned t doing) same alone

-- an act on a peer whose failed send is pending is planned, and not done
skipped : {rule : Rule} (a : Act) (acts : List Act) (progress : Progress) (called : List (List ℕ)) (planned : Log) (t : Told) (p : ℕ) (e : Event) (i : Item)
    → is_pending (state_at progress.sends p) ≡ true
    → ((q : ℕ) → q ≢ p → went_on e q (part_of planned q) ≡ part_of planned q)
    → ((q : ℕ) → q ≡ p → went_on e q (part_of planned q) ≡ with_item i (part_of planned q))
    → ((more : Trail) → IsMeant more → IsMeant (i ∷ more))
    → ((q : ℕ) → q ≢ p → list_any (closes q) (a ∷ acts) ≡ list_any (closes q) acts)
    → (noted e (tally_of planned)).dials ≡ (tally_of planned).dials
    → ((q : ℕ) → fetched_blocks (counted_part (e ∷ planned) q) ≡ fetched_blocks (counted_part planned q)) → ((q : ℕ) → given_filters (counted_part (e ∷ planned) q) ≡ given_filters (counted_part planned q))
    → ((job : Job) → IsTested (e ∷ planned) job → IsTested planned job) → IsSameGiven (e ∷ planned) planned
    → ((q : ℕ) (block : Hash) → q ≢ p → IsSameTest (e ∷ planned) planned q block)
    → ((q : ℕ) → q ≢ p → HasOmitted (e ∷ planned) q → HasOmitted planned q)
    → ((q : ℕ) → q ≢ p → HasOmitted planned q → HasOmitted (e ∷ planned) q) → (RightlyIn Following planned → RightlyIn Following (e ∷ planned))
    → is_after_tick (e ∷ planned) ≡ is_after_tick planned
    → Doing rule (a ∷ acts) progress called planned t → Doing rule acts progress called (e ∷ planned) t
skipped a acts progress called planned t p e i is others here meant unclosed dials brought came tests gave aims omits stays right ticked doing =
    let it : (q : ℕ) → q ≡ p → is_pending (state_at progress.sends q) ≡ true = λ q same. ap (λ (k : ℕ). is_pending (state_at progress.sends k)) same ∙ is in
    record {
      actual = doing.actual;
      notes = doing.notes;
      plan = record {
        told = λ q told. elim (cases_eq q p) [
          | inl same ↦ absurd (both_ways (is_untold doing.actual q) told (doing.pending q (it q same)))
          | inr ne ↦ subst (λ (x : Part). Alike x (part_of doing.actual q)) (sym (others q ne)) (doing.plan.told q told)
        ];
        untold = λ q untold. let m = doing.plan.untold q untold in elim (cases_eq q p) [
          | inl same ↦ (i ∷ m.0, (meant m.0 m.1.0, here q same ∙ ap (with_item i) m.1.1))
          | inr ne ↦ (m.0, (m.1.0, others q ne ∙ m.1.1))
        ];
        dials = dials ∙ doing.plan.dials;
        tested = λ job h. doing.plan.tested job (tests job h);
        tests = λ job h. tested_stays e planned job (doing.plan.tests job h);
        gave = λ job. (λ h. (doing.plan.gave job).0 ((gave job).0 h), λ h. (gave job).1 ((doing.plan.gave job).1 h));
        ticked = ticked ∙ doing.plan.ticked;
        aims = λ q fine on block.
            let ne : q ≢ p = λ same. both_ways (is_untold doing.actual q) fine (doing.pending q (it q same)) in
            let one = aims q block ne in
            let two = doing.plan.aims q fine on block in
            (λ t. two.0 (one.0 t), λ t. one.1 (two.1 t));
      };
      brought = λ q. brought q ∙ doing.brought q;
      came = λ q. came q ∙ doing.came q;
      omitted = λ q told omitted.
          let ne : q ≢ p = λ same. both_ways (is_untold doing.actual q) told (doing.pending q (it q same)) in
          doing.omitted q told (omits q ne omitted);
      unomitted = λ q told omitted.
          let ne : q ≢ p = λ same. both_ways (is_untold doing.actual q) told (doing.pending q (it q same)) in
          stays q ne (doing.unomitted q told omitted);
      rightly = right doing.rightly;
      pending = doing.pending;
      due = λ q untold. elim (cases_eq q p) [
        | inl same ↦ ap (λ (b : Bool). b || list_any (closes q) acts) (it q same)
        | inr ne ↦ ap (λ (b : Bool). is_pending (state_at progress.sends q) || b) (sym (unclosed q ne)) ∙ doing.due q untold
      ];
      broken = doing.broken;
      known = λ q untold free. elim (cases_eq q p) [
        | inl same ↦ absurd (both_ways (is_pending (state_at progress.sends q)) free (it q same))
        | inr ne ↦ subst (λ (x : Part). (is_connected x.trail ≡ false) × (has_failed x.trail ≡ true)) (sym (others q ne)) (doing.known q untold free)
      ];
    }

pub skipped_send : {rule : Rule} (acts : List Act) (progress : Progress) (called : List (List ℕ)) (planned : Log) (t : Told) (p : PeerNo) (m : Msg)
    → is_pending (state_at progress.sends p.0) ≡ true → MayAct rule (Send p m) planned
    → Doing rule (Send p m ∷ acts) progress called planned t → Doing rule acts progress called (Sent p (bytes_of m) ∷ planned) t
skipped_send {rule = rule} acts progress called planned t p m is may doing =
    skipped (Send p m) acts progress called planned t p.0 (Sent p (bytes_of m)) (Asked m) is
    (λ q ne. sent_others p (bytes_of m) q (part_of planned q) ne)
    (λ q e. sent_here p (bytes_of m) m q (part_of planned q) e (spelled_bytes m may.1))
    (λ more meant. meant) (λ q ne. refl) refl (λ q. sent_brought p (bytes_of m) planned q) (λ q. sent_came p (bytes_of m) planned q) (λ job h. h)
    (λ job. (λ h. h, λ h. h)) (λ q block ne. test_off planned p (bytes_of m) q block ne)
    (λ q ne omitted. omitted) (λ q ne omitted. omitted)
    (λ right. ((m, spelled_bytes m may.1, sends_following rule.mode planned p.0 m may.2), right)) refl doing

pub skipped_close : {rule : Rule} (acts : List Act) (progress : Progress) (called : List (List ℕ)) (planned : Log) (t : Told) (p : PeerNo) (cause : Cause)
    → is_pending (state_at progress.sends p.0) ≡ true → MayAct rule (Close p cause) planned
    → Doing rule (Close p cause ∷ acts) progress called planned t → Doing rule acts progress called (Closed p ∷ planned) t
skipped_close acts progress called planned t p cause is may doing =
    skipped (Close p cause) acts progress called planned t p.0 (Closed p) (Lost mark.Closed) is
    (λ q ne. closed_others p q (part_of planned q) ne)
    (λ q e. closed_here p q (part_of planned q) e)
    (λ more meant. meant) (λ q ne. closes_others p cause acts q ne) refl (λ q. closed_brought p planned q) (λ q. closed_came p planned q) (λ job h. h)
    (λ job. (λ h. h, λ h. h)) (λ q block ne. (λ t. t, λ t. t))
    (λ q ne omitted. elim omitted [ inl now ↦ absurd (ne (sym now.0)) | inr before ↦ before ])
    (λ q ne omitted. inr omitted) (λ right. ((cause, may.1), right)) refl doing

reverse_push : (xs : List TraceLine) (x : TraceLine) → reverse (xs ++ x ∷ []) ≡ x ∷ reverse xs
reverse_push xs x = reverse-append xs (x ∷ [])

-- the lines that are kept, with one more
kept_more : (wanted : Bool) (items lines : List TraceLine) (line : TraceLine) → items ≡ kept_lines wanted lines
    → (if wanted then items ++ line ∷ [] else items) ≡ kept_lines wanted (lines ++ line ∷ [])
kept_more true items lines line kept = ap (λ (xs : List TraceLine). xs ++ line ∷ []) kept
kept_more false items lines line kept = kept

-- a line was pushed
traced_more : (log later : Log) (line : TraceLine) (before after : Trace)
    → after.lines.items ≡ (if before.wanted then before.lines.items ++ line ∷ [] else before.lines.items) → after.wanted ≡ before.wanted
    → ((lines : List TraceLine) → IsTraceOf log lines → IsTraceOf later (line ∷ lines)) → HasTrace before log → HasTrace after later
traced_more log later line before after pushed same more has = (
  has.0 ++ line ∷ [],
  (
    subst (IsTraceOf later) (sym (reverse_push has.0 line)) (more (reverse has.0) has.1.0),
    pushed ∙ kept_more before.wanted before.lines.items has.0 line has.1.1 ∙ ap (λ (b : Bool). kept_lines b (has.0 ++ line ∷ [])) (sym same),
  ),
)

-- what is sent may be, by the log as it is
pub sent_rightly : {rule : Rule} (acts : List Act) (progress : Progress) (called : List (List ℕ)) (planned : Log) (t : Told) (p : PeerNo)
    (m : Msg) → is_pending (state_at progress.sends p.0) ≡ false → MayAct rule (Send p m) planned
    → (doing : Doing rule (Send p m ∷ acts) progress called planned t) → RightlyIn rule.mode (Sent p (bytes_of m) ∷ doing.actual)
sent_rightly {rule = rule} acts progress called planned t p m free may doing =
    let on : is_connected (trail planned p.0) ≡ true = asked_on rule.mode (trail planned p.0) m may.2.of_its_part in
    let told : is_untold doing.actual p.0 ≡ false = known_told (Send p m ∷ acts) progress called planned t p.0 free on doing in
    let same : part_of planned p.0 ≡ part_of doing.actual p.0 = planned_part planned doing.actual p.0 doing.plan told on in (
      (
        m,
        spelled_bytes m may.1,
        record {
          of_its_part = subst (λ (x : Part). MayAskIn rule.mode x.trail m) same may.2.of_its_part;
          wanted = same_wanted planned doing.actual doing.brought m may.2.wanted;
          alone = alone_too (Send p m ∷ acts) progress called planned t doing p.0 m same may.2.alone;
        },
      ),
      doing.notes.rightly,
    )

-- a message is sent
pub sent_on : {rule : Rule} (acts : List Act) (progress : Progress) (trace : Trace) (called : List (List ℕ)) (planned : Log) (t : Told) (p : PeerNo) (m : Msg) (command : List ℕ)
    → is_pending (state_at progress.sends p.0) ≡ false
    → trace.lines.items ≡ (if progress.trace.wanted then progress.trace.lines.items ++ SentLine p command ∷ [] else progress.trace.lines.items)
    → trace.wanted ≡ progress.trace.wanted → command ≡ command_of m
    → MayAct rule (Send p m) planned
    → Doing rule (Send p m ∷ acts) progress called planned t → Doing rule acts (record progress { trace = trace }) called (Sent p (bytes_of m) ∷ planned) (tell (Sent p (bytes_of m)) t)
sent_on {rule = rule} acts progress trace called planned t p m command free line stays is may doing =
    let bytes = bytes_of m in
    let spells : spelled bytes ≡ Some m = spelled_bytes m may.1 in
    let on : is_connected (trail planned p.0) ≡ true = asked_on rule.mode (trail planned p.0) m may.2.of_its_part in
    let told : is_untold doing.actual p.0 ≡ false = known_told (Send p m ∷ acts) progress called planned t p.0 free on doing in
    let other : (q : ℕ) → is_untold doing.actual q ≡ true → q ≢ p.0 = λ q untold e. both_ways (is_untold doing.actual q) (ap (is_untold doing.actual) e ∙ told) untold in
    record {
      actual = Sent p bytes ∷ doing.actual;
      notes = record {
        tells = tells_more doing.actual t (Sent p bytes) doing.notes.tells;
        bytes = doing.notes.bytes;
        rightly = sent_rightly acts progress called planned t p m free may doing;
        planned = ((m, spells, (planned, (doing.plan, (may.2, may.3)))), doing.notes.planned);
        order = doing.notes.order;
        pinged = doing.notes.pinged;
        asked_out = doing.notes.asked_out;
        numbered = doing.notes.numbered;
        first = doing.notes.first;
        traced = traced_more doing.actual (Sent p bytes ∷ doing.actual) (SentLine p command) progress.trace trace line stays
            (λ lines of_log. ((refl, (m, spells, is)), of_log)) doing.notes.traced;
        named = doing.notes.named;
        off = λ q not_it. sent_connected p bytes q (part_of doing.actual q) ∙ doing.notes.off q not_it;
        shut = λ q it. let s = doing.notes.shut q it in (sent_connected p bytes q (part_of doing.actual q) ∙ s.0, s.1);
        new = doing.notes.new;
        few = doing.notes.few;
      };
      plan = record {
        told = λ q fine. asked_alike (p.0 == q) (spelled bytes) (part_of planned q) (part_of doing.actual q) (doing.plan.told q fine);
        untold = λ q untold. let more = doing.plan.untold q untold in (more.0, (more.1.0, sent_others p bytes q (part_of planned q) (other q untold) ∙ more.1.1));
        dials = doing.plan.dials;
        tested = doing.plan.tested;
        tests = doing.plan.tests;
        gave = doing.plan.gave;
        ticked = doing.plan.ticked;
        aims = λ q fine on block. test_alike planned doing.actual p bytes q block doing.brought (doing.plan.aims q fine (on_sent p bytes doing.actual q on) block);
      };
      brought = λ q. sent_brought p bytes planned q ∙ doing.brought q ∙ sym (sent_brought p bytes doing.actual q);
      came = λ q. sent_came p bytes planned q ∙ doing.came q ∙ sym (sent_came p bytes doing.actual q);
      omitted = doing.omitted;
      unomitted = doing.unomitted;
      rightly = ((m, spells, sends_following rule.mode planned p.0 m may.2), doing.rightly);
      pending = doing.pending;
      due = doing.due;
      broken = λ q untold. let b = doing.broken q untold in (
        sent_connected p bytes q (part_of doing.actual q) ∙ b.0,
        asked_failed (p.0 == q) (spelled bytes) (part_of doing.actual q) ∙ b.1,
      );
      known = λ q untold pends. let b = doing.known q untold pends in (
        sent_connected p bytes q (part_of planned q) ∙ b.0,
        asked_failed (p.0 == q) (spelled bytes) (part_of planned q) ∙ b.1,
      );
    }

-- a peer is closed
pub closed_on : {rule : Rule} (acts : List Act) (progress : Progress) (trace : Trace) (called : List (List ℕ)) (planned : Log) (t : Told) (p : PeerNo) (cause : Cause)
    → is_pending (state_at progress.sends p.0) ≡ false
    → trace.lines.items ≡ (if progress.trace.wanted then progress.trace.lines.items ++ ClosedLine p cause ∷ [] else progress.trace.lines.items)
    → trace.wanted ≡ progress.trace.wanted
    → MayAct rule (Close p cause) planned
    → Doing rule (Close p cause ∷ acts) progress called planned t
    → Doing rule acts (record progress { closed = set progress.closed p.0 true; trace = trace }) called (Closed p ∷ planned) (tell (Closed p) t)
closed_on acts progress trace called planned t p cause free line stays may doing =
    let deserves : DeservesIn doing.actual p.0 cause = elim (cases_Bool (is_untold doing.actual p.0)) [
      | inl untold ↦ deserved_in_off planned doing.actual p.0 cause (doing.known p.0 untold free).0 (doing.broken p.0 untold).1 may.1
      | inr told ↦ deserved_in planned doing.actual p.0 cause (doing.plan.told p.0 told) doing.brought doing.plan.tested may.1
    ] in
    let replied_all : IsRepliedIn doing.actual p.0 = elim (cases_Bool (is_untold doing.actual p.0)) [
      | inl untold ↦ inl (λ sound. absurd (both_ways (has_failed (trail doing.actual p.0)) sound (doing.broken p.0 untold).1))
      | inr told ↦ replied_in planned doing.actual p.0 (doing.plan.told p.0 told) doing.brought doing.plan.tested may.2
    ] in
    let is_named : IsNamed doing.actual p.0 cause = λ right omits. elim (cases_Bool (is_untold doing.actual p.0)) [
      | inl untold ↦ absurd (both_ways (is_connected (trail doing.actual p.0)) (doing.broken p.0 untold).0 omits.there)
      | inr told ↦ may.3 doing.rightly
          (omits_planned planned doing.actual p.0 (doing.plan.told p.0 told) doing.brought doing.plan.tests omits)
    ] in
    let before : (q : ℕ) → is_untold (Closed p ∷ doing.actual) q ≡ true → (q ≢ p.0) × (is_untold doing.actual q ≡ true) = λ q untold.
    let ne : q ≢ p.0 = λ e. both_ways (is_untold (Closed p ∷ doing.actual) q) (untold_closed_here p doing.actual q e) untold in
    (ne, sym (untold_closed_others p doing.actual q ne) ∙ untold) in
    record {
      actual = Closed p ∷ doing.actual;
      notes = record {
        tells = tells_more doing.actual t (Closed p) doing.notes.tells;
        bytes = doing.notes.bytes;
        rightly = ((cause, deserves), doing.notes.rightly);
        planned = doing.notes.planned;
        order = (replied_all, doing.notes.order);
        pinged = doing.notes.pinged;
        asked_out = doing.notes.asked_out;
        numbered = doing.notes.numbered;
        first = doing.notes.first;
        traced = traced_more doing.actual (Closed p ∷ doing.actual) (ClosedLine p cause) progress.trace trace line stays
            (λ lines of_log. ((refl, deserves, is_named), of_log)) doing.notes.traced;
        named = doing.notes.named;
        off = λ q not_it. lost_off (p.0 == q) mark.Closed (part_of doing.actual q) (doing.notes.off q not_it);
        shut = λ q it. elim (cases_eq q p.0) [
          | inl e ↦ (ap (λ (x : Part). is_connected x.trail) (closed_here p q (part_of doing.actual q) e), untold_closed_here p doing.actual q e)
          | inr ne ↦ let s = doing.notes.shut q (sym (get_or-set_other progress.closed p.0 q true false ne) ∙ it) in
              (lost_off (p.0 == q) mark.Closed (part_of doing.actual q) s.0, untold_closed_others p doing.actual q ne ∙ s.1)
        ];
        new = λ q le. let ne : q ≢ p.0 = λ e. absurd (omega (arith, doing.plan.dials, may.0)) in
            let n = doing.notes.new q le in (n.0, get_or-set_other progress.closed p.0 q true false ne ∙ n.1);
        few = doing.notes.few;
      };
      plan = record {
        told = λ q told. elim (cases_Bool (is_untold doing.actual q)) [
          | inl untold ↦
              let e : q ≡ p.0 = elim (cases_eq q p.0) [ inl e ↦ e | inr ne ↦ absurd (both_ways (is_untold doing.actual q) (sym (untold_closed_others p doing.actual q ne) ∙ told) untold) ] in
              let k = doing.known q untold (ap (λ (n : ℕ). is_pending (state_at progress.sends n)) e ∙ free) in
              inr (
                lost_off (p.0 == q) mark.Closed (part_of planned q) k.0,
                lost_off (p.0 == q) mark.Closed (part_of doing.actual q) (doing.broken q untold).0,
                failed_still (p.0 == q) mark.Closed (part_of planned q) k.1,
                failed_still (p.0 == q) mark.Closed (part_of doing.actual q) (doing.broken q untold).1,
                closed_brought p planned q ∙ doing.brought q ∙ sym (closed_brought p doing.actual q),
                closed_came p planned q ∙ doing.came q ∙ sym (closed_came p doing.actual q),
              )
          | inr fine ↦ lost_alike (p.0 == q) mark.Closed (part_of planned q) (part_of doing.actual q) (doing.plan.told q fine)
        ];
        untold = λ q untold. let b = before q untold in let more = doing.plan.untold q b.1 in
            (more.0, (more.1.0, closed_others p q (part_of planned q) b.0 ∙ more.1.1));
        dials = doing.plan.dials;
        tested = doing.plan.tested;
        tests = doing.plan.tests;
        gave = doing.plan.gave;
        ticked = doing.plan.ticked;
        aims = λ q fine on block. elim (cases_Bool (is_untold doing.actual q)) [
          | inl untold ↦
              let e : q ≡ p.0 = elim (cases_eq q p.0) [ inl e ↦ e | inr ne ↦ absurd (both_ways (is_untold doing.actual q) (sym (untold_closed_others p doing.actual q ne) ∙ fine) untold) ] in
              absurd (both_ways (is_connected (trail (Closed p ∷ doing.actual) q)) (ap (λ (x : Part). is_connected x.trail) (closed_here p q (part_of doing.actual q) e)) on)
          | inr told ↦ doing.plan.aims q told (on_closed p doing.actual q on) block
        ];
      };
      brought = λ q. closed_brought p planned q ∙ doing.brought q ∙ sym (closed_brought p doing.actual q);
      came = λ q. closed_came p planned q ∙ doing.came q ∙ sym (closed_came p doing.actual q);
      omitted = λ q told omitted. elim (cases_Bool (is_untold doing.actual q)) [
        | inl untold ↦
            let e : q ≡ p.0 = elim (cases_eq q p.0) [ inl e ↦ e | inr ne ↦ absurd (both_ways (is_untold doing.actual q) (sym (untold_closed_others p doing.actual q ne) ∙ told) untold) ] in
            let k = doing.known q untold (ap (λ (n : ℕ). is_pending (state_at progress.sends n)) e ∙ free) in
            absurd (elim omitted [
              | inl now ↦ off_omits_nothing planned q k.0 now.1
              | inr before ↦ both_ways (has_failed (trail planned q)) (omitted_unfailed planned q before) k.1
            ])
        | inr fine ↦ elim omitted [
          | inl now ↦ inl (now.0, omits_alike planned doing.actual q (doing.plan.told q fine) doing.brought doing.plan.tested now.1)
          | inr before ↦ inr (doing.omitted q fine before)
        ]
      ];
      unomitted = λ q told omitted. elim (cases_Bool (is_untold doing.actual q)) [
        | inl untold ↦ absurd (elim omitted [
          | inl now ↦ both_ways (is_connected (trail doing.actual q)) (doing.broken q untold).0 now.1.there
          | inr before ↦ both_ways (has_failed (trail doing.actual q)) (omitted_unfailed doing.actual q before) (doing.broken q untold).1
        ])
        | inr fine ↦ elim omitted [
          | inl now ↦ inl (now.0, omits_planned planned doing.actual q (doing.plan.told q fine) doing.brought doing.plan.tests now.1)
          | inr before ↦ inr (doing.unomitted q fine before)
        ]
      ];
      rightly = ((cause, may.1), doing.rightly);
      pending = λ q it. let ne : q ≢ p.0 = λ e. both_ways (is_pending (state_at progress.sends q)) (ap (λ (n : ℕ). is_pending (state_at progress.sends n)) e ∙ free) it in
          untold_closed_others p doing.actual q ne ∙ doing.pending q it;
      due = λ q untold. let b = before q untold in
          ap (λ (x : Bool). is_pending (state_at progress.sends q) || x) (sym (closes_others p cause acts q b.0)) ∙ doing.due q b.1;
      broken = λ q untold. let b = doing.broken q (before q untold).1 in
          (lost_off (p.0 == q) mark.Closed (part_of doing.actual q) b.0, failed_still (p.0 == q) mark.Closed (part_of doing.actual q) b.1);
      known = λ q untold pends. let b = doing.known q (before q untold).1 pends in
          (lost_off (p.0 == q) mark.Closed (part_of planned q) b.0, failed_still (p.0 == q) mark.Closed (part_of planned q) b.1);
    }

-- a peer was closed already, and a second close is not done
pub closed_again : {rule : Rule} (acts : List Act) (progress : Progress) (called : List (List ℕ)) (planned : Log) (t : Told) (p : PeerNo) (cause : Cause)
    → is_pending (state_at progress.sends p.0) ≡ false → get_or progress.closed p.0 false ≡ true → MayAct rule (Close p cause) planned
    → Doing rule (Close p cause ∷ acts) progress called planned t → Doing rule acts progress called (Closed p ∷ planned) t
closed_again acts progress called planned t p cause free shut may doing =
    let s = doing.notes.shut p.0 shut in
    let both : (is_connected (trail planned p.0) ≡ false) × (has_failed (trail planned p.0) ≡ true) × (has_failed (trail doing.actual p.0) ≡ true) =
    twice (part_of planned p.0) (part_of doing.actual p.0) (doing.plan.told p.0 s.1) s.0 (failed_in_off planned p.0 cause may.1) in
    record {
      actual = doing.actual;
      notes = doing.notes;
      plan = record {
        told = λ q told. elim (cases_eq q p.0) [
          | inl e ↦ inr (
            lost_off (p.0 == q) mark.Closed (part_of planned q) (ap (λ (k : ℕ). is_connected (trail planned k)) e ∙ both.0),
            ap (λ (k : ℕ). is_connected (trail doing.actual k)) e ∙ s.0,
            failed_still (p.0 == q) mark.Closed (part_of planned q) (ap (λ (k : ℕ). has_failed (trail planned k)) e ∙ both.1),
            ap (λ (k : ℕ). has_failed (trail doing.actual k)) e ∙ both.2,
            closed_brought p planned q ∙ doing.brought q,
            closed_came p planned q ∙ doing.came q,
          )
          | inr ne ↦ subst (λ (x : Part). Alike x (part_of doing.actual q)) (sym (closed_others p q (part_of planned q) ne)) (doing.plan.told q told)
        ];
        untold = λ q untold. let more = doing.plan.untold q untold in (more.0, (more.1.0, closed_others p q (part_of planned q) (other q untold) ∙ more.1.1));
        dials = doing.plan.dials;
        tested = doing.plan.tested;
        tests = doing.plan.tests;
        gave = doing.plan.gave;
        ticked = doing.plan.ticked;
        aims = doing.plan.aims;
      };
      brought = λ q. closed_brought p planned q ∙ doing.brought q;
      came = λ q. closed_came p planned q ∙ doing.came q;
      omitted = λ q told omitted. elim omitted [
        | inl now ↦ absurd (off_omits_nothing planned q (ap (λ (k : ℕ). is_connected (trail planned k)) (sym now.0) ∙ both.0) now.1)
        | inr before ↦ doing.omitted q told before
      ];
      unomitted = λ q told omitted. inr (doing.unomitted q told omitted);
      rightly = ((cause, may.1), doing.rightly);
      pending = doing.pending;
      due = λ q untold. ap (λ (x : Bool). is_pending (state_at progress.sends q) || x) (sym (closes_others p cause acts q (other q untold))) ∙ doing.due q untold;
      broken = doing.broken;
      known = λ q untold pends. let b = doing.known q untold pends in
          (lost_off (p.0 == q) mark.Closed (part_of planned q) b.0, failed_still (p.0 == q) mark.Closed (part_of planned q) b.1);
    } where
      other : (q : ℕ) → is_untold doing.actual q ≡ true → q ≢ p.0
      other q untold e = both_ways (is_untold doing.actual q) (ap (is_untold doing.actual) e ∙ (doing.notes.shut p.0 shut).1) untold

      twice : (t u : Part) → Alike t u → is_connected u.trail ≡ false → (is_connected t.trail ≡ false → has_failed t.trail ≡ true) → (is_connected t.trail ≡ false) × (has_failed t.trail ≡ true) × (has_failed u.trail ≡ true)
      twice t u (inl same) off h =
          let gone : is_connected t.trail ≡ false = ap (λ (x : Part). is_connected x.trail) same ∙ off in
          let broken : has_failed t.trail ≡ true = h gone in
          (gone, broken, sym (ap (λ (x : Part). has_failed x.trail) same) ∙ broken)
      twice t u (inr o) off h = (o.0, o.2, o.3)

-- a send fails
pub failed_on : {rule : Rule} (acts : List Act) (progress : Progress) (called : List (List ℕ)) (planned : Log) (t : Told) (p : PeerNo) (m : Msg)
    → p.0 < length progress.sends → is_pending (state_at progress.sends p.0) ≡ false
    → MayAct rule (Send p m) planned
    → Doing rule (Send p m ∷ acts) progress called planned t
    → Doing rule acts (record progress { sends = set progress.sends p.0 Pending }) called (Sent p (bytes_of m) ∷ planned) (tell (SendFailed p) t)
failed_on {rule = rule} acts progress called planned t p m lt free may doing =
    let here : state_at (set progress.sends p.0 Pending) p.0 ≡ Pending = get_or-set_same progress.sends p.0 Pending Fine lt in
    let pends : (q : ℕ) → q ≡ p.0 → is_pending (state_at (set progress.sends p.0 Pending) q) ≡ true = λ q e. ap (λ (k : ℕ). is_pending (state_at (set progress.sends p.0 Pending) k)) e ∙ ap is_pending here in
    let there : (q : ℕ) → q ≢ p.0 → state_at (set progress.sends p.0 Pending) q ≡ state_at progress.sends q = λ q ne. get_or-set_other progress.sends p.0 q Pending Fine ne in
    let bytes = bytes_of m in
    let spells : spelled bytes ≡ Some m = spelled_bytes m may.1 in
    let on : is_connected (trail planned p.0) ≡ true = asked_on rule.mode (trail planned p.0) m may.2.of_its_part in
    let told : is_untold doing.actual p.0 ≡ false = known_told (Send p m ∷ acts) progress called planned t p.0 free on doing in
    let same : part_of planned p.0 ≡ part_of doing.actual p.0 = planned_part planned doing.actual p.0 doing.plan told on in
    let on_too : is_connected (trail doing.actual p.0) ≡ true = sym (ap (λ (x : Part). is_connected x.trail) same) ∙ on in
    let before : (q : ℕ) → q ≢ p.0 → is_untold (SendFailed p ∷ doing.actual) q ≡ true → is_untold doing.actual q ≡ true = λ q ne untold. sym (untold_failing_others p doing.actual q ne) ∙ untold in
    record {
      actual = SendFailed p ∷ doing.actual;
      notes = record {
        tells = tells_more doing.actual t (SendFailed p) doing.notes.tells;
        bytes = doing.notes.bytes;
        rightly = doing.notes.rightly;
        planned = doing.notes.planned;
        order = (on_too, doing.notes.order);
        pinged = doing.notes.pinged;
        asked_out = doing.notes.asked_out;
        numbered = doing.notes.numbered;
        first = doing.notes.first;
        traced = doing.notes.traced;
        named = doing.notes.named;
        off = λ q not_it. elim (cases_eq q p.0) [
          | inl e ↦ ap (λ (x : Part). is_connected x.trail) (failing_here p q (part_of doing.actual q) e)
          | inr ne ↦ lost_off (p.0 == q) mark.SendFailed (part_of doing.actual q) (doing.notes.off q (sym (ap is_fine (there q ne)) ∙ not_it))
        ];
        shut = λ q it. let s = doing.notes.shut q it in
            let ne : q ≢ p.0 = λ e. both_ways (is_connected (trail doing.actual q)) s.0 (ap (λ (k : ℕ). is_connected (trail doing.actual k)) e ∙ on_too) in
            (lost_off (p.0 == q) mark.SendFailed (part_of doing.actual q) s.0, untold_failing_others p doing.actual q ne ∙ s.1);
        new = λ q le. let ne : q ≢ p.0 = λ e. absurd (omega (arith, doing.plan.dials, may.0)) in
            let n = doing.notes.new q le in (ap is_fine (there q ne) ∙ n.0, n.1);
        few = doing.notes.few;
      };
      plan = record {
        told = λ q fine.
            let ne : q ≢ p.0 = λ e. both_ways (is_untold (SendFailed p ∷ doing.actual) q) fine (untold_failing_here p doing.actual q e) in
            subst (λ (x : Part). Alike x (went_on (SendFailed p) q (part_of doing.actual q))) (sym (sent_others p bytes q (part_of planned q) ne))
            (subst (λ (x : Part). Alike (part_of planned q) x) (sym (failing_others p q (part_of doing.actual q) ne))
            (doing.plan.told q (sym (untold_failing_others p doing.actual q ne) ∙ fine)));
        untold = λ q untold. elim (cases_eq q p.0) [
          | inl e ↦ (
            Asked m ∷ [],
            (
              tt,
              sent_here p bytes m q (part_of planned q) e spells
                  ∙ ap (with_item (Asked m)) (subst (λ (k : ℕ). part_of planned k ≡ part_of doing.actual k) (sym e) same)
                  ∙ ap (λ (log : Log). with_item (Asked m) (part_of log q)) (sym (before_failing_here p doing.actual q e)),
            ),
          )
          | inr ne ↦
              let more = doing.plan.untold q (before q ne untold) in (
                more.0,
                (
                  more.1.0,
                  sent_others p bytes q (part_of planned q) ne ∙ more.1.1
                      ∙ ap (λ (log : Log). record (part_of log q) { trail = more.0 ++ trail log q }) (sym (before_failing_others p doing.actual q ne)),
                ),
              )
        ];
        dials = doing.plan.dials;
        tested = doing.plan.tested;
        tests = doing.plan.tests;
        gave = doing.plan.gave;
        ticked = doing.plan.ticked;
        aims = λ q fine on block.
            let ne : q ≢ p.0 = λ e. both_ways (is_untold (SendFailed p ∷ doing.actual) q) fine (untold_failing_here p doing.actual q e) in
            let one = test_off planned p bytes q block ne in
            let two = doing.plan.aims q (sym (untold_failing_others p doing.actual q ne) ∙ fine) (on_failed p doing.actual q on) block in
            (λ t. two.0 (one.0 t), λ t. one.1 (two.1 t));
      };
      brought = λ q. sent_brought p bytes planned q ∙ doing.brought q ∙ sym (failing_brought p doing.actual q);
      came = λ q. sent_came p bytes planned q ∙ doing.came q ∙ sym (failing_came p doing.actual q);
      omitted = λ q fine omitted.
          let ne : q ≢ p.0 = λ e. both_ways (is_untold (SendFailed p ∷ doing.actual) q) fine (untold_failing_here p doing.actual q e) in
          (λ e. ne (sym e), doing.omitted q (sym (untold_failing_others p doing.actual q ne) ∙ fine) omitted);
      unomitted = λ q fine omitted.
          let ne : q ≢ p.0 = λ e. both_ways (is_untold (SendFailed p ∷ doing.actual) q) fine (untold_failing_here p doing.actual q e) in
          doing.unomitted q (sym (untold_failing_others p doing.actual q ne) ∙ fine) omitted.1;
      rightly = ((m, spells, sends_following rule.mode planned p.0 m may.2), doing.rightly);
      pending = λ q it. elim (cases_eq q p.0) [
        | inl e ↦ untold_failing_here p doing.actual q e
        | inr ne ↦ untold_failing_others p doing.actual q ne ∙ doing.pending q (sym (ap is_pending (there q ne)) ∙ it)
      ];
      due = λ q untold. elim (cases_eq q p.0) [
        | inl e ↦ ap (λ (x : Bool). x || list_any (closes q) acts) (pends q e)
        | inr ne ↦ ap (λ (x : Bool). x || list_any (closes q) acts) (ap is_pending (there q ne)) ∙ doing.due q (before q ne untold)
      ];
      broken = λ q untold. elim (cases_eq q p.0) [
        | inl e ↦ (
          ap (λ (x : Part). is_connected x.trail) (failing_here p q (part_of doing.actual q) e),
          ap (λ (x : Part). has_failed x.trail) (failing_here p q (part_of doing.actual q) e),
        )
        | inr ne ↦ let b = doing.broken q (before q ne untold) in
            (lost_off (p.0 == q) mark.SendFailed (part_of doing.actual q) b.0, failed_still (p.0 == q) mark.SendFailed (part_of doing.actual q) b.1)
      ];
      known = λ q untold clear. elim (cases_eq q p.0) [
        | inl e ↦ absurd (both_ways (is_pending (state_at (set progress.sends p.0 Pending) q)) clear (pends q e))
        | inr ne ↦ let b = doing.known q (before q ne untold) (sym (ap is_pending (there q ne)) ∙ clear) in
            (sent_connected p bytes q (part_of planned q) ∙ b.0, asked_failed (p.0 == q) (spelled bytes) (part_of planned q) ∙ b.1)
      ];
    }

-- a peer that may be asked, with no failed send pending, has had none
pub may_send : {rule : Rule} (acts : List Act) (progress : Progress) (called : List (List ℕ)) (planned : Log) (t : Told) (p : PeerNo) (m : Msg)
    → is_pending (state_at progress.sends p.0) ≡ false → MayAct rule (Send p m) planned → Doing rule acts progress called planned t → is_fine (state_at progress.sends p.0) ≡ true
may_send {rule = rule} acts progress called planned t p m free may doing = elim (cases_Bool (is_fine (state_at progress.sends p.0))) [
  | inl fine ↦ fine
  | inr not_it ↦
      let on = asked_on rule.mode (trail planned p.0) m may.2.of_its_part in
      let told = known_told acts progress called planned t p.0 free on doing in
      absurd (both_ways (is_connected (trail doing.actual p.0)) (doing.notes.off p.0 not_it)
      (ap (λ (x : Part). is_connected x.trail) (sym (planned_part planned doing.actual p.0 doing.plan told on)) ∙ on))
]

-- of the acts that are left this one is the next
pub next_left : {rule : Rule} (acts : List Act) (i : ℕ) (a : Act) (end : Log) (progress : Progress) (called : List (List ℕ)) (t : Told)
    → i < length acts → a ≡ get_or acts i a
    → ActsLeft rule (drop i acts) end progress called t → ActsLeft rule (a ∷ drop (suc i) acts) end progress called t
next_left {rule = rule} acts i a end progress called t lt is left =
    subst (λ (xs : List Act). ActsLeft rule xs end progress called t)
    (drop-cons acts i a lt ∙ ap (λ (x : Act). x ∷ drop (suc i) acts) (sym is)) left

-- one more act is done
pub acts_more : {rule : Rule} (acts : List Act) (i : ℕ) (a : Act) (end : Log) (progress next : Progress) (called : List (List ℕ)) (t u : Told)
    → i < length acts → a ≡ get_or acts i a
    → ActsLeft rule (drop i acts) end progress called t
    → ((more : List Act) (called : List (List ℕ)) (planned : Log) → MayAct rule a planned → Doing rule (a ∷ more) progress called planned t → Doing rule more next called (entry_of a ∷ planned) u)
    → ActsLeft rule (drop (i + 1) acts) end next called u
acts_more acts i a end progress next called t u lt is left step =
    let l = next_left acts i a end progress called t lt is left in
    rw add-one (record {
      planned = entry_of a ∷ l.planned;
      allowed = l.allowed.1;
      leads = l.leads;
      doing = step (drop (suc i) acts) called l.planned l.allowed.0 l.doing;
    })

-- where none is left all are done
pub acts_done : {rule : Rule} (acts : List Act) (i : ℕ) (end : Log) (progress : Progress) (called : List (List ℕ)) (t : Told) → length acts ≤ i → ActsLeft rule (drop i acts) end progress called t → Doing rule [] progress called end t
acts_done {rule = rule} acts i end progress called t le left =
    let l : ActsLeft rule [] end progress called t = subst (λ (xs : List Act). ActsLeft rule xs end progress called t) (drop_of_length-le acts le) left in
    subst (λ (log : Log). Doing rule [] progress called log t) l.leads l.doing

-- the log in which a failed send is told
pub cut_for : (p : PeerNo) (log : Log) → CutFor p log (SendFailed p ∷ log)
cut_for p log = record {
  others = λ q ne. failing_others p q (part_of log q) ne;
  off = ap (λ (x : Part). is_connected x.trail) (failing_here p p.0 (part_of log p.0) refl);
  broken = ap (λ (x : Part). has_failed x.trail) (failing_here p p.0 (part_of log p.0) refl);
  brought = failing_brought p log p.0;
  came = failing_came p log p.0;
  gave = λ job. (λ h. h, λ h. h);
  tests = λ trials h. trials_stay (SendFailed p) log trials tt tt h;
  omitted = λ q ne omitted. (λ e. ne (sym e), omitted);
  unomitted = λ q ne omitted. omitted.1;
  cleared = λ omitted. omitted.0 refl;
  rightly = λ right. right;
  dials = refl;
}

-- the client is told of a failed send, and its acts begin with the peer's close
pub told_one : {rule : Rule} (rest : List Act) (progress : Progress) (called : List (List ℕ)) (planned : Log) (t : Told) (p : PeerNo) (cause : Cause)
    → p.0 < length progress.sends → is_pending (state_at progress.sends p.0) ≡ true
    → Doing rule [] progress called planned t → Doing rule (Close p cause ∷ rest) (record progress { sends = set progress.sends p.0 Known }) called (SendFailed p ∷ planned) t
told_one rest progress called planned t p cause lt is doing =
    let here : state_at (set progress.sends p.0 Known) p.0 ≡ Known = get_or-set_same progress.sends p.0 Known Fine lt in
    let there : (q : ℕ) → q ≢ p.0 → state_at (set progress.sends p.0 Known) q ≡ state_at progress.sends q = λ q ne. get_or-set_other progress.sends p.0 q Known Fine ne in
    let was : (q : ℕ) → q ≡ p.0 → is_pending (state_at progress.sends q) ≡ true = λ q e. ap (λ (k : ℕ). is_pending (state_at progress.sends k)) e ∙ is in
    let now : (q : ℕ) → q ≡ p.0 → is_pending (state_at (set progress.sends p.0 Known) q) ≡ false = λ q e. ap (λ (k : ℕ). is_pending (state_at (set progress.sends p.0 Known) k)) e ∙ ap is_pending here in
    record {
      actual = doing.actual;
      notes = record {
        tells = doing.notes.tells;
        bytes = doing.notes.bytes;
        rightly = doing.notes.rightly;
        planned = doing.notes.planned;
        order = doing.notes.order;
        pinged = doing.notes.pinged;
        asked_out = doing.notes.asked_out;
        numbered = doing.notes.numbered;
        first = doing.notes.first;
        traced = doing.notes.traced;
        named = doing.notes.named;
        off = λ q not_it. elim (cases_eq q p.0) [
          | inl e ↦ doing.notes.off q (not_fine (state_at progress.sends q) (was q e))
          | inr ne ↦ doing.notes.off q (sym (ap is_fine (there q ne)) ∙ not_it)
        ];
        shut = doing.notes.shut;
        new = λ q le. let n = doing.notes.new q le in
            let ne : q ≢ p.0 = λ e. both_ways (is_pending (state_at progress.sends q)) (not_pending (state_at progress.sends q) n.0) (was q e) in
            (ap is_fine (there q ne) ∙ n.0, n.1);
        few = doing.notes.few;
      };
      plan = record {
        told = λ q told.
            let ne : q ≢ p.0 = λ e. both_ways (is_untold doing.actual q) told (doing.pending q (was q e)) in
            subst (λ (x : Part). Alike x (part_of doing.actual q)) (sym (failing_others p q (part_of planned q) ne)) (doing.plan.told q told);
        untold = λ q untold. let more = doing.plan.untold q untold in elim (cases_eq q p.0) [
          | inl e ↦ (Lost mark.SendFailed ∷ more.0, (more.1.0, failing_here p q (part_of planned q) e ∙ ap (with_item (Lost mark.SendFailed)) more.1.1))
          | inr ne ↦ (more.0, (more.1.0, failing_others p q (part_of planned q) ne ∙ more.1.1))
        ];
        dials = doing.plan.dials;
        tested = doing.plan.tested;
        tests = doing.plan.tests;
        gave = doing.plan.gave;
        ticked = doing.plan.ticked;
        aims = doing.plan.aims;
      };
      brought = λ q. failing_brought p planned q ∙ doing.brought q;
      came = λ q. failing_came p planned q ∙ doing.came q;
      omitted = λ q told omitted. doing.omitted q told omitted.1;
      unomitted = λ q told omitted.
          let ne : q ≢ p.0 = λ e. both_ways (is_untold doing.actual q) told (doing.pending q (was q e)) in
          (λ e. ne (sym e), doing.unomitted q told omitted);
      rightly = doing.rightly;
      pending = λ q it.
          let ne : q ≢ p.0 = λ e. both_ways (is_pending (state_at (set progress.sends p.0 Known) q)) (now q e) it in
          doing.pending q (sym (ap is_pending (there q ne)) ∙ it);
      due = λ q untold. elim (cases_eq q p.0) [
        | inl e ↦ ap (λ (x : Bool). is_pending (state_at (set progress.sends p.0 Known) q) || x) (closes_here p cause rest q e) ∙ any_failing (is_pending (state_at (set progress.sends p.0 Known) q))
        | inr ne ↦ ap (λ (x : Bool). x || list_any (closes q) (Close p cause ∷ rest)) (ap is_pending (there q ne) ∙ only (is_pending (state_at progress.sends q)) (doing.due q untold))
      ];
      broken = doing.broken;
      known = λ q untold clear. elim (cases_eq q p.0) [
        | inl e ↦ (
          ap (λ (x : Part). is_connected x.trail) (failing_here p q (part_of planned q) e),
          ap (λ (x : Part). has_failed x.trail) (failing_here p q (part_of planned q) e),
        )
        | inr ne ↦ absurd (both_ways (is_pending (state_at progress.sends q)) (sym (ap is_pending (there q ne)) ∙ clear) (only (is_pending (state_at progress.sends q)) (doing.due q untold)))
      ];
    }

-- and its close is the first of the acts that are to be done
pub told_now : {rule : Rule} {acts more rest : List Act} {progress next : Progress} (called : List (List ℕ)) (planned : Log) (t : Told) (p : PeerNo)
    (cause : Cause) → p.0 < length progress.sends → is_pending (state_at progress.sends p.0) ≡ true
    → acts ≡ Close p cause ∷ rest → more ≡ acts → next ≡ record progress { sends = set progress.sends p.0 Known }
    → Doing rule [] progress called planned t → Doing rule more next called (SendFailed p ∷ planned) t
told_now {rest = rest} {progress = progress} called planned t p cause lt is first same told doing =
    rw (told, same ∙ first) (told_one rest progress called planned t p cause lt is doing)

-- with no failure pending the client reflects the actual log
pub all_told : {H M : Type 0} {g : Ghosts H} {j : Judges M} (c : Client H M g j) (progress : Progress) (called : List (List ℕ)) (planned : Log) (t : Told) → ((q : ℕ) → is_pending (state_at progress.sends q) ≡ false)
    → Reflects c planned → (doing : Doing (rule_by c) [] progress called planned t) → IsTicked (rule_by c).mode doing.actual → HoldsOver c progress called t
all_told c progress called planned t none reflects doing ticked =
    let told : (q : ℕ) → is_untold doing.actual q ≡ false = λ q. elim (cases_Bool (is_untold doing.actual q)) [
      | inl untold ↦ absurd (both_ways (is_pending (state_at progress.sends q)) (none q) (only (is_pending (state_at progress.sends q)) (doing.due q untold)))
      | inr fine ↦ fine
    ] in
    record {
      actual = doing.actual;
      notes = doing.notes;
      reflects = record {
        alive = reflects.alive;
        places = record {
          count = reflects.places.count ∙ ap (λ (n : ℕ). n + 1) doing.plan.dials;
          omitted = λ q is. doing.omitted q (told q) (reflects.places.omitted q is);
          named = λ right q omitted. reflects.places.named doing.rightly q (doing.unomitted q (told q) omitted);
          each = λ q. fits_alike _ (part_of planned q) (part_of doing.actual q) (doing.plan.told q (told q)) (reflects.places.each q);
        };
        tracks = record {
          kept = λ q. reflects.tracks.kept q ∙ chain_alike (part_of planned q) (part_of doing.actual q) (doing.plan.told q (told q));
          claimed = λ q block. reflects.tracks.claimed q block ∙ ap (λ (c : Table). c block) (claims_alike (part_of planned q) (part_of doing.actual q) (doing.plan.told q (told q)));
          fetched = same_holds _ planned doing.actual _ doing.brought reflects.tracks.fetched;
          given = same_given _ planned doing.actual _ _ doing.plan.gave (λ block hash. refl) reflects.tracks.given;
          opened = λ q. opens_alike (opens_of c.tracker) q (part_of planned q) (part_of doing.actual q) (doing.plan.told q (told q)) (reflects.tracks.opened q);
          trials = trials_alike planned doing.actual (trials_of c.tracker) (λ q. doing.plan.told q (told q)) doing.brought doing.plan.tested doing.plan.tests
              (λ q on. doing.plan.aims q (told q) on) reflects.tracks.trials;
        };
        unexposed = reflects.unexposed;
      };
      ticked = ticked;
      told_all = told;
      none = none;
    }

-- a peer whose failed send is still to be told was dialled
pub in_use : {rule : Rule} (acts : List Act) (progress : Progress) (called : List (List ℕ)) (planned : Log) (t : Told) (p : ℕ)
    → is_pending (state_at progress.sends p) ≡ true → Doing rule acts progress called planned t → p < (tally_of planned).dials + 1
in_use acts progress called planned t p is doing = elim (cases_lt (tally_of doing.actual).dials p) [
  | inl past ↦ absurd (both_ways (is_pending (state_at progress.sends p)) (not_pending (state_at progress.sends p) (doing.notes.new p past).0) is)
  | inr le ↦ omega (arith, doing.plan.dials)
]

-- and so it has a number that the client uses
pub in_count : {H M : Type 0} {g : Ghosts H} {j : Judges M} {rule : Rule} (c : Client H M g j) (acts : List Act) (progress : Progress) (called : List (List ℕ)) (planned : Log) (t : Told) (p : ℕ)
    → is_pending (state_at progress.sends p) ≡ true → Reflects c planned → Doing rule acts progress called planned t → p < count_of c
in_count c acts progress called planned t p is reflects doing = (let used = in_use acts progress called planned t p is doing in omega (arith, used, reflects.places.count))
