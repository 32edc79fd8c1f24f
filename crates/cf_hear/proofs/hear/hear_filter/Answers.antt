use Rattle.std.proofs.Common.{List, [], ◌∷◌, inl, refl, sym, ◌∙◌, ap, subst}
use Rattle.cf_dispute.specs.Claims.{Tables}
use Rattle.cf_match.specs.declared.job.Job.{Job}
use Rattle.cf_match.specs.Verdicts.{AreSameVerdicts}
use Rattle.cf_msg.specs.declared.msg.Msg.TheVariants.{Cfilter}
use Rattle.cf_peer.specs.declared.filters.Heard.{Heard}
use Rattle.cf_peer.specs.Peer.{IsRight, TakesFilter}
use Rattle.cf_tables.specs.Trials.{judged_if}
use Rattle.cf_tracker.specs.Tracker.{aims_of, claims_of, opens_of, trials_of, verdicts_of, watch_of}
use Rattle.cf_hear.specs.Judging.{judging_of}
use Rattle.cf_tracker.specs.Seen.{seen_of}
use Rattle.cf_hear.proofs.Exposing.{exposes_filter}
use Rattle.cf_hear.proofs.Hearing.{filter_hears, leaves_chains, may_expose, none_judged, right_same, same_seen}
use Rattle.cf_hear.proofs.Judging.{judged_kept}
use Rattle.cf_hear.proofs.Trying.{go_given, go_self, trials_self}
use Rattle.cf_hear.proofs.Opening.{else_of, else_self, else_then, opens_filter, opens_on, opens_whole}
use Rattle.cf_hear.proofs.hear.hear_filter.Goals as goal

pub take_filter-requires : goal.take_filter-requires
take_filter-requires g c = record { right = subst (λ (tables : Tables). IsRight c.args.peer.now.request (tables c.args.p.0)) (sym c.claims.ensures.claims) c.requires.right }

pub returns-in-Nothing-clause-heard : goal.returns-in-Nothing-clause-heard
returns-in-Nothing-clause-heard g c = λ t holds f.
    let seen = seen_of c.args.tracker.now in
    let m = Cfilter c.args.filter c.args.block.now c.args.bytes.now in
    let o = subst (λ (x : Heard). TakesFilter c.take_filter.new.self m t x) c.in-Nothing.is (c.in_ok-take_filter.ensures.heard t holds (λ hash. ap (λ (tables : Tables). tables c.args.p.0 hash) c.claims.ensures.claims ∙ f.claims hash)) in
    filter_hears seen seen c.args.p c.take_filter.new.self c.args.filter c.args.block.now c.args.bytes.now [] t o.0 o.1 f refl (λ q. refl) (λ q block. refl) (λ hash. refl)
    (none_judged (seen.trials.aims c.args.p.0) seen.watch seen.verdicts) (opens_filter seen.opens c.args.p.0 c.args.filter c.args.block.now c.args.bytes.now t o.1 f.opens) (else_self seen.opens c.args.p.0)
    (go_self seen.trials c.args.p.0)

pub returns-in-Nothing-clause-right : goal.returns-in-Nothing-clause-right
returns-in-Nothing-clause-right g c = subst (λ (tables : Tables). IsRight c.take_filter.new.self.request (tables c.args.p.0)) c.claims.ensures.claims c.in_ok-take_filter.ensures.right

pub returns-in-Close-clause-heard : goal.returns-in-Close-clause-heard
returns-in-Close-clause-heard g c = λ t holds f.
    let m = Cfilter c.args.filter c.args.block.now c.args.bytes.now in
    let o = subst (λ (x : Heard). TakesFilter c.take_filter.new.self m t x) c.in-Close.is (c.in_ok-take_filter.ensures.heard t holds (λ hash. ap (λ (tables : Tables). tables c.args.p.0 hash) c.claims.ensures.claims ∙ f.claims hash)) in
    (o, same_seen (seen_of c.args.tracker.now))

pub returns-in-Close-clause-right : goal.returns-in-Close-clause-right
returns-in-Close-clause-right g c = subst (λ (tables : Tables). IsRight c.take_filter.new.self.request (tables c.args.p.0)) c.claims.ensures.claims c.in_ok-take_filter.ensures.right

pub returns-in_ok-take_given-in-Whole-clause-heard : goal.returns-in_ok-take_given-in-Whole-clause-heard
returns-in_ok-take_given-in-Whole-clause-heard g c = λ t holds f.
    let m = Cfilter c.args.filter c.args.block.now c.args.bytes.now in
    let o = subst (λ (x : Heard). TakesFilter c.take_filter.new.self m t x) c.in-Whole.is (c.in_ok-take_filter.ensures.heard t holds (λ hash. ap (λ (tables : Tables). tables c.args.p.0 hash) c.claims.ensures.claims ∙ f.claims hash)) in
    let before = seen_of c.args.tracker.now in
    let after = seen_of c.let_go.new.tracker in
    let judged = opens_of c.take_given.new.tracker in
    let kept = c.in_ok-take_given-in-Whole.ensures in
    let gone = c.let_go.ensures in
    let same = kept.stays in
    let went = gone.stays in
    may_expose before after c.args.p c.take_filter.new.self m t (c.args.block.now.0 ∷ []) c.reply_after.result o.2 c.reply_after.ensures.exposed
    (filter_hears before after c.args.p c.take_filter.new.self c.args.filter c.args.block.now c.args.bytes.now c.in-Whole.jobs t o.0 o.1 f
    (went.watch ∙ same.watch) (λ q. went.chains q ∙ same.chains q) (λ q block. went.claims q block ∙ same.claims q block)
    (λ hash. sym (same.table hash ∙ went.table hash))
    (λ block hash. went.verdicts block hash
    ∙ subst (λ (js : List Job). AreSameVerdicts (verdicts_of c.take_given.new.tracker) (judged_if (aims_of c.args.tracker.now c.args.p.0) (watch_of c.args.tracker.now) js (verdicts_of c.args.tracker.now)))
    c.as_slice.ensures kept.ok block hash)
    (opens_whole judged after.opens c.args.p.0 c.args.peer.now c.take_filter.new.self c.args.filter c.args.block.now c.args.bytes.now t holds o.0 gone.closes gone.busy
    (opens_on before.opens judged c.args.p.0 t same.opens f.opens))
    (else_then before.opens judged after.opens c.args.p.0 (else_of before.opens judged c.args.p.0 same.opens) gone.others)
    (go_given before.trials before.trials (trials_of c.take_given.new.tracker) after.trials c.args.p.0 c.as_slice.result.now c.in-Whole.jobs c.as_slice.ensures
    (trials_self before.trials) same.trials.paid kept.told same.trials.aims went.trials))

pub returns-in_ok-take_given-in-Whole-clause-exposes : goal.returns-in_ok-take_given-in-Whole-clause-exposes
returns-in_ok-take_given-in-Whole-clause-exposes g c = λ t holds f.
    let o = subst (λ (x : Heard). TakesFilter c.take_filter.new.self (Cfilter c.args.filter c.args.block.now c.args.bytes.now) t x) c.in-Whole.is (c.in_ok-take_filter.ensures.heard t holds (λ hash. ap (λ (tables : Tables). tables c.args.p.0 hash) c.claims.ensures.claims ∙ f.claims hash)) in
    let before = seen_of c.args.tracker.now in
    let after = seen_of c.let_go.new.tracker in
    let kept = c.in_ok-take_given-in-Whole.ensures in
    let gone = c.let_go.ensures in
    let went = go_given before.trials before.trials (trials_of c.take_given.new.tracker) after.trials c.args.p.0 c.as_slice.result.now c.in-Whole.jobs c.as_slice.ensures
    (trials_self before.trials) kept.stays.trials.paid kept.told kept.stays.trials.aims gone.stays.trials in
    exposes_filter before after c.args.p.0 c.args.filter c.args.block.now c.args.bytes.now c.in-Whole.jobs t c.reply_after.result o.0.clean o.1 f
    (λ q block. gone.stays.claims q block ∙ kept.stays.claims q block) went.told c.reply_after.ensures.exposed

pub returns-in-Nothing-clause-exposes : goal.returns-in-Nothing-clause-exposes
returns-in-Nothing-clause-exposes g c = λ t holds f none. none

pub returns-in-Close-clause-exposes : goal.returns-in-Close-clause-exposes
returns-in-Close-clause-exposes g c = λ t holds f none. none

pub returns-in_ok-take_given-in-Whole-clause-right : goal.returns-in_ok-take_given-in-Whole-clause-right
returns-in_ok-take_given-in-Whole-clause-right g c =
    right_same c.take_filter.new.self.request (claims_of c.args.tracker.now c.args.p.0) (claims_of c.let_go.new.tracker c.args.p.0)
    (λ block. c.let_go.ensures.stays.claims c.args.p.0 block ∙ c.in_ok-take_given-in-Whole.ensures.stays.claims c.args.p.0 block)
    (subst (λ (tables : Tables). IsRight c.take_filter.new.self.request (tables c.args.p.0)) c.claims.ensures.claims c.in_ok-take_filter.ensures.right)

pub returns-in-Nothing-clause-judged : goal.returns-in-Nothing-clause-judged
returns-in-Nothing-clause-judged g c = inl (record { same = refl; kept = λ block hash. refl })

pub returns-in-Close-clause-judged : goal.returns-in-Close-clause-judged
returns-in-Close-clause-judged g c = inl (record { same = refl; kept = λ block hash. refl })

pub returns-in_ok-take_given-in-Whole-clause-judged : goal.returns-in_ok-take_given-in-Whole-clause-judged
returns-in_ok-take_given-in-Whole-clause-judged g c =
    judged_kept g.M.Matcher.judges (watch_of c.args.tracker.now) (judging_of c.args.tracker.now c.args.matcher.now) (judging_of c.take_given.new.tracker c.take_given.new.matcher)
    (judging_of c.let_go.new.tracker c.take_given.new.matcher) c.in_ok-take_given-in-Whole.ensures.judged (record { same = refl; kept = c.let_go.ensures.stays.verdicts })

pub returns-in_ok-take_given-in-Whole-clause-stays : goal.returns-in_ok-take_given-in-Whole-clause-stays
returns-in_ok-take_given-in-Whole-clause-stays g c =
    let kept = c.in_ok-take_given-in-Whole.ensures.stays in
    let gone = c.let_go.ensures.stays in
    leaves_chains c.args.p.0 (seen_of c.args.tracker.now) (seen_of c.let_go.new.tracker) c.requires.entered
    (λ q. gone.chains q ∙ kept.chains q) (λ q ne block. gone.claims q block ∙ kept.claims q block)
    (gone.watch ∙ kept.watch)
