use Rattle.std.proofs.Common.{ℕ, List, ◌++◌, Option, Some, sym, ◌∙◌, ap, subst}
use Rattle.std.specs.Prelude.{IfSome}
use Rattle.cf_peer.specs.declared.peer.Reaction.{Reaction}
use Rattle.cf_peer.specs.Trail.{heard_part}
use Rattle.cf_peer.specs.Peer.{IsReplySendable}
use Rattle.cf_tracker.specs.Tracker.{watch_of}
use Rattle.cf_tracker.specs.Seen.{seen_of}
use Rattle.cf_hear.specs.Exposing.{ExposesNext}
use Rattle.cf_hear.specs.Hearing.{HearsNext, Midway}
use Rattle.cf_hear.specs.Judging.{judging_of}
use Rattle.cf_hear.proofs.Hearing.{leaves_self, leaves_then, midway_start, midway_quiet, midway_reply, midway_fault, midway_exposed, doable_with}
use Rattle.cf_hear.proofs.Judging.{judged_none, judged_then}
use Rattle.cf_hear.proofs.hear.hear_frames.Goals as goal

pub loop-reply-init : goal.loop-reply-init
loop-reply-init g c = record {
  midway = λ part holds waits chain.
      subst (λ (rest : List ℕ). Midway c.args.p c.args.peer.now (c.args.framer.now ++ rest) (seen_of c.args.tracker.now)
      (seen_of c.args.tracker.now) c.args.acts.now.items c.args.acts.now.items part (heard_part c.args.piece.now part))
      (sym c.new-rest.ensures)
      (midway_start c.args.p c.args.peer.now c.args.framer.now (seen_of c.args.tracker.now) c.args.acts.now.items
      c.args.piece.now part holds waits chain);
  doable = λ number all. all;
  stays = leaves_self c.args.p.0 (seen_of c.args.tracker.now) c.requires.entered;
  right = c.requires.right;
  judged = judged_none g.M.Matcher.judges (watch_of c.args.tracker.now) (judging_of c.args.tracker.now c.args.matcher.now);
  unexposed = λ part holds waits f none. none;
  quiet = λ is. is;
}

pub loop-reply-preserved-in-Nothing : goal.loop-reply-preserved-in-Nothing
loop-reply-preserved-in-Nothing g c = record {
  midway = λ part holds waits chain.
      let midway = c.loop-reply.invariant.midway part holds waits chain in
      let answer = c.in_ok-reply.ensures.heard midway.so_far midway.holds midway.gains.follows in
      let moves = subst (λ (o : Option Reaction). HearsNext (seen_of c.loop-reply.tracker) (seen_of c.hear_next.new.tracker) c.args.p
      (c.loop-reply.framer ++ c.loop-reply.rest) (c.hear_next.new.framer ++ c.hear_next.new.piece) c.hear_next.new.peer midway.so_far o) (c.in-Some.is ∙ ap Some c.in-Nothing.is) answer in
      midway_quiet c.args.p c.loop-reply.peer c.hear_next.new.peer (c.loop-reply.framer ++ c.loop-reply.rest)
      (c.hear_next.new.framer ++ c.hear_next.new.piece) (seen_of c.args.tracker.now) (seen_of c.loop-reply.tracker) (seen_of c.hear_next.new.tracker)
      c.args.acts.now.items c.loop-reply.acts.items part (heard_part c.args.piece.now part) midway moves;
  doable = c.loop-reply.invariant.doable;
  stays = leaves_then c.args.p.0 (seen_of c.args.tracker.now) (seen_of c.loop-reply.tracker) (seen_of c.hear_next.new.tracker)
      c.loop-reply.invariant.stays c.in_ok-reply.ensures.stays;
  right = c.in_ok-reply.ensures.right;
  judged = judged_then g.M.Matcher.judges (watch_of c.args.tracker.now) (watch_of c.loop-reply.tracker) (judging_of c.args.tracker.now c.args.matcher.now)
      (judging_of c.loop-reply.tracker c.loop-reply.matcher) (judging_of c.hear_next.new.tracker c.hear_next.new.matcher)
      c.loop-reply.invariant.judged c.loop-reply.invariant.stays.watch c.in_ok-reply.ensures.judged;
  unexposed = λ part holds waits f none.
      let midway = c.loop-reply.invariant.midway part holds waits f in
      subst (λ (o : Option Reaction). ExposesNext (seen_of c.hear_next.new.tracker) c.args.p.0 o) (c.in-Some.is ∙ ap Some c.in-Nothing.is)
      (c.in_ok-reply.ensures.exposes midway.so_far midway.holds midway.gains.follows (c.loop-reply.invariant.unexposed part holds waits f none));
  quiet = λ is. c.in_ok-reply.ensures.calm (c.loop-reply.invariant.quiet is);
}

pub loop-reply-preserved : goal.loop-reply-preserved
loop-reply-preserved g c = record {
  midway = λ part holds waits chain.
      let midway = c.loop-reply.invariant.midway part holds waits chain in
      let answer = c.in_ok-reply.ensures.heard midway.so_far midway.holds midway.gains.follows in
      let moves = subst (λ (o : Option Reaction). HearsNext (seen_of c.loop-reply.tracker) (seen_of c.hear_next.new.tracker) c.args.p
      (c.loop-reply.framer ++ c.loop-reply.rest) (c.hear_next.new.framer ++ c.hear_next.new.piece) c.hear_next.new.peer midway.so_far o) (c.in-Some.is ∙ ap Some c.in-Send.is) answer in
      midway_reply c.args.p c.loop-reply.peer c.hear_next.new.peer (c.loop-reply.framer ++ c.loop-reply.rest)
      (c.hear_next.new.framer ++ c.hear_next.new.piece) (seen_of c.args.tracker.now) (seen_of c.loop-reply.tracker) (seen_of c.hear_next.new.tracker)
      c.args.acts.now.items c.loop-reply.acts.items c.push.new.self.items part (heard_part c.args.piece.now part) c.in-Send.message midway moves c.in_ok-push-in-Send.ensures.items;
  doable = λ number all. doable_with c.args.p c.in-Send.message c.loop-reply.acts.items c.push.new.self.items number (c.loop-reply.invariant.doable number all)
      (subst (λ (o : Option Reaction). IfSome o IsReplySendable) (c.in-Some.is ∙ ap Some c.in-Send.is) c.in_ok-reply.ensures.sendable) c.in_ok-push-in-Send.ensures.items;
  stays = leaves_then c.args.p.0 (seen_of c.args.tracker.now) (seen_of c.loop-reply.tracker) (seen_of c.hear_next.new.tracker)
      c.loop-reply.invariant.stays c.in_ok-reply.ensures.stays;
  right = c.in_ok-reply.ensures.right;
  judged = judged_then g.M.Matcher.judges (watch_of c.args.tracker.now) (watch_of c.loop-reply.tracker) (judging_of c.args.tracker.now c.args.matcher.now)
      (judging_of c.loop-reply.tracker c.loop-reply.matcher) (judging_of c.hear_next.new.tracker c.hear_next.new.matcher)
      c.loop-reply.invariant.judged c.loop-reply.invariant.stays.watch c.in_ok-reply.ensures.judged;
  unexposed = λ part holds waits f none.
      let midway = c.loop-reply.invariant.midway part holds waits f in
      subst (λ (o : Option Reaction). ExposesNext (seen_of c.hear_next.new.tracker) c.args.p.0 o) (c.in-Some.is ∙ ap Some c.in-Send.is)
      (c.in_ok-reply.ensures.exposes midway.so_far midway.holds midway.gains.follows (c.loop-reply.invariant.unexposed part holds waits f none));
  quiet = λ is. c.in_ok-reply.ensures.calm (c.loop-reply.invariant.quiet is);
}

pub returns-in-Close-clause-heard : goal.returns-in-Close-clause-heard
returns-in-Close-clause-heard g c = λ part holds waits f.
    let midway = c.loop-reply.invariant.midway part holds waits f in
    let answer = c.in_ok-reply.ensures.heard midway.so_far midway.holds midway.gains.follows in
    let stops = subst (λ (o : Option Reaction). HearsNext (seen_of c.loop-reply.tracker) (seen_of c.hear_next.new.tracker) c.args.p
    (c.loop-reply.framer ++ c.loop-reply.rest) (c.hear_next.new.framer ++ c.hear_next.new.piece) c.hear_next.new.peer midway.so_far o) (c.in-Some.is ∙ ap Some c.in-Close.is) answer in
    midway_fault c.args.p c.loop-reply.peer (c.loop-reply.framer ++ c.loop-reply.rest) (seen_of c.args.tracker.now) (seen_of c.loop-reply.tracker) (seen_of c.hear_next.new.tracker)
    c.args.acts.now.items c.loop-reply.acts.items part (heard_part c.args.piece.now part) c.in-Close.cause midway stops
    (λ none. subst (λ (o : Option Reaction). ExposesNext (seen_of c.hear_next.new.tracker) c.args.p.0 o) (c.in-Some.is ∙ ap Some c.in-Close.is)
    (c.in_ok-reply.ensures.exposes midway.so_far midway.holds midway.gains.follows (c.loop-reply.invariant.unexposed part holds waits f none)))

pub returns-in-Close-clause-exposes : goal.returns-in-Close-clause-exposes
returns-in-Close-clause-exposes g c = λ part holds waits f none.
    let midway = c.loop-reply.invariant.midway part holds waits f in
    subst (λ (o : Option Reaction). ExposesNext (seen_of c.hear_next.new.tracker) c.args.p.0 o) (c.in-Some.is ∙ ap Some c.in-Close.is)
    (c.in_ok-reply.ensures.exposes midway.so_far midway.holds midway.gains.follows (c.loop-reply.invariant.unexposed part holds waits f none))

pub returns-in-Expose-clause-heard : goal.returns-in-Expose-clause-heard
returns-in-Expose-clause-heard g c = λ part holds waits f.
    let midway = c.loop-reply.invariant.midway part holds waits f in
    let answer = c.in_ok-reply.ensures.heard midway.so_far midway.holds midway.gains.follows in
    let reveals = subst (λ (o : Option Reaction). HearsNext (seen_of c.loop-reply.tracker) (seen_of c.hear_next.new.tracker) c.args.p
    (c.loop-reply.framer ++ c.loop-reply.rest) (c.hear_next.new.framer ++ c.hear_next.new.piece) c.hear_next.new.peer midway.so_far o) (c.in-Some.is ∙ ap Some c.in-Expose.is) answer in
    midway_exposed c.args.p c.loop-reply.peer c.hear_next.new.peer (c.loop-reply.framer ++ c.loop-reply.rest) (c.hear_next.new.framer ++ c.hear_next.new.piece)
    (seen_of c.args.tracker.now) (seen_of c.loop-reply.tracker) (seen_of c.hear_next.new.tracker)
    c.args.acts.now.items c.loop-reply.acts.items part (heard_part c.args.piece.now part) c.in-Expose.block.0 c.in-Expose.filter.0 midway reveals

pub returns-in-Expose-clause-exposes : goal.returns-in-Expose-clause-exposes
returns-in-Expose-clause-exposes g c = λ part holds waits f none.
    let midway = c.loop-reply.invariant.midway part holds waits f in
    subst (λ (o : Option Reaction). ExposesNext (seen_of c.hear_next.new.tracker) c.args.p.0 o) (c.in-Some.is ∙ ap Some c.in-Expose.is)
    (c.in_ok-reply.ensures.exposes midway.so_far midway.holds midway.gains.follows (c.loop-reply.invariant.unexposed part holds waits f none))

pub returns-in-Expose-clause-judged : goal.returns-in-Expose-clause-judged
returns-in-Expose-clause-judged g c =
    judged_then g.M.Matcher.judges (watch_of c.args.tracker.now) (watch_of c.loop-reply.tracker) (judging_of c.args.tracker.now c.args.matcher.now)
    (judging_of c.loop-reply.tracker c.loop-reply.matcher) (judging_of c.hear_next.new.tracker c.hear_next.new.matcher)
    c.loop-reply.invariant.judged c.loop-reply.invariant.stays.watch c.in_ok-reply.ensures.judged

pub returns-clause-exposes : goal.returns-clause-exposes
returns-clause-exposes g c = λ part holds waits f none.
    let midway = c.loop-reply.invariant.midway part holds waits f in
    subst (λ (o : Option Reaction). ExposesNext (seen_of c.hear_next.new.tracker) c.args.p.0 o) c.in_default.is
    (c.in_ok-reply.ensures.exposes midway.so_far midway.holds midway.gains.follows (c.loop-reply.invariant.unexposed part holds waits f none))

pub returns-in-Close-clause-judged : goal.returns-in-Close-clause-judged
returns-in-Close-clause-judged g c =
    judged_then g.M.Matcher.judges (watch_of c.args.tracker.now) (watch_of c.loop-reply.tracker) (judging_of c.args.tracker.now c.args.matcher.now)
    (judging_of c.loop-reply.tracker c.loop-reply.matcher) (judging_of c.hear_next.new.tracker c.hear_next.new.matcher)
    c.loop-reply.invariant.judged c.loop-reply.invariant.stays.watch c.in_ok-reply.ensures.judged

pub returns-clause-judged : goal.returns-clause-judged
returns-clause-judged g c =
    judged_then g.M.Matcher.judges (watch_of c.args.tracker.now) (watch_of c.loop-reply.tracker) (judging_of c.args.tracker.now c.args.matcher.now)
    (judging_of c.loop-reply.tracker c.loop-reply.matcher) (judging_of c.hear_next.new.tracker c.hear_next.new.matcher)
    c.loop-reply.invariant.judged c.loop-reply.invariant.stays.watch c.in_ok-reply.ensures.judged
