use Rattle.std.proofs.Common.{◌∷◌, Some, None, Err, refl, sym, ◌∙◌, ap, subst}
use Rattle.std.specs.Prelude.{length}
use Rattle.cf_bytes.specs.declared.memory.Refused.{Refused}
use Rattle.cf_dispute.specs.declared.claim.ClaimFault.{ClaimFault}
use Rattle.cf_dispute.specs.Claims.{header_at, first_filter_header}
use Rattle.cf_dispute.specs.Tables.{GivesFault, blocks_of, claim_fault}
use Rattle.cf_msg.specs.declared.msg.Msg.TheVariants.{Cfheaders}
use Rattle.cf_peer.specs.declared.peer.Peer.{Peer}
use Rattle.cf_peer.specs.declared.peer.Request.{Request}
use Rattle.cf_peer.specs.Asking.{verdict}
use Rattle.cf_peer.specs.Trail.{Said}
use Rattle.cf_peer.specs.Peer.{IsRight, TakesClaims, is_idle_peer}
use Rattle.cf_peer.proofs.Claiming.{answer_fault, answer_holds}
use Rattle.cf_tracker.specs.Tracker.{claims_of}
use Rattle.cf_seek.proofs.Marked.{all_same, claims_out}
use Rattle.cf_tracker.specs.Seen.{seen_of}
use Rattle.cf_peer.proofs.Peers.{idle_request}
use Rattle.cf_hear.proofs.Exposing.{exposes_claims, unexposed_on}
use Rattle.cf_hear.proofs.Hearing.{claims_hears, may_expose, same_run, same_fault, same_seen, cause_is}
use Rattle.cf_hear.proofs.hear.hear_claims.Goals as goal

pub returns-in_default-clause-heard : goal.returns-in_default-clause-heard
returns-in_default-clause-heard g c = λ t holds f.
    let seen = seen_of c.args.tracker.now in
    claims_hears seen seen c.args.p c.take_range.new.self c.args.filter c.args.stop.now c.args.previous.now c.args.hashes.now t
    (c.in_default.ensures.took.1 c.args.previous.now c.args.hashes.now t (claims_of c.args.tracker.now c.args.p.0) holds f.claims) f (λ q ne block. refl) (same_seen seen)

pub returns-in-Ok-clause-heard : goal.returns-in-Ok-clause-heard
returns-in-Ok-clause-heard g c = λ t holds f.
    let table = claims_of c.args.tracker.now c.args.p.0 in
    let range = c.in-Some.range in
    let took = c.in-Some.ensures.took in
    let right = subst (λ (r : Request). IsRight r table) took.0.1 c.requires.right in
    let none = same_fault (header_at first_filter_header table range.parent.0) c.args.previous.now c.as_slice-blocks.result.now range.blocks c.args.hashes.now None c.as_slice-blocks.ensures c.in-Ok.ensures.answer in
    let after = claims_of c.add_claims.new.self c.args.p.0 in
    let takes = answer_holds c.args.peer.now range took.0.0 c.args.filter c.args.stop.now c.args.previous.now c.args.hashes.now t table after took.0.1 took.1 right.0 none
    (same_run c.args.previous.now c.as_slice-blocks.result.now range.blocks c.args.hashes.now table after c.as_slice-blocks.ensures c.in-Ok.ensures.ok) holds f.claims in
    let m = Cfheaders c.args.filter c.args.stop.now c.args.previous.now c.args.hashes.now in
    let mine = subst (λ (x : Peer). TakesClaims x after m t None) (sym took.2) takes in
    may_expose (seen_of c.args.tracker.now) (seen_of c.add_claims.new.self) c.args.p c.take_range.new.self m t (blocks_of c.as_slice-blocks.result.now) c.reply_after.result
    (idle_request c.take_range.new.self (Said m ∷ t) mine.0 (ap is_idle_peer took.2)).1 c.reply_after.ensures.exposed
    (claims_hears (seen_of c.args.tracker.now) (seen_of c.add_claims.new.self) c.args.p c.take_range.new.self c.args.filter c.args.stop.now c.args.previous.now c.args.hashes.now t
    mine f c.in-Ok.ensures.others c.in-Ok.ensures.stays)

pub returns-in-Ok-clause-exposes : goal.returns-in-Ok-clause-exposes
returns-in-Ok-clause-exposes g c = λ t holds f.
    let blocks = c.as_slice-blocks.result.now in
    exposes_claims (seen_of c.args.tracker.now) (seen_of c.add_claims.new.self) c.args.p.0 (blocks_of blocks) c.reply_after.result c.in-Ok.ensures.others
    (λ block out. c.in-Ok.ensures.ok block ∙ claims_out c.args.previous.now (blocks_of blocks) c.args.hashes.now (claims_of c.args.tracker.now c.args.p.0) block out)
    c.in-Ok.ensures.stays.trials.told c.reply_after.ensures.exposed

pub returns-in_default-clause-exposes : goal.returns-in_default-clause-exposes
returns-in_default-clause-exposes g c = λ t holds f none. none

pub returns-in-Err-No-clause-exposes : goal.returns-in-Err-No-clause-exposes
returns-in-Err-No-clause-exposes g c = λ t holds f.
    unexposed_on (seen_of c.args.tracker.now) (seen_of c.add_claims.new.self)
    (all_same (claims_of c.args.tracker.now) (claims_of c.add_claims.new.self) c.args.p.0 c.in-Err-No.ensures.err c.in-Err-No.ensures.others) c.in-Err-No.ensures.stays.trials.told

pub returns-in-Err-No-clause-heard : goal.returns-in-Err-No-clause-heard
returns-in-Err-No-clause-heard g c = λ t holds f.
    let table = claims_of c.args.tracker.now c.args.p.0 in
    let range = c.in-Some.range in
    let took = c.in-Some.ensures.took in
    let right = subst (λ (r : Request). IsRight r table) took.0.1 c.requires.right in
    let stays = c.in-Err-No.ensures.stays in
    let fault = subst (λ (e : Refused ClaimFault). GivesFault {A = Unit {0}} (Err e) (claim_fault (header_at first_filter_header table range.parent.0) (length c.as_slice-blocks.result.now) c.args.previous.now (length c.args.hashes.now))) c.in-Err-No.field-0-is c.in-Err-No.ensures.answer in
    let is = same_fault (header_at first_filter_header table range.parent.0) c.args.previous.now c.as_slice-blocks.result.now range.blocks c.args.hashes.now (Some c.in-Err-No.fault) c.as_slice-blocks.ensures fault in (
      cause_is (verdict (Said (Cfheaders c.args.filter c.args.stop.now c.args.previous.now c.args.hashes.now) ∷ t)) (claim_fault (header_at first_filter_header table range.parent.0) (length range.blocks) c.args.previous.now (length c.args.hashes.now))
          c.in-Err-No.fault c.cause_of.result
          (answer_fault c.args.peer.now range took.0.0 c.args.filter c.args.stop.now c.args.previous.now c.args.hashes.now t table took.0.1 took.1 right.0 holds f.claims) is (rw c.in-Err-No.field-0-is at c.cause_of.ensures),
      record {
        watch = stays.watch;
        chains = stays.chains;
        claims = all_same (claims_of c.args.tracker.now) (claims_of c.add_claims.new.self) c.args.p.0 c.in-Err-No.ensures.err c.in-Err-No.ensures.others;
        table = stays.table;
        verdicts = stays.verdicts;
        opens = stays.opens;
        trials = stays.trials;
        written = stays.written;
      },
    )
