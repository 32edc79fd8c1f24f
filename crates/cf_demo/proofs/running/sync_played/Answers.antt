use Rattle.std.proofs.Common.{rules, true, w64, ◌≡◌, ◌<◌, ℕ, map, Result, Ok, Err, OnOk, IfOk, length, sym, subst}
use Rattle.std.proofs.Math.Facts.{to_z-of_z}
use Rattle.cf_run.specs.declared.outcome.Outcome.{Outcome}
use Rattle.cf_run.specs.Names.{names_in}
use Rattle.cf_run.specs.Versions.{IsOfGreeting}
use Rattle.cf_run.specs.Whole.{EndsWithin, IsOutcome}
use Rattle.cf_sync.specs.Fetching.{once}
use Rattle.cf_wires.specs.Log.{tally_of}
use Rattle.cf_played.specs.Peers.{still, made_of}
use Rattle.cf_played.specs.Told.{log_of, peers_of}
use Rattle.cf_demo.specs.Playing.{Accounts}
use Rattle.cf_demo.proofs.Demos.{run_in}
use Rattle.cf_demo.proofs.Peers.{honest_among, accounts_before}
use Rattle.cf_demo.proofs.running.sync_played.Goals as goal

-- the peers are those that were there before
pub returns-clause-peers : goal.returns-clause-peers
returns-clause-peers g c = sym (c.same_peers-2.ensures.same (peers_of c.args.played.now) c.same_peers.ensures.good (sym {a = made_of (peers_of c.sync_over-outcome.new.wires)} c.sync_over-outcome.ensures.wires.course.script))

on_both : {X E : Type 0} {P Q : X → Type 0} {A : Type 0} (r : Result X E) → IfOk r P → IfOk r Q → ((x : X) → P x → Q x → A) → OnOk r A
on_both (Ok x) p q f = f x p q
on_both (Err e) p q f = tt

pub returns-clause-accounts : goal.returns-clause-accounts
returns-clause-accounts g c =
    let news = peers_of c.sync_over-outcome.new.wires in
    accounts_before (peers_of c.args.played.now) news (log_of c.sync_over-outcome.new.wires)
    (c.same_peers-2.ensures.same (peers_of c.args.played.now) c.same_peers.ensures.good (sym {a = made_of (peers_of c.sync_over-outcome.new.wires)} c.sync_over-outcome.ensures.wires.course.script))
    (record { past = c.accounts.ensures.past; ticks = c.accounts.ensures.ticks; alike = c.accounts.ensures.alike; stays = c.accounts.ensures.stays })

pub returns-clause-honest : goal.returns-clause-honest
returns-clause-honest g c =
    let news = peers_of c.sync_over-outcome.new.wires in
    let accounts : Accounts (log_of c.sync_over-outcome.new.wires) news = record { past = c.accounts.ensures.past; ticks = c.accounts.ensures.ticks; alike = c.accounts.ensures.alike; stays = c.accounts.ensures.stays } in
    let same : map still (peers_of c.args.played.now) ≡ map still news =
    c.same_peers-2.ensures.same (peers_of c.args.played.now) c.same_peers.ensures.good (sym {a = made_of (peers_of c.sync_over-outcome.new.wires)} c.sync_over-outcome.ensures.wires.course.script) in
    let names = names_in c.args.names.now in
    on_both {P = λ (o : Outcome). IsOutcome g.H.HeaderStore.counts (once c.args.watch) true names o (log_of c.sync_over-outcome.new.wires)}
    {Q = λ (o : Outcome). EndsWithin o.end (length c.args.names.now) c.args.turns (tally_of (log_of c.sync_over-outcome.new.wires))}
    c.sync_over-outcome.result c.sync_over-outcome.ensures.outcome c.sync_over-outcome.ensures.within (λ o is within i peer at way few clash.
    honest_among (peers_of c.args.played.now) news (log_of c.sync_over-outcome.new.wires) c.same_peers.ensures.good same accounts
    (run_in is.followed) i peer at way (subst (λ (n : ℕ). i < n) (sym within.dialled) few) clash)

pub returns-clause-versions : goal.returns-clause-versions
returns-clause-versions g c =
    subst (λ moment. IsOfGreeting (record { moment = moment; number = c.args.nonce }) (log_of c.sync_over-outcome.new.wires)) (to_z-of_z {w = w64} {z = c.args.moment} (search rules))
    c.sync_over-outcome.ensures.wires.versions
