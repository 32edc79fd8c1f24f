use Rattle.std.proofs.Common.{refl, sym, ◌∙◌, ap, subst, ℕ, List, [], ◌∷◌, ◌++◌}
use Rattle.std.specs.Prelude.{reverse}
use Rattle.cf_wires.specs.declared.event.Event.TheVariants.{Sent}
use Rattle.cf_wires.specs.Log.{Tally}
use Rattle.cf_peer.specs.Trail.{spelled}
use Rattle.cf_played.specs.declared.player.Player.{Player}
use Rattle.cf_played.specs.Players.{AreAccounted, HearsAt}
use Rattle.cf_played.proofs.Accounts.{kept_so, sent_so}
use Rattle.cf_played.proofs.Known.{known_heard, more_heard, written}
use Rattle.cf_played.proofs.Notes.{stays_kept, stays_on, tally_kept, tally_on, turn_kept, turn_on}
use Rattle.cf_played.proofs.played.PlayedWires.send.Goals as goal

pub invariant_of-self-2-clause-accounts : goal.invariant_of-self-2-clause-accounts
invariant_of-self-2-clause-accounts c =
    let old : List Player = c.args.self.now.players.items in
    let new : List Player = c.hear_at.new.players in
    let heard : HearsAt old c.args.p.0 (spelled c.args.bytes.now) new = subst (λ (ps : List Player). HearsAt ps c.args.p.0 (spelled c.args.bytes.now) new) c.deref_mut.ensures.value c.in_ok-hear_at.ensures.ok in
    let is = written c.args.self.now.players.len new old (c.hear_at.ensures.len ∙ c.deref_mut.ensures.len) in
    subst (λ (ps : List Player). ∥ AreAccounted (reverse c.note.new.log.items) ps ∥₁) (sym is)
    (sent_so c.note.new.log.items c.reserve.new.self.items c.args.p c.args.bytes.now old new (c.note.ensures.items ∙ ap (λ (s : List ℕ). c.reserve.new.self.items ++ Sent c.args.p s ∷ []) c.in_ok-piece.ensures) heard
    (kept_so c.reserve.new.self.items c.args.self.now.log.items old c.reserve.ensures.items c.args.self.now.accounts))

pub returns-clause-same : goal.returns-clause-same
returns-clause-same c = known_heard _ c.args.self.now.players.items c.hear_at.new.players _ c.args.p.0 (spelled c.args.bytes.now) c.deref_mut.ensures.value c.in_ok-hear_at.ensures.ok
    (written c.args.self.now.players.len c.hear_at.new.players c.args.self.now.players.items (c.hear_at.ensures.len ∙ c.deref_mut.ensures.len))

pub returns-clause-more : goal.returns-clause-more
returns-clause-more c = more_heard _ c.args.self.now.players.items c.hear_at.new.players _ c.args.p.0 (spelled c.args.bytes.now) c.deref_mut.ensures.value c.in_ok-hear_at.ensures.ok
    (written c.args.self.now.players.len c.hear_at.new.players c.args.self.now.players.items (c.hear_at.ensures.len ∙ c.deref_mut.ensures.len))

pub invariant_of-self-2-clause-closed_are : goal.invariant_of-self-2-clause-closed_are
invariant_of-self-2-clause-closed_are c =
    ap (λ (t : Tally). t.closed) (tally_on c.note.new.log.items c.reserve.new.self.items _ c.note.ensures.items)
    ∙ ap (λ (t : Tally). t.closed) (tally_kept c.reserve.new.self.items c.args.self.now.log.items c.reserve.ensures.items)
    ∙ c.args.self.now.closed_are

pub invariant_of-self-2-clause-stays : goal.invariant_of-self-2-clause-stays
invariant_of-self-2-clause-stays c =
    stays_on c.note.new.log.items c.reserve.new.self.items _ c.note.ensures.items refl
    (stays_kept c.reserve.new.self.items c.args.self.now.log.items c.reserve.ensures.items c.args.self.now.stays)

pub invariant_of-self-2-clause-turn : goal.invariant_of-self-2-clause-turn
invariant_of-self-2-clause-turn c =
    turn_on c.note.new.log.items c.reserve.new.self.items _ c.note.ensures.items ∙ turn_kept c.reserve.new.self.items c.args.self.now.log.items c.reserve.ensures.items ∙ c.args.self.now.turn
