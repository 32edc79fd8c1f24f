use Rattle.std.proofs.Common.{refl, sym, Some, ◌∙◌, ap, subst, ℕ, List, [], ◌∷◌, ◌++◌, ◌+◌, length, arith}
use Rattle.std.specs.Prelude.{map, reverse}
use Rattle.cf_wires.specs.Log.{Tally}
use Rattle.cf_played.proofs.Notes.{stays_kept, stays_on, tally_kept, tally_on, turn_kept, turn_on}
use Rattle.cf_played.specs.declared.player.Player.{Player}
use Rattle.cf_wires.specs.declared.event.Delivery.TheVariants.{Got}
use Rattle.cf_wires.specs.declared.event.Event.TheVariants.{Took}
use Rattle.cf_played.specs.Peers.{shown}
use Rattle.cf_played.specs.Players.{AreAccounted, Gives}
use Rattle.cf_played.specs.Turns.{HasGiven, IsTurn, Rest}
use Rattle.cf_played.proofs.Accounts.{given_so, kept_so, ticked_so}
use Rattle.cf_played.proofs.Known.{given_shown, known_given, written}
use Rattle.cf_played.proofs.played.PlayedWires.next.Goals as goal

pub invariant_of-self-in_default-clause-closed_are : goal.invariant_of-self-in_default-clause-closed_are
invariant_of-self-in_default-clause-closed_are c =
    ap (λ (t : Tally). t.closed) (tally_on c.note.new.log.items c.reserve.new.self.items _ c.note.ensures.items)
    ∙ ap (λ (t : Tally). t.closed) (tally_kept c.reserve.new.self.items c.args.self.now.log.items c.reserve.ensures.items)
    ∙ c.args.self.now.closed_are

pub invariant_of-self-in_default-clause-stays : goal.invariant_of-self-in_default-clause-stays
invariant_of-self-in_default-clause-stays c =
    stays_on c.note.new.log.items c.reserve.new.self.items _ c.note.ensures.items refl
    (stays_kept c.reserve.new.self.items c.args.self.now.log.items c.reserve.ensures.items c.args.self.now.stays)

pub invariant_of-self-in_default-clause-accounts : goal.invariant_of-self-in_default-clause-accounts
invariant_of-self-in_default-clause-accounts c =
    ticked_so c.note.new.log.items c.reserve.new.self.items _ c.args.self.now.players.items c.note.ensures.items
    (subst (λ (ps : List Player). Rest (map shown ps) 0 (length (map shown ps))) c.deref.ensures.value c.in_default.ensures)
    (kept_so c.reserve.new.self.items c.args.self.now.log.items c.args.self.now.players.items c.reserve.ensures.items c.args.self.now.accounts)

pub invariant_of-self-2-clause-closed_are : goal.invariant_of-self-2-clause-closed_are
invariant_of-self-2-clause-closed_are c =
    ap (λ (t : Tally). t.closed) (tally_on c.note-2.new.log.items c.reserve.new.self.items _ c.note-2.ensures.items)
    ∙ ap (λ (t : Tally). t.closed) (tally_kept c.reserve.new.self.items c.args.self.now.log.items c.reserve.ensures.items)
    ∙ c.args.self.now.closed_are

pub invariant_of-self-2-clause-stays : goal.invariant_of-self-2-clause-stays
invariant_of-self-2-clause-stays c =
    stays_on c.note-2.new.log.items c.reserve.new.self.items _ c.note-2.ensures.items refl
    (stays_kept c.reserve.new.self.items c.args.self.now.log.items c.reserve.ensures.items c.args.self.now.stays)

pub invariant_of-self-2-clause-accounts : goal.invariant_of-self-2-clause-accounts
invariant_of-self-2-clause-accounts c =
    let g = c.in_ok-given in
    let old : List Player = c.args.self.now.players.items in
    let new : List Player = c.give_at.new.players in
    let gives : Gives old c.in-Some.place g.given.piece new = subst (λ (ps : List Player). Gives ps c.in-Some.place g.given.piece new) c.deref_mut.ensures.value g.ensures.gives in
    let is = written c.args.self.now.players.len new old (c.give_at.ensures.len ∙ c.deref_mut.ensures.len) in
    subst (λ (ps : List Player). ∥ AreAccounted (reverse c.note-2.new.log.items) ps ∥₁) (sym is)
    (given_so c.note-2.new.log.items c.reserve.new.self.items (record { 0 = c.in-Some.place + 1 }) g.given.piece c.in-Some.place old new
    (c.note-2.ensures.items ∙ ap (λ (s : List ℕ). c.reserve.new.self.items ++ Took (Got (record { 0 = c.in-Some.place + 1 }) s) ∷ []) g.ensures.kept)
    gives (omega arith)
    (kept_so c.reserve.new.self.items c.args.self.now.log.items old c.reserve.ensures.items c.args.self.now.accounts))

pub returns-clause-same : goal.returns-clause-same
returns-clause-same c =
    known_given _ c.args.self.now.players.items c.give_at.new.players _ c.in-Some.place c.in_ok-given.given.piece c.deref_mut.ensures.value c.in_ok-given.ensures.gives
    (written c.args.self.now.players.len c.give_at.new.players c.args.self.now.players.items (c.give_at.ensures.len ∙ c.deref_mut.ensures.len))

pub returns-clause-turn : goal.returns-clause-turn
returns-clause-turn c =
    let g = c.in_ok-given in
    let old : List Player = c.args.self.now.players.items in
    let new : List Player = c.give_at.new.players in
    let gives : Gives old c.in-Some.place g.given.piece new = subst (λ (ps : List Player). Gives ps c.in-Some.place g.given.piece new) c.deref_mut.ensures.value g.ensures.gives in
    let is = written c.args.self.now.players.len new old (c.give_at.ensures.len ∙ c.deref_mut.ensures.len) in
    let turn : IsTurn (map shown old) c.args.self.now.from (Some c.in-Some.place) =
    subst (λ (ps : List Player). IsTurn (map shown ps) c.args.self.now.from (Some c.in-Some.place)) c.deref.ensures.value c.in-Some.ensures in (
      c.in-Some.place,
      omega arith,
      subst (λ (n : ℕ). IsTurn (map shown old) n (Some c.in-Some.place)) (sym c.args.self.now.turn) turn,
      subst (λ (ps : List Player). HasGiven (map shown old) c.in-Some.place g.given.piece (map shown ps)) (sym is) (given_shown old new c.in-Some.place g.given.piece gives),
    )

pub invariant_of-self-in_default-clause-turn : goal.invariant_of-self-in_default-clause-turn
invariant_of-self-in_default-clause-turn c =
    turn_on c.note.new.log.items c.reserve.new.self.items _ c.note.ensures.items ∙ turn_kept c.reserve.new.self.items c.args.self.now.log.items c.reserve.ensures.items ∙ c.args.self.now.turn

pub invariant_of-self-2-clause-turn : goal.invariant_of-self-2-clause-turn
invariant_of-self-2-clause-turn c = turn_on c.note-2.new.log.items c.reserve.new.self.items _ c.note-2.ensures.items
