use Rattle.std.proofs.Common.{refl, ◌∙◌, ap}
use Rattle.cf_wires.specs.Log.{Tally}
use Rattle.cf_played.proofs.Notes.{stays_kept, stays_on, tally_kept, tally_on, turn_kept, turn_on}
use Rattle.cf_played.proofs.Accounts.{dialled_so, kept_so}
use Rattle.cf_played.proofs.played.PlayedWires.dial.Goals as goal

pub invariant_of-self-2-clause-accounts : goal.invariant_of-self-2-clause-accounts
invariant_of-self-2-clause-accounts c =
    dialled_so c.note.new.log.items c.reserve.new.self.items _ _ c.args.self.now.players.items c.note.ensures.items
    (kept_so c.reserve.new.self.items c.args.self.now.log.items c.args.self.now.players.items c.reserve.ensures.items c.args.self.now.accounts)

pub invariant_of-self-2-clause-closed_are : goal.invariant_of-self-2-clause-closed_are
invariant_of-self-2-clause-closed_are c =
    ap (λ (t : Tally). t.closed) (tally_on c.note.new.log.items c.reserve.new.self.items _ c.note.ensures.items)
    ∙ ap (λ (t : Tally). t.closed) (tally_kept c.reserve.new.self.items c.args.self.now.log.items c.reserve.ensures.items)
    ∙ c.args.self.now.closed_are

pub invariant_of-self-2-clause-stays : goal.invariant_of-self-2-clause-stays
invariant_of-self-2-clause-stays c =
    stays_on c.note.new.log.items c.reserve.new.self.items _ c.note.ensures.items refl
    (stays_kept c.reserve.new.self.items c.args.self.now.log.items c.reserve.ensures.items c.args.self.now.stays)

pub invariant_of-self-2-clause-turn : goal.invariant_of-self-2-clause-turn
invariant_of-self-2-clause-turn c =
    turn_on c.note.new.log.items c.reserve.new.self.items _ c.note.ensures.items ∙ turn_kept c.reserve.new.self.items c.args.self.now.log.items c.reserve.ensures.items ∙ c.args.self.now.turn
