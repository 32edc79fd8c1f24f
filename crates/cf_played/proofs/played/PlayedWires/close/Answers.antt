use Rattle.std.proofs.Common.{refl, sym, ◌∙◌, ap, List, Bool, true, false}
use Rattle.std.specs.Prelude.{slice_index_or, slice_set}
use Rattle.cf_wires.specs.Log.{Tally}
use Rattle.cf_played.proofs.Notes.{stays_on, tally_on, turn_on}
use Rattle.cf_played.proofs.Accounts.{closed_so}
use Rattle.cf_played.proofs.played.PlayedWires.close.Goals as goal

pub shut-requires-clause-once : goal.shut-requires-clause-once
shut-requires-clause-once c = ap (λ (closed : List Bool). slice_index_or closed c.args.p.0 false) (sym c.args.self.now.closed_are) ∙ c.requires.once

pub invariant_of-self-clause-accounts : goal.invariant_of-self-clause-accounts
invariant_of-self-clause-accounts c = closed_so c.shut.new.log.items c.args.self.now.log.items c.args.p c.args.self.now.players.items c.shut.ensures.items c.args.self.now.accounts

pub invariant_of-self-clause-closed_are : goal.invariant_of-self-clause-closed_are
invariant_of-self-clause-closed_are c =
    ap (λ (t : Tally). t.closed) (tally_on c.shut.new.log.items c.args.self.now.log.items _ c.shut.ensures.items)
    ∙ ap (λ (closed : List Bool). slice_set closed c.args.p.0 true) c.args.self.now.closed_are
    ∙ sym c.shut.ensures.closed

pub invariant_of-self-clause-stays : goal.invariant_of-self-clause-stays
invariant_of-self-clause-stays c = stays_on c.shut.new.log.items c.args.self.now.log.items _ c.shut.ensures.items refl c.args.self.now.stays

pub invariant_of-self-clause-turn : goal.invariant_of-self-clause-turn
invariant_of-self-clause-turn c = turn_on c.shut.new.log.items c.args.self.now.log.items _ c.shut.ensures.items ∙ c.args.self.now.turn
