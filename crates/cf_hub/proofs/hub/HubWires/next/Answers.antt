use Rattle.std.proofs.Common.{rules, ◌∙◌, ◌++◌, ◌∷◌, [], ap}
use Rattle.cf_hub.proofs.Opened.{ended_same, have_ended}
use Rattle.cf_hub.specs.Gives.{given_of}
use Rattle.cf_hub.specs.Over.{connections, AllGone}
use Rattle.cf_hub.proofs.hub.HubWires.next.Goals as goal

pub returns-in-Some-2-clause-gave : goal.returns-in-Some-2-clause-gave
returns-in-Some-2-clause-gave g c =
    λ n. (let e = rw c.in-Some-2.is at c.in_ok-delivery.ensures.some in e.1 ∙ ap (λ l. l ++ c.in-Some-2.delivery ∷ []) (c.loop.invariant.given ∙ ap (λ v. given_of v.got) c.make_room.ensures.stays.seat))

pub returns-then-is_finished-clause-last : goal.returns-then-is_finished-clause-last
returns-then-is_finished-clause-last g c =
    λ _. ended_same _ _ _ _ (ap (λ w. connections w.items) c.note_end.ensures.stays.writers) (ap (λ v. v.got) c.note_end.ensures.stays.seat) c.drain.ensures.ended

pub returns-then-is_over-clause-last : goal.returns-then-is_over-clause-last
returns-then-is_over-clause-last g c =
    λ _. (let a : AllGone c.loop.self.writers.items c.loop.self.gone = search rules in
    ended_same _ _ _ _ (ap (λ w. connections w.items) c.note_end-then-is_over.ensures.stays.writers) (ap (λ v. v.got) c.note_end-then-is_over.ensures.stays.seat) (have_ended _ _ _ a c.loop.self.heard))
