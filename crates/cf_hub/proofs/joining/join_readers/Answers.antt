use Rattle.std.proofs.Common.{arith, ◌∙◌, ap, sym, length, refl, map}
use Rattle.cf_tasks.specs.declared.entry.Item.{Item}
use Rattle.cf_tasks.specs.declared.entry.View.{View}
use Rattle.cf_outside.specs.declared.entry.EntryKind.{EntryKind}
use Rattle.crossbeam_channel.specs.Claims.{view}
use Rattle.cf_hub.specs.Finish.{whose, begun}
use Rattle.cf_hub.proofs.Finishes.{moves_on, one_less, finishes, positive, none_left, no_more, whose_more, ended_more}
use Rattle.cf_hub.proofs.joining.join_readers.Goals as goal

pub loop-busy-init : goal.loop-busy-init
loop-busy-init g c =
    let i = c.into_iter-busy-iterator.ensures.into_iter_gives in
    let none = ap length c.requires.none in
    record {
      left = sym i.0;
      count = ap length i.0 ∙ sym c.args.held.ok.0 ∙ sym i.1;
      room = omega (arith, i.1, c.requires.room, none, c.args.done.now.ok.0);
      ring = refl;
      got = refl;
      whose = ap (map whose) c.requires.none;
      ended = no_more _ _ c.requires.none;
    }

pub invariant_of-push_reserved : goal.invariant_of-push_reserved
invariant_of-push_reserved g c = rw (c.of-of.ensures, c.of-seat.ensures) c.wait-source.ensures.2

pub loop-busy-preserved : goal.loop-busy-preserved
loop-busy-preserved g c = let i = c.loop-busy.invariant in let st = c.in-Some.ensures.steps in
    record {
      left = moves_on _ _ _ _ _ i.left st.0;
      count = one_less _ _ _ _ _ i.count st.0 st.1;
      room = omega (arith, i.room, st.1, c.push_reserved.ensures.len, c.push_reserved.ensures.capacity);
      ring = c.take.ensures.ring ∙ i.ring;
      got = ap (λ v. v.got) c.take.ensures.ended ∙ i.got;
      whose = whose_more _ _ _ _ c.in-Some.busy c.push_reserved.ensures.items i.whose (c.number-number.ensures ∙ c.wait-source.ensures.1) (ap (λ b. b.source) c.of-of.ensures);
      ended = ended_more _ _ _ _ _ _ _ _ i.ended (ap (λ v. v.ended) c.take.ensures.ended) c.push_reserved.ensures.items (c.wait-source.result.sender.numbered ∙ sym c.number-number.ensures) (ap (λ s. (view {X = Item EntryKind} {V = View EntryKind} s.seat).sent) (sym c.of-seat.ensures));
    }

pub returns-clause-whose : goal.returns-clause-whose
returns-clause-whose g c = let i = c.loop-busy.invariant in
    let same = none_left _ _ _ _ i.left i.count c.in-None.ensures.steps.0 in
    i.whose ∙ ap (map begun) same

pub returns-clause-fronts : goal.returns-clause-fronts
returns-clause-fronts g c = let i = c.loop-busy.invariant in
    let acc = c.account.ensures.accounts in
    let is = ap (λ v. v.ended) c.account.ensures.same ∙ i.ended in
    let same = none_left _ _ _ _ i.left i.count c.in-None.ensures.steps.0 in
    finishes _ _ _ _ acc.0 _ is acc.1.0 (positive _ _ (i.whose ∙ ap (map begun) same) (λ k d l. (c.requires.one k d l).1))
