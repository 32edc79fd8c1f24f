use Rattle.std.proofs.Common.{List, subst, sym, arith}
use Rattle.cf_lists.specs.declared.slot.Slot.{Slot}
use Rattle.cf_headers.specs.Chain.{Chain}
use Rattle.cf_lists.specs.Lists.{IsRowUpTo}
use Rattle.cf_headers.proofs.Places.{on_err}
use Rattle.cf_lists.proofs.Slots.{same_kept}
use Rattle.cf_headers.proofs.Accepting.{StaysTo, longer_stays}
use Rattle.cf_lists.proofs.Tables.{set_row_here}
use Rattle.cf_lists.proofs.lists.ListsHeaderStore.accept.Goals as goal

pub returns-in_err-change-clause-err : goal.returns-in_err-change-clause-err
returns-in_err-change-clause-err c =
    on_err c.from_residual.result _
    (same_kept c.args.self.now.slots.items c.args.p.0 c.index_mut.result.now c.accept.new.self c.index_mut.ensures.value c.requires c.in_err-change.ensures.err)

pub renew-requires-clause-row : goal.renew-requires-clause-row
renew-requires-clause-row c =
    let store = c.args.self.now in
    let slot = c.index_mut.result.now in
    let next = c.accept.new.self in
    let stays : StaysTo c.in-Longer.k slot.chain next =
    subst (λ (x : Chain). StaysTo c.in-Longer.k slot.chain x) (sym c.in_ok-change.ensures.after)
    (longer_stays c.args.headers.now slot.chain c.in-Longer.k c.in_ok-change.change c.in_ok-change.ensures.answer c.in-Longer.is) in
    subst (λ (xs : List Slot). IsRowUpTo c.in-Longer.k c.args.p.0 xs store.commons.items) (sym c.deref.ensures.value)
    (set_row_here store.slots.items store.commons.items c.args.p.0 c.in-Longer.k slot (record { entered = slot.entered; chain = next })
    c.index_mut.ensures.value c.requires (omega (arith, store.nine, store.slots.ok.0)) store.told stays)
