use Rattle.std.proofs.Common.{◌≡◌, ◌∙◌, true, false, ap, sym, arith}
use Rattle.cf_link.proofs.Places.{places_next, none_left}
use Rattle.cf_link.proofs.line.Line.next.Goals as goal

pub returns-then-not-is_first_over-clause-all : goal.returns-then-not-is_first_over-clause-all
returns-then-not-is_first_over-clause-all g c = λ _ none.
    let was = c.self.inside in
    let ready : c.args.self.now.ready ≡ false = sym c.is_first_over.ensures ∙ c.if-not-is_first_over.true in
    sym (ap (λ l. l.tasks) c.self.view_is) ∙ none_left was.first was.places.items was.live.items c.self.invariant.1 (ap (λ l. l.ready) c.self.view_is ∙ ready) (ap (λ l. l.flags) c.self.view_is ∙ none)

pub invariant_of-self-2 : goal.invariant_of-self-2
invariant_of-self-2 g c =
    let was = c.self.inside in
    let ready : c.args.self.now.ready ≡ true = sym c.is_first_over.ensures ∙ c.if-not-is_first_over.false in
    let taken = places_next was.first was.places.items c.pop_front.new.self.items was.live.items c.in_ok-out.field-0 c.in_ok-out.ensures.items (ap (λ l. l.ready) c.self.view_is ∙ ready) c.self.invariant.1 in
    let n = c.self.invariant.0 in
    let m = c.in_ok-out.ensures.cases in
    (omega (arith, n, m), taken.fits)

pub returns-clause-tasks : goal.returns-clause-tasks
returns-clause-tasks g c =
    let was = c.self.inside in
    let ready : c.args.self.now.ready ≡ true = sym c.is_first_over.ensures ∙ c.if-not-is_first_over.false in
    let taken = places_next was.first was.places.items c.pop_front.new.self.items was.live.items c.in_ok-out.field-0 c.in_ok-out.ensures.items (ap (λ l. l.ready) c.self.view_is ∙ ready) c.self.invariant.1 in
    sym (ap (λ l. l.tasks) c.self.view_is) ∙ taken.tasks

pub returns-clause-ready : goal.returns-clause-ready
returns-clause-ready g c = λ none.
    let was = c.self.inside in
    let ready : c.args.self.now.ready ≡ true = sym c.is_first_over.ensures ∙ c.if-not-is_first_over.false in
    let taken = places_next was.first was.places.items c.pop_front.new.self.items was.live.items c.in_ok-out.field-0 c.in_ok-out.ensures.items (ap (λ l. l.ready) c.self.view_is ∙ ready) c.self.invariant.1 in
    absurd (taken.there none)

pub returns-clause-all : goal.returns-clause-all
returns-clause-all g c = λ none.
    let was = c.self.inside in
    let ready : c.args.self.now.ready ≡ true = sym c.is_first_over.ensures ∙ c.if-not-is_first_over.false in
    let taken = places_next was.first was.places.items c.pop_front.new.self.items was.live.items c.in_ok-out.field-0 c.in_ok-out.ensures.items (ap (λ l. l.ready) c.self.view_is ∙ ready) c.self.invariant.1 in
    absurd (taken.there none)
