use Rattle.std.proofs.Common.{◌<◌, sym, ◌∙◌, ap, arith}
use Rattle.cf_view.proofs.LentLemmas.{first_there, first_good, none_left}
use Rattle.cf_view.proofs.items.Items.next.Goals as goal

pub returns-then-self-eq0 : goal.returns-then-self-eq0
returns-then-self-eq0 g c = λ item _ there.
    let s = c.args.self.now in
    let none = none_left item s.left s.rest.now c.if-self-eq0.true in
    (there, (none, none))

pub returns-in_default : goal.returns-in_default
returns-in_default g c = λ item reads there.
    let s = c.args.self.now in
    let some : 0 < s.left = omega (arith, c.if-self-eq0.false) in
    absurd (first_good item s.left s.rest.now (c.in_default.field-0, c.read.new.arg2) some there
    (ap item (sym c.new-cut.ensures) ∙ reads _ _ _ c.in_default.ensures))

pub returns : goal.returns
returns g c = λ item reads there.
    let s = c.args.self.now in
    let some : 0 < s.left = omega (arith, c.if-self-eq0.false) in
    rw c.rest-self.ensures (first_there item s.left s.rest.now c.read.new.arg2 c.in-Ok.item some there
    (ap item (sym c.new-cut.ensures) ∙ reads _ _ _ c.in-Ok.ensures))
