use Rattle.std.proofs.Common.{◌≡◌, ◌≤◌, ◌-◌, length, drop, refl, sym, ◌∙◌, ap, arith, ℕ}
use Rattle.std.proofs.lemmas.List.{take_rest}
use Rattle.cf_frame.specs.Lending.{after_frame}
use Rattle.cf_frame.proofs.Lending.{end_rest, end_few}
use Rattle.cf_frame.proofs.framer.Framer.done.Goals as goal

pub overflow_sub-given : goal.overflow_sub-given
overflow_sub-given c =
    let items = c.self.inside.bytes.items in
    let start = c.self.inside.start in
    let ends = rw (c.deref.ensures.value, take_rest items start) at c.behind_frame-left.ensures.ends in
    let few : length c.behind_frame-left.result.now ≤ length items =
    end_few items start c.behind_frame-left.result.now ends in
    omega (arith, few, c.len.ensures)

pub returns : goal.returns
returns c =
    let items = c.self.inside.bytes.items in
    let start = c.self.inside.start in
    let left = c.behind_frame-left.result.now in
    let ends = rw (c.deref.ensures.value, take_rest items start) at c.behind_frame-left.ensures.ends in
    let after : left ≡ after_frame (drop start items) =
    rw (c.deref.ensures.value, take_rest items start) at c.behind_frame-left.ensures.after in
    let n : c.len.result - length left ≡ length items - length left =
    rw (c.len.ensures, sym c.deref.ensures.len, c.deref.ensures.value) refl in
    c.let_go-self-inside.ensures.same ∙ ap (λ (k : ℕ). drop k items) n ∙ end_rest items start left ends ∙ after ∙ ap after_frame c.self.view_is
