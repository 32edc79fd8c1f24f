use Rattle.std.proofs.Common.{◌≡◌, ◌∙◌, sym, ap, List, ℕ}
use Rattle.std.specs.Str.{bytes_eq}
use Rattle.cf_block.specs.Commitment.{first_fault}
use Rattle.cf_block.proofs.Committed.{fault_is, empty_fault}
use Rattle.cf_block.proofs.commitment.fault_by.Goals as goal

pub returns-then-is_empty : goal.returns-then-is_empty
returns-then-is_empty c =
    λ b is are long. sym (empty_fault b c.args.level.now are (sym c.is_empty.ensures ∙ c.if-is_empty.true))

pub returns : goal.returns
returns c = λ b is are long.
    let none = sym c.is_empty.ensures ∙ c.if-is_empty.false in
    let found = c.tree_over-found in
    let same : c.eq.result ≡ bytes_eq found.result.root.0 b.header.root.0 =
    c.eq.ensures ∙ ap (λ (r : List ℕ). bytes_eq found.result.root.0 r) (sym is) in
    c.first_fault.ensures ∙ (λ i. first_fault (same i) found.result.is_doubled (long i))
    ∙ sym (fault_is b c.args.level.now found.result.root.0 found.result.is_doubled are none found.ensures.root
    found.ensures.doubled)
