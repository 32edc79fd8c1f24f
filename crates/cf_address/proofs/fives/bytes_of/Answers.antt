use Rattle.std.proofs.Common.{inl, inr, ap, arith, refl, ◌∙◌}
use Rattle.cf_address.specs.Bits.{all_bits}
use Rattle.cf_address.specs.Faults.{is_more}
use Rattle.cf_address.proofs.BitLemmas.{left_is, many_are_more, set_is_more, no_more, fives_hold}
use Rattle.cf_address.proofs.fives.bytes_of.Goals as goal

pub returns-then-not-is_padding : goal.returns-then-not-is_padding
returns-then-not-is_padding c =
    let n = c.in_ok-whole.field-0.n in
    let word = c.in_ok-whole.field-0.word in
    let left = left_is (all_bits 5 c.args.fives.now) c.in_ok-whole.field-0.whole.items n word c.in_ok-whole.ensures.bits c.in_ok-whole.ensures.few in
    (ap is_more left.0 ∙ elim c.if-not-is_padding.ensures [ inl many ↦ many_are_more n word many | inr set ↦ set_is_more n word c.in_ok-whole.ensures.word (λ none. absurd (omega arith)) ], refl)

pub returns : goal.returns
returns c =
    let whole = c.in_ok-whole.field-0.whole.items in
    let n = c.in_ok-whole.field-0.n in
    let word = c.in_ok-whole.field-0.word in
    let padding = c.if-not-is_padding.ensures in
    let passed = no_more c.args.fives.now whole n word c.in_ok-whole.ensures.bits padding.0 padding.1 in
    (passed.0, passed.1, fives_hold c.args.fives.now whole n word c.in_ok-whole.ensures.bits padding.0 padding.1 c.requires, c.in_ok-whole.ensures.whole)
