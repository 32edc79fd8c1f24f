use Rattle.std.proofs.Common.{◌≡◌, ◌++◌, ◌∷◌, [], ◌∙◌, ap, subst}
use Rattle.cf_address.specs.Bits.{AreFivesOf}
use Rattle.cf_address.specs.Checksum.{remainder_from, bech32_checksum, checksum_for}
use Rattle.cf_address.proofs.ChecksumLemmas.{check_below}
use Rattle.cf_address.proofs.AddressLemmas.{values_written}
use Rattle.cf_address.proofs.writing.values_of.Goals as goal

pub six_values-requires : goal.six_values-requires
six_values-requires c = check_below c.checksum.result c.remainder-now.result c.version-2.result c.constant.result c.remainder-now.ensures c.constant.ensures

pub returns-clause-values : goal.returns-clause-values
returns-clause-values c =
    let fives = c.in_ok-fives.fives.items in
    let front = c.extend_from_slice.new.self.items in
    let padded = subst (λ b. AreFivesOf b fives) c.as_slice.ensures.value c.in_ok-fives.ensures in
    let front_is : front ≡ c.args.program.now.version ∷ fives =
    c.in_ok-extend_from_slice.ensures.items ∙ (λ i. (c.in_ok-push.ensures.items ∙ (λ j. c.new-values.ensures.items j ++ c.version.ensures j ∷ [])) i ++ c.deref.ensures.value i) in
    let now : c.remainder-now.result ≡ remainder_from (bech32_checksum c.args.prefix.now front) (0 ∷ 0 ∷ 0 ∷ 0 ∷ 0 ∷ 0 ∷ []) =
    c.remainder-now.ensures ∙ ap (λ n. remainder_from n (0 ∷ 0 ∷ 0 ∷ 0 ∷ 0 ∷ 0 ∷ [])) (c.checksum.ensures ∙ ap (bech32_checksum c.args.prefix.now) c.deref-2.ensures.value) in
    values_written c.args.prefix.now c.args.program.now fives c.six_values.result front _ c.version.result c.remainder-now.result c.constant.result c.version.ensures padded c.six_values.ensures.six c.six_values.ensures.small front_is
    c.in_ok-extend_from_slice-2.ensures.items now (c.constant.ensures ∙ ap checksum_for c.version-2.ensures) c.six_values.ensures.same
