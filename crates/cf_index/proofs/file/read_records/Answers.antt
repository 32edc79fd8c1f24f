use Rattle.std.proofs.Common.{◌≡◌, false, zero, ◌∙◌, sym, ap, subst, Ok, Err}
use Rattle.cf_walk.specs.Files.{all_zeros, next_at, blocks_from}
use Rattle.cf_index.specs.Progress.{Stops}
use Rattle.cf_walk.proofs.FileSteps.{one_more, bad_here, ends, none_read, all_read, spelled_more, fewer}
use Rattle.cf_index.proofs.file.read_records.Goals as goal

pub loop-cut-init : goal.loop-cut-init
loop-cut-init c = record {
  kept = c.new_chain-chain.ensures.kept;
  exact = λ i. blocks_from c.args.before zero (sym c.new_chain-chain.ensures.none i) (sym c.new-cut.ensures i);
  spelled = none_read c.args.bytes.now c.new-cut.result c.new_chain-chain.result.blocks c.new-cut.ensures c.new_chain-chain.ensures.none;
}

pub loop-cut-smaller : goal.loop-cut-smaller
loop-cut-smaller c = fewer c.loop-cut.chain.blocks c.in-Ok.longer.blocks c.loop-cut.cut c.take_next.new.cut c.in-Ok.ensures.found

pub loop-cut-preserved : goal.loop-cut-preserved
loop-cut-preserved c =
    let z : all_zeros c.loop-cut.cut ≡ false = sym (ap all_zeros c.rest.ensures) ∙ sym c.loop-cut-test.ensures in
    record {
      kept = c.in-Ok.ensures.kept;
      exact = c.loop-cut.invariant.exact ∙ one_more c.args.before c.loop-cut.chain.blocks c.in-Ok.longer.blocks c.loop-cut.cut c.take_next.new.cut z c.in-Ok.ensures.exact c.in-Ok.ensures.found;
      spelled = spelled_more c.args.bytes.now c.loop-cut.cut c.take_next.new.cut c.loop-cut.chain.blocks c.in-Ok.longer.blocks c.loop-cut.invariant.spelled c.in-Ok.ensures.found;
    }

pub returns-in-Err-No-clause-exact : goal.returns-in-Err-No-clause-exact
returns-in-Err-No-clause-exact c =
    let z : all_zeros c.loop-cut.cut ≡ false = sym (ap all_zeros c.rest.ensures) ∙ sym c.loop-cut-test.ensures in
    let is : next_at c.loop-cut.chain.blocks c.loop-cut.cut ≡ Err c.in-Err-No.cause = subst (Stops (next_at c.loop-cut.chain.blocks c.loop-cut.cut)) c.in-Err-No.field-0-is c.in-Err-No.ensures.exact in
    c.loop-cut.invariant.exact ∙ bad_here c.args.before c.loop-cut.chain.blocks c.loop-cut.cut c.in-Err-No.cause z is
    ∙ (λ i. Err (record { number = sym c.number_after-number.ensures i; cause = sym c.in-Err-No.cause-is i }))

pub returns-in-Err-No-clause-bad : goal.returns-in-Err-No-clause-bad
returns-in-Err-No-clause-bad c =
    let z : all_zeros c.loop-cut.cut ≡ false = sym (ap all_zeros c.rest.ensures) ∙ sym c.loop-cut-test.ensures in
    let is : next_at c.loop-cut.chain.blocks c.loop-cut.cut ≡ Err c.in-Err-No.cause = subst (Stops (next_at c.loop-cut.chain.blocks c.loop-cut.cut)) c.in-Err-No.field-0-is c.in-Err-No.ensures.exact in
    record {
      blocks = c.loop-cut.chain.blocks;
      rest = c.loop-cut.cut;
      good = c.loop-cut.invariant.kept.checked.good;
      spelled = c.loop-cut.invariant.spelled;
      some = z;
      number = c.number_after-number.ensures;
      cause = is ∙ ap Err (sym c.in-Err-No.cause-is);
    }

pub returns-clause-exact : goal.returns-clause-exact
returns-clause-exact c = c.loop-cut.invariant.exact ∙ ends c.args.before c.loop-cut.chain.blocks c.loop-cut.cut (sym (ap all_zeros c.rest.ensures) ∙ sym c.loop-cut-test.ensures)
    ∙ ap Ok (sym c.of.ensures)

pub returns-clause-found : goal.returns-clause-found
returns-clause-found c =
    all_read c.args.bytes.now c.loop-cut.cut c.loop-cut.chain.blocks c.of.result c.loop-cut.invariant.spelled c.of.ensures
    (sym (ap all_zeros c.rest.ensures) ∙ sym c.loop-cut-test.ensures)
