use Rattle.std.proofs.Common.{◌≡◌, inl, inr, ℕ, false, length, subst, sym, arith}
use Rattle.std.proofs.lemmas.Bool.{cases_lt}
use Rattle.cf_seek.specs.OpensAll.{opens_in}
use Rattle.cf_seek.specs.OpensOf.{block_or}
use Rattle.cf_seek.proofs.Openings.{seat_past}
use Rattle.cf_seek.proofs.opens.Opens.has_no_blocks.Goals as goal

pub loop-q-preserved : goal.loop-q-preserved
loop-q-preserved c = λ q lt block. elim (cases_lt q c.loop-q.q) [
  | inl low ↦ c.loop-q.invariant q low block
  | inr ge ↦ (
      let e : q ≡ c.loop-q.q = omega (arith, lt, ge) in
      subst (λ (k : ℕ). (opens_in c.args.self.now).blocks k block ≡ false) (sym e)
      (c.has_no_block.ensures.yes c.if-not-has_no_block.false block)
      )
]

pub returns-then-not-has_no_block-clause-no : goal.returns-then-not-has_no_block-clause-no
returns-then-not-has_no_block-clause-no c = λ e all. c.has_no_block.ensures.no c.if-not-has_no_block.true (λ block. all block c.loop-q.q)

pub returns-clause-yes : goal.returns-clause-yes
returns-clause-yes c = λ e block q. elim (cases_lt q (length c.args.self.now.peers.items)) [
  | inl lt ↦ c.loop-q.invariant q (omega (arith, lt)) block
  | inr ge ↦ seat_past (λ o. block_or o block) c.args.self.now.peers.items q ge
]
