use Rattle.cf_make.specs.Mined.{NoneMeets}
use Rattle.cf_make.proofs.tipped.mine_hashed.Given as goal

abbrev pub invariant-loop-nonce : goal.invariant-loop-nonce
invariant-loop-nonce l = record { none : NoneMeets l.header l.nonce }
