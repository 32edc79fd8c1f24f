use Rattle.slab.specs.Slab.{get}
use Rattle.cf_dispute.specs.Claims.{claim_of}
use Rattle.cf_dispute.specs.Rows.{IsLook}
use Rattle.cf_dispute.proofs.rows.Rows.look_named.Given as goal

abbrev pub invariant-loop-name : goal.invariant-loop-name
invariant-loop-name l = IsLook (get l.self.rows) l.p l.block (claim_of l.hash l.before) l.look l.name-iterator
