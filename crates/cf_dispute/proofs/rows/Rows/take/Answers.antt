use Rattle.cf_dispute.specs.Claims.{claim_of}
use Rattle.cf_dispute.proofs.Looks.{agreed_after, differs_after}
use Rattle.cf_dispute.proofs.rows.Rows.take.Goals as goal

pub returns-clause-agreed : goal.returns-clause-agreed
returns-clause-agreed c = λ off.
    agreed_after c.args.self.now.rows.slots c.put_by.new.self.rows.slots c.args.p c.args.block.now (claim_of c.args.hash.now c.args.before.now) c.look-look.result c.look-look.ensures off c.in_ok-header.ensures.ok c.put_by.ensures.rest.others

pub returns-clause-differs : goal.returns-clause-differs
returns-clause-differs c = λ free on.
    differs_after c.args.self.now.rows.slots c.put_by.new.self.rows.slots c.args.self.now.names c.args.p c.args.block.now (claim_of c.args.hash.now c.args.before.now) c.look-look.result c.requires.table c.look-look.ensures on free c.in_ok-header.ensures.ok c.put_by.ensures.rest.others
