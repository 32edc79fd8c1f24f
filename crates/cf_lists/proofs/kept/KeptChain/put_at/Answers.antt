use Rattle.std.proofs.Common.{arith}
use Rattle.cf_headers.proofs.Accepting.{grown_kept}
use Rattle.cf_lists.proofs.kept.KeptChain.put_at.Goals as goal

pub invariant_of-self-2 : goal.invariant_of-self-2
invariant_of-self-2 c =
    grown_kept c.self.inside.entries.items c.replace_after.new.kept.items c.args.entries.now c.args.self.now c.args.k
    c.in_ok-replace_after.ensures.ok c.self.view_is c.requires.within c.requires.good (omega arith) c.self.invariant.0
