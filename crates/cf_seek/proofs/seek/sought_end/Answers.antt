use Rattle.cf_dispute.specs.Of.{tables_of}
use Rattle.cf_headers.specs.Store.{own_of}
use Rattle.cf_tables.specs.Extracts.{table_in}
use Rattle.cf_tables.specs.Judged.{verdicts_in}
use Rattle.cf_seek.specs.OpensAll.{opens_in}
use Rattle.cf_seek.proofs.Sought.{to_ask_more}
use Rattle.cf_seek.proofs.seek.sought_end.Goals as goal

pub loop-height-preserved : goal.loop-height-preserved
loop-height-preserved g c =
    to_ask_more (table_in c.args.known.extracts.now) (tables_of c.args.known.claims.now) (verdicts_in c.args.known.judged.now) (opens_in c.args.known.opens.now) (own_of (g.H.HeaderStore.chain c.args.store.now) c.args.p) c.args.start c.loop-height.height c.hash_at.result.0
    c.loop-height.invariant c.hash_at.ensures (c.is_to_ask.ensures.yes c.if-not-is_to_ask.false)
