use Rattle.std.proofs.Common.{[], ◌∷◌, sym, subst}
use Rattle.slab.specs.Slab.{get}
use Rattle.cf_dispute.specs.declared.rows.Look.{Look}
use Rattle.cf_dispute.specs.Claims.{claim_of}
use Rattle.cf_dispute.specs.Rows.{IsLook, no_look, seen_at}
use Rattle.cf_dispute.proofs.Looks.{look_start, look_on}
use Rattle.cf_dispute.proofs.RowLaws.{alone_complete}
use Rattle.cf_dispute.proofs.rows.Rows.look.Goals as goal

pub returns-in-Some : goal.returns-in-Some
returns-in-Some c =
    let rows = get c.args.self.now.rows in
    let names = c.args.self.now.names in
    let block = c.args.block.now in
    let before = c.args.before.now in
    let hash = c.args.hash.now in
    let n = c.in-Some.n in
    subst (λ (look : Look). IsLook rows c.args.p block (claim_of hash before) look []) (sym c.seen.ensures)
    (subst (λ (look : Look). IsLook rows c.args.p block (claim_of hash before) (seen_at look n c.args.p block before hash (rows n)) []) (sym c.none.ensures)
    (look_on rows names c.args.p block before hash no_look (block, n) [] c.requires.table
    (look_start rows names c.args.p block (claim_of hash before) ((block, n) ∷ []) c.requires.table (alone_complete rows names block n c.requires.table c.in-Some.ensures))))
