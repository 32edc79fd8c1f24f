use Rattle.std.proofs.Common.{ℕ, List, ◌∙◌, ap}
use Rattle.cf_dispute.specs.declared.claim.Claim.{Claim}
use Rattle.cf_dispute.specs.Claims.{with_claim}
use Rattle.cf_dispute.specs.Rows.{tables_by}
use Rattle.cf_dispute.proofs.Looks.{made_claim}
use Rattle.cf_dispute.proofs.RowLaws.{alike_tables, set_tables, set_others, put_elsewhere}
use Rattle.cf_dispute.proofs.rows.Rows.put_hash.Goals as goal

pub put-requires-clause-made : goal.put-requires-clause-made
put-requires-clause-made c = made_claim c.args.hash.now c.filter_header.result c.args.before.now c.filter_header.ensures

pub returns-in_err-put-clause-rest : goal.returns-in_err-put-clause-rest
returns-in_err-put-clause-rest c =
    let same = λ (q : ℕ) (b : List ℕ).
    alike_tables c.args.self.now.rows.slots c.put.new.self.rows.slots c.put.new.self.names q b c.put.ensures.table (c.in_err-put.ensures.err q b) in
    record { elsewhere = λ b off. same c.args.p b; others = λ q ne b. same q b }

pub returns-clause-header : goal.returns-clause-header
returns-clause-header c = ap (λ (x : Claim). x.header) (made_claim c.args.hash.now c.filter_header.result c.args.before.now c.filter_header.ensures)

pub returns-clause-ok : goal.returns-clause-ok
returns-clause-ok c = λ b.
    let claim : Claim = record { hash = c.args.hash.now; header = c.filter_header.result } in
    set_tables c.args.self.now.rows.slots c.put.new.self.rows.slots c.put.new.self.names c.args.p c.args.block.now claim c.put.ensures.table c.in_ok-put.ensures.ok b
    ∙ ap (λ (x : Claim). with_claim c.args.block.now.0 x (tables_by c.args.self.now.rows.slots c.args.p) b) (made_claim c.args.hash.now c.filter_header.result c.args.before.now c.filter_header.ensures)

pub returns-clause-rest : goal.returns-clause-rest
returns-clause-rest c =
    let claim : Claim = record { hash = c.args.hash.now; header = c.filter_header.result } in
    record {
      elsewhere = put_elsewhere c.args.block.now claim (tables_by c.args.self.now.rows.slots c.args.p) (tables_by c.put.new.self.rows.slots c.args.p)
          (set_tables c.args.self.now.rows.slots c.put.new.self.rows.slots c.put.new.self.names c.args.p c.args.block.now claim c.put.ensures.table c.in_ok-put.ensures.ok);
      others = set_others c.args.self.now.rows.slots c.put.new.self.rows.slots c.put.new.self.names c.args.p c.args.block.now claim c.put.ensures.table c.in_ok-put.ensures.ok;
    }
