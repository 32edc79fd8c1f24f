use Rattle.std.proofs.Common.{refl}
use Rattle.slab.specs.Slab.{get}
use Rattle.cf_dispute.specs.declared.rows.Row.{Row}
use Rattle.cf_dispute.specs.Claims.{claim_of}
use Rattle.cf_dispute.specs.Rows.{Sets, tables_by}
use Rattle.cf_dispute.proofs.Looks.{look_out, look_found, look_other}
use Rattle.cf_dispute.proofs.RowLaws.{joined_table, joined_sets, set_tables, set_others, put_elsewhere}
use Rattle.cf_dispute.proofs.rows.Rows.put_by.Goals as goal

pub returns-in-Some : goal.returns-in-Some
returns-in-Some c =
    let look = look_found (get c.args.self.now.rows) c.args.p c.args.block.now (claim_of c.args.hash.now c.args.before.now) c.args.look (c.in-Some.n, c.in-Some.header) c.requires.look c.in-Some.is in
    let found = look.0 in
    let row : Row = found.0 in
    let joined = c.join.ensures.joins row found.1.0 in
    let next : Row = record row { peers = joined.0 } in
    let sets : Sets (get c.args.self.now.rows) (get c.join.new.self.rows) c.args.p c.args.block.now (claim_of c.args.hash.now c.args.before.now) =
    joined_sets (get c.args.self.now.rows) (get c.join.new.self.rows) c.args.p c.in-Some.n c.args.block.now (claim_of c.args.hash.now c.args.before.now) row next found.1.0 found.1.1.0 found.1.1.1 joined.1.1.0
    refl refl joined.1.0.here joined.1.0.others joined.1.1.1 in
    let table = joined_table (get c.args.self.now.rows) (get c.join.new.self.rows) c.args.self.now.names c.join.new.self.names c.args.p c.in-Some.n c.args.block.now row next c.requires.table found.1.0 found.1.1.0 joined.1.1.0 joined.1.1.1
    refl refl refl joined.1.0.here joined.1.0.others
    (look_out (get c.args.self.now.rows) c.args.p c.args.block.now (claim_of c.args.hash.now c.args.before.now) c.args.look c.requires.look c.if-look.false) c.requires.low (λ on. on) c.join.ensures.names in
    record {
      table = table;
      header = look.1;
      ok = set_tables c.args.self.now.rows.slots c.join.new.self.rows.slots c.join.new.self.names c.args.p c.args.block.now (claim_of c.args.hash.now c.args.before.now) table sets;
      rest = record {
        elsewhere = put_elsewhere c.args.block.now (claim_of c.args.hash.now c.args.before.now) (tables_by c.args.self.now.rows.slots c.args.p) (tables_by c.join.new.self.rows.slots c.args.p)
            (set_tables c.args.self.now.rows.slots c.join.new.self.rows.slots c.join.new.self.names c.args.p c.args.block.now (claim_of c.args.hash.now c.args.before.now) table sets);
        others = set_others c.args.self.now.rows.slots c.join.new.self.rows.slots c.join.new.self.names c.args.p c.args.block.now (claim_of c.args.hash.now c.args.before.now) table sets;
      };
    }

pub put_hash-requires-clause-new : goal.put_hash-requires-clause-new
put_hash-requires-clause-new c = look_out (get c.args.self.now.rows) c.args.p c.args.block.now (claim_of c.args.hash.now c.args.before.now) c.args.look c.requires.look c.if-look.false

pub put_hash-requires-clause-other : goal.put_hash-requires-clause-other
put_hash-requires-clause-other c = look_other (get c.args.self.now.rows) c.args.p c.args.block.now (claim_of c.args.hash.now c.args.before.now) c.args.look c.requires.look
