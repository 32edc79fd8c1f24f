use Rattle.std.proofs.Common.{sym, ◌∙◌}
use Rattle.std.proofs.lemmas.List.{length-map}
use Rattle.cf_tables.specs.Judged.{verdicts_in}
use Rattle.cf_tables.proofs.JudgedLaws.{pair_of, filters_in, verdict_kept, verdict_all, filters_apart}
use Rattle.cf_tables.proofs.judged.Judged.len.Goals as goal

pub returns : goal.returns
unfolding verdicts_in
returns c = record {
  filters = filters_in c.args.self.now.map.entries;
  many = length-map c.args.self.now.map.entries pair_of ∙ sym c.len.ensures.len;
  kept = verdict_kept c.args.self.now.map.entries;
  all = verdict_all c.args.self.now.map.entries;
  apart = filters_apart c.args.self.now.map.entries c.len.ensures.ordered;
}
