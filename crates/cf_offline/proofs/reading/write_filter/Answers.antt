use Rattle.std.proofs.Common.{◌∙◌, sym, ap, Some}
use Rattle.std.specs.Prelude.{option_map, string_bytes}
use Rattle.cf_offline.proofs.FilterTexts.{tells, is_above}
use Rattle.cf_offline.proofs.reading.write_filter.Goals as goal

pub returns-in-Ok-Some-clause-told : goal.returns-in-Ok-Some-clause-told
returns-in-Ok-Some-clause-told g c =
    tells c.write.result (g.O.Sink.written c.args.out.now) (g.O.Sink.written c.write.new.out) c.args.index.now c.args.height c.as_bytes.result.now
    (ap Some c.as_bytes.ensures.value ∙ ap (option_map string_bytes) (sym c.in-Ok-Some.field-0-is) ∙ c.in-Ok-Some.ensures)
    c.write.ensures.written

pub returns-in-Ok-None-clause-told : goal.returns-in-Ok-None-clause-told
returns-in-Ok-None-clause-told g c =
    is_above c.tip.result (g.O.Sink.written c.args.out.now) c.args.index.now c.args.height c.tip.ensures.height
    (ap (option_map string_bytes) (sym c.in-Ok-None.field-0-is) ∙ c.in-Ok-None.ensures)
