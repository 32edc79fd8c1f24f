use Rattle.std.specs.FinMap.{empty}
use Rattle.cf_make.proofs.MadeLaws.{made_stored}
use Rattle.cf_make.proofs.Witnessed.{all_stored, all_short, records_plain}
use Rattle.cf_make.proofs.laws.laws_of_made_records.Goals as goal

pub returns : goal.returns
returns c = record { stored = λ witness blocks good. all_stored witness empty blocks good.each; made = made_stored; short = all_short; plain = records_plain }
