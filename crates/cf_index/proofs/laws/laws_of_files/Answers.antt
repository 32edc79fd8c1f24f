use Rattle.cf_walk.proofs.FileLaws.{taken, refused, apart, one, plain, after_first_record, after_stored_record, good_of}
use Rattle.cf_index.proofs.laws.laws_of_files.Goals as goal

pub returns : goal.returns
returns c = record { taken = taken; refused = refused; apart = apart; one = one; plain = plain; first = after_first_record; behind = after_stored_record; stored = good_of }
