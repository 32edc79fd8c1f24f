use Rattle.std.proofs.Common.{inl, inr, refl, rules, sym, ◌∙◌, ap}
use Rattle.std.proofs.lemmas.Bool.{false≢true}
use Rattle.cf_answers.specs.Statuses.{was_refused}
use Rattle.cf_cli_client.proofs.Records.{begun_records}
use Rattle.cf_cli_client.proofs.following.record_run.Goals as goal

pub returns-in-NoMemory-clause-answered : goal.returns-in-NoMemory-clause-answered
returns-in-NoMemory-clause-answered g c = inr (inl (refl, inl c.in-NoMemory.is))

pub returns-in-Err-NoMemory-clause-answered : goal.returns-in-Err-NoMemory-clause-answered
returns-in-Err-NoMemory-clause-answered g c =
    let files = rw c.in-Err-NoMemory.field-0-is at c.in-Err-NoMemory.ensures.files in
    inr (inl (refl, inr files.0))

pub returns-clause-answered : goal.returns-clause-answered
returns-clause-answered g c =
    let files = rw c.in-Err-No.field-0-is at c.in-Err-No.ensures.files in
    inr (inr (refl, files.0, search rules))

pub returns-in-Ok-clause-answered : goal.returns-in-Ok-clause-answered
returns-in-Ok-clause-answered g c = inl (refl, search rules)

pub returns-in-Ok-clause-files : goal.returns-in-Ok-clause-files
returns-in-Ok-clause-files g c = record {
  records = begun_records c.args.status c.args.log_file.now _ _ _ c.requires.answers c.requires.unrefused (search rules) c.in-Ok.ensures.files;
  written = c.write_record.ensures.written;
  fault = λ is. absurd (false≢true (sym c.requires.unrefused ∙ ap was_refused is));
  fine = λ ne. c.in-Ok.ensures.count;
}
