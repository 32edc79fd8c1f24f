use Rattle.std.proofs.Common.{inl, inr, refl, ◌∙◌, ap}
use Rattle.std.specs.Prelude.{is_some}
use Rattle.cf_answers.specs.declared.status.Status.{Status}
use Rattle.cf_cli_client.proofs.Told.{files_spared, said_fine, said_records, said_with, sink_spared}
use Rattle.cf_cli_client.proofs.once.tell.Goals as goal

pub returns-in_default-clause-told : goal.returns-in_default-clause-told
returns-in_default-clause-told g c = record { said = inr (inl refl, refl); put = inr (refl, refl) }

pub returns-in_default-text_of-clause-told : goal.returns-in_default-text_of-clause-told
returns-in_default-text_of-clause-told g c = record { said = inr (inl refl, refl); put = inl c.in-Ok.ensures }

pub returns-in-Err-NoMemory-clause-told : goal.returns-in-Err-NoMemory-clause-told
returns-in-Err-NoMemory-clause-told g c = record { said = inr (inl refl, refl); put = inl c.in-Ok.ensures }

pub returns-clause-told : goal.returns-clause-told
returns-clause-told g c =
    let files = rw c.in-Err-No.field-0-is at c.in-Err-No.ensures.files in
    record { said = inr (inr (refl, files.0), refl); put = inl c.in-Ok.ensures }

pub returns-in-Ok-write_record-clause-told : goal.returns-in-Ok-write_record-clause-told
returns-in-Ok-write_record-clause-told g c = record {
  said = inl (said_with c.args.outcome.end c.args.outcome.ends.items _ _ c.say.result (c.deref.ensures.value ∙ c.in-Ok-text_of.ensures) c.say.ensures.said);
  put = inl c.in-Ok.ensures;
}

pub returns-in-Ok-write_record-clause-files : goal.returns-in-Ok-write_record-clause-files
returns-in-Ok-write_record-clause-files g c =
    let fine = said_fine _ _ _ c.args.outcome.end c.args.outcome.ends.items c.say.result c.say.ensures.said in
    record {
      records = said_records _ _ _ c.args.outcome.end c.args.outcome.ends.items c.say.result _ _ _ _ c.say.ensures.said c.in-Ok-write_record.ensures.files;
      written = c.write_record.ensures.written;
      fault = λ is. absurd (fine is);
      fine = λ ne. c.in-Ok-write_record.ensures.count;
    }

-- ---- what stays

pub returns-in_default-clause-files : goal.returns-in_default-clause-files
returns-in_default-clause-files g c = files_spared g.F.Files.writes c.args.log_file.now c.args.files.now

pub returns-in_default-text_of-clause-files : goal.returns-in_default-text_of-clause-files
returns-in_default-text_of-clause-files g c = files_spared g.F.Files.writes c.args.log_file.now c.args.files.now

pub returns-in_default-clause-counts : goal.returns-in_default-clause-counts
returns-in_default-clause-counts g c = sink_spared _

pub returns-in_default-text_of-clause-counts : goal.returns-in_default-text_of-clause-counts
returns-in_default-text_of-clause-counts g c = sink_spared _

pub returns-in-Err-NoMemory-clause-counts : goal.returns-in-Err-NoMemory-clause-counts
returns-in-Err-NoMemory-clause-counts g c = sink_spared _

pub returns-in-Ok-write_record-clause-counts : goal.returns-in-Ok-write_record-clause-counts
returns-in-Ok-write_record-clause-counts g c = c.say.ensures.counts
