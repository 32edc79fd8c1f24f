use Rattle.cf_offline.proofs.ProofTexts.{takes_alone, takes_in, scanned_checked}
use Rattle.cf_offline.proofs.proving.check.Goals as goal

pub returns-in-None-clause-checked : goal.returns-in-None-clause-checked
returns-in-None-clause-checked g c =
    rw c.in-None.is (record {
      answers = scanned_checked c.check_file.result _ _ c.check_file.ensures.answers;
      told = c.check_file.ensures.told;
      takes = takes_alone c.args.witness c.check_file.result _ _ (g.F.Files.files c.args.files.now) c.args.file.now c.check_file.ensures.judged c.check_file.ensures.told;
    })

pub returns-in-Some-clause-checked : goal.returns-in-Some-clause-checked
returns-in-Some-clause-checked g c =
    rw c.in-Some.is (record {
      answers = c.check_in.ensures.answers;
      told = rw c.as_str.ensures at c.check_in.ensures.told;
      takes = takes_in c.args.witness c.check_in.result _ _ _ (g.F.Files.files c.args.files.now) c.args.file.now;
    })
