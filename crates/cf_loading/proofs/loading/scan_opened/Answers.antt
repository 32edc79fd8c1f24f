use Rattle.cf_loading.proofs.Opening.{kept_reference, kept_files, parts_read}
use Rattle.cf_loading.proofs.loading.scan_opened.Goals as goal

pub returns-clause-same_reference : goal.returns-clause-same_reference
returns-clause-same_reference g c =
    kept_reference g.F.Files.parts g.F.Files.files (λ s. s.files.ghost_name) (λ s. s.files.now) c.args.source.now c.scan_source.new.source c.scan_source.ensures.steps

pub returns-clause-same : goal.returns-clause-same
returns-clause-same g c =
    kept_files g.F.Files.parts g.F.Files.files (λ s. s.files.ghost_name) (λ s. s.files.now) c.args.source.now c.scan_source.new.source c.scan_source.ensures.steps

pub returns-clause-steps : goal.returns-clause-steps
returns-clause-steps g c =
    parts_read g.F.Files.parts g.F.Files.files (λ s. s.files.ghost_name) (λ s. s.files.now) c.args.source.now c.scan_source.new.source c.scan_source.ensures.steps
