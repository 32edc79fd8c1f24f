use Rattle.std.specs.Prelude.{String}
use Rattle.std.specs.Global.{Global}
use Rattle.cf_walk.specs.Files.{most_blocks}
use Rattle.cf_loading.proofs.Asking.{is_opened}
use Rattle.cf_loading.proofs.Opening.{bad_file}
use Rattle.cf_loading.proofs.loading.scan_file.Goals as goal

pub returns-in-Err-clause-files : goal.returns-in-Err-clause-files
returns-in-Err-clause-files g c = is_opened g.F.Files.opens g.F.Files.parts c.args.name.now most_blocks _ c.args.files.now c.open.new.self c.in-Err.ensures.exact

pub returns-in-Err-scan_in-clause-answer : goal.returns-in-Err-scan_in-clause-answer
returns-in-Err-scan_in-clause-answer g c =
    bad_file (String Global) (g.F.Files.files c.args.files.now) c.args.name.now (g.F.Files.opened c.open.new.self) c.in-Err-scan_in.fault c.unloaded.result
    c.in-Ok.ensures.answer c.in-Err-scan_in.ensures.told c.unloaded.ensures
