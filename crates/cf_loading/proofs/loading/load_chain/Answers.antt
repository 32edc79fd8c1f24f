use Rattle.cf_index.specs.declared.checked.CheckedChain.{CheckedChain}
use Rattle.cf_walk.specs.Files.{most_blocks}
use Rattle.cf_loading.proofs.Asking.{is_opened}
use Rattle.cf_loading.proofs.Opening.{bad_file, blocks_in_file, good_file}
use Rattle.cf_loading.proofs.loading.load_chain.Goals as goal

pub returns-in-Err-clause-files : goal.returns-in-Err-clause-files
returns-in-Err-clause-files g c = is_opened g.F.Files.opens g.F.Files.parts c.args.name.now most_blocks _ c.args.files.now c.open.new.self c.in-Err.ensures.exact

pub returns-in-Ok-chain_in-clause-answer : goal.returns-in-Ok-chain_in-clause-answer
returns-in-Ok-chain_in-clause-answer g c =
    good_file (g.F.Files.files c.args.files.now) c.args.name.now (g.F.Files.opened c.open.new.self) _ c.in-Ok.ensures.answer c.in-Ok-chain_in.ensures.reads

pub returns-in-Ok-chain_in-clause-blocks : goal.returns-in-Ok-chain_in-clause-blocks
returns-in-Ok-chain_in-clause-blocks g c =
    blocks_in_file (g.F.Files.files c.args.files.now) c.args.name.now (g.F.Files.opened c.open.new.self) _ c.in-Ok.ensures.answer c.in-Ok-chain_in.ensures.reads

pub returns-in-Err-chain_in-clause-answer : goal.returns-in-Err-chain_in-clause-answer
returns-in-Err-chain_in-clause-answer g c =
    bad_file CheckedChain (g.F.Files.files c.args.files.now) c.args.name.now (g.F.Files.opened c.open.new.self) c.in-Err-chain_in.fault c.unloaded.result
    c.in-Ok.ensures.answer c.in-Err-chain_in.ensures.reads c.unloaded.ensures
