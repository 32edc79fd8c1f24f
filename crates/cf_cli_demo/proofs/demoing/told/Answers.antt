use Rattle.std.specs.Prelude.{string_bytes}
use Rattle.cf_cli_demo.proofs.Demos.{text_told, nobody_told, tired_told}
use Rattle.cf_cli_demo.proofs.demoing.told.Goals as goal

pub returns-in-Ok-clause-text : goal.returns-in-Ok-clause-text
returns-in-Ok-clause-text c = λ seed log told. text_told seed c.args.blocks c.args.demo (string_bytes c.in-Ok.text) log c.in-Synced.is c.in-Ok.ensures told

pub returns-in-NoPeers-clause-why : goal.returns-in-NoPeers-clause-why
returns-in-NoPeers-clause-why c = λ seed log told. nobody_told seed c.args.blocks c.args.demo log c.in-NoPeers.is told

pub returns-in-Tired-clause-why : goal.returns-in-Tired-clause-why
returns-in-Tired-clause-why c = λ seed log told. tired_told seed c.args.blocks c.args.demo log c.in-Tired.is told
