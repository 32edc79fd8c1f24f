use Rattle.std.specs.Prelude.{string_bytes}
use Rattle.cf_cli_demo.proofs.Demos.{written_demoed}
use Rattle.cf_cli_demo.proofs.demoing.demo.Goals as goal

pub returns-in-Ok-clause-demoed : goal.returns-in-Ok-clause-demoed
returns-in-Ok-clause-demoed g c =
    written_demoed c.write.result c.args.seed c.args.blocks (string_bytes c.in-Ok.text) c.as_bytes.result.now (g.O.Sink.written c.args.out.now) (g.O.Sink.written c.write.new.out) _
    c.write.ensures.ends c.as_bytes.ensures.value c.in-Ok.ensures.text c.write.ensures.written
