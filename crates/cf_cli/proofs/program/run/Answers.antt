use Rattle.std.proofs.Common.{refl, rules}
use Rattle.std.proofs.Math.Facts.{to_z-of_z}
use Rattle.std.specs.Int.{w64}
use Rattle.cf_run.specs.Names.{names_in}
use Rattle.cf_input.specs.Words.{command_of}
use Rattle.cf_wires.specs.Memory.{told_of}
use Rattle.cf_cli.proofs.Plays.{new_tape, judged_for}
use Rattle.cf_cli.proofs.Doing.{does_so, undone}
use Rattle.cf_cli.proofs.Handed.{files_stay, wires_stay, tape_stays, files_so, wires_so, tape_so, played_so, link_so, out_so, spawner_so, unspawned}
use Rattle.cf_answers.specs.declared.status.Status.TheVariants.{NoMemory, Usage}
use Rattle.cf_cli.proofs.Ends.{ends_so, ends_untold}
use Rattle.cf_cli.proofs.program.run.Goals as goal

pub returns-in-Ok-clause-usage : goal.returns-in-Ok-clause-usage
returns-in-Ok-clause-usage g c = λ is. absurd (c.perform.ensures.asked is)

pub returns-in-Ok-clause-judged : goal.returns-in-Ok-clause-judged
returns-in-Ok-clause-judged g c =
    judged_for (g.F.Files.files c.args.files.now) _ c.in-Ok.command c.perform.result c.in-Ok.ensures.exact c.perform.ensures.judged

pub returns-in-Ok-clause-does : goal.returns-in-Ok-clause-does
returns-in-Ok-clause-does g c =
    does_so _ c.in-Ok.command c.perform.result _ c.args.moment c.args.nonce _ _ c.in-Ok.ensures.exact (to_z-of_z {w = w64} {z = c.args.moment} (search rules)) c.perform.ensures.does

pub returns-clause-does : goal.returns-clause-does
returns-clause-does g c =
    λ command asked. undone command c.args.moment c.args.nonce _ c.requires.wires.log (new_tape c.args.tape.now c.requires.tape.log) c.requires.tape.log

pub returns-in-Ok-clause-files : goal.returns-in-Ok-clause-files
returns-in-Ok-clause-files g c = files_so c.in-Ok.ensures.exact c.perform.ensures.files

pub returns-in-Err-No-clause-files : goal.returns-in-Err-No-clause-files
returns-in-Err-No-clause-files g c = files_stay (λ is. cc)

pub returns-clause-files : goal.returns-clause-files
returns-clause-files g c = files_stay (λ is. cc)

pub returns-in-Ok-clause-wires : goal.returns-in-Ok-clause-wires
returns-in-Ok-clause-wires g c = wires_so c.in-Ok.ensures.exact (to_z-of_z {w = w64} {z = c.args.moment} (search rules)) c.perform.ensures.wires

pub returns-in-Err-No-clause-wires : goal.returns-in-Err-No-clause-wires
returns-in-Err-No-clause-wires g c = wires_stay c.requires.wires

pub returns-clause-wires : goal.returns-clause-wires
returns-clause-wires g c = wires_stay c.requires.wires

pub returns-in-Ok-clause-tape : goal.returns-in-Ok-clause-tape
returns-in-Ok-clause-tape g c = tape_so c.in-Ok.ensures.exact (to_z-of_z {w = w64} {z = c.args.moment} (search rules)) c.perform.ensures.tape

pub returns-in-Err-No-clause-tape : goal.returns-in-Err-No-clause-tape
returns-in-Err-No-clause-tape g c = tape_stays c.requires.tape

pub returns-clause-tape : goal.returns-clause-tape
returns-clause-tape g c = tape_stays c.requires.tape

pub returns-in-Ok-clause-played : goal.returns-in-Ok-clause-played
returns-in-Ok-clause-played g c = played_so c.in-Ok.ensures.exact c.perform.ensures.played

pub returns-in-Ok-clause-link : goal.returns-in-Ok-clause-link
returns-in-Ok-clause-link g c = link_so c.in-Ok.ensures.exact c.perform.ensures.link

pub returns-in-Ok-clause-out : goal.returns-in-Ok-clause-out
returns-in-Ok-clause-out g c = out_so c.in-Ok.ensures.exact c.perform.ensures.out

pub returns-in-Ok-clause-ends : goal.returns-in-Ok-clause-ends
returns-in-Ok-clause-ends g c = ends_so _ c.in-Ok.command c.perform.result _ _ _ _ _ c.in-Ok.ensures.exact c.perform.ensures.ends

pub returns-in-Err-No-clause-ends : goal.returns-in-Err-No-clause-ends
returns-in-Err-No-clause-ends g c =
    ends_untold (command_of (names_in c.args.words.now)) Usage (g.F.Files.files c.args.files.now) (g.W.Wires.told c.args.wires.now)
    (told_of c.args.tape.now) c.args.ends.now.items refl

pub returns-clause-ends : goal.returns-clause-ends
returns-clause-ends g c =
    ends_untold (command_of (names_in c.args.words.now)) NoMemory (g.F.Files.files c.args.files.now) (g.W.Wires.told c.args.wires.now)
    (told_of c.args.tape.now) c.args.ends.now.items refl

pub returns-in-Ok-clause-spawner : goal.returns-in-Ok-clause-spawner
returns-in-Ok-clause-spawner g c = spawner_so c.in-Ok.ensures.exact c.perform.ensures.spawner

pub returns-in-Err-No-clause-spawner : goal.returns-in-Err-No-clause-spawner
returns-in-Err-No-clause-spawner g c = unspawned refl

pub returns-clause-spawner : goal.returns-clause-spawner
returns-clause-spawner g c = unspawned refl
