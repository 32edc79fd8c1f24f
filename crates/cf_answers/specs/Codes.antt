-- statement: the exit status of each answer.
use Rattle.std.specs.Prelude.{ℕ}
use Rattle.cf_answers.specs.declared.status.Status.{Status}
use Rattle.cf_answers.specs.declared.status.Status.TheVariants.{Done, NoMemory, Usage, BadFile, FileFault, OutFault, NoPeers, Tired, Ended, LinkFault, NoNonce, NoHeight, NotThere, NotInChain, NotAddress}

-- the exit status of each answer
abbrev pub code_of : Status → ℕ
code_of Done = 0
code_of NoMemory = 1
code_of Usage = 2
code_of (BadFile which place cause) = 3
code_of FileFault = 4
code_of OutFault = 5
code_of (NoPeers ends) = 6
code_of Tired = 7
code_of Ended = 8
code_of LinkFault = 9
code_of (NoNonce height) = 10
code_of (NoHeight tip) = 11
code_of (NotThere txid) = 12
code_of (NotInChain block) = 12
code_of (NotAddress cause) = 13
