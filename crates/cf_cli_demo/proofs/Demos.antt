-- What a demo says of its text and of the answer.
use Rattle.std.proofs.Common.{◌≡◌, inl, ℕ, List, Option, refl, ◌∙◌, subst}
use Rattle.cf_run.specs.declared.outcome.End.TheVariants.{Synced as IsSynced, NoPeers as HasNoPeers, Tired as IsTired}
use Rattle.cf_demo.specs.declared.demo.Demo.{Demo}
use Rattle.cf_demo.specs.Demo.{IsDemo}
use Rattle.cf_wires.specs.Log.{Log}
use Rattle.cf_answers.specs.declared.status.Status.{Status}
use Rattle.cf_answers.specs.declared.status.Status.TheVariants.{Done, NoMemory, Usage, BadFile, FileFault, OutFault, NoPeers, Tired, Ended, LinkFault, NoNonce, NoHeight, NotThere, NotInChain, NotAddress}
use Rattle.cf_cli_demo.specs.Demo.{IsDemoText, IsDemoed, IsUntold, demo_lines, lines_over}
use Rattle.cf_answers.specs.Writing.{IsOfText, IsWritten}

-- ---- the text

-- what is counted is what the log has
lines_told : (seed blocks : ℕ) (demo : Demo) (text : List ℕ) (log : Log) → text ≡ demo_lines blocks demo.entries demo.balance demo.fetched demo.closed demo.tip.0 → IsDemo seed blocks demo log
    → text ≡ lines_over log blocks demo.entries demo.balance demo.tip.0
lines_told seed blocks demo text log spelled told = spelled ∙ (λ i. demo_lines blocks demo.entries demo.balance (told.fetched i) (told.closed i) demo.tip.0)

pub text_told : (seed blocks : ℕ) (demo : Demo) (text : List ℕ) (log : Log) → demo.end ≡ IsSynced → text ≡ demo_lines blocks demo.entries demo.balance demo.fetched demo.closed demo.tip.0
    → IsDemo seed blocks demo log → IsDemoText seed blocks text log
text_told seed blocks demo text log synced spelled told =
    let mine = lines_told seed blocks demo text log spelled told in
    record {
      demo = demo;
      told = told;
      synced = synced;
      lines = mine;
      exact = λ apart. let is = told.synced synced apart in mine ∙ (λ i. lines_over log blocks (is.entries i) (is.balance i) (is.tip i));
    }

-- ---- runs without a text

pub tired_told : (seed blocks : ℕ) (demo : Demo) (log : Log) → demo.end ≡ IsTired → IsDemo seed blocks demo log → IsUntold Tired seed blocks log
tired_told seed blocks demo log ended told = (demo.ends.items, record { demo = demo; told = told; ended = ended; left = refl })

pub nobody_told : (seed blocks : ℕ) (demo : Demo) (log : Log) → demo.end ≡ HasNoPeers → IsDemo seed blocks demo log → IsUntold (NoPeers demo.ends) seed blocks log
nobody_told seed blocks demo log ended told = inl (record { demo = demo; told = told; ended = ended; left = refl })

-- ---- what is written

-- a text that was written, or a beginning of it
pub written_demoed : (status : Status) (seed blocks : ℕ) (text bytes : List ℕ) (before after : Option (List ℕ)) (log : Log) → IsOfText status → bytes ≡ text → IsDemoText seed blocks text log
    → IsWritten status before after bytes → IsDemoed status seed blocks before after log
written_demoed Done seed blocks text bytes before after log of same told written = (text, told, subst (IsWritten Done before after) same written)
written_demoed OutFault seed blocks text bytes before after log of same told written = (text, told, subst (IsWritten OutFault before after) same written)
written_demoed NoMemory seed blocks text bytes before after log of same told written = written
written_demoed Usage seed blocks text bytes before after log of same told written = absurd of
written_demoed (BadFile which place cause) seed blocks text bytes before after log of same told written = absurd of
written_demoed FileFault seed blocks text bytes before after log of same told written = absurd of
written_demoed (NoPeers ends) seed blocks text bytes before after log of same told written = absurd of
written_demoed Tired seed blocks text bytes before after log of same told written = absurd of
written_demoed Ended seed blocks text bytes before after log of same told written = absurd of
written_demoed LinkFault seed blocks text bytes before after log of same told written = absurd of
written_demoed (NoNonce height) seed blocks text bytes before after log of same told written = absurd of
written_demoed (NoHeight tip) seed blocks text bytes before after log of same told written = absurd of
written_demoed (NotThere txid) seed blocks text bytes before after log of same told written = absurd of
written_demoed (NotInChain block) seed blocks text bytes before after log of same told written = absurd of
written_demoed (NotAddress cause) seed blocks text bytes before after log of same told written = absurd of
