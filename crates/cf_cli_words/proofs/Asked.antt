-- The headline, from what the program does for its words.
use Rattle.std.proofs.Common.{◌≡◌, ℕ, ℤ, List, [], true, false, Option, Some, None, refl, sym, ap, ◌∙◌, subst}
use Rattle.std.specs.Prelude.{IfSome}
use Rattle.cf_answers.specs.declared.status.Status.{Status}
use Rattle.cf_answers.specs.declared.status.Status.TheVariants.{FileFault}
use Rattle.cf_answers.specs.Statuses.{was_refused, was_unbegun}
use Rattle.cf_cli.specs.Doing.{Around}
use Rattle.cf_cli_headline.specs.Kept.{HasScripts, HeadlineOver}
use Rattle.cf_cli_headline.proofs.Telling.{watched_headline}
use Rattle.cf_cli_words.specs.Wording.{ArePlainPeers, DoesAsked, GreetsWanting, HeadlineOverTape, HeadlineOverWires, UsesNewTape, UsesNewWires}
use Rattle.cf_input.specs.Words.{most_turns}
use Rattle.cf_input.specs.declared.words.Command.TheVariants.{Replay, Sync}
use Rattle.cf_plain.specs.Plain.{is_plain, replay_words, sync_words}
use Rattle.cf_plain.proofs.Replaying.{replay_command}
use Rattle.cf_plain.proofs.Syncing.{sync_command}
use Rattle.cf_wires.specs.Log.{Log}

-- what holds of a value that is there goes on to hold
if_there : {X : Type 0} (o : Option X) (P Q : X → Type 0) → IfSome o P → ((x : X) → o ≡ Some x → P x → Q x) → IfSome o Q
if_there (Some x) P Q is on = on x refl is
if_there None P Q is on = tt

refused_unbegun : (status : Status) → was_refused status ≡ true → was_unbegun status false ≡ true
refused_unbegun FileFault is = refl
refused_unbegun status is = is

-- wires that tell what they told before, when nothing had passed
none_passed : (status : Status) (before after : Around) (log : Log) → UsesNewWires status before after
    → after.wires.log ≡ Some log
    → was_refused status ≡ true → log ≡ []
none_passed status before after log uses is refused =
    let same = uses.stays (refused_unbegun status refused) in
    subst (λ (o : Option Log). IfSome o (λ l. l ≡ [])) (sym (ap (λ w. w.log) same) ∙ is) uses.fresh

pub sync_headline : (program watch : List ℕ) (peers scripts : List (List ℕ)) (status : Status) (moment : ℤ) (nonce : ℕ)
    (before after : Around) → DoesAsked (sync_words program watch peers) status moment nonce before after
    → UsesNewWires status before after → is_plain watch ≡ true → ArePlainPeers peers
    → HasScripts before.files watch scripts → HeadlineOverWires status scripts before after
sync_headline program watch peers scripts status moment nonce before after does uses plain are has =
    let done = does (Sync most_turns 4 None watch peers)
    (sync_command program watch peers plain are.plain are.names) in
    if_there after.wires.log _ (λ log. GreetsWanting status log
    → HeadlineOver status scripts before.written after.written log) done.kept
    (λ log is kept wanting. watched_headline status false before.files watch scripts peers before.written after.written
    log kept
    (record { refused = λ refused no. none_passed status before after log uses is refused; greeted = wanting }) has)

pub replay_headline : (program watch session : List ℕ) (scripts : List (List ℕ)) (status : Status) (moment : ℤ)
    (nonce : ℕ) (before after : Around)
    → DoesAsked (replay_words program watch session) status moment nonce before after
    → UsesNewTape status before after → is_plain watch ≡ true → is_plain session ≡ true
    → HasScripts before.files watch scripts → HeadlineOverTape status scripts before after
replay_headline program watch session scripts status moment nonce before after does uses one two has wanting =
    let done = (does (Replay false false watch session) (replay_command program watch session one two)).replayed in
    watched_headline status false before.files watch scripts done.0 before.written after.written after.taped done.1
    (record { refused = λ refused no. uses.stays refused ∙ uses.fresh; greeted = wanting }) has
