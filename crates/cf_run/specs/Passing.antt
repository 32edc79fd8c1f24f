-- machine: what a step leaves of the client and of its wires, and what a whole run leaves of them.
use Rattle.std.specs.Prelude.{◌≡◌, ℕ, ◌≤◌, Bool, List, Option, Result, OnOk, OnErr}
use Rattle.cf_headers.specs.declared.store.HeaderStore.{Ghosts}
use Rattle.cf_match.specs.declared.matcher.Matcher.{Ghosts as Judges}
use Rattle.cf_wires.specs.Log.{Told}
use Rattle.cf_wires.specs.Wires.{Made}
use Rattle.cf_client.specs.declared.client.Client.{Client}
use Rattle.cf_place.specs.Standing.{Greeting}
use Rattle.cf_run.specs.Run.{Course, HasDialled, IsRight}
use Rattle.cf_run.specs.Versions.{HasGreeting, KeepsGreeting}
use Rattle.cf_client.specs.Stands.{rule_by, greeting_by}

-- what a client goes by and tells, over a step that is answered so: its rule stays where the step is done, and its greeting in any case
pub record KeepsTerms {A E H M : Type 0} {g : Ghosts H} {j : Judges M} (result : Result A E) (c d : Client H M g j) : Type 0 where
  pub rule : OnOk result (rule_by d ≡ rule_by c)
  pub greeting : greeting_by d ≡ greeting_by c

-- a step of this client that is answered so, from one state of the wires to a later one: no version was sent that tells another greeting; and where it
-- ends early, all that has passed was right
pub record StaysRight {A E H M : Type 0} {g : Ghosts H} {j : Judges M} (result : Result A E) (c : Client H M g j) (t u : Told) : Type 0 where
  pub right : OnErr result (IsRight (rule_by c).mode u)
  pub versions : KeepsGreeting (greeting_by c) t u

-- a run over new wires, whatever was answered: the versions that were sent tell this greeting, the first of the names were dialled, and no more deliveries were
-- taken than it has turns
pub record Passes {W : Type 0} (told : W → Told) (faults : W → ℕ) (script : W → Option Made) (keeps : W → Bool)
    (greeting : Greeting) (names : List (List ℕ))
    (turns : ℕ) (before after : W) : Type 0 where
  pub versions : HasGreeting greeting (told after)
  pub first : HasDialled names (told after)
  pub most : (told after).tally.taken ≤ turns
  pub once : (told after).tally.ended ≤ 1
  pub finished : (told after).finished ≡ (told before).finished
  pub kept : keeps after ≡ keeps before
  pub course : Course (told before) (told after) (faults before) (faults after) (script before) (script after)
