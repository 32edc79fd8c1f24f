-- What becomes of the wires.
use Rattle.std.proofs.Common.{◌≡◌, ℕ, ℤ, Bool, List, refl, subst}
use Rattle.cf_place.specs.Standing.{Greeting}
use Rattle.cf_run.specs.Whole.{AreNewWires}
use Rattle.cf_run.proofs.Versions.{new_greeting}
use Rattle.cf_wires.specs.Log.{Told}
use Rattle.cf_answers.specs.declared.status.Status.{Status}
use Rattle.cf_cli_client.specs.Leaving.{RunsWires}
use Rattle.cf_cli_client.proofs.Tallies.{new_dialled, new_unfailed}

-- new wires, which no run passes
pub unrun_wires : {W : Type 0} {told : W → Told} {keeps : W → Bool} {faults : W → ℕ} {greeting : Greeting} {names : List (List ℕ)} {recorded : Bool} {status : Status} {w : W}
    → AreNewWires (told w) → RunsWires told keeps faults greeting names recorded status w w
unrun_wires {W} {told} {keeps} {faults} {greeting} {names} {recorded} {status} {w} new = record {
  dialled = new_dialled names (told w) new.log;
  versions = new_greeting greeting (told w) new.log;
  failures = new_unfailed (told w) (faults w) (faults w) new.log;
  unkept = λ off. refl;
  undialled = λ is. refl;
}

-- the same moment
pub runs_at : {W : Type 0} {told : W → Told} {keeps : W → Bool} {faults : W → ℕ} {z y : ℤ} {nonce : ℕ} {names : List (List ℕ)} {recorded : Bool} {status : Status} {before after : W}
    → z ≡ y → RunsWires told keeps faults (record { moment = z; number = nonce }) names recorded status before after
    → RunsWires told keeps faults (record { moment = y; number = nonce }) names recorded status before after
runs_at {told = told} {keeps = keeps} {faults = faults} {nonce = nonce} {names = names} {recorded = recorded} {status = status} {before = before} {after = after} =
    subst (λ (x : ℤ). RunsWires told keeps faults (record { moment = x; number = nonce }) names recorded status before after)
