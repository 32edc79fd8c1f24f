use Rattle.std.proofs.Common.{◌≡◌, List, [], ◌∷◌, ◌++◌, None, Some, true, refl, rules, sym, ◌∙◌, ap, subst}
use Rattle.cf_tracker.specs.Seen.{seen_of}
use Rattle.cf_peer.specs.declared.mode.Mode.TheVariants.{Once}
use Rattle.cf_hear.proofs.Opening.{holds_none}
use Rattle.cf_tracker.specs.Tracker.{claims_of, opens_of, trials_of}
use Rattle.cf_place.specs.declared.place.Place.{Place}
use Rattle.cf_place.specs.Places.{PlacesStand, nobody}
use Rattle.cf_client.specs.Settled.{AreSettled, AreRight}
use Rattle.cf_client.proofs.Settled.{settled_first}
use Rattle.cf_client.proofs.Standing.{stand_first}
use Rattle.cf_sync.specs.Fetching.{once}
use Rattle.cf_holds.proofs.KeptAims.{trials_start}
use Rattle.cf_client.proofs.Rights.{right_first}
use Rattle.cf_client.proofs.client.Client.new.Goals as goal

pub invariant_of-result-clause-settled : goal.invariant_of-result-clause-settled
invariant_of-result-clause-settled g c = λ alive.
    let one : c.push.new.self.items ≡ nobody ∷ [] = c.in_ok-push.ensures.items ∙ ap (λ (places : List Place). places ++ nobody ∷ []) c.new-places.ensures.items in
    subst (λ (places : List Place). AreSettled Once places (seen_of c.in_ok-tracker.tracker)) (sym {A = List Place} one) (settled_first Once (seen_of c.in_ok-tracker.tracker) c.in_ok-tracker.ensures.chains)

pub invariant_of-result-clause-right : goal.invariant_of-result-clause-right
invariant_of-result-clause-right g c = λ alive.
    let one : c.push.new.self.items ≡ nobody ∷ [] = c.in_ok-push.ensures.items ∙ ap (λ (places : List Place). places ++ nobody ∷ []) c.new-places.ensures.items in
    subst (λ (places : List Place). ∥ AreRight places (claims_of c.in_ok-tracker.tracker) ∥₁) (sym {A = List Place} one) ∣ right_first (claims_of c.in_ok-tracker.tracker) ∣₁

pub returns-clause-reflects : goal.returns-clause-reflects
returns-clause-reflects g c = record {
  alive = refl;
  places =
      let one : c.push.new.self.items ≡ nobody ∷ [] = c.in_ok-push.ensures.items ∙ ap (λ (places : List Place). places ++ nobody ∷ []) c.new-places.ensures.items in
      subst (λ (places : List Place). PlacesStand places []) (sym {A = List Place} one) stand_first;
  tracks = record {
    kept = search rules;
    claimed = search rules;
    fetched = search rules;
    given = search rules;
    opened = holds_none (opens_of c.in_ok-tracker.tracker) c.in_ok-tracker.ensures.filters c.in_ok-tracker.ensures.blocks;
    trials = trials_start (trials_of c.in_ok-tracker.tracker) c.in_ok-tracker.ensures.paid c.in_ok-tracker.ensures.told;
  };
  unexposed = λ q at of e. (let no : None ≡ Some true = sym (c.in_ok-tracker.ensures.told at of) ∙ e.found in cc no);
}

pub returns-clause-rule : goal.returns-clause-rule
returns-clause-rule g c = ap once c.in_ok-tracker.ensures.watch
