-- What is told of how each peer stands.
use Rattle.std.proofs.Common.{◌≡◌, ℕ, Bool, true, false, List, length, Option, Some, None, inl, inr, refl, sym, subst}
use Rattle.std.specs.Prelude.{IfSome, String}
use Rattle.std.specs.Global.{Global}
use Rattle.std.proofs.lemmas.Bool.{both_ways}
use Rattle.cf_headers.specs.Store.{Chains}
use Rattle.cf_place.specs.declared.place.PeerEnd.{PeerEnd}
use Rattle.cf_run.specs.declared.outcome.Outcome.{Outcome}
use Rattle.cf_run.specs.Names.{names_in}
use Rattle.cf_run.specs.Whole.{EndsWithin, IsOutcome}
use Rattle.cf_sync.specs.Fetching.{Rule}
use Rattle.cf_wires.specs.Log.{Log, Told}
use Rattle.cf_answers.specs.declared.status.Status.{Status}
use Rattle.cf_place.specs.Standing.{EndsTell}
use Rattle.cf_cli_client.proofs.Tallies.{all_dialled}
use Rattle.cf_cli_client.specs.Ends.{AreEndsOf, AreEndsBy, AreEndsOnce, AreEndsOver}
use Rattle.cf_answers.specs.Statuses.{is_over, was_unbegun}

-- they are put once a run is begun
pub ends_put : {made : Bool} {names : ℕ} {now : Told} {before after : List PeerEnd} (status : Status) (recorded : Bool)
    → was_unbegun status recorded ≡ false → AreEndsBy names now after → AreEndsOnce made status recorded names now before after
ends_put status recorded begun are = record {
  told = λ is. are;
  unbegun = λ is. absurd (both_ways (was_unbegun status recorded) begun is);
  either = inr are;
}

-- they stay where no run was made
pub ends_stay : {made : Bool} (status : Status) (recorded : Bool) (names : ℕ) (now : Told) (ends : List PeerEnd)
    → made ≡ false → AreEndsOnce made status recorded names now ends ends
ends_stay {made} status recorded names now ends not = record {
  told = λ is. absurd (both_ways made not is);
  unbegun = λ is. refl;
  either = inl refl;
}

-- a copy of them
copied_of : (log : Option Log) (counts : Chains → ℕ → Type 0) (rule : Rule) (wanted : Bool) (names : List (List ℕ)) (o : Outcome) (put : List PeerEnd)
    → put ≡ o.ends.items → IfSome log (IsOutcome counts rule wanted names o) → AreEndsOf log put
copied_of None counts rule wanted names o put e is = tt
copied_of (Some l) counts rule wanted names o put e is = subst (λ (xs : List PeerEnd). EndsTell xs l) (sym e) is.ends

-- which are those of a run that was made
pub copied : (now : Told) (counts : Chains → ℕ → Type 0) (rule : Rule) (wanted : Bool) (names : List (String Global)) {turns : ℕ} (o : Outcome) (put : List PeerEnd)
    → put ≡ o.ends.items → IfSome now.log (IsOutcome counts rule wanted (names_in names) o) → now.finished ≡ true
    → EndsWithin o.end (length names) turns now.tally → AreEndsBy (length (names_in names)) now put
copied now counts rule wanted names o put e is finished within = record {
  whole = record { dialled = all_dialled names within; finished = finished };
  tell = copied_of now.log counts rule wanted (names_in names) o put e is;
}

-- once it was begun, whatever becomes of its record
pub over_recorded : (status : Status) (recorded : Bool) (names : ℕ) (now : Told) (before after : List PeerEnd)
    → was_unbegun status recorded ≡ false → AreEndsOver status false names now before after
    → AreEndsOver status recorded names now before after
over_recorded status recorded names now before after begun are = record {
  told = are.told;
  unbegun = λ is. absurd (both_ways (was_unbegun status recorded) begun is);
  either = are.either;
}

pub over_failed : (status other : Status) (recorded : Bool) (names : ℕ) (now : Told) (before after : List PeerEnd)
    → is_over other ≡ false → was_unbegun other recorded ≡ false
    → AreEndsOver status false names now before after → AreEndsOver other recorded names now before after
over_failed status other recorded names now before after not begun are = record {
  told = λ is. absurd (both_ways (is_over other) not is);
  unbegun = λ is. absurd (both_ways (was_unbegun other recorded) begun is);
  either = are.either;
}
