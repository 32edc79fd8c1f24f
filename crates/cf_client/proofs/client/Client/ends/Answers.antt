use Rattle.std.proofs.Common.{List, map, drop, sym, ◌∙◌, ap, subst}
use Rattle.cf_place.specs.declared.place.PeerEnd.{PeerEnd}
use Rattle.cf_place.specs.declared.place.Place.{Place}
use Rattle.cf_place.specs.Places.{end_of}
use Rattle.cf_place.specs.Standing.{EndsTell}
use Rattle.cf_client.proofs.Reporting.{ends_tell}
use Rattle.cf_client.proofs.client.Client.ends.Goals as goal

pub returns-in-Ok-clause-tell : goal.returns-in-Ok-clause-tell
returns-in-Ok-clause-tell g c = λ log reflects.
    let is = c.in-Ok.ensures ∙ ap (λ (places : List Place). map end_of (drop 1 places)) c.as_slice.ensures.value in
    subst (λ (ends : List PeerEnd). EndsTell ends log) (sym is) (ends_tell c.args.self.now.places.items log reflects.places)
