use Rattle.std.proofs.Common.{◌∙◌, ap}
use Rattle.std.specs.List.{count_by}
use Rattle.cf_place.specs.Places.{is_busy}
use Rattle.cf_client.proofs.Counting.{open_is}
use Rattle.cf_client.proofs.client.Client.open_requests.Goals as goal

pub returns : goal.returns
returns g c = λ log reflects. c.count_busy.ensures ∙ ap (count_by is_busy) c.as_slice.ensures.value ∙ open_is c.args.self.now.places.items log reflects.places
