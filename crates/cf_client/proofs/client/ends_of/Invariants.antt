use Rattle.std.proofs.Common.{◌≡◌, map, take}
use Rattle.cf_place.specs.Places.{end_of}
use Rattle.cf_client.proofs.client.ends_of.Given as goal

abbrev pub invariant-loop-place : goal.invariant-loop-place
invariant-loop-place l = l.ends.items ≡ map end_of (take l.place-index l.places)
