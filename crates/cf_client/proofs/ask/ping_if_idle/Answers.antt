use Rattle.std.proofs.Common.{◌<◌, ◌^◌, inl, set, sym, ◌∙◌, ap, subst, arith}
use Rattle.cf_peer.specs.declared.peer.Peer.{Peer}
use Rattle.cf_place.specs.declared.place.Place.TheVariants.{Here}
use Rattle.cf_place.specs.Places.{nobody}
use Rattle.cf_client.specs.Steps.{IsNextPing}
use Rattle.cf_client.proofs.Asking.{ping_sendable}
use Rattle.cf_client.proofs.Standing.{any_default}
use Rattle.cf_client.proofs.ask.ping_if_idle.Goals as goal

pub returns-in_ok-push : goal.returns-in_ok-push
returns-in_ok-push c =
    let places = c.args.places.now in
    let number = c.in-Some.number in
    let here = any_default places c.args.i nobody c.index-places-i.result c.requires.here ∙ c.in-Here.is in
    let asked = c.in-Some.ensures.asked in
    let few : number < 2 ^ 64 = omega arith in
    inl (
      number,
      (
        subst (IsNextPing number) (sym here) asked.0,
        record {
          sendable = ping_sendable number few;
          peer = c.in-Here.peer;
          here = here;
          idle = sym c.is_idle.ensures ∙ c.if-is_idle.true;
          kept = ap (λ (now : Peer). set places c.args.i (Here now)) asked.1;
          added = c.in_ok-push.ensures.items;
        },
      ),
    )
