use Rattle.std.proofs.Common.{◌≡◌, List, [], ◌∷◌, ◌++◌, rules, ◌∙◌, ap, refl, arith}
use Rattle.cf_bytes.specs.declared.hash.Hash32.{Hash32}
use Rattle.cf_client.proofs.Asking.{filters_sendable}
use Rattle.cf_client.proofs.Steps.{sent_is}
use Rattle.cf_client.proofs.ask.ask_for_test.Goals as goal

pub returns-in-Here : goal.returns-in-Here
returns-in-Here c =
    let blocks : c.push.new.self ≡ c.args.trial.block ∷ [] =
    c.in_ok-push.ensures.ok ∙ ap (λ (bs : List Hash32). bs ++ c.args.trial.block ∷ []) c.new-blocks.ensures in
    sent_is c.args.places.now c.args.i c.index-places-i.result c.in-Here.peer c.requires.here c.in-Here.is c.requires.idle
    (filters_sendable c.args.trial.height c.args.trial.block (omega arith) (search rules))
    (rw (c.ask_filters.ensures.asked, blocks) refl) c.in_ok-push-2.ensures.items
