use Rattle.std.proofs.Common.{◌≡◌, List, [], ◌∷◌, ◌++◌, length, rules, ◌∙◌, ap}
use Rattle.cf_msg.specs.declared.msg.Inventory.{Inventory}
use Rattle.cf_peer.specs.Asking.{block_entry}
use Rattle.cf_client.proofs.Asking.{fetch_is}
use Rattle.cf_client.proofs.ask.fetch.Goals as goal

pub returns : goal.returns
returns c =
    let long : length c.args.hash.0 ≡ 32 = search rules in
    fetch_is c.args.hash c.push.new.self (c.in_ok-push.ensures.ok ∙ ap (λ (es : List Inventory). es ++ block_entry c.args.hash ∷ []) c.new-entries.ensures) long
