use Rattle.std.proofs.Common.{List, map, refl, ◌∙◌, ap}
use Rattle.cf_bytes.specs.declared.hash.Hash32.{Hash32}
use Rattle.cf_headers.specs.Store.{own_of}
use Rattle.cf_tracker.specs.Tracker.{chains_of}
use Rattle.cf_client.proofs.Asking.{question_is}
use Rattle.cf_client.proofs.ask.question.Goals as goal

pub returns : goal.returns
returns g c =
    question_is (own_of (chains_of c.args.tracker.now) c.args.p) c.from_vec.result _ c.height-height.ensures.within
    (ap (λ (hashes : List Hash32). map (λ (h : Hash32). h.0) hashes) c.from_vec.ensures ∙ c.in_ok-locator.ensures) refl
