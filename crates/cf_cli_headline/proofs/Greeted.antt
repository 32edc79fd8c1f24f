-- In an orderly run each connected peer was sent the client's version before a delivery was taken.
use Rattle.std.proofs.Common.{◌≡◌, List, [], ◌∷◌, true, false, Bool, ◌||◌, refl, sym, ap, ◌∙◌}
use Rattle.cf_msg.specs.declared.msg.Msg.{Msg}
use Rattle.cf_msg.specs.declared.msg.Msg.TheVariants.{Version}
use Rattle.cf_msg.specs.Message.{is_version}
use Rattle.cf_peer.specs.Trail.{Trail, is_greeted, trail, IsClientVersion}
use Rattle.cf_place.specs.Standing.{IsGreetedBy}
use Rattle.cf_run.specs.Run.{WasOrderly}
use Rattle.cf_sync.specs.Honesty.{messages_asked}
use Rattle.cf_wires.specs.declared.event.Event.TheVariants.{Dialled, NotDialled, Sent, SendFailed, Closed, Took}
use Rattle.cf_wires.specs.Log.{Log}
use Rattle.cf_headline.specs.Grounds.{WereGreeted}
use Rattle.cf_headline.proofs.Timely.{seen_after, seen_greeted}

seen_stays : (ms : List Msg) → seen_after true ms ≡ true
seen_stays [] = refl
seen_stays (m ∷ ms) = ap (λ b. seen_after b ms) (either (is_version m)) ∙ seen_stays ms where
  either : (b : Bool) → (b || true) ≡ true
  either true = refl
  either false = refl

client_version : (m : Msg) → IsClientVersion m → is_version m ≡ true
client_version (Version version services time to from nonce agent height relay) is = refl
client_version m is = absurd is

greeted_first : (ms : List Msg) → IsGreetedBy ms → seen_after false ms ≡ true
greeted_first [] is = absurd is
greeted_first (m ∷ ms) is = ap (λ b. seen_after (b || false) ms) (client_version m is.0) ∙ seen_stays ms

greeted_by : (t : Trail) → IsGreetedBy (messages_asked t) → is_greeted t ≡ true
greeted_by t is = sym (seen_greeted t) ∙ greeted_first (messages_asked t) is

pub orderly_greeted : (log : Log) → WasOrderly log → WereGreeted log
orderly_greeted [] was = tt
orderly_greeted (Dialled p name ∷ log) was = orderly_greeted log was
orderly_greeted (NotDialled p name ∷ log) was = orderly_greeted log was
orderly_greeted (Sent p bytes ∷ log) was = orderly_greeted log was
orderly_greeted (SendFailed p ∷ log) was = orderly_greeted log was.1
orderly_greeted (Closed p ∷ log) was = orderly_greeted log was.1
orderly_greeted (Took d ∷ log) was =
    ((λ p on. greeted_by (trail log p) (was.0.answered p on).greeted), orderly_greeted log was.1)
