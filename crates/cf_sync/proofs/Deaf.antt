-- What a peer says that isn't connected doesn't count.
use Rattle.std.proofs.Common.{◌≡◌, ℕ, List, [], ◌∷◌, ◌++◌, Option, Some, None, Ok, Err, Bool, false, if◌then◌else◌, refl, ◌∙◌, ap}
use Rattle.std.specs.Prelude.{◌&&◌, is_none}
use Rattle.cf_frame.specs.declared.frame.Frame.{Frame}
use Rattle.cf_frame.specs.declared.frame.FrameFault.{FrameFault}
use Rattle.cf_frame.specs.Stream.{read_stream}
use Rattle.cf_msg.specs.Reading.{message_of}
use Rattle.cf_peer.specs.Trail.{Trail, Part, Said, heard_part, hears, hears_fault, item_of, item_of_read, is_connected}
use Rattle.cf_peer.specs.Asking.{counted, verdict}

item_on : (f : Frame) (t : Trail) → is_connected (item_of f ∷ t) ≡ is_connected t
item_on f t = elim (message_of f) as (λ r. is_connected (item_of_read r ∷ t) ≡ is_connected t) [ Ok m ↦ refl | Err e ↦ refl ]

item_deaf : (f : Frame) (t : Trail) → is_connected t ≡ false → counted (item_of f ∷ t) ≡ counted t
item_deaf f t off = elim (message_of f) as (λ r. counted (item_of_read r ∷ t) ≡ counted t) [
  | Ok m ↦ ap (λ (b : Bool). if b && is_none (verdict (Said m ∷ t)) then Said m ∷ counted t else counted t) off
  | Err e ↦ refl
]

hears_on : (fs : List Frame) (t : Trail) → is_connected (hears fs t) ≡ is_connected t
hears_on [] t = refl
hears_on (f ∷ fs) t = hears_on fs (item_of f ∷ t) ∙ item_on f t

hears_deaf : (fs : List Frame) (t : Trail) → is_connected t ≡ false → counted (hears fs t) ≡ counted t
hears_deaf [] t off = refl
hears_deaf (f ∷ fs) t off = hears_deaf fs (item_of f ∷ t) (item_on f t ∙ off) ∙ item_deaf f t off

fault_on : (o : Option FrameFault) (t : Trail) → (is_connected (hears_fault o t) ≡ is_connected t) × (counted (hears_fault o t) ≡ counted t)
fault_on None t = (refl, refl)
fault_on (Some fault) t = (refl, refl)

pub heard_on : (piece : List ℕ) (part : Part) → is_connected (heard_part piece part).trail ≡ is_connected part.trail
heard_on piece part = (let r = read_stream (part.waits ++ piece) in (fault_on r.fault (hears r.frames part.trail)).0 ∙ hears_on r.frames part.trail)

pub heard_deaf : (piece : List ℕ) (part : Part) → is_connected part.trail ≡ false → counted (heard_part piece part).trail ≡ counted part.trail
heard_deaf piece part off = (let r = read_stream (part.waits ++ piece) in (fault_on r.fault (hears r.frames part.trail)).1 ∙ hears_deaf r.frames part.trail off)
