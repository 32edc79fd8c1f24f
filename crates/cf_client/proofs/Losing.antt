-- How a peer was lost, and what leaves that as it was.
use Rattle.std.proofs.Common.{◌≡◌, inl, inr, [], ◌∷◌, Bool, true, false, ℕ, refl, ◌∙◌, ap}
use Rattle.std.specs.Prelude.{◌||◌}
use Rattle.std.proofs.lemmas.Bool.{both_ways}
use Rattle.cf_msg.specs.declared.msg.Msg.{Msg}
use Rattle.cf_wires.specs.declared.event.Mark.{Mark}
use Rattle.cf_wires.specs.declared.event.Mark.TheVariants as mark
use Rattle.cf_peer.specs.declared.peer.Cause.{Cause}
use Rattle.cf_peer.specs.declared.peer.Cause.TheVariants.{SendFailed}
use Rattle.cf_peer.specs.Trail.{Trail, Said, Refused, Passed, Lost, is_connected, has_failed, is_failing}
use Rattle.cf_peer.specs.Asking.{Deserves}
use Rattle.cf_sync.specs.Honesty.{was_called}
use Rattle.cf_sync.proofs.Omitted.{off_unfailed}
use Rattle.cf_place.specs.declared.place.Loss.{Loss}
use Rattle.cf_place.specs.declared.place.Loss.TheVariants.{NotDialled, Gone, Closed as ClosedFor}
use Rattle.cf_place.specs.Standing.{FirstLost, IsGoing, IsShutFor, LostBy, IsLost}

by_on : (loss : Loss) (t u : Trail) → was_called u ≡ was_called t → has_failed u ≡ has_failed t → ((P : Mark → Trail → Type 0) → FirstLost P t → FirstLost P u) → LostBy loss t → LostBy loss u
by_on NotDialled t u called fails first by = (called ∙ by.0, fails ∙ by.1)
by_on Gone t u called fails first by = (fails ∙ by.0, first IsGoing by.1)
by_on (ClosedFor cause) t u called fails first (inl send) = inl (send.0, fails ∙ send.1)
by_on (ClosedFor cause) t u called fails first (inr shut) = inr (fails ∙ shut.0, first (IsShutFor cause) shut.1)

-- one more item of a peer that is lost
pub lost_said : (loss : Loss) (m : Msg) (t : Trail) → IsLost loss t → IsLost loss (Said m ∷ t)
lost_said loss m t lost = record { off = lost.off; by = by_on loss t (Said m ∷ t) refl refl (λ P h. h) lost.by }

pub lost_refused : (loss : Loss) (c : Cause) (t : Trail) → IsLost loss t → IsLost loss (Refused c ∷ t)
lost_refused loss c t lost = record { off = lost.off; by = by_on loss t (Refused c ∷ t) refl refl (λ P h. h) lost.by }

pub lost_passed : (loss : Loss) (s : ℕ) (t : Trail) → IsLost loss t → IsLost loss (Passed s ∷ t)
lost_passed loss s t lost = record { off = lost.off; by = by_on loss t (Passed s ∷ t) refl refl (λ P h. h) lost.by }

pub lost_again : (loss : Loss) (m : Mark) (t : Trail) → is_failing m ≡ false → IsLost loss t → IsLost loss (Lost m ∷ t)
lost_again loss m t fine lost = record {
  off = refl;
  by = by_on loss t (Lost m ∷ t) refl (ap (λ (x : Bool). x || has_failed t) fine) (λ P h. inr (lost.off, h)) lost.by;
}

-- a connected peer is lost
pub goes_now : (t : Trail) → is_connected t ≡ true → IsLost Gone (Lost mark.Gone ∷ t)
goes_now t on = record { off = refl; by = (off_unfailed t on, inl (on, tt)) }

pub shut_now : (t : Trail) (cause : Cause) → is_connected t ≡ true → Deserves t cause → IsLost (ClosedFor cause) (Lost mark.Closed ∷ t)
shut_now t cause on deserves = record { off = refl; by = inr (off_unfailed t on, inl (on, inr deserves)) }

-- one is closed to which a send has failed
pub cut_now : (t : Trail) → has_failed t ≡ true → IsLost (ClosedFor SendFailed) (Lost mark.Closed ∷ t)
cut_now t broken = record { off = refl; by = inl (refl, broken) }

-- nothing has passed
pub lost_never : IsLost NotDialled []
lost_never = record { off = refl; by = (refl, refl) }

-- a failed send tells how a peer was lost
pub lost_failed : (loss : Loss) (t u : Trail) → has_failed t ≡ true → has_failed u ≡ true → is_connected u ≡ false → IsLost loss t → IsLost loss u
lost_failed loss t u before now off lost = record { off = off; by = by_failed loss t u before now lost.by } where
  by_failed : (loss : Loss) (t u : Trail) → has_failed t ≡ true → has_failed u ≡ true → LostBy loss t → LostBy loss u
  by_failed NotDialled t u before now by = absurd (both_ways (has_failed t) by.1 before)
  by_failed Gone t u before now by = absurd (both_ways (has_failed t) by.0 before)
  by_failed (ClosedFor cause) t u before now (inl send) = inl (send.0, now)
  by_failed (ClosedFor cause) t u before now (inr shut) = absurd (both_ways (has_failed t) shut.0 before)
