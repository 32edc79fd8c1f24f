-- What holds of a peer by the planned log holds of it by one in which its part is alike.
use Rattle.std.proofs.Common.{◌≡◌, inl, inr, ℕ, true, false, refl, sym, ap, subst}
use Rattle.std.proofs.lemmas.Bool.{both_ways}
use Rattle.cf_peer.specs.declared.peer.Cause.{Cause}
use Rattle.cf_wires.specs.Log.{Log}
use Rattle.cf_peer.specs.Trail.{Trail, Part, part_of, trail, is_connected, has_failed}
use Rattle.cf_peer.specs.Asking.{is_open, Deserves}
use Rattle.cf_sync.specs.Fetching.{DeservesIn, IsOmitting, IsSameFetched, IsTested}
use Rattle.cf_match.specs.declared.job.Job.{Job}
use Rattle.cf_sync.proofs.Plans.{omits_alike, off_omits_nothing}
use Rattle.cf_holds.specs.Known.{OpensAt, claims_kept}
use Rattle.cf_sync.specs.Planned.{Alike}
use Rattle.cf_hear.specs.Tracks.{chain_kept}
use Rattle.cf_hear.proofs.Opening.{closes_off}
use Rattle.cf_holds.proofs.KeptOpens.{opens_closed}
use Rattle.cf_seek.specs.Opens.{Opens}
use Rattle.cf_place.specs.declared.place.Place.{Place}
use Rattle.cf_place.specs.declared.place.Place.TheVariants.{Here, Lost as LostPlace}
use Rattle.cf_place.specs.Places.{Fits}
use Rattle.cf_place.specs.Standing.{IsReplied, IsRepliedFirst, IsRepliedIn}
use Rattle.cf_client.proofs.Losing.{lost_failed}

pub deserved : (t u : Part) (cause : Cause) → Alike t u → Deserves t.trail cause → Deserves u.trail cause
deserved t u cause (inl same) h = subst (λ (x : Part). Deserves x.trail cause) same h
deserved t u cause (inr off) (inl words) = absurd (both_ways (is_connected t.trail) off.0 words.0)
deserved t u cause (inr off) (inr (inl fault)) = inr (inl (fault.0, off.3))
deserved t u cause (inr off) (inr (inr late)) = absurd (both_ways (is_open t.trail) (rw off.0 refl) late.1)

-- who is cut off deserves a close for a failed send alone
pub deserved_off : (t u : Trail) (cause : Cause) → is_connected t ≡ false → has_failed u ≡ true → Deserves t cause → Deserves u cause
deserved_off t u cause off broken (inl words) = absurd (both_ways (is_connected t) off words.0)
deserved_off t u cause off broken (inr (inl fault)) = inr (inl (fault.0, broken))
deserved_off t u cause off broken (inr (inr late)) = absurd (both_ways (is_open t) (rw off refl) late.1)

pub failed_off : (t : Trail) (cause : Cause) → is_connected t ≡ false → Deserves t cause → has_failed t ≡ true
failed_off t cause off (inl words) = absurd (both_ways (is_connected t) off words.0)
failed_off t cause off (inr (inl fault)) = fault.1
failed_off t cause off (inr (inr late)) = absurd (both_ways (is_open t) (rw off refl) late.1)

pub deserved_in : (planned log : Log) (p : ℕ) (cause : Cause) → Alike (part_of planned p) (part_of log p) → IsSameFetched planned log → ((job : Job) → IsTested planned job → IsTested log job)
    → DeservesIn planned p cause → DeservesIn log p cause
deserved_in planned log p cause alike brought tests (inl d) = inl (deserved (part_of planned p) (part_of log p) cause alike d)
deserved_in planned log p cause alike brought tests (inr o) = inr (o.0, omits_alike planned log p alike brought tests o.1)

pub deserved_in_off : (planned log : Log) (p : ℕ) (cause : Cause) → is_connected (trail planned p) ≡ false → has_failed (trail log p) ≡ true → DeservesIn planned p cause → DeservesIn log p cause
deserved_in_off planned log p cause off broken (inl d) = inl (deserved_off (trail planned p) (trail log p) cause off broken d)
deserved_in_off planned log p cause off broken (inr o) = absurd (off_omits_nothing planned p off o.1)

pub failed_in_off : (planned : Log) (p : ℕ) (cause : Cause) → DeservesIn planned p cause → is_connected (trail planned p) ≡ false → has_failed (trail planned p) ≡ true
failed_in_off planned p cause (inl d) off = failed_off (trail planned p) cause off d
failed_in_off planned p cause (inr o) off = absurd (off_omits_nothing planned p off o.1)

pub replied_alike : (t u : Part) → Alike t u → IsReplied t.trail → IsReplied u.trail
replied_alike t u (inl same) h = subst (λ (x : Part). IsReplied x.trail) same h
replied_alike t u (inr off) h = λ sound. absurd (both_ways (has_failed u.trail) sound off.3)

pub first_alike : (t u : Part) → Alike t u → IsRepliedFirst t.trail → IsRepliedFirst u.trail
first_alike t u (inl same) h = subst (λ (x : Part). IsRepliedFirst x.trail) same h
first_alike t u (inr off) h = λ sound. absurd (both_ways (has_failed u.trail) sound off.3)

pub replied_in : (planned log : Log) (p : ℕ) → Alike (part_of planned p) (part_of log p) → IsSameFetched planned log → ((job : Job) → IsTested planned job → IsTested log job)
    → IsRepliedIn planned p → IsRepliedIn log p
replied_in planned log p alike brought tests (inl all) = inl (replied_alike (part_of planned p) (part_of log p) alike all)
replied_in planned log p alike brought tests (inr o) = inr (omits_alike planned log p alike brought tests o.0, first_alike (part_of planned p) (part_of log p) alike o.1)

-- who omits something does by the plan
pub alike_back : (t u : Part) → Alike t u → Alike u t
alike_back t u (inl same) = inl (sym same)
alike_back t u (inr off) = inr (off.1, off.0, off.3, off.2, sym off.4, sym off.5)

pub omits_planned : (planned log : Log) (p : ℕ) → Alike (part_of planned p) (part_of log p) → IsSameFetched planned log
    → ((job : Job) → IsTested log job → IsTested planned job) → IsOmitting log p → IsOmitting planned p
omits_planned planned log p alike brought tests omits =
    omits_alike log planned p (alike_back (part_of planned p) (part_of log p) alike) (λ q. sym (brought q)) tests omits

pub fits_alike : (place : Place) (t u : Part) → Alike t u → Fits place t → Fits place u
fits_alike place t u (inl same) fits = subst (λ (x : Part). Fits place x) same fits
fits_alike (Here peer) t u (inr off) fits = absurd (both_ways (is_connected t.trail) off.0 fits.holds.on)
fits_alike (LostPlace loss) t u (inr off) fits = lost_failed loss t.trail u.trail off.2 off.3 off.1 fits

pub chain_alike : (t u : Part) → Alike t u → chain_kept t.trail ≡ chain_kept u.trail
chain_alike t u (inl same) = ap (λ (x : Part). chain_kept x.trail) same
chain_alike t u (inr off) = rw (off.0, off.1) refl

pub claims_alike : (t u : Part) → Alike t u → claims_kept t.trail ≡ claims_kept u.trail
claims_alike t u (inl same) = ap (λ (x : Part). claims_kept x.trail) same
claims_alike t u (inr off) = rw (off.0, off.1) refl

pub opens_alike : (opens : Opens) (q : ℕ) (t u : Part) → Alike t u → OpensAt opens q t.trail → OpensAt opens q u.trail
opens_alike opens q t u (inl same) at = subst (λ (x : Part). OpensAt opens q x.trail) same at
opens_alike opens q t u (inr off) at =
    opens_closed opens opens q u.trail (closes_off opens q t.trail at off.0) (λ on. absurd (both_ways (is_connected u.trail) off.1 on))
