-- Between two calls of the client no connected peer deserves a cause, and each has what is owed to it.
use Rattle.std.proofs.Common.{◌≡◌, inl, inr, ℕ, ◌≤◌, Some, None, Bool, true, false, refl, sym, ◌∙◌, ap, arith}
use Rattle.std.specs.Prelude.{not, ◌&&◌, ◌||◌, nat_le}
use Rattle.std.proofs.lemmas.Bool.{cases_Bool, both_ways, false≢true, and_parts}
use Rattle.std.proofs.lemmas.Bool.Decides.{nat_tests}
use Rattle.cf_headers.specs.declared.store.HeaderStore.{Ghosts}
use Rattle.cf_match.specs.declared.matcher.Matcher.{Ghosts as Judges}
use Rattle.cf_peer.specs.declared.mode.Mode.{Mode}
use Rattle.cf_peer.specs.declared.peer.Cause.{Cause}
use Rattle.cf_peer.specs.declared.peer.Peer.{Peer}
use Rattle.cf_wires.specs.Log.{Log}
use Rattle.cf_peer.specs.Trail.{Trail, Part, part_of, is_connected, ready, has_failed}
use Rattle.cf_peer.specs.Asking.{OpenRequest, NothingOpen, HeadersOpen, ClaimsOpen, FiltersOpen, BlockOpen, PingOpen, request, is_idle as idle_request, is_open, age, Deserves}
use Rattle.cf_peer.specs.Peer.{Holds, aged, age_in, calm}
use Rattle.cf_sync.proofs.Omitted.{off_unfailed}
use Rattle.cf_client.specs.declared.client.Client.{Client}
use Rattle.cf_place.specs.declared.place.Place.{Place}
use Rattle.cf_place.specs.declared.place.Place.TheVariants.{Here, Lost as LostPlace}
use Rattle.cf_place.specs.Places.{Fits, place_at, is_settled, is_calm, is_wanting}
use Rattle.cf_place.specs.Standing.{IsAnswered}
use Rattle.cf_client.specs.Stands.{Reflects}
use Rattle.cf_client.specs.Blameless.{IsInnocent, AreAnswered}

-- what is open has the age that is kept with it
aged_is : (r : OpenRequest) (n : ℕ) → idle_request r ≡ false → age_in (aged r n) ≡ n
aged_is NothingOpen n is = absurd (false≢true (sym is))
aged_is HeadersOpen n is = refl
aged_is (ClaimsOpen stop parent blocks) n is = refl
aged_is (FiltersOpen left came) n is = refl
aged_is (BlockOpen block) n is = refl
aged_is (PingOpen number) n is = refl

open_parts : (c rd i : Bool) → (c && (not rd || not i)) ≡ true → rd ≡ true → i ≡ false
open_parts true true false h is = refl
open_parts true true true h is = absurd (false≢true h)
open_parts true false i h is = absurd (false≢true is)
open_parts false rd i h is = absurd (false≢true h)

age_kept : (peer : Peer) (t : Trail) → Holds peer t → is_open t ≡ true → age_in peer.request ≡ age t
age_kept peer t h is = elim (cases_Bool (ready t)) [
  | inl over ↦ ap age_in h.open_one ∙ rw over (aged_is (request t) (age t) (open_parts (is_connected t) (ready t) (idle_request (request t)) is over))
  | inr not_yet ↦ ap age_in h.open_one ∙ rw not_yet refl
]

calm_young : (n : ℕ) → not (nat_le 60 n) ≡ true → 60 ≤ n → ⊥
calm_young n is le = absurd (grind (arith, nat_tests, is, le))

peer_innocent : (peer : Peer) (t : Trail) (cause : Cause) → Holds peer t → calm peer ≡ true → Deserves t cause → ⊥
peer_innocent peer t cause h is (inl words) = (let e : None ≡ Some cause = sym h.clean ∙ words.1 in cc)
peer_innocent peer t cause h is (inr (inl fault)) = both_ways (has_failed t) (off_unfailed t h.on) fault.1
peer_innocent peer t cause h is (inr (inr late)) = calm_young (age_in peer.request) is (omega (arith, age_kept peer t h late.1, late.2))

pub settled_calm : (mode : Mode) (place : Place) → is_settled mode place ≡ true → is_calm place ≡ true
settled_calm mode place h = (and_parts (is_calm place) (not (is_wanting mode place)) h).0

place_innocent : (place : Place) (part : Part) (cause : Cause) → Fits place part → is_calm place ≡ true → is_connected part.trail ≡ true → Deserves part.trail cause → ⊥
place_innocent (Here peer) part cause fits is on deserves = peer_innocent peer part.trail cause fits.holds is deserves
place_innocent (LostPlace end) part cause lost is on deserves = both_ways (is_connected part.trail) lost.off on

pub innocent : {H M : Type 0} {g : Ghosts H} {j : Judges M} (c : Client H M g j) (log : Log) → Reflects c log → IsInnocent log
innocent c log reflects = λ p on cause deserves.
    place_innocent (place_at c.places.items p) (part_of log p) cause (reflects.places.each p) (settled_calm c.mode (place_at c.places.items p) ((c.settled reflects.alive).each p)) on deserves

place_answered : (place : Place) (part : Part) → Fits place part → is_connected part.trail ≡ true → IsAnswered part.trail
place_answered (Here peer) part keeps on = keeps.answered
place_answered (LostPlace end) part lost on = absurd (both_ways (is_connected part.trail) lost.off on)

pub answered : {H M : Type 0} {g : Ghosts H} {j : Judges M} (c : Client H M g j) (log : Log) → Reflects c log → AreAnswered log
answered c log reflects = λ p on. place_answered (place_at c.places.items p) (part_of log p) (reflects.places.each p) on
