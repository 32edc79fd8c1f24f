-- The part of the peer that an entry names, and any other part.
use Rattle.std.proofs.Common.{◌≡◌, Bool, true, false, if◌then◌else◌, refl}
use Rattle.cf_peer.specs.Trail.{Part}

pub at_either : (P : Part → Type 0) (b : Bool) (here other : Part) → (b ≡ true → P here) → (b ≡ false → P other) → P (if b then here else other)
at_either P true here other on off = on refl
at_either P false here other on off = off refl
