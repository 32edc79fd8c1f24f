-- What is known of each block that was refused lately.
use Rattle.std.proofs.Common.{◌≡◌, ℕ, zero, suc, ◌<◌, List, [], ◌∷◌, ◌++◌, length, take, get_or, sym, subst, arith}
use Rattle.std.specs.List.{AllByRecursion}
use Rattle.cf_frame.specs.declared.frame.Frame.{Frame}

-- what is so of each is so of the one at a place
pub all_in : (Is : Frame → Type 0) (fs : List Frame) (i : ℕ) (d : Frame) → i < length fs → AllByRecursion Is fs → Is (get_or fs i d)
all_in Is [] i d lt all = absurd (omega (arith, lt))
all_in Is (f ∷ fs) zero d lt all = all.0
all_in Is (f ∷ fs) (suc i) d lt all = all_in Is fs i d (omega (arith, lt)) all.1

-- and of one more
pub all_more : (Is : Frame → Type 0) (fs : List Frame) (f : Frame) → AllByRecursion Is fs → Is f → AllByRecursion Is (fs ++ f ∷ [])
all_more Is [] f all is = (is, tt)
all_more Is (g ∷ fs) f all is = (all.0, all_more Is fs f all.1 is)
