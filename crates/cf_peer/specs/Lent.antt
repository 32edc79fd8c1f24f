-- machine: what is read of a peer's bytes, whatever follows them.
use Rattle.std.specs.Prelude.{◌≡◌, ℕ, List, ◌∷◌, ◌++◌, Option, Some, None, Ok}
use Rattle.cf_frame.specs.Reading.{front_of}
use Rattle.cf_frame.specs.Stream.{read_stream}
use Rattle.cf_frame.specs.Lending.{HasFrame, after_frame}
use Rattle.cf_lent.specs.View.{msg_of}
use Rattle.cf_peer.specs.declared.lent.Coming.{Coming}
use Rattle.cf_peer.specs.declared.lent.Coming.TheVariants as lents
use Rattle.cf_peer.specs.Trail.{Trail, Said, part_after}
use Rattle.cf_peer.specs.Asking.{verdict}
use Rattle.cf_peer.specs.Hearing.{Faulty}

-- The frame at the front, if one is whole: what it says goes to the trail, and the rest is read on, whatever follows.
abbrev pub ReadsOn : List ℕ → Option Coming → Type 0
ReadsOn old None = front_of old ≡ Ok None
ReadsOn old (Some (lents.Message v)) =
    HasFrame old
    × ((t : Trail) (more : List ℕ) → part_after (read_stream (old ++ more)) t
    ≡ part_after (read_stream (after_frame old ++ more)) (Said (msg_of v) ∷ t))
ReadsOn old (Some (lents.Fault cause)) =
    (t : Trail) (more : List ℕ) → verdict t ≡ None → Faulty t (part_after (read_stream (old ++ more)) t).trail cause
