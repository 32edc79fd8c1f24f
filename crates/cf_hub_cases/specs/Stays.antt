-- machine: what a call over a hub leaves as it was.
use Rattle.std.specs.Prelude.{◌≡◌}
use Rattle.cf_bytes.specs.declared.outside.Sink.{Ghosts as OfSink}
use Rattle.cf_outside.specs.declared.outside.Dialer.{Ghosts as OfDialer}
use Rattle.cf_outside.specs.declared.outside.Writer.{Ghosts as OfWriter}
use Rattle.cf_hub.specs.declared.hub.Hub.{Hub}
use Rattle.cf_hub.specs.Book.{told_of}

module _ {D P R S W : Type 0} {d : OfDialer D S W} {w : OfWriter W} {k : OfSink W} where
  -- a call that only takes deliveries: it finishes nothing, and leaves the tasks that read and tick, and the writers
  pub record OnlyHears (h h' : Hub D P R S W d w k) : Type 0 where
    pub finished : (told_of h'.book).finished ≡ (told_of h.book).finished
    pub reading : h'.reading ≡ h.reading
    pub ticking : h'.ticking ≡ h.ticking
    pub writers : h'.writers ≡ h.writers

  -- a call that only sends: it finishes nothing, and leaves the tasks that read and tick
  pub record OnlySends (h h' : Hub D P R S W d w k) : Type 0 where
    pub finished : (told_of h'.book).finished ≡ (told_of h.book).finished
    pub reading : h'.reading ≡ h.reading
    pub ticking : h'.ticking ≡ h.ticking
