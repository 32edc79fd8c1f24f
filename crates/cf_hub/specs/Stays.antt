-- machine: what a call leaves as it was, and what is counted of a hub.
use Rattle.std.specs.Prelude.{◌≡◌, ◌+◌, ◌++◌, ◌∷◌, ℕ, List, [], Option, None}
use Rattle.crossbeam_channel.specs.Claims.{view}
use Rattle.cf_bytes.specs.declared.outside.Sink.{Ghosts as OfSink}
use Rattle.cf_bytes.specs.declared.peer.PeerNo.{PeerNo}
use Rattle.cf_outside.specs.declared.outside.Dialer.{Ghosts as OfDialer}
use Rattle.cf_outside.specs.declared.outside.Writer.{Ghosts as OfWriter}
use Rattle.cf_wires.specs.declared.event.Event.TheVariants.{NotDialled}
use Rattle.cf_wires.specs.Log.{tell}
use Rattle.cf_hub.specs.declared.hub.Hub.{Hub}
use Rattle.cf_hub.specs.Book.{keeps_of, told_of}
use Rattle.cf_hub.specs.Writers.{faults_in, texts}

module _ {D P R S W : Type 0} {d : OfDialer D S W} {w : OfWriter W} {k : OfSink W} where
  -- no failure of the hub's own was counted, and the dialer stays as it was
  abbrev pub KeepsOwn : Hub D P R S W d w k → Hub D P R S W d w k → Type 0
  KeepsOwn h h' = (h'.missed ≡ h.missed) × (h'.dialer ≡ h.dialer)

  -- the threads that wait for tasks, the pulse, and the tasks that read and tick stay as they were
  abbrev pub KeepsThreads : Hub D P R S W d w k → Hub D P R S W d w k → Type 0
  KeepsThreads h h' =
      (h'.readers ≡ h.readers) × (h'.tickers ≡ h.tickers) × (h'.clock ≡ h.clock) × (h'.ticking ≡ h.ticking) × (h'.reading ≡ h.reading)

  -- nothing more was joined: the sources that were read, the pulse that was waited for, and whether all were joined stay as they were
  abbrev pub KeepsEnds : Hub D P R S W d w k → Hub D P R S W d w k → Type 0
  KeepsEnds h h' = (h'.done ≡ h.done) × (h'.rested ≡ h.rested) × (h'.joined ≡ h.joined)

  -- how often the hub itself has failed, and its writers
  abbrev pub missed_of : (W → ℕ) → Hub D P R S W d w k → ℕ
  missed_of writer_faults h = h.missed + faults_in writer_faults h.writers.items

  -- how often the hub, its dialer and its writers have failed
  abbrev pub faults_of : (D → ℕ) → (W → ℕ) → Hub D P R S W d w k → ℕ
  faults_of dialer_faults writer_faults h = dialer_faults h.dialer + missed_of writer_faults h

  -- ---- kinds of calls. What is said of all of a hub leaves out what it was made with (its runtime, its allocator and the flag that stops its
  -- threads), the senders that are spare and which last entries have come; of its queue it says the seat, which tells what was taken.

  -- a call that only notes in the book: it leaves whether the log is kept, and all but the book
  pub record OnlyNotes (h h' : Hub D P R S W d w k) : Type 0 where
    pub keeps : keeps_of h'.book ≡ keeps_of h.book
    pub seat : view h'.queue.seat ≡ view h.queue.seat
    pub own : KeepsOwn h h'
    pub threads : KeepsThreads h h'
    pub ends : KeepsEnds h h'
    pub writers : h'.writers ≡ h.writers

  -- a call that takes entries and notes them: it leaves whether the log is kept, and all but the queue and the book
  pub record OnlyTakes (h h' : Hub D P R S W d w k) : Type 0 where
    pub keeps : keeps_of h'.book ≡ keeps_of h.book
    pub own : KeepsOwn h h'
    pub threads : KeepsThreads h h'
    pub ends : KeepsEnds h h'
    pub writers : h'.writers ≡ h.writers

  -- a call that takes entries and notes none: it leaves all but the queue
  pub record OnlyPasses (h h' : Hub D P R S W d w k) : Type 0 where
    pub book : h'.book ≡ h.book
    pub own : KeepsOwn h h'
    pub threads : KeepsThreads h h'
    pub ends : KeepsEnds h h'
    pub writers : h'.writers ≡ h.writers

  -- a call that only opens a connection: it leaves all but the dialer
  pub record OnlyOpens (h h' : Hub D P R S W d w k) : Type 0 where
    pub book : h'.book ≡ h.book
    pub seat : view h'.queue.seat ≡ view h.queue.seat
    pub missed : h'.missed ≡ h.missed
    pub threads : KeepsThreads h h'
    pub ends : KeepsEnds h h'
    pub writers : h'.writers ≡ h.writers

  -- a call that only hands the pulse over: it leaves all but the pulse and its threads
  pub record OnlyStarts (h h' : Hub D P R S W d w k) : Type 0 where
    pub book : h'.book ≡ h.book
    pub seat : view h'.queue.seat ≡ view h.queue.seat
    pub own : KeepsOwn h h'
    pub readers : h'.readers ≡ h.readers
    pub reading : h'.reading ≡ h.reading
    pub ends : KeepsEnds h h'
    pub writers : h'.writers ≡ h.writers

  -- a call that only writes to peers, or fails at it: it leaves all but the writers, and what was counted of failures
  pub record OnlyWrites (h h' : Hub D P R S W d w k) : Type 0 where
    pub book : h'.book ≡ h.book
    pub seat : view h'.queue.seat ≡ view h.queue.seat
    pub dialer : h'.dialer ≡ h.dialer
    pub threads : KeepsThreads h h'
    pub ends : KeepsEnds h h'

  -- a call that only shuts connections: it leaves all but the writers, and of these what they were written and how
  -- often they failed
  pub record OnlyShuts (tells : W → Option (List ℕ)) (counts : W → ℕ) (h h' : Hub D P R S W d w k) : Type 0 where
    pub book : h'.book ≡ h.book
    pub seat : view h'.queue.seat ≡ view h.queue.seat
    pub own : KeepsOwn h h'
    pub threads : KeepsThreads h h'
    pub ends : KeepsEnds h h'
    pub written : texts tells h'.writers.items ≡ texts tells h.writers.items
    pub faults : faults_in counts h'.writers.items ≡ faults_in counts h.writers.items

  -- a call that passes a number over: its dial is noted as failed, it gets no writer, and the call leaves whether the
  -- log is kept, the dialer and the threads
  pub record PassesOver (p : PeerNo) (name : List ℕ) (h h' : Hub D P R S W d w k) : Type 0 where
    pub told : told_of h'.book ≡ tell (NotDialled p name) (told_of h.book)
    pub keeps : keeps_of h'.book ≡ keeps_of h.book
    pub writers : h'.writers.items ≡ h.writers.items ++ None ∷ []
    pub dialer : h'.dialer ≡ h.dialer
    pub threads : KeepsThreads h h'

  -- a call that gives a new connection a thread, or finds none: it leaves whether the log is kept, the dialer, and the
  -- pulse and its threads
  pub record OnlyBegins (h h' : Hub D P R S W d w k) : Type 0 where
    pub keeps : keeps_of h'.book ≡ keeps_of h.book
    pub dialer : h'.dialer ≡ h.dialer
    pub tickers : h'.tickers ≡ h.tickers
    pub clock : h'.clock ≡ h.clock
    pub ticking : h'.ticking ≡ h.ticking

  -- a call that waits for the threads: it leaves the book, the writers, the dialer, and what was counted of failures
  pub record OnlyJoins (h h' : Hub D P R S W d w k) : Type 0 where
    pub book : h'.book ≡ h.book
    pub own : KeepsOwn h h'
    pub writers : h'.writers ≡ h.writers
