-- All that a hub keeps to, at once, and how it keeps to it as one part of it is changed.
use Rattle.std.proofs.Common.{◌≡◌, ◌+◌, ◌<◌, ◌≤◌, ℕ, Bool, true, false, true≢false, List, [], ◌∷◌, ◌++◌, Option, None, IsSome, All, length, Vec, vec_len, vec_capacity, refl, sym, ap, ◌∙◌, arith}
use Rattle.std.specs.Global.{Global}
use Rattle.std.specs.Option.{ForSome}
use Rattle.crossbeam_channel.specs.Claims.{view}
use Rattle.crossbeam_channel.specs.Ends.{sends_on}
use Rattle.cf_bytes.specs.declared.peer.PeerNo.{PeerNo}
use Rattle.cf_bytes.specs.declared.outside.Sink.{Ghosts as OfSink}
use Rattle.cf_tasks.specs.declared.entry.Item.{Item}
use Rattle.cf_tasks.specs.declared.ends.Queue.{Queue}
use Rattle.cf_tasks.specs.declared.ends.Sender.{Sender}
use Rattle.cf_tasks.specs.Queue.{of}
use Rattle.cf_outside.specs.declared.entry.EntryKind.{EntryKind}
use Rattle.cf_outside.specs.declared.outside.Dialer.{Ghosts as OfDialer}
use Rattle.cf_outside.specs.declared.outside.Writer.{Ghosts as OfWriter}
use Rattle.cf_hub.specs.Book.{told_of}
use Rattle.cf_hub.specs.Finish.{numbers_of, read_numbers, Fronts}
use Rattle.cf_hub.specs.Gives.{given_of, LogGives, IsFront}
use Rattle.cf_hub.specs.Lines.{Down, IsTickers, Waits}
use Rattle.cf_hub.specs.Over.{Heard, HaveEnded, connections, numbers_from}
use Rattle.cf_hub.specs.Writers.{AreOpen}
use Rattle.cf_wires.specs.declared.event.Event.TheVariants.{NotDialled}
use Rattle.cf_wires.specs.Log.{Told, tell}
use Rattle.cf_hub.specs.declared.book.HubLog.{HubLog}
use Rattle.cf_hub.specs.declared.hub.Hub.{Hub}
use Rattle.cf_hub.proofs.Lines.{Popped}
use Rattle.cf_hub.proofs.Takes.{missed_log, moved_fronts, no_fronts, none_for}
use Rattle.cf_hub.proofs.Takes.{same_front, same_heard, same_log, same_within}
use Rattle.cf_hub.proofs.Opened.{ended_none, ended_same, numbers_none, opens_none, opens_same}

-- what a book counts is what it tells
pub record Counts (b : HubLog) (t : Told) : Type 0 where
  pub dials : b.dials ≡ t.tally.dials
  pub taken : b.taken ≡ t.tally.taken
  pub closed : b.closed ≡ t.tally.closed
  pub finished : b.finished ≡ t.finished

pub counts_of : (b : HubLog) (t : Told) → told_of b ≡ t → Counts b t
counts_of b t e = record {
  dials = ap (λ (x : Told). x.tally.dials) e;
  taken = ap (λ (x : Told). x.tally.taken) e;
  closed = ap (λ (x : Told). x.tally.closed) e;
  finished = ap (λ (x : Told). x.finished) e;
}

module _ {D P R S W : Type 0} {d : OfDialer D S W} {w : OfWriter W} {k : OfSink W} where
  -- its ghost fields
  abbrev pub Holds : Hub D P R S W d w k → Type 0
  Holds h = record {
    waiting : ForSome h.clock (λ c. Waits h.queue c.sender);
    ticks : ForSome h.ticking (λ b. IsTickers h.queue b.sender);
    spares : Down h.queue h.spare.items;
    numbers : vec_len h.spare + h.book.dials ≡ 8;
    one : All (λ b. (sends_on b.sender.line ≡ sends_on h.queue.line) × (0 < b.sender.number)) h.reading.items;
    room : h.joined ≡ false → (8 ≤ vec_capacity h.reading) × (8 ≤ vec_capacity h.done);
    few : vec_len h.reading ≤ h.book.dials;
    places : vec_len h.writers ≡ h.book.dials + 1;
    holds : 9 ≤ vec_capacity h.writers;
    heard : Heard h.gone (view h.queue.seat).got;
    gives : LogGives (told_of h.book) (view h.queue.seat).got;
    within : h.book.taken ≤ length (given_of (view h.queue.seat).got);
    counts : h.book.finished ≡ false → h.book.taken ≡ length (given_of (view h.queue.seat).got);
    undone : h.joined ≡ false → h.done.items ≡ [];
    unrested : h.joined ≡ false → h.rested ≡ None;
    runs : h.joined ≡ false → h.clock ≡ None → IsSome h.ticking;
    owed : h.joined ≡ true → h.clock ≡ None → IsSome h.rested;
    stopped : h.joined ≡ true → h.book.finished ≡ true;
    over : h.joined ≡ true → HaveEnded (connections h.writers.items) (view h.queue.seat).got;
    fronts : Fronts (view h.queue.seat).got h.done.items;
    beats : ForSome h.rested (λ r. IsFront (of 0 (view h.queue.seat).got) r.sent);
    unshut : h.book.finished ≡ false → AreOpen w.was_shut h.book.closed h.writers.items;
    reading_are : h.joined ≡ false → numbers_of h.reading.items ≡ numbers_from 0 (connections h.writers.items);
    done_are : h.joined ≡ true → read_numbers h.done.items ≡ numbers_from 0 (connections h.writers.items);
  }

  pub all_hold : (h : Hub D P R S W d w k) → Holds h
  all_hold h = record {
    waiting = h.waiting;
    ticks = h.ticks;
    spares = h.spares;
    numbers = h.numbers;
    one = h.one;
    room = h.room;
    few = h.few;
    places = h.places;
    holds = h.holds;
    heard = h.heard;
    gives = h.gives;
    within = h.within;
    counts = h.counts;
    undone = h.undone;
    unrested = h.unrested;
    runs = h.runs;
    owed = h.owed;
    stopped = h.stopped;
    over = h.over;
    fronts = h.fronts;
    beats = h.beats;
    unshut = h.unshut;
    reading_are = h.reading_are;
    done_are = h.done_are;
  }

  -- what its queue has received
  abbrev pub got_of : Hub D P R S W d w k → List (Item EntryKind)
  got_of h = (view h.queue.seat).got

  -- with a book that has noted no dial and no delivery
  abbrev pub noted : (h : Hub D P R S W d w k) (b : HubLog) → b.dials ≡ h.book.dials → b.taken ≡ h.book.taken
      → (b.finished ≡ false → h.book.finished ≡ false) → (h.book.finished ≡ true → b.finished ≡ true)
      → LogGives (told_of b) (got_of h) → (b.finished ≡ false → AreOpen w.was_shut b.closed h.writers.items)
      → Hub D P R S W d w k
  noted h b dn tn back on log unshut = record h {
    book = b;
    numbers = ap (λ n. vec_len h.spare + n) dn ∙ h.numbers;
    few = (let l : vec_len h.reading ≤ b.dials = omega (arith, dn, h.few) in l);
    places = h.places ∙ ap (λ n. n + 1) (sym dn);
    gives = log;
    within = same_within _ _ (got_of h) _ tn refl h.within;
    counts = λ r. tn ∙ h.counts (back r);
    stopped = λ j. on (h.stopped j);
    unshut = unshut;
  }

  -- with a book that counts as much
  abbrev pub noted_same : (h : Hub D P R S W d w k) (b : HubLog) → b.dials ≡ h.book.dials → b.taken ≡ h.book.taken
      → b.closed ≡ h.book.closed → b.finished ≡ h.book.finished → LogGives (told_of b) (got_of h) → Hub D P R S W d w k
  noted_same h b dn tn cl fn log =
      noted h b dn tn (λ r. sym fn ∙ r) (λ j. fn ∙ j) log (λ r. opens_same _ _ _ _ cl (h.unshut (sym fn ∙ r)))

  -- with a book that tells something more, and counts as much
  abbrev pub told_more : (h : Hub D P R S W d w k) (b : HubLog) (t : Told) → told_of b ≡ t → t.tally.dials ≡ h.book.dials
      → t.tally.taken ≡ h.book.taken → t.tally.closed ≡ h.book.closed → t.finished ≡ h.book.finished
      → ((got : List (Item EntryKind)) → LogGives (told_of h.book) got → LogGives (told_of b) got) → Hub D P R S W d w k
  told_more h b t told d n c f log =
      let m = counts_of b t told in
      noted_same h b (m.dials ∙ d) (m.taken ∙ n) (m.closed ∙ c) (m.finished ∙ f) (log (got_of h) h.gives)

  -- with writers in the same places, and open where they were
  abbrev pub rewritten : (h : Hub D P R S W d w k) (ws : Vec (Option W) Global) → vec_len ws ≡ vec_len h.writers
      → vec_capacity ws ≡ vec_capacity h.writers → connections ws.items ≡ connections h.writers.items
      → (h.book.finished ≡ false → AreOpen w.was_shut h.book.closed ws.items) → Hub D P R S W d w k
  rewritten h ws len capacity there unshut = record h {
    writers = ws;
    places = len ∙ h.places;
    holds = (let l : 9 ≤ vec_capacity ws = omega (arith, capacity, h.holds) in l);
    over = λ j. ended_same _ _ (got_of h) _ there refl (h.over j);
    unshut = unshut;
    reading_are = λ j. h.reading_are j ∙ sym (ap (numbers_from 0) there);
    done_are = λ j. h.done_are j ∙ sym (ap (numbers_from 0) there);
  }

  -- with a queue of the same line, and a book that has noted what was received
  abbrev pub received : (h : Hub D P R S W d w k) (q : Queue EntryKind) (gone : List Bool) (b : HubLog)
      → sends_on q.line ≡ sends_on h.queue.line → Heard gone (view q.seat).got
      → b.dials ≡ h.book.dials → b.closed ≡ h.book.closed → b.finished ≡ h.book.finished
      → LogGives (told_of b) (view q.seat).got → b.taken ≤ length (given_of (view q.seat).got)
      → (b.finished ≡ false → b.taken ≡ length (given_of (view q.seat).got))
      → (h.joined ≡ true → HaveEnded (connections h.writers.items) (view q.seat).got)
      → Fronts (view q.seat).got h.done.items → ForSome h.rested (λ r. IsFront (of 0 (view q.seat).got) r.sent)
      → Hub D P R S W d w k
  received h q gone b ring heard dn cl fn gives within counts over fronts beats = record h {
    queue = q;
    gone = gone;
    book = b;
    waiting = λ x e. let y = h.waiting x e in (y.0 ∙ sym ring, y.1, y.2);
    ticks = λ x e. let y = h.ticks x e in (y.0 ∙ sym ring, y.1);
    spares = λ n x l. let y = h.spares n x l in (y.0, (y.1.0 ∙ sym ring, y.1.1));
    numbers = ap (λ n. vec_len h.spare + n) dn ∙ h.numbers;
    one = λ n x l. let y = h.one n x l in (y.0 ∙ sym ring, y.1);
    few = (let l : vec_len h.reading ≤ b.dials = omega (arith, dn, h.few) in l);
    places = h.places ∙ ap (λ n. n + 1) (sym dn);
    heard = heard;
    gives = gives;
    within = within;
    counts = counts;
    stopped = λ j. fn ∙ h.stopped j;
    over = over;
    fronts = fronts;
    beats = beats;
    unshut = λ r. opens_same _ _ _ _ cl (h.unshut (sym fn ∙ r));
  }

  -- nothing was joined yet
  abbrev pub received_one : (h : Hub D P R S W d w k) (q : Queue EntryKind) (gone : List Bool) (b : HubLog) → h.joined ≡ false
      → sends_on q.line ≡ sends_on h.queue.line → Heard gone (view q.seat).got
      → b.dials ≡ h.book.dials → b.closed ≡ h.book.closed → b.finished ≡ h.book.finished
      → LogGives (told_of b) (view q.seat).got → b.taken ≤ length (given_of (view q.seat).got)
      → (b.finished ≡ false → b.taken ≡ length (given_of (view q.seat).got)) → Hub D P R S W d w k
  received_one h q gone b nj ring heard dn cl fn gives within counts =
      received h q gone b ring heard dn cl fn gives within counts (λ j. absurd (true≢false (sym j ∙ nj)))
      (no_fronts (view q.seat).got _ (h.undone nj)) (none_for _ _ (h.unrested nj))

  -- nothing more was received
  abbrev pub received_none : (h : Hub D P R S W d w k) (q : Queue EntryKind) → sends_on q.line ≡ sends_on h.queue.line
      → (view q.seat).got ≡ got_of h → Hub D P R S W d w k
  received_none h q ring got =
      received h q h.gone h.book ring (same_heard _ _ _ got h.heard) refl refl refl
      (same_log _ (told_of h.book) _ _ refl got h.gives) (same_within _ _ _ _ refl got h.within)
      (λ r. h.counts r ∙ ap (λ l. length (given_of l)) (sym got)) (λ j. ended_same _ _ _ _ refl got (h.over j))
      (moved_fronts _ _ _ got h.fronts) (λ x e. same_front _ _ _ got (h.beats x e))

  -- the sender of the next peer has the number that its writer will have
  pub next_number : (h : Hub D P R S W d w k) (spare : Vec (Sender EntryKind) Global) (x : Sender EntryKind)
      → Popped h.queue h.spare spare x → x.number ≡ vec_len h.writers
  next_number h spare x p = omega (arith, p.number, p.len, h.numbers, h.places)

  -- the next number is passed over: its sender is gone, and it gets no writer
  abbrev pub passed_over : (h : Hub D P R S W d w k) (spare : Vec (Sender EntryKind) Global) (ws : Vec (Option W) Global)
      (b : HubLog) (x : Sender EntryKind) (p : PeerNo) (name : List ℕ) → Popped h.queue h.spare spare x
      → ws.items ≡ h.writers.items ++ None ∷ [] → vec_len ws ≡ vec_len h.writers + 1
      → vec_capacity ws ≡ vec_capacity h.writers
      → told_of b ≡ tell (NotDialled p name) (told_of h.book) → Hub D P R S W d w k
  passed_over h spare ws b x p name popped items len capacity told =
      let n = counts_of b _ told in
      let dn : b.dials ≡ h.book.dials + 1 = n.dials in
      record h {
        spare = spare;
        writers = ws;
        book = b;
        spares = popped.rest;
        numbers = (let l : vec_len spare + b.dials ≡ 8 = omega (arith, popped.len, dn, h.numbers) in l);
        few = (let l : vec_len h.reading ≤ b.dials = omega (arith, dn, h.few) in l);
        places = (let l : vec_len ws ≡ b.dials + 1 = omega (arith, dn, len, h.places) in l);
        holds = (let l : 9 ≤ vec_capacity ws = omega (arith, capacity, h.holds) in l);
        gives = missed_log _ _ (got_of h) p name told h.gives;
        within = same_within _ _ (got_of h) _ n.taken refl h.within;
        counts = λ r. n.taken ∙ h.counts (sym n.finished ∙ r);
        stopped = λ j. n.finished ∙ h.stopped j;
        over = λ j. ended_none _ _ (got_of h) items (h.over j);
        unshut = λ r. opens_same _ _ _ _ n.closed (opens_none _ _ _ _ items (h.unshut (sym n.finished ∙ r)));
        reading_are = λ j. h.reading_are j ∙ sym (numbers_none _ _ items);
        done_are = λ j. h.done_are j ∙ sym (numbers_none _ _ items);
      }
