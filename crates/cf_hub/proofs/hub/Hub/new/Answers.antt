use Rattle.std.proofs.Common.{arith, ◌≡◌, ◌≤◌, ◌+◌, ◌∙◌, true≢false, refl, sym, ap, vec_len, length}
use Rattle.cf_wires.specs.Log.{Tally}
use Rattle.crossbeam_channel.specs.Claims.{view}
use Rattle.cf_hub.proofs.Begins.{no_some, nothing_log}
use Rattle.cf_hub.proofs.Heard.{nobody}
use Rattle.cf_hub.specs.Book.{told_of}
use Rattle.cf_hub.specs.Gives.{given_of}
use Rattle.cf_hub.specs.Over.{connections, numbers_from}
use Rattle.cf_hub.specs.Finish.{numbers_of}
use Rattle.cf_hub.proofs.Opened.{first_open}
use Rattle.cf_hub.proofs.Takes.{for_some, none_for, no_fronts}
use Rattle.cf_hub.proofs.hub.Hub.new.Goals as goal

pub invariant_of-result-2 : goal.invariant_of-result-2
invariant_of-result-2 g c =
    let dn : c.in_ok-parts.parts.book.dials ≡ 0 = ap (λ (t : Tally). t.dials) c.in_ok-parts.ensures.told.counts in
    let tn : c.in_ok-parts.parts.book.taken ≡ 0 = ap (λ (t : Tally). t.taken) c.in_ok-parts.ensures.told.counts in
    record {
      waiting = for_some _ _ c.in_ok-parts.parts.lines.waits;
      ticks = none_for _ _ refl;
      spares = c.in_ok-parts.parts.lines.spares;
      numbers = (let n = c.in_ok-parts.parts.lines.numbers in let h : vec_len c.in_ok-parts.parts.lines.spare + c.in_ok-parts.parts.book.dials ≡ 8 = omega (arith, dn, n) in h);
      one = λ k d l. let n = ap length c.in_ok-parts.parts.lists.unread in absurd (omega (arith, l, n));
      room = λ _. (c.in_ok-parts.parts.lists.seats, c.in_ok-parts.parts.lists.room);
      few = (let n = c.in_ok-parts.parts.lists.none in let h : vec_len c.in_ok-parts.parts.lists.reading ≤ c.in_ok-parts.parts.book.dials = omega (arith, n) in h);
      places = (let n = c.in_ok-parts.parts.lists.one in let h : vec_len c.in_ok-parts.parts.lists.writers ≡ c.in_ok-parts.parts.book.dials + 1 = omega (arith, dn, n) in h);
      holds = c.in_ok-parts.parts.lists.holds;
      heard = nobody 9 _;
      gives = nothing_log (told_of c.in_ok-parts.parts.book) (view c.in_ok-parts.parts.lines.queue.seat).got c.in_ok-parts.ensures.told;
      within = (let h : c.in_ok-parts.parts.book.taken ≤ length (given_of (view c.in_ok-parts.parts.lines.queue.seat).got) = omega (arith, tn) in h);
      counts = λ _. tn ∙ ap (λ l. length (given_of l)) (sym c.in_ok-parts.parts.lines.none);
      undone = λ _. c.in_ok-parts.parts.lists.undone;
      unrested = λ _. refl;
      runs = λ _ n. absurd (no_some _ n);
      owed = λ j. absurd (true≢false (sym j));
      stopped = λ j. absurd (true≢false (sym j));
      over = λ j. absurd (true≢false (sym j));
      fronts = no_fronts _ _ c.in_ok-parts.parts.lists.undone;
      beats = none_for _ _ refl;
      unshut = λ _. first_open _ _ _ c.in_ok-parts.parts.lists.nobody;
      reading_are = λ _. ap numbers_of c.in_ok-parts.parts.lists.unread ∙ sym (ap (λ l. numbers_from 0 (connections l)) c.in_ok-parts.parts.lists.nobody);
      done_are = λ j. absurd (true≢false (sym j));
    }
