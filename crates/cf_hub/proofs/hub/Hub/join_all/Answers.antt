use Rattle.std.proofs.Common.{arith, ◌≡◌, ◌≤◌, ◌∙◌, [], ap, refl, true, true≢false, vec_len, vec_capacity, length}
use Rattle.cf_hub.specs.Finish.{numbers_of}
use Rattle.cf_hub.proofs.Holds.{all_hold, received_none}
use Rattle.cf_hub.proofs.Lines.{reading_ringed}
use Rattle.cf_hub.proofs.Opened.{same_numbers, ended_same}
use Rattle.cf_hub.proofs.Takes.{none_for, some_of, some_same, same_front}
use Rattle.cf_hub.proofs.hub.Hub.join_all.Goals as goal

pub invariant_of-self : goal.invariant_of-self
invariant_of-self g c =
    let h = c.args.self.now in
    let got = c.join_readers.ensures.got ∙ c.join_ticker.ensures.got in
    let noread : c.replace-held.new.dest.items ≡ [] = ap (λ v. v.items) c.replace-held.ensures.after ∙ c.new.ensures.items in
    let nolen : vec_len c.replace-held.new.dest ≡ 0 = ap (λ v. vec_len v) c.replace-held.ensures.after ∙ c.new.ensures.len in
    let held = ap (λ v. v.items) c.replace-held.ensures.value in
    let same = received_none h c.join_readers.new.queue (c.join_readers.ensures.ring ∙ c.join_ticker.ensures.ring) got in
    all_hold (record same {
      ticking = c.take-ticking.new.self;
      reading = c.replace-held.new.dest;
      done = c.join_readers.new.done;
      rested = c.join_ticker.result;
      joined = true;
      ticks = none_for _ _ c.take-ticking.ensures.after;
      one = λ k d l. let n = ap length noread in absurd (omega (arith, l, n));
      room = λ r. absurd (true≢false r);
      few = (let l : vec_len c.replace-held.new.dest ≤ h.book.dials = omega (arith, nolen) in l);
      undone = λ r. absurd (true≢false r);
      unrested = λ r. absurd (true≢false r);
      runs = λ r. absurd (true≢false r);
      owed = λ _ n. some_of _ _ c.join_ticker.ensures.some (some_same _ _ c.take-ticking.ensures.value (h.runs c.requires.joined n));
      stopped = λ _. c.requires.finished;
      over = λ _. ended_same _ _ _ _ refl got c.requires.ended;
      fronts = c.join_readers.ensures.fronts;
      beats = λ x e. same_front _ _ _ c.join_readers.ensures.got (c.join_ticker.ensures.front x e);
      reading_are = λ r. absurd (true≢false r);
      done_are = λ _. same_numbers _ _ c.join_readers.ensures.whose ∙ ap numbers_of held ∙ h.reading_are c.requires.joined;
    })

pub join_readers-requires-clause-one : goal.join_readers-requires-clause-one
join_readers-requires-clause-one g c =
    reading_ringed c.args.self.now.queue c.join_ticker.new.queue _ _ (ap (λ v. v.items) c.replace-held.ensures.value) c.join_ticker.ensures.ring c.args.self.now.one

pub join_readers-requires-clause-room : goal.join_readers-requires-clause-room
join_readers-requires-clause-room g c =
    let v = ap (λ v. vec_len v) c.replace-held.ensures.value in
    let r = c.args.self.now.room c.requires.joined in
    (let h : vec_len c.replace-held.result ≤ vec_capacity c.args.self.now.done = omega (arith, v, r.1, c.args.self.now.few, c.args.self.now.numbers) in h)
