use Rattle.std.proofs.Common.{arith, ◌≡◌, ◌≤◌, ◌<◌, ◌+◌, ◌∙◌, sym, ap, refl, true≢false, vec_len, vec_capacity}
use Rattle.crossbeam_channel.specs.Claims.{view}
use Rattle.crossbeam_channel.specs.Ends.{sends_on}
use Rattle.cf_hub.proofs.Takes.{same_within, dialled_log}
use Rattle.cf_hub.proofs.Begins.{task_more}
use Rattle.cf_hub.proofs.Holds.{all_hold, counts_of, got_of, next_number, passed_over, received_none}
use Rattle.cf_hub.proofs.Lines.{down_popped, reading_pushed}
use Rattle.cf_hub.proofs.Opened.{opens_same, opens_more, reading_more}
use Rattle.cf_hub.proofs.hub.Hub.begin.Goals as goal

pub invariant_of-self : goal.invariant_of-self
invariant_of-self g c =
    let h = c.args.self.now in
    let p = down_popped h.queue h.spare c.pop.new.self _ _ c.unwrap-sender.ensures c.pop.ensures.items c.pop.ensures.len h.spares in
    let number : c.in-Ok.busy.sender.number ≡ vec_len h.writers = ap (λ b. b.sender.number) c.in-Ok.ensures.ok.0 ∙ next_number h _ _ p in
    let told = c.note_dialled.ensures.told in
    let n = counts_of c.note_dialled.new.self _ told in
    let dn : c.note_dialled.new.self.dials ≡ h.book.dials + 1 = n.dials in
    let e = c.push_reserved-in-Ok.ensures in
    all_hold (record h {
      spare = c.pop.new.self;
      reading = c.push_reserved.new.self;
      writers = c.push_reserved-in-Ok.new.self;
      book = c.note_dialled.new.self;
      spares = p.rest;
      numbers = (let m = p.len in let l : vec_len c.pop.new.self + c.note_dialled.new.self.dials ≡ 8 = omega (arith, m, dn, h.numbers) in l);
      one = reading_pushed h.queue _ _ c.in-Ok.busy c.push_reserved.ensures.items h.one (
        ap (λ b. sends_on b.sender.line) c.in-Ok.ensures.ok.0 ∙ p.line,
        (let l : 0 < c.in-Ok.busy.sender.number = omega (arith, number, h.places) in l),
      );
      room = λ j. let r = h.room j in ((let l : 8 ≤ vec_capacity c.push_reserved.new.self = omega (arith, c.push_reserved.ensures.capacity, r.0) in l), r.1);
      few = (let l : vec_len c.push_reserved.new.self ≤ c.note_dialled.new.self.dials = omega (arith, dn, c.push_reserved.ensures.len, h.few) in l);
      places = (let l : vec_len c.push_reserved-in-Ok.new.self ≡ c.note_dialled.new.self.dials + 1 = omega (arith, dn, e.len, h.places) in l);
      holds = (let l : 9 ≤ vec_capacity c.push_reserved-in-Ok.new.self = omega (arith, e.capacity, h.holds) in l);
      gives = dialled_log _ _ (got_of h) _ _ told h.gives;
      within = same_within _ _ (got_of h) _ n.taken refl h.within;
      counts = λ r. n.taken ∙ h.counts (sym n.finished ∙ r);
      stopped = λ j. n.finished ∙ h.stopped j;
      over = λ j. absurd (true≢false (sym j ∙ c.requires.begins));
      unshut = λ r. opens_same _ _ _ _ n.closed (opens_more _ _ _ _ _ e.items c.requires.new (h.unshut (sym n.finished ∙ r)));
      reading_are = λ j. reading_more _ _ c.in-Ok.busy _ _ _ c.push_reserved.ensures.items e.items (number ∙ h.writers.ok.0) (h.reading_are j);
      done_are = λ j. absurd (true≢false (sym j ∙ c.requires.begins));
    })

pub returns-in-Ok-clause-task : goal.returns-in-Ok-clause-task
returns-in-Ok-clause-task g c =
    let h = c.args.self.now in
    let p = down_popped h.queue h.spare c.pop.new.self _ _ c.unwrap-sender.ensures c.pop.ensures.items c.pop.ensures.len h.spares in
    let number : c.in-Ok.busy.sender.number ≡ vec_len h.writers = ap (λ b. b.sender.number) c.in-Ok.ensures.ok.0 ∙ next_number h _ _ p in
    let same : c.in-Ok.busy.sender.number ≡ c.args.p.0 = omega (arith, number, h.places, c.requires.next) in
    task_more _ _ c.in-Ok.busy _ _ c.push_reserved.ensures.items same (ap (λ b. b.source) c.in-Ok.ensures.ok.0)

pub push_reserved-requires : goal.push_reserved-requires
push_reserved-requires g c =
    let r = c.args.self.now.room c.requires.begins in
    (let h : vec_len c.args.self.now.reading < vec_capacity c.args.self.now.reading = omega (arith, r.0, c.args.self.now.few, c.requires.few) in h)

pub take-requires : goal.take-requires
take-requires g c =
    let h = c.args.self.now in
    let p = down_popped h.queue h.spare c.pop.new.self _ _ c.unwrap-sender.ensures c.pop.ensures.items c.pop.ensures.len h.spares in
    ap (λ b. sends_on b.sender.line) c.in-Err.ensures.err.0 ∙ p.line

pub invariant_of-self-in-Err : goal.invariant_of-self-in-Err
invariant_of-self-in-Err g c =
    let h = c.args.self.now in
    let p = down_popped h.queue h.spare c.pop.new.self _ _ c.unwrap-sender.ensures c.pop.ensures.items c.pop.ensures.len h.spares in
    let e = c.push_reserved-in-Err.ensures in
    let got : (view c.take.new.self.seat).got ≡ got_of h = ap (λ v. v.got) c.take.ensures.ended in
    all_hold (received_none
    (passed_over h c.pop.new.self c.push_reserved-in-Err.new.self c.note_not_dialled.new.self _ _ _ p e.items e.len e.capacity
    c.note_not_dialled.ensures.told)
    c.take.new.self c.take.ensures.ring got)
