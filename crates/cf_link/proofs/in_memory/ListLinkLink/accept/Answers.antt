use Rattle.std.proofs.Common.{◌∙◌, sym, arith}
use Rattle.cf_link.specs.Links.{IsFresh, told_now}
use Rattle.cf_link.proofs.Taken.{one_dropped, all_rest}
use Rattle.cf_link.proofs.in_memory.ListLinkLink.accept.Goals as goal

pub invariant_of-self-in-Some : goal.invariant_of-self-in-Some
invariant_of-self-in-Some g c =
    let now = c.args.self.now in
    let rest = c.pop_front.new.self in
    let e = c.in-Some.ensures in
    record {
      fresh = all_rest (λ k. IsFresh (told_now g.C.Source.left g.C.Sink.written g.C.Source.ended g.C.Source.faults g.C.Sink.faults k)) now.waiting.items rest.items c.in-Some.conn e.items now.fresh;
      tied = one_dropped now.first.value.items now.accepted c.in-Some.conn rest.items (sym now.tied ∙ e.items);
      counted = (let n = now.counted in let m = e.cases in omega (arith, n, m));
      few = (let n = now.few in omega (arith, n));
      room = now.room;
      place = now.place;
      silent = now.silent;
    }
