use Rattle.std.proofs.Common.{arith, ◌≡◌, ◌∙◌, ◌++◌, ◌∷◌, [], sym, ap, refl}
use Rattle.crossbeam_channel.specs.Claims.{view}
use Rattle.cf_wires.specs.Log.{tell}
use Rattle.cf_wires.specs.declared.event.Event.TheVariants.{Took}
use Rattle.cf_wires.specs.declared.event.Delivery.TheVariants as gives
use Rattle.cf_outside.specs.declared.entry.EntryKind.TheVariants as kinds
use Rattle.cf_hub.specs.Book.{told_of}
use Rattle.cf_hub.proofs.Takes.{not_given, is_given, got_is, gone_is, tick_is, got_none, gone_none, tick_none}
use Rattle.cf_hub.proofs.taking.take_entry.Goals as goal

pub returns-then-from-eq0-clause-none : goal.returns-then-from-eq0-clause-none
returns-then-from-eq0-clause-none g c =
    let eq : (view c.receive-from.new.queue.seat).got ≡ (view c.args.queue.now.seat).got ++ record { from = c.receive-from.result.from; kind = kinds.Got c.in-Got.chunk } ∷ [] = rw c.in-Got.is at c.receive-from.ensures.got in (refl, not_given _ _ c.receive-from.result.from (kinds.Got c.in-Got.chunk) eq (got_none c.receive-from.result.from c.in-Got.chunk (omega (arith, c.if-from-eq0.true))))

pub returns-else-from-eq0-clause-some : goal.returns-else-from-eq0-clause-some
returns-else-from-eq0-clause-some g c =
    let eq : (view c.receive-from.new.queue.seat).got ≡ (view c.args.queue.now.seat).got ++ record { from = c.receive-from.result.from; kind = kinds.Got c.in-Got.chunk } ∷ [] = rw c.in-Got.is at c.receive-from.ensures.got in (c.note_got.ensures.told ∙ ap (λ b. tell (Took (gives.Got (record { 0 = c.from.result }) b)) (told_of c.args.book.now)) (c.bytes.ensures.bytes ∙ sym c.bytes-in-Got.ensures.bytes ∙ sym c.filled.ensures), is_given _ _ c.receive-from.result.from (kinds.Got c.in-Got.chunk) (gives.Got (record { 0 = c.from.result }) c.filled.result) eq (got_is c.receive-from.result.from c.from.result c.in-Got.chunk c.filled.result c.from.ensures (c.filled.ensures ∙ c.bytes-in-Got.ensures.bytes) (omega (arith, c.if-from-eq0.false))))

pub returns-then-from-gt0-clause-none : goal.returns-then-from-gt0-clause-none
returns-then-from-gt0-clause-none g c =
    let eq : (view c.receive-from.new.queue.seat).got ≡ (view c.args.queue.now.seat).got ++ record { from = c.receive-from.result.from; kind = kinds.Tick c.in-Tick.seconds } ∷ [] = rw c.in-Tick.is at c.receive-from.ensures.got in (refl, not_given _ _ c.receive-from.result.from (kinds.Tick c.in-Tick.seconds) eq (tick_none c.receive-from.result.from c.in-Tick.seconds (omega (arith, c.if-from-gt0.true))))

pub returns-else-from-gt0-clause-some : goal.returns-else-from-gt0-clause-some
returns-else-from-gt0-clause-some g c =
    let eq : (view c.receive-from.new.queue.seat).got ≡ (view c.args.queue.now.seat).got ++ record { from = c.receive-from.result.from; kind = kinds.Tick c.in-Tick.seconds } ∷ [] = rw c.in-Tick.is at c.receive-from.ensures.got in (c.note_tick.ensures.told, is_given _ _ c.receive-from.result.from (kinds.Tick c.in-Tick.seconds) (gives.Tick c.get-seconds.result) eq (tick_is c.receive-from.result.from c.in-Tick.seconds c.get-seconds.result (omega (arith, c.if-from-gt0.false)) c.get-seconds.ensures.value))

pub returns-then-from-eq0-2-clause-none : goal.returns-then-from-eq0-2-clause-none
returns-then-from-eq0-2-clause-none g c =
    let eq : (view c.receive-from.new.queue.seat).got ≡ (view c.args.queue.now.seat).got ++ record { from = c.receive-from.result.from; kind = kinds.Last } ∷ [] = rw c.in-Last.is at c.receive-from.ensures.got in (refl, not_given _ _ c.receive-from.result.from (kinds.Last) eq (gone_none c.receive-from.result.from (omega (arith, c.if-from-eq0-2.true))))

pub returns-else-from-eq0-2-clause-some : goal.returns-else-from-eq0-2-clause-some
returns-else-from-eq0-2-clause-some g c =
    let eq : (view c.receive-from.new.queue.seat).got ≡ (view c.args.queue.now.seat).got ++ record { from = c.receive-from.result.from; kind = kinds.Last } ∷ [] = rw c.in-Last.is at c.receive-from.ensures.got in (c.note_gone.ensures.told, is_given _ _ c.receive-from.result.from (kinds.Last) (gives.Gone (record { 0 = c.from.result })) eq (gone_is c.receive-from.result.from c.from.result c.from.ensures (omega (arith, c.if-from-eq0-2.false))))
