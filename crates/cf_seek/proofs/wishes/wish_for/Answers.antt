use Rattle.std.proofs.Common.{arith}
use Rattle.cf_dispute.specs.Of.{tables_of}
use Rattle.cf_headers.specs.Store.{own_of}
use Rattle.cf_tables.specs.Extracts.{table_in}
use Rattle.cf_tables.specs.Judged.{verdicts_in}
use Rattle.cf_seek.specs.OpensAll.{opens_in}
use Rattle.cf_seek.proofs.Stops.{apart_claims, apart_filters, far_claims, far_filters, wish_claims, wish_filters}
use Rattle.cf_seek.proofs.wishes.wish_for.Goals as goal

pub claims_end-end-requires : goal.claims_end-end-requires
claims_end-end-requires g c =
    let want = rw c.in-Claims.is at c.requires.wanted in
    record { entered = c.requires.entered; within = c.requires.within; low = want.1; above = want.3; new = want.4 }

pub span_of-requires-clause-up : goal.span_of-requires-clause-up
span_of-requires-clause-up g c = (let want = rw c.in-Claims.is at c.requires.wanted in want.0)

pub span_of-requires-clause-apart : goal.span_of-requires-clause-apart
span_of-requires-clause-apart g c =
    let want = rw c.in-Claims.is at c.requires.wanted in
    let last = c.claims_end-end.ensures.new c.claims_end-end.result c.claims_end-end.ensures.up (omega arith) in
    apart_claims (tables_of c.args.known.claims.now) c.args.p.0 _ c.in-Claims.start _ want.2 last.0 last.1

pub sought_end-end-requires : goal.sought_end-end-requires
sought_end-end-requires g c =
    let want = rw c.in-Filters.is at c.requires.wanted in
    record { entered = c.requires.entered; within = c.requires.within; low = want.2; this = want.4 }

pub span_of-requires-in-Filters-clause-up : goal.span_of-requires-in-Filters-clause-up
span_of-requires-in-Filters-clause-up g c = (let want = rw c.in-Filters.is at c.requires.wanted in want.1)

pub span_of-requires-in-Filters-clause-apart : goal.span_of-requires-in-Filters-clause-apart
span_of-requires-in-Filters-clause-apart g c =
    let want = rw c.in-Filters.is at c.requires.wanted in
    let last = c.sought_end-end.ensures.all c.sought_end-end.result c.sought_end-end.ensures.up (omega arith) in
    apart_filters _ _ _ _ _ c.in-Filters.start _ want.3 last

pub hash_at-requires-clause-within : goal.hash_at-requires-clause-within
hash_at-requires-clause-within g c =
    (let want = rw c.in-Block.is at c.requires.wanted in omega (arith, c.requires.within, want.2))

pub returns-in-Block-clause-wish : goal.returns-in-Block-clause-wish
returns-in-Block-clause-wish g c =
    (let want = rw c.in-Block.is at c.requires.wanted in (c.in-Block.height, (want, c.hash_at.ensures)))

pub returns-in_ok-span-in-Claims-clause-far : goal.returns-in_ok-span-in-Claims-clause-far
returns-in_ok-span-in-Claims-clause-far g c =
    far_claims (table_in c.args.known.extracts.now) (tables_of c.args.known.claims.now) (verdicts_in c.args.known.judged.now)
    (opens_in c.args.known.opens.now) c.args.p.0 (own_of (g.H.HeaderStore.chain c.args.store.now) c.args.p) c.args.common
    _ _ _ c.in_ok-span-in-Claims.ensures c.claims_end-end.ensures.new c.claims_end-end.ensures.last

pub returns-in_ok-span-in-Claims-clause-wish : goal.returns-in_ok-span-in-Claims-clause-wish
returns-in_ok-span-in-Claims-clause-wish g c =
    (let want = rw c.in-Claims.is at c.requires.wanted in grind (arith, wish_claims))

pub returns-in_ok-span-in-Filters-clause-far : goal.returns-in_ok-span-in-Filters-clause-far
returns-in_ok-span-in-Filters-clause-far g c = grind (arith, far_filters)

pub returns-in_ok-span-in-Filters-clause-wish : goal.returns-in_ok-span-in-Filters-clause-wish
returns-in_ok-span-in-Filters-clause-wish g c =
    (let want = rw c.in-Filters.is at c.requires.wanted in grind (arith, wish_filters))
