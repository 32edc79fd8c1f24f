use Rattle.std.proofs.Common.{length, inl, inr, arith}
use Rattle.std.proofs.lemmas.Bool.{cases_lt}
use Rattle.slab.specs.Slab.{get}
use Rattle.cf_headers.proofs.Guides.{none_over}
use Rattle.cf_headers.proofs.standing.guide_for.Goals as goal

pub returns : goal.returns
returns c =
    let l = c.loop-q in
    let nodes = get c.args.pool.now.nodes in (
      l.most,
      record {
        last = l.invariant.last;
        most = λ q many stand. elim (cases_lt q (length c.args.ways.now)) [
          | inl lt ↦ l.invariant.longest q many (omega (arith, lt)) stand
          | inr past ↦ omega (arith, none_over nodes c.args.ways.now c.args.k q many c.args.headers.now past stand)
        ];
      },
    )
