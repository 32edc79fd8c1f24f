use Rattle.std.proofs.Common.{◌++◌, ◌∷◌, [], ℕ, List, Option, Ok, refl, sym, ◌∙◌, subst}
use Rattle.std.specs.Prelude.{IfSome}
use Rattle.cf_block.specs.declared.tx.Block.{Block}
use Rattle.cf_conn.proofs.Stepping.{more_steps, no_steps}
use Rattle.cf_walk.specs.Judging.{StandsOn}
use Rattle.cf_walk.specs.Striding.{Gives, IsWalking}
use Rattle.cf_index.proofs.Sources.{reads_fault, reads_none}
use Rattle.cf_index.proofs.source.read_source.Goals as goal

pub loop-block-init : goal.loop-block-init
loop-block-init g c =
    let walk = c.new-walk.result in
    record {
      stands = subst (λ (l : List Block). StandsOn walk.judge l) (sym c.new-chain.ensures) c.new-walk.ensures.stands;
      walks = λ bytes is.
          subst (λ (l : List Block). IsWalking bytes walk (g.S.Source.left c.args.source.now) l) (sym c.new-chain.ensures)
          (subst (λ (left : Option (List ℕ)). IsWalking bytes walk left []) (sym is) (c.new-walk.ensures.walks bytes));
      count = refl;
      steps = no_steps g.S.Source.reads c.args.source.now;
    }

pub loop-block-preserved : goal.loop-block-preserved
loop-block-preserved g c =
    let so_far = c.loop-block.invariant in
    let chain = c.loop-block.chain in
    let step = c.in-Ok-Some.ensures in
    let more = chain ++ c.in-Ok-Some.block ∷ [] in
    let walk = c.next_block.new.self in
    let left = g.S.Source.left c.next_block.new.source in
    let stands : StandsOn walk.judge more = subst (λ (o : Option Block). IfSome o (λ b. StandsOn walk.judge (chain ++ b ∷ []))) c.in-Ok-Some.field-0-is (step.stands chain so_far.stands) in
    record {
      stands = subst (λ (l : List Block). StandsOn c.take_found-found.new.self.judge l) (sym c.in-Ok.ensures) (c.take_found-found.ensures.stands more stands);
      walks = λ bytes is.
          let walks : IsWalking bytes walk left more = subst (λ (o : Option Block). Gives bytes chain (Ok o) walk left) c.in-Ok-Some.field-0-is (step.walks bytes chain (so_far.walks bytes is)) in
          subst (λ (l : List Block). IsWalking bytes c.take_found-found.new.self left l) (sym c.in-Ok.ensures) (c.take_found-found.ensures.walks bytes left more walks);
      count = step.count ∙ so_far.count;
      steps = more_steps g.S.Source.reads c.args.source.now c.loop-block.source c.next_block.new.source so_far.steps step.steps;
    }

pub returns-in-Ok-None-clause-reads : goal.returns-in-Ok-None-clause-reads
returns-in-Ok-None-clause-reads g c = λ bytes is.
    let chain = c.loop-block.chain in
    let walk = c.next_block.new.self in
    let left = g.S.Source.left c.next_block.new.source in
    let gives = subst (λ (o : Option Block). Gives bytes chain (Ok o) walk left) c.in-Ok-None.field-0-is (c.in-Ok-None.ensures.walks bytes chain (c.loop-block.invariant.walks bytes is)) in
    reads_none bytes chain walk left gives

pub returns-in-Err-clause-reads : goal.returns-in-Err-clause-reads
returns-in-Err-clause-reads g c = λ bytes is.
    let chain = c.loop-block.chain in
    reads_fault bytes chain c.in-Err.fault c.next_block.new.self (g.S.Source.left c.next_block.new.source)
    (c.in-Err.ensures.walks bytes chain (c.loop-block.invariant.walks bytes is))
