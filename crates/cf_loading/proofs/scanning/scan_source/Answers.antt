use Rattle.std.proofs.Common.{◌≡◌, ◌++◌, ◌∷◌, [], ℕ, List, Option, Ok, refl, sym, ◌∙◌, subst}
use Rattle.std.specs.Prelude.{IfSome, string_bytes}
use Rattle.cf_block.specs.declared.tx.Block.{Block}
use Rattle.cf_conn.proofs.Stepping.{more_steps, no_steps}
use Rattle.cf_walk.specs.Judging.{StandsOn}
use Rattle.cf_walk.specs.Striding.{Gives, IsWalking}
use Rattle.cf_index.proofs.Sources.{reads_fault, reads_none}
use Rattle.cf_loading.proofs.Scans.{scanned_more, text_so}
use Rattle.cf_loading.proofs.scanning.scan_source.Goals as goal

pub loop-block-init : goal.loop-block-init
loop-block-init g c =
    let walk = c.new-walk.result in
    record {
      way = record {
        blocks = [];
        stands = c.new-walk.ensures.stands;
        walks = λ bytes is. subst (λ (left : Option (List ℕ)). IsWalking bytes walk left []) (sym is) (c.new-walk.ensures.walks bytes);
        scanned = c.new-ledger.ensures;
      };
      count = refl;
      steps = no_steps g.S.Source.reads c.args.source.now;
    }

pub loop-block-preserved : goal.loop-block-preserved
loop-block-preserved g c =
    let so_far = c.loop-block.invariant in
    let way = so_far.way in
    let step = c.in-Ok-Some.ensures in
    let more = way.blocks ++ c.in-Ok-Some.block ∷ [] in
    let walk = c.next_block.new.self in
    let left = g.S.Source.left c.next_block.new.source in
    let stands : StandsOn walk.judge more = subst (λ (o : Option Block). IfSome o (λ b. StandsOn walk.judge (way.blocks ++ b ∷ []))) c.in-Ok-Some.field-0-is (step.stands way.blocks way.stands) in
    record {
      way = record {
        blocks = more;
        stands = stands;
        walks = λ bytes is.
            subst (λ (o : Option Block). Gives bytes way.blocks (Ok o) walk left) c.in-Ok-Some.field-0-is (step.walks bytes way.blocks (way.walks bytes is));
        scanned = scanned_more c.args.watch.now c.loop-block.ledger c.in-Ok.more way.blocks c.in-Ok-Some.block way.scanned (c.in-Ok.ensures more stands);
      };
      count = step.count ∙ so_far.count;
      steps = more_steps g.S.Source.reads c.args.source.now c.loop-block.source c.next_block.new.source so_far.steps step.steps;
    }

pub returns-in-Err-clause-told : goal.returns-in-Err-clause-told
returns-in-Err-clause-told g c = λ bytes is.
    let way = c.loop-block.invariant.way in
    reads_fault bytes way.blocks c.in-Err.fault c.next_block.new.self (g.S.Source.left c.next_block.new.source)
    (c.in-Err.ensures.walks bytes way.blocks (way.walks bytes is))

pub returns-in-Ok-text_of-clause-told : goal.returns-in-Ok-text_of-clause-told
returns-in-Ok-text_of-clause-told g c = λ bytes is.
    let way = c.loop-block.invariant.way in
    let walk = c.next_block.new.self in
    let left = g.S.Source.left c.next_block.new.source in
    let gives = subst (λ (o : Option Block). Gives bytes way.blocks (Ok o) walk left) c.in-Ok-None.field-0-is (c.in-Ok-None.ensures.walks bytes way.blocks (way.walks bytes is)) in
    record {
      blocks = way.blocks;
      read = reads_none bytes way.blocks walk left gives;
      told = text_so c.args.watch.now c.loop-block.ledger way.blocks c.height_of-height.result c.tip_hash-tip_hash.result.0 (string_bytes c.in-Ok-text_of.text) way.scanned
          (c.height_of-height.ensures way.blocks way.stands) (c.tip_hash-tip_hash.ensures way.blocks way.stands) c.in-Ok-text_of.ensures;
    }
