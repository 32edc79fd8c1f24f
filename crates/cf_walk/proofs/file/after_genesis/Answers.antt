use Rattle.std.proofs.Common.{◌≡◌, ℕ, true, List, ◌++◌, sym, ap, ◌∙◌}
use Rattle.cf_walk.specs.Files.{is_first}
use Rattle.cf_walk.specs.Records.{record_with}
use Rattle.cf_walk.proofs.FileLaws.{begins_first}
use Rattle.cf_walk.proofs.file.after_genesis.Goals as goal

pub returns-then-branch-clause-found : goal.returns-then-branch-clause-found
returns-then-branch-clause-found c =
    let spelled : c.args.bytes.now ≡ record_with c.in-Ok.text.now ++ c.rest.result.now =
    sym c.new-cut.ensures ∙ c.in-Ok.ensures.found.0 ∙ ap (λ (l : List ℕ). record_with c.in-Ok.text.now ++ l) (sym c.rest.ensures) in
    let first : is_first c.in-Ok-block_of.block ≡ true = sym c.in_ok-is_genesis-in-Ok-block_of.ensures ∙ c.if-branch.true in
    begins_first c.args.bytes.now c.in-Ok.text.now c.rest.result.now c.in-Ok-block_of.block spelled c.in-Ok.ensures.found.1 c.in-Ok-block_of.ensures.found first
