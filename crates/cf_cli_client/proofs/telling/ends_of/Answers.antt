use Rattle.std.proofs.Common.{◌∙◌}
use Rattle.cf_cli_client.proofs.telling.ends_of.Goals as goal

pub returns : goal.returns
returns c = c.in_ok-to_vec.ensures.items_if_clones_equal (λ x y e. e) ∙ c.as_slice.ensures.value
