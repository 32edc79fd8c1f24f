use Rattle.cf_input.proofs.NameLemmas.{name_is_text, text_is_found}
use Rattle.cf_input.proofs.session.text_of.Goals as goal

pub unwrap-text-requires : goal.unwrap-text-requires
unwrap-text-requires c = text_is_found _ _ _ c.from_utf8.result c.from_utf8.ensures.cases (name_is_text c.args.name.now c.requires)
