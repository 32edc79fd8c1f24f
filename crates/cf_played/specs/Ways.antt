-- statement: how a peer of a kind answers.
use Rattle.cf_played.specs.declared.kind.Manner.{Manner}
use Rattle.cf_played.specs.declared.kind.Manner.TheVariants as kinds
use Rattle.cf_played.specs.declared.kind.Way.{Way}
use Rattle.cf_played.specs.declared.kind.Way.TheVariants.{Honest, Omits, Silent}

-- the way in which a peer of this kind answers
abbrev pub way_of : Manner → Way
way_of kinds.Honest = Honest
way_of (kinds.Omits scripts) = Omits
way_of kinds.Silent = Silent
