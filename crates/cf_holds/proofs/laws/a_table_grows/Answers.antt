use Rattle.cf_holds.proofs.TableGrows.{holds_without, holds_after_piece, same_holds}
use Rattle.cf_holds.proofs.laws.a_table_grows.Goals as goal

pub returns-clause-held : goal.returns-clause-held
returns-clause-held c = same_holds

pub returns-clause-kept : goal.returns-clause-kept
returns-clause-kept c = holds_without

pub returns-clause-grown : goal.returns-clause-grown
returns-clause-grown c = holds_after_piece
