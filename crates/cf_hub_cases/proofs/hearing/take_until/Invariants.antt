use Rattle.cf_hub.specs.Book.{told_of}
use Rattle.cf_hub_cases.specs.Stays.{OnlyHears}
use Rattle.cf_hub_cases.specs.Telling.{Keeps}
use Rattle.cf_hub_cases.proofs.hearing.take_until.Given as goal

abbrev pub invariant-loop : goal.invariant-loop
invariant-loop g l = record {
  keeps : Keeps (told_of l.hub.book) l.came;
  stays : OnlyHears l.initial.hub l.hub;
}
