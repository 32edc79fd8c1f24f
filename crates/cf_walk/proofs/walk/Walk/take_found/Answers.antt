use Rattle.cf_walk.proofs.walk.Walk.take_found.Goals as goal

pub returns-clause-stands : goal.returns-clause-stands
returns-clause-stands c = λ blocks s. record { good = s.good; tip = s.tip; past = s.past; height = s.height; coins = s.coins }

pub returns-clause-walks : goal.returns-clause-walks
returns-clause-walks c = λ bytes left blocks w. record {
  stands = record { good = w.stands.good; tip = w.stands.tip; past = w.stands.past; height = w.stands.height; coins = w.stands.coins };
  few = w.few;
  fresh = w.fresh;
  rest = w.rest;
  told = w.told;
  others = w.others;
  exact = w.exact;
}
