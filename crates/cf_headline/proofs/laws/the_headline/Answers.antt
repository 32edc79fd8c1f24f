use Rattle.std.proofs.Common.{◌≡◌, true}
use Rattle.cf_headline.proofs.Serving.{headline_of}
use Rattle.cf_headline.proofs.laws.the_headline.Goals as goal

pub returns : goal.returns
returns c = λ done scripts text log. headline_of (done ≡ true) scripts text log
