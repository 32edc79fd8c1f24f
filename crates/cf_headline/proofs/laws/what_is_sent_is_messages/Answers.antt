use Rattle.cf_headline.proofs.Sends.{sent_messages}
use Rattle.cf_headline.proofs.laws.what_is_sent_is_messages.Goals as goal

pub returns : goal.returns
returns c = sent_messages
