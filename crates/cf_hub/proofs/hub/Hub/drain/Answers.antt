use Rattle.cf_hub.proofs.hub.Hub.drain.Goals as goal

pub returns-then-self-clause-ended : goal.returns-then-self-clause-ended
returns-then-self-clause-ended g c = c.args.self.now.over c.if-self.true
