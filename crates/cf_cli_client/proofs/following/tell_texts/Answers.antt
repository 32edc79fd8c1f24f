use Rattle.std.proofs.Common.{inl, inr, refl, ◌∙◌}
use Rattle.cf_cli_client.proofs.Told.{said_with, sink_spared}
use Rattle.cf_cli_client.proofs.following.tell_texts.Goals as goal

pub returns-in_default-clause-told : goal.returns-in_default-clause-told
returns-in_default-clause-told g c = record { said = inr (inl refl, refl); put = inr (refl, refl) }

pub returns-in_default-behind_trace-clause-told : goal.returns-in_default-behind_trace-clause-told
returns-in_default-behind_trace-clause-told g c = record { said = inr (inl refl, refl); put = inl c.in-Ok.ensures }

pub returns-clause-told : goal.returns-clause-told
returns-clause-told g c = record {
  said = inl (said_with c.args.outcome.end c.args.outcome.ends.items _ _ c.say.result (c.deref.ensures.value ∙ c.in-Ok-behind_trace.ensures) c.say.ensures.said);
  put = inl c.in-Ok.ensures;
}

-- ---- the sink

pub returns-in_default-clause-counts : goal.returns-in_default-clause-counts
returns-in_default-clause-counts g c = sink_spared _

pub returns-in_default-behind_trace-clause-counts : goal.returns-in_default-behind_trace-clause-counts
returns-in_default-behind_trace-clause-counts g c = sink_spared _

pub returns-clause-counts : goal.returns-clause-counts
returns-clause-counts g c = c.say.ensures.counts
