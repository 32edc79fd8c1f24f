use Rattle.cf_tracker.specs.Seen.{seen_of}
use Rattle.cf_client.proofs.Holding.{holds_no_more}
use Rattle.cf_client.proofs.held.held_of.Goals as goal

pub returns-clause-few : goal.returns-clause-few
returns-clause-few g c = λ log stand tracks.
    holds_no_more g.H.HeaderStore.counts c.args.places.now (seen_of c.args.tracker.now) _ log c.headers_held.ensures
    (record {
      claims = c.claims_held.ensures;
      verdicts = c.verdicts_held.ensures;
      extracts = c.extracts_held.ensures;
      outputs = c.outputs_held.ensures;
    }) c.filters_at_all.ensures c.most_bytes.ensures c.requires stand tracks
