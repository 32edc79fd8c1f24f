use Rattle.std.proofs.Common.{◌≡◌, length}
use Rattle.std.specs.List.{list_any}
use Rattle.cf_headers.specs.Store.{own_of}
use Rattle.cf_peer.specs.Trail.{is_unknown}
use Rattle.cf_tracker.specs.Tracker.{chains_of}
use Rattle.cf_hear.proofs.hear.are_news.Given as goal

abbrev pub invariant-loop-entry : goal.invariant-loop-entry
invariant-loop-entry g l = record {
  same : list_any (is_unknown (own_of (chains_of l.tracker) l.p)) l.fn.entries
      ≡ list_any (is_unknown (own_of (chains_of l.tracker) l.p)) l.entries;
}

abbrev pub decreases-loop-entry : goal.decreases-loop-entry
decreases-loop-entry g l = length l.entries
