-- What the functions over one chain's list cite of the proofs on chains.
use Rattle.cf_headers.proofs.Accepting.{accept_at_link, accept_none, accept_unlinked, link_is, link_low, on_high, on_longer, on_no_longer}
use Rattle.cf_headers.proofs.Commons.{prefix_on}
use Rattle.cf_headers.proofs.EntryLists.{common_end, common_is, common_known, common_no, common_yes, many}
use Rattle.cf_headers.proofs.Stacks.{back_on, entries_fit, hash_high, height_is, heights_same, place_found, place_genesis, place_nowhere, stacked}

-- the hash at a height
pub ruleset hashes = (hash_high, height_is, heights_same)

-- the height of a hash
pub ruleset places = (entries_fit, heights_same, place_genesis, place_found, place_nowhere, back_on)

-- how many headers two lists share at their start
pub ruleset counts = (prefix_on, common_no, common_yes, common_end)

-- the height that two chains share
pub ruleset commons = (entries_fit, common_is, common_known)

-- what becomes of headers that a peer sent
pub ruleset accepts = (accept_none, accept_unlinked, accept_at_link, link_is, link_low)

-- what becomes of headers that break no rule
pub ruleset puts = (many, height_is, stacked, on_high, on_no_longer, on_longer)
