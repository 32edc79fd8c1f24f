use Rattle.std.proofs.Common.{◌∷◌, [], ap}
use Rattle.cf_msg.specs.declared.msg.Msg.TheVariants.{Headers}
use Rattle.cf_chain.specs.Heights.{block_height}
use Rattle.cf_chain.specs.Serve.{fork_height, most_headers}
use Rattle.cf_chain.proofs.Answering.{nothing_above, none_before, none_again, other_type, unknown_stop, turned, long_filters, long_headers, each_filter, no_more}
use Rattle.cf_chain.proofs.laws_of_replies.Goals as goal

pub returns-clause-genesis : goal.returns-clause-genesis
returns-clause-genesis c = λ version first more stop.
    let fork = fork_height (first ∷ more) [] in
    ap (λ hs. Headers hs ∷ []) (nothing_above (most_headers fork (block_height stop [])) fork)

pub returns-clause-before : goal.returns-clause-before
returns-clause-before c = none_before

pub returns-clause-second : goal.returns-clause-second
returns-clause-second c = none_again

pub returns-clause-other_type : goal.returns-clause-other_type
returns-clause-other_type c = other_type

pub returns-clause-unknown_stop : goal.returns-clause-unknown_stop
returns-clause-unknown_stop c = unknown_stop

pub returns-clause-turned : goal.returns-clause-turned
returns-clause-turned c = turned

pub returns-clause-long_filters : goal.returns-clause-long_filters
returns-clause-long_filters c = long_filters

pub returns-clause-long_headers : goal.returns-clause-long_headers
returns-clause-long_headers c = long_headers

pub returns-clause-each : goal.returns-clause-each
returns-clause-each c = each_filter

pub returns-clause-no_more : goal.returns-clause-no_more
returns-clause-no_more c = no_more
