-- machine: what is open to all peers.
use Rattle.cf_seek.specs.declared.opens.Opens.{Opens as KeptOpens}
use Rattle.cf_seek.specs.Opens.{Opens}
use Rattle.cf_seek.specs.OpensOf.{opens_among}

abbrev pub opens_in : KeptOpens → Opens
opens_in o = opens_among o.peers.items
