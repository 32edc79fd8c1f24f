-- machine: what a peer in memory hears of the bytes of one send.
use Rattle.std.specs.Prelude.{◌≡◌, List, ℕ, [], ◌∷◌, Option, Some, None}
use Rattle.cf_frame.specs.declared.frame.Frame.{Frame}
use Rattle.cf_frame.specs.Stream.{read_stream}
use Rattle.cf_peer.specs.Trail.{spelled}

-- the bytes are this frame and nothing more; or they spell nothing
abbrev pub IsWholeFrame : List ℕ → Option Frame → Type 0
IsWholeFrame bytes (Some f) = read_stream bytes ≡ record { frames = f ∷ []; rest = []; fault = None }
IsWholeFrame bytes None = spelled bytes ≡ None
