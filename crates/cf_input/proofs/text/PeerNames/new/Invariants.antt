use Rattle.std.proofs.Common.{◌≡◌, take, map}
use Rattle.std.specs.Prelude.{string_bytes}
use Rattle.cf_input.proofs.text.PeerNames.new.Given as goal

abbrev pub invariant-loop-text : goal.invariant-loop-text
invariant-loop-text l = record { names : map string_bytes l.names.items ≡ map (λ t. t.now) (take l.text-index l.texts) }
