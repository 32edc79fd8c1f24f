use Rattle.std.proofs.Common.{◌≡◌, [], get_or, ◌∙◌, sym}
use Rattle.std.specs.Prelude.{◌≢◌}
use Rattle.std.proofs.lemmas.Bool.{false≢true}
use Rattle.std.proofs.lemmas.Option.{slice_get-get_or}
use Rattle.cf_played.specs.declared.player.Player.{Player}
use Rattle.cf_played.proofs.TurnLemmas.{first_here, rest_more}
use Rattle.cf_played.proofs.turns.first_from.Goals as goal

pub returns-then-not-is_empty : goal.returns-then-not-is_empty
returns-then-not-is_empty c =
    let player : Player = get_or c.args.players.now c.loop-i.i c.index-players-i.result in
    let some : player.waiting ≢ [] = λ none. false≢true (sym c.if-not-is_empty.true ∙ c.is_empty.ensures.1 none) in
    first_here c.args.players.now c.args.from c.loop-i.i player (slice_get-get_or c.args.players.now c.loop-i.i c.index-players-i.result c.loop-i-test.true) c.loop-i.auto.i some c.loop-i.invariant.resting

pub loop-i-preserved : goal.loop-i-preserved
loop-i-preserved c =
    let player : Player = get_or c.args.players.now c.loop-i.i c.index-players-i.result in
    let none : player.waiting ≡ [] = c.is_empty.ensures.0 c.if-not-is_empty.false in
    record { resting = rest_more c.args.players.now c.args.from c.loop-i.i player c.loop-i.invariant.resting (slice_get-get_or c.args.players.now c.loop-i.i c.index-players-i.result c.loop-i-test.true) none }
