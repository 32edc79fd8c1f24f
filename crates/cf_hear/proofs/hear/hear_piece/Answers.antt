use Rattle.cf_tracker.specs.Seen.{seen_of}
use Rattle.cf_hear.proofs.Hearing.{put_back}
use Rattle.cf_hear.proofs.hear.hear_piece.Goals as goal

pub returns-clause-heard : goal.returns-clause-heard
returns-clause-heard g c =
    put_back c.hear_frames-heard.result c.args.p c.args.peer.now c.take_framer-framer.new.self c.hear_frames-heard.new.peer c.put_framer.new.self
    c.take_framer-framer.result c.hear_frames-heard.new.framer c.args.piece.now (seen_of c.args.tracker.now) (seen_of c.hear_frames-heard.new.tracker)
    c.args.acts.now.items c.hear_frames-heard.new.acts.items
    c.take_framer-framer.ensures.others c.take_framer-framer.ensures.framer c.put_framer.ensures c.hear_frames-heard.ensures.heard
