use Rattle.std.proofs.Common.{refl, rules}
use Rattle.std.proofs.Math.Facts.{to_z-of_z}
use Rattle.std.proofs.lemmas.Option.{IfSome_then}
use Rattle.std.proofs.lemmas.Result.{IfErr-weaker, IfOk-weaker}
use Rattle.std.specs.Int.{w64}
use Rattle.cf_sync.proofs.Follows.{follow_theorem_of}
use Rattle.cf_run.specs.Names.{names_in}
use Rattle.cf_run.proofs.Passing.{leaves_wires}
use Rattle.cf_run.proofs.Puts.{gives_finished}
use Rattle.cf_run.proofs.Versions.{greeting_so}
use Rattle.cf_run.proofs.follow.follow_traced.Goals as goal

pub returns : goal.returns
returns g c =
    let all = c.follow_all-outcome.ensures in
    let end = c.finish.ensures in
    let greeting = greeting_so _ _ c.args.moment c.args.nonce refl (to_z-of_z {w = w64} {z = c.args.moment} (search rules)) in
    record {
      outcome = rw end.told all.outcome;
      theorem = rw end.told
          (IfOk-weaker c.follow_all-outcome.result _ _
          (λ o is. IfSome_then _ is (λ log came. follow_theorem_of c.args.watch o.height o.tip o.history log
          came.followed.asked)) all.outcome);
      within = rw end.told all.within;
      done = rw end.told all.done;
      wires = leaves_wires _ _ greeting c.requires.wires all.passes end.told end.later end.same end.keeps;
      right = rw end.told all.right;
      put = rw end.told all.put;
      cut = rw end.told
          (IfErr-weaker c.follow_all-outcome.result _ _
          (λ fail cut. gives_finished fail g.T.Texts.told g.T.Texts.faults c.args.watch
          (names_in c.args.names.now) _ _ _ cut) all.cut);
      same_reference = all.same_reference;
    }
