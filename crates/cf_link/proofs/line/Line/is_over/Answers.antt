use Rattle.std.proofs.Common.{◌+◌, ◌<◌, ◌∙◌, map, take, drop, length, ap, sym, arith}
use Rattle.std.proofs.lemmas.List.{length-map}
use Rattle.cf_link.proofs.Places.{flag_at}
use Rattle.cf_link.proofs.line.Line.is_over.Goals as goal

pub returns : goal.returns
returns g c =
    let live = c.self.inside.live.items in
    let few : c.args.i < length live = (let e = c.requires in let v = ap (λ l. length l.flags) c.self.view_is in let m = length-map live (λ x. x.flag) in omega (arith, e, v, m)) in
    let e = flag_at live c.args.i c.index.result.now few c.index.ensures in
    (map (λ x. x.flag) (take c.args.i live), c.index.result.now.flag, map (λ x. x.flag) (drop (c.args.i + 1) live), sym (ap (λ l. l.flags) c.self.view_is) ∙ e.0, e.1, c.is_raised.ensures)
