use Rattle.std.proofs.Common.{◌≡◌, ◌≤◌, ◌++◌, List, ℕ, min, take, drop, length, ◌∙◌, ap, arith, length-append}
use Rattle.std.proofs.lemmas.List.{drop-append-le}
use Rattle.cf_frame.specs.Lending.{lacks}
use Rattle.cf_frame.proofs.Lending.{filled, two_parts}
use Rattle.cf_frame.proofs.framer.Framer.fill.Goals as goal

pub returns-in-Ok : goal.returns-in-Ok
returns-in-Ok c =
    let items = c.self.inside.bytes.items in
    let start = c.self.inside.start in
    let now = c.args.self.now in
    let piece = c.args.piece.now in
    let head = c.min-head.result in
    let body = c.min-body.result in
    let first = c.split_at.result.0.now in
    let second = take body c.split_at.result.1.now in
    let low : start ≤ length items = omega (arith, c.self.invariant, c.self.inside.bytes.ok.0) in
    let more : c.extend_from_slice.new.self.items ≡ items ++ first = c.in_ok-extend_from_slice.ensures.items in
    let view : drop start c.extend_from_slice.new.self.items ≡ now ++ take head piece =
    ap (drop start) more ∙ drop-append-le start items first low
    ∙ ap (λ (l : List ℕ). l ++ first) c.self.view_is
    ∙ ap (λ (l : List ℕ). now ++ l) c.split_at.ensures.front in
    let low_2 : start ≤ length c.extend_from_slice.new.self.items =
    omega (arith, low, ap length more, length-append items first) in
    record {
      filled = filled now piece head body
          (c.min-head.ensures ∙ ap (λ (n : ℕ). min n (length piece)) c.lacks.ensures)
          (c.min-body.ensures
          ∙ ap (λ (n : ℕ). min n (length c.split_at.result.1.now)) (c.lacks-2.ensures ∙ ap lacks view)
          ∙ ap (λ (l : List ℕ). min (lacks (now ++ take head piece)) (length l)) c.split_at.ensures.back);
      ok = ap (drop start) c.in-Ok.ensures.items
          ∙ drop-append-le start c.extend_from_slice.new.self.items second low_2
          ∙ ap (λ (l : List ℕ). l ++ second) view
          ∙ ap (λ (l : List ℕ). (now ++ take head piece) ++ take body l) c.split_at.ensures.back
          ∙ two_parts now piece head body;
      err = tt;
    }
