use Rattle.std.proofs.Common.{◌-◌, ℕ, map, refl, sym, ap, ◌∙◌, arith}
use Rattle.cf_block.specs.Header.{genesis_header}
use Rattle.cf_bytes.specs.declared.hash.Hash32.{Hash32}
use Rattle.cf_headers.specs.Chain.{Hash, lower, back_to}
use Rattle.cf_headers.specs.Store.{own_of}
use Rattle.cf_seek.proofs.Stops.{top_is, pushed, blocks_are, parent_is}
use Rattle.cf_seek.proofs.spans.span_of.Goals as goal

pub hash_at-requires-clause-within : goal.hash_at-requires-clause-within
hash_at-requires-clause-within g c =
    let own = own_of (g.H.HeaderStore.chain c.args.store.now) c.args.p in
    let s = top_is own c.args.start c.args.end c.unwrap_or-top.result c.hash_at-stop.result.0 c.place.result c.requires.within c.hash_at-stop.ensures c.place.ensures c.unwrap_or-top.ensures c.requires.apart in
    omega (arith, c.loop-below-test.true, s.high, c.requires.within)

pub loop-below-preserved : goal.loop-below-preserved
loop-below-preserved g c =
    let own = own_of (g.H.HeaderStore.chain c.args.store.now) c.args.p in
    let s = top_is own c.args.start c.args.end c.unwrap_or-top.result c.hash_at-stop.result.0 c.place.result c.requires.within c.hash_at-stop.ensures c.place.ensures c.unwrap_or-top.ensures c.requires.apart in
    record {
      low = omega (arith, c.loop-below.invariant.low);
      are = pushed own (c.args.start - 1) c.loop-below.below c.hash_at.result c.loop-below.blocks.items c.push.new.self.items genesis_header c.in_ok-push.ensures.items c.loop-below.invariant.low
          (omega (arith, c.loop-below-test.true, s.high, c.requires.within)) c.hash_at.ensures c.loop-below.invariant.are;
    }

pub returns : goal.returns
returns g c =
    let own = own_of (g.H.HeaderStore.chain c.args.store.now) c.args.p in
    let top = c.unwrap_or-top.result in
    let s = top_is own c.args.start c.args.end top c.hash_at-stop.result.0 c.place.result c.requires.within c.hash_at-stop.ensures c.place.ensures c.unwrap_or-top.ensures c.requires.apart in
    record {
      first = refl;
      stop = c.hash_at-stop.ensures;
      part = s.part;
      tip = ap (λ (x : Hash). back_to x own) c.hash_at-stop.ensures ∙ s.tip;
      is = s.is ∙ ap (λ (n : ℕ). lower n own) (sym s.count);
      low = omega (arith, s.low, s.count);
      high = omega (arith, s.high, s.count);
      parent = c.hash_at-parent.ensures ∙ parent_is own top (c.args.start) s.part s.is (omega (arith, s.low)) (omega (arith, s.high, c.requires.within));
      blocks = blocks_are own top c.args.start c.loop-below.below s.part (map (λ (h : Hash32). h.0) c.loop-below.blocks.items) s.is
          (omega (arith, c.loop-below-test.false, c.loop-below.auto.below-end, c.loop-below.invariant.low, s.low)) c.loop-below.invariant.are;
    }
