use Rattle.std.proofs.Common.{length, ap, sym, ◌∙◌, ◌<◌}
use Rattle.cf_siphash.specs.SipHash.{absorb, finish}
use Rattle.cf_siphash.proofs.Words.{word_in, left_in, last_in}
use Rattle.cf_siphash.proofs.sip24.Goals as goal

pub loop-word-preserved : goal.loop-word-preserved
loop-word-preserved c =
    let cut = c.in-Some.ensures.cases in
    record {
      words = word_in _ c.loop-word.state c.absorb-state.result c.loop-word.rest.now c.in-Some.word.now c.in-Some.more.now c.from_le_bytes.result cut.0 cut.1 cut.2 c.from_le_bytes.ensures c.absorb-state.ensures c.loop-word.invariant.words;
      left = left_in c.args.bytes.now c.loop-word.rest.now c.in-Some.more.now cut.1 cut.2 c.loop-word.invariant.left;
    }

pub returns : goal.returns
returns c =
    let few : length c.loop-word.rest.now < 8 = c.in_default.ensures.cases in
    c.finish.ensures ∙ ap finish (c.absorb.ensures ∙ ap (absorb c.loop-word.state) c.last_word.ensures)
    ∙ sym (last_in c.args.k0 c.args.k1 c.args.bytes.now c.loop-word.rest.now c.loop-word.state few c.loop-word.invariant.words c.loop-word.invariant.left)
