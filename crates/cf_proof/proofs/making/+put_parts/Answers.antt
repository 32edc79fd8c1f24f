use Rattle.std.proofs.Common.{◌-◌, ◌*◌, ◌+◌, ◌++◌, ◌∷◌, [], true, false, length, sym, ap, ◌∙◌, arith}
use Rattle.cf_block.specs.Views.{bytes_of}
use Rattle.cf_proof.proofs.TreeLemmas.{left_there}
use Rattle.cf_proof.proofs.MakeLemmas.{leaf_node, parts_leaf, parts_off, parts_both, parts_one, one_hash, then_two, two_more, is_there_of}
use Rattle.cf_proof.proofs.making.+put_parts.Goals as goal

pub returns-then-height-eq0-clause-bits : goal.returns-then-height-eq0-clause-bits
returns-then-height-eq0-clause-bits t c =
    c.in_ok-push.ensures.items ∙ ap (λ x. c.args.bits.now.items ++ x.bits) (sym (parts_leaf (bytes_of c.args.leaves.now) c.args.leaf c.args.height c.args.place c.if-height-eq0.true))

pub returns-then-height-eq0-clause-hashes : goal.returns-then-height-eq0-clause-hashes
returns-then-height-eq0-clause-hashes t c =
    one_hash c.args.hashes.now.items _ _ _ c.in_ok-push-2.ensures.items (leaf_node c.args.leaves.now c.args.height c.args.place _ c.if-height-eq0.true c.requires.there)
    ∙ ap (λ x. bytes_of c.args.hashes.now.items ++ x.hashes) (sym (parts_leaf (bytes_of c.args.leaves.now) c.args.leaf c.args.height c.args.place c.if-height-eq0.true))

pub returns-then-leaf-height-clause-bits : goal.returns-then-leaf-height-clause-bits
returns-then-leaf-height-clause-bits t c =
    c.in_ok-push-3.ensures.items ∙ ap (λ x. c.args.bits.now.items ++ x.bits) (sym (parts_off (bytes_of c.args.leaves.now) c.args.leaf c.args.height (c.args.height - 1) c.args.place (omega arith) c.if-leaf-height.true))

pub returns-then-leaf-height-clause-hashes : goal.returns-then-leaf-height-clause-hashes
returns-then-leaf-height-clause-hashes t c =
    one_hash c.args.hashes.now.items _ _ _ c.in_ok-push-4.ensures.items c.node.ensures
    ∙ ap (λ x. bytes_of c.args.hashes.now.items ++ x.hashes) (sym (parts_off (bytes_of c.args.leaves.now) c.args.leaf c.args.height (c.args.height - 1) c.args.place (omega arith) c.if-leaf-height.true))

pub put_parts-requires : goal.put_parts-requires
put_parts-requires t c = (omega arith, (c.requires.few, (omega arith, left_there c.args.place c.args.height (length c.args.leaves.now) (omega arith) c.requires.there)))

pub returns-in_ok-put_parts-2-clause-bits : goal.returns-in_ok-put_parts-2-clause-bits
returns-in_ok-put_parts-2-clause-bits t c =
    two_more c.args.bits.now.items _ _ _ (true ∷ []) _ _ c.in_ok-push-5.ensures.items c.in_ok-put_parts.ensures.bits c.in_ok-put_parts-2.ensures.bits
    ∙ ap (λ x. c.args.bits.now.items ++ x.bits) (sym (parts_both (bytes_of c.args.leaves.now) c.args.leaf c.args.height (c.args.height - 1) c.args.place (omega arith) c.if-leaf-height.false (is_there_of c.args.leaves.now (c.args.height - 1) (2 * c.args.place + 1) true (sym c.if-is_there.ensures))))

pub returns-in_ok-put_parts-2-clause-hashes : goal.returns-in_ok-put_parts-2-clause-hashes
returns-in_ok-put_parts-2-clause-hashes t c =
    then_two (bytes_of c.args.hashes.now.items) _ _ _ _ c.in_ok-put_parts.ensures.hashes c.in_ok-put_parts-2.ensures.hashes
    ∙ ap (λ x. bytes_of c.args.hashes.now.items ++ x.hashes) (sym (parts_both (bytes_of c.args.leaves.now) c.args.leaf c.args.height (c.args.height - 1) c.args.place (omega arith) c.if-leaf-height.false (is_there_of c.args.leaves.now (c.args.height - 1) (2 * c.args.place + 1) true (sym c.if-is_there.ensures))))

pub returns-else-is_there-clause-bits : goal.returns-else-is_there-clause-bits
returns-else-is_there-clause-bits t c =
    then_two c.args.bits.now.items _ _ (true ∷ []) _ c.in_ok-push-5.ensures.items c.in_ok-put_parts.ensures.bits
    ∙ ap (λ x. c.args.bits.now.items ++ x.bits) (sym (parts_one (bytes_of c.args.leaves.now) c.args.leaf c.args.height (c.args.height - 1) c.args.place (omega arith) c.if-leaf-height.false (is_there_of c.args.leaves.now (c.args.height - 1) (2 * c.args.place + 1) false (sym c.if-is_there.ensures))))

pub returns-else-is_there-clause-hashes : goal.returns-else-is_there-clause-hashes
returns-else-is_there-clause-hashes t c =
    c.in_ok-put_parts.ensures.hashes
    ∙ ap (λ x. bytes_of c.args.hashes.now.items ++ x.hashes) (sym (parts_one (bytes_of c.args.leaves.now) c.args.leaf c.args.height (c.args.height - 1) c.args.place (omega arith) c.if-leaf-height.false (is_there_of c.args.leaves.now (c.args.height - 1) (2 * c.args.place + 1) false (sym c.if-is_there.ensures))))
