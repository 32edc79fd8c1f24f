-- The form with witnesses is written in three parts.
use Rattle.std.proofs.Common.{◌≡◌, ℕ, List, [], ◌∷◌, ◌++◌, length, append_assoc, ap, ◌∙◌}
use Rattle.std.specs.Int.{w32, to_le_bytes, cast_unsigned}
use Rattle.std.specs.List.{flat_map}
use Rattle.cf_bytes.specs.Compact.{compact}
use Rattle.cf_block.specs.declared.tx.Tx.{Tx}
use Rattle.cf_block.specs.Tx.{input_spelling, output_spelling}
use Rattle.cf_block.specs.Stored.{Stack, stack_spelling, extended_spelling}

regroup : (old v m c i k o rest : List ℕ) → ((old ++ (v ++ m)) ++ (c ++ (i ++ (k ++ o)))) ++ rest ≡ old ++ (v ++ (m ++ (c ++ (i ++ (k ++ (o ++ rest))))))
regroup old v m c i k o rest = simp append_assoc

pub three_parts : (t : Tx) (stacks : List Stack) (old head sides new : List ℕ)
    → head ≡ old ++ (to_le_bytes w32 (cast_unsigned w32 t.version) ++ (0 ∷ 1 ∷ []))
    → sides ≡ head ++ (compact (length t.inputs) ++ (flat_map input_spelling t.inputs ++ (compact (length t.outputs) ++ flat_map output_spelling t.outputs)))
    → new ≡ sides ++ (flat_map stack_spelling stacks ++ to_le_bytes w32 t.lock_time)
    → new ≡ old ++ extended_spelling t stacks
unfolding extended_spelling
three_parts t stacks old head sides new e f g =
    let v : List ℕ = to_le_bytes w32 (cast_unsigned w32 t.version) in
    let m : List ℕ = 0 ∷ 1 ∷ [] in
    let c : List ℕ = compact (length t.inputs) in
    let i : List ℕ = flat_map input_spelling t.inputs in
    let k : List ℕ = compact (length t.outputs) in
    let o : List ℕ = flat_map output_spelling t.outputs in
    let rest : List ℕ = flat_map stack_spelling stacks ++ to_le_bytes w32 t.lock_time in
    g ∙ ap (λ (l : List ℕ). l ++ rest) (f ∙ ap (λ (l : List ℕ). l ++ (c ++ (i ++ (k ++ o)))) e) ∙ regroup old v m c i k o rest
