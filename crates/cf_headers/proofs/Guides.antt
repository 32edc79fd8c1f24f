-- Headers that stand at the nodes of names.
use Rattle.std.proofs.Common.{◌≡◌, ℕ, zero, suc, ◌≤◌, List, [], map, length, get_or, drop, ap, ◌∙◌, arith, length-drop}
use Rattle.std.proofs.lemmas.Option.{slice_get_within}
use Rattle.std.proofs.lemmas.List.{length-map, get_or_past}
use Rattle.cf_block.specs.declared.header.Header.{Header}
use Rattle.cf_headers.specs.declared.ways.Way.{Way}
use Rattle.cf_headers.specs.Nodes.{Nodes, StandTo, names_over}

-- what stands is within both lists
stand_within : (nodes : Nodes) (names : List ℕ) (headers : List Header) (many : ℕ) → StandTo nodes names headers many → (many ≤ length names) × (many ≤ length headers)
stand_within nodes names headers zero stand = (omega arith, omega arith)
stand_within nodes names headers (suc n) stand =
    let last = stand n (omega arith) in
    let within = slice_get_within headers n last.header last.is in
    (omega (arith, last.within), omega (arith, within))

-- no header stands on a way that isn't there
pub none_over : (nodes : Nodes) (ways : List Way) (k q many : ℕ) (headers : List Header) → length ways ≤ q → StandTo nodes (names_over ways k q) headers many → many ≤ 0
none_over nodes ways k q many headers past stand =
    let lists = map (λ (way : Way). way.names.items) ways in
    let size : length lists ≡ length ways = simp length-map in
    let none : get_or lists q [] ≡ [] = get_or_past lists q [] (omega (arith, size, past)) in
    let over : length (names_over ways k q) ≡ 0 = ap (λ (xs : List ℕ). length (drop k xs)) none ∙ (simp length-drop (omega arith)) in
    omega (arith, over, (stand_within nodes (names_over ways k q) headers many stand).0)
