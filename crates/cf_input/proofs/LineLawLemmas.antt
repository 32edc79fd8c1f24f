-- Lines that are joined are cut again, and each text is made of lines.
use Rattle.std.proofs.Common.{◌≡◌, ℕ, ◌==◌, not, Bool, true, false, List, [], ◌∷◌, ◌++◌, refl, ap, ◌∙◌, append_assoc}
use Rattle.std.specs.List.{list_all}
use Rattle.std.proofs.lemmas.Bool.{and_parts, eqb-true}
use Rattle.cf_input.specs.Lines.{lines_of, with_first}
use Rattle.cf_input.specs.LineLaws.{IsLine, AreLines, ended, if_some, AreLinesOf}

isnt : (t : Bool) → not t ≡ true → t ≡ false
isnt true h = cc
isnt false h = refl

line_on : (line rest : List ℕ) → IsLine line → lines_of (line ++ 10 ∷ rest) ≡ line ∷ lines_of rest
unfolding lines_of
line_on [] rest h = refl
line_on (b ∷ line) rest h =
    let both = and_parts (not (b == 10)) (list_all (λ b. not (b == 10)) line) h in
    rw (isnt (b == 10) both.0) (ap (with_first b) (line_on line rest both.1))

last_on : (line : List ℕ) → IsLine line → lines_of line ≡ if_some line
unfolding lines_of
last_on [] h = refl
last_on (b ∷ []) h = rw (isnt (b == 10) (and_parts (not (b == 10)) true h).0) refl
last_on (b ∷ c ∷ line) h =
    let both = and_parts (not (b == 10)) (list_all (λ b. not (b == 10)) (c ∷ line)) h in
    rw (isnt (b == 10) both.0) (ap (with_first b) (last_on (c ∷ line) both.1))

pub lines_again : (lines : List (List ℕ)) (last : List ℕ) → AreLines lines → IsLine last → lines_of (ended lines ++ last) ≡ lines ++ if_some last
lines_again [] last each plain = last_on last plain
lines_again (line ∷ lines) last each plain =
    ap lines_of (append_assoc (line ++ 10 ∷ []) (ended lines) last ∙ append_assoc line (10 ∷ []) (ended lines ++ last))
    ∙ line_on line (ended lines ++ last) each.0
    ∙ ap (λ ls. line ∷ ls) (lines_again lines last each.1 plain)

put_first : (b : ℕ) (rest : List ℕ) → (b == 10) ≡ false → (lines : List (List ℕ)) (last : List ℕ) → AreLinesOf rest lines last → (ls : List (List ℕ)) × ((l : List ℕ) × AreLinesOf (b ∷ rest) ls l)
put_first b rest h [] last are = (
  [],
  (
    b ∷ last,
    record {
      each = tt;
      plain = rw h are.plain;
      spelled = ap (λ r. b ∷ r) are.spelled;
    },
  ),
)
put_first b rest h (line ∷ lines) last are = (
  (b ∷ line) ∷ lines,
  (
    last,
    record {
      each = (rw h are.each.0, are.each.1);
      plain = are.plain;
      spelled = ap (λ r. b ∷ r) are.spelled;
    },
  ),
)

put_end : (b : ℕ) (rest : List ℕ) → b ≡ 10 → (lines : List (List ℕ)) (last : List ℕ) → AreLinesOf rest lines last → (ls : List (List ℕ)) × ((l : List ℕ) × AreLinesOf (b ∷ rest) ls l)
put_end b rest e lines last are = (
  [] ∷ lines,
  (
    last,
    record {
      each = (refl, are.each);
      plain = are.plain;
      spelled = ap (λ x. x ∷ rest) e ∙ ap (λ r. 10 ∷ r) are.spelled;
    },
  ),
)

pub lines_found : (text : List ℕ) → (lines : List (List ℕ)) × ((last : List ℕ) × AreLinesOf text lines last)
lines_found [] = ([], ([], record { each = tt; plain = refl; spelled = refl }))
lines_found (b ∷ rest) =
    let more = lines_found rest in
    elim (b == 10) as (λ t. (b == 10) ≡ t → (lines : List (List ℕ)) × ((last : List ℕ) × AreLinesOf (b ∷ rest) lines last)) [
      | true ↦ λ h. put_end b rest (eqb-true b 10 h) more.0 more.1.0 more.1.1
      | false ↦ λ h. put_first b rest h more.0 more.1.0 more.1.1
    ] refl
