-- What is left of a list.
use Rattle.std.proofs.Common.{◌≡◌, ℕ, ◌-◌, ◌≤◌, List, ◌++◌, length, take, drop, refl, sym, ap, ◌∙◌, arith, append_assoc, length-append, Bool, true, false, not}
use Rattle.std.proofs.lemmas.List.{drop_at, take_rest, take-append-drop}
use Rattle.std.specs.Int.{w32, to_le_bytes}
use Rattle.cf_bytes.specs.Magic.{magic}
use Rattle.cf_frame.specs.declared.frame.Frame.{Frame}
use Rattle.cf_frame.specs.Frame.{checksum, spelling, is_command}
use Rattle.cf_frame.specs.Reading.{Begins}
use Rattle.std.specs.Str.{bytes_eq}
use Rattle.std.proofs.lemmas.Slice.Eq.{bytes_eq-Decides}

-- the last bytes are those behind the others
pub suffix : (items text new : List ℕ) → items ≡ text ++ new → drop (length items - length new) items ≡ new
suffix items text new e =
    let k : length items - length new ≡ length text = omega (arith, ap length e, length-append text new) in
    rw (k, e) (drop_at text new (length text) refl)

-- the parts of a frame, joined
pub regroup : (f : Frame) (new : List ℕ) → magic ++ (f.command ++ (to_le_bytes w32 (length f.payload) ++ (checksum f.payload ++ (f.payload ++ new)))) ≡ spelling f ++ new
unfolding spelling
regroup f new = simp append_assoc

not_false : (b : Bool) → not b ≡ false → b ≡ true
not_false true h = refl
not_false false h = cc

-- the parts that passed the tests are a frame
pub made : (old new first command sum p rest : List ℕ) (len : ℕ) → old ≡ first ++ (command ++ (to_le_bytes w32 len ++ (sum ++ rest))) → rest ≡ p ++ new → length p ≡ len
    → first ≡ magic → is_command command ≡ true → length command ≡ 12 → len ≤ 4000000 → not (bytes_eq sum (checksum p)) ≡ false → Begins old (record { command = command; payload = p }) new
made old new first command sum p rest len joined behind long same good twelve few right =
    let sum_is : sum ≡ checksum p = (bytes_eq-Decides sum (checksum p)).0 (not_false (bytes_eq sum (checksum p)) right) in
    record {
      frame = record { command = good; twelve = twelve; payload = omega (arith, long, few) };
      spelled = joined ∙ rw (same, behind, sum_is, ← long) (regroup (record { command = command; payload = p }) new);
    }

-- what waits once a frame was taken
pub next_rest : (items : List ℕ) (start : ℕ) (text new : List ℕ) → take (length items - start) (drop start items) ≡ text ++ new → drop (length items - length new) items ≡ new
next_rest items start text new e =
    suffix items (take start items ++ text) new (sym (take-append-drop start items) ∙ ap (λ x. take start items ++ x) (sym (take_rest items start) ∙ e) ∙ sym (append_assoc (take start items) text new))
