-- The parts of an answer are written one after another.
use Rattle.std.proofs.Common.{◌≡◌, ℕ, ◌+◌, ◌<◌, List, [], ◌∷◌, ◌++◌, length, take, drop, get_or, Option, Err, sym, ap, ◌∙◌, subst, append_assoc}
use Rattle.std.proofs.lemmas.List.{append-nil, take_more, take-append-drop}
use Rattle.std.proofs.lemmas.List.Concat.{flat_map-append}
use Rattle.cf_grow.specs.declared.held.Held.{Held}
use Rattle.cf_grow.specs.Held.{text_in, texts_in}
use Rattle.cf_server.specs.declared.outcome.ServeEnd.{ServeEnd}
use Rattle.cf_server.specs.Serving.{Beginning}
use Rattle.cf_server.specs.Taking.{Sends}
use Rattle.cf_server.proofs.Steps.{Waiting, front_sent}
use Rattle.cf_server.proofs.Texts.{beginning_more, beginning_whole, whole_none}

texts_on : (parts : List Held) (i : ℕ) (d : Held) → i < length parts
    → texts_in (take (i + 1) parts) ≡ texts_in (take i parts) ++ text_in (get_or parts i d)
texts_on parts i d lt =
    ap texts_in (take_more parts i d lt)
    ∙ flat_map-append text_in (take i parts) (get_or parts i d ∷ [])
    ∙ ap (λ (t : List ℕ). texts_in (take i parts) ++ t) (append-nil (text_in (get_or parts i d)))

texts_split : (parts : List Held) (n : ℕ) → texts_in parts ≡ texts_in (take n parts) ++ texts_in (drop n parts)
texts_split parts n = ap texts_in (sym (take-append-drop n parts))
    ∙ flat_map-append text_in (take n parts) (drop n parts)

-- what is told before the parts waits
pub told_waits : (told w : List ℕ) (parts : List Held) (o : Option (List ℕ)) → w ≡ told → Waiting o o w (told ++ texts_in (take 0 parts))
told_waits told w parts o is = record { sent = []; whole = whole_none o; all = append-nil told ∙ sym is }

-- one more part waits
pub parts_more : (told : List ℕ) (parts : List Held) (i : ℕ) (d : Held) (v w : List ℕ) (o p : Option (List ℕ)) → i < length parts
    → Waiting o p v (told ++ texts_in (take i parts)) → w ≡ v ++ text_in (get_or parts i d) → Waiting o p w (told ++ texts_in (take (i + 1) parts))
parts_more told parts i d v w o p lt waiting put =
    let part : List ℕ = text_in (get_or parts i d) in
    record {
      sent = waiting.sent;
      whole = waiting.whole;
      all = ap (λ (t : List ℕ). told ++ t) (texts_on parts i d lt) ∙ sym (append_assoc told (texts_in (take i parts)) part)
          ∙ ap (λ (t : List ℕ). t ++ part) waiting.all
          ∙ append_assoc waiting.sent v part
          ∙ ap (λ (t : List ℕ). waiting.sent ++ t) (sym put);
    }

told_split : (told : List ℕ) (parts : List Held) (n : ℕ) → told ++ texts_in parts ≡ (told ++ texts_in (take n parts)) ++ texts_in (drop n parts)
told_split told parts n = ap (λ (t : List ℕ). told ++ t) (texts_split parts n) ∙ sym (append_assoc told (texts_in (take n parts)) (texts_in (drop n parts)))

-- nothing more is written
pub parts_kept : (told : List ℕ) (parts : List Held) (i : ℕ) (w : List ℕ) (o p : Option (List ℕ))
    → Waiting o p w (told ++ texts_in (take i parts)) → Beginning o p (told ++ texts_in parts)
parts_kept told parts i w o p waiting =
    let front : List ℕ = told ++ texts_in (take i parts) in
    let begins : Beginning o p front = subst (Beginning o p) (sym waiting.all) (beginning_more o p waiting.sent w (beginning_whole o p waiting.sent waiting.whole)) in
    subst (Beginning o p) (sym (told_split told parts i)) (beginning_more o p front (texts_in (drop i parts)) begins)

-- a front of the parts was sent in part
pub parts_front : (told : List ℕ) (parts : List Held) (n : ℕ) (outcome : ServeEnd) (o q : Option (List ℕ))
    → Sends (Err outcome) o q (told ++ texts_in (take n parts))
    → Sends (Err outcome) o q (told ++ texts_in parts)
parts_front told parts n outcome o q sends =
    front_sent outcome o q (told ++ texts_in parts) (told ++ texts_in (take n parts)) (texts_in (drop n parts)) (told_split told parts n) sends
