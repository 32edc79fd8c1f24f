-- What plain words come to in a walk over words: a subcommand, and then values of positionals.
use Rattle.std.proofs.Common.{◌≡◌, ℕ, List, [], ◌∷◌, ◌++◌, Some, None, Bool, true, false, not, ◌&&◌, ◌==◌, if◌then◌else◌, refl, sym, ap, ◌∙◌, append_assoc}
use Rattle.std.proofs.lemmas.List.{append-nil}
use Rattle.std.specs.Prelude.{is_some, find, option_and_then, option_map}
use Rattle.std.specs.List.{fold}
use Rattle.std.specs.Option.{option_map_or}
use Rattle.std.specs.Str.{bytes_eq}
use Rattle.clap.specs.Faults.{turn_fault, step_fault, walk_fault, flag_word_fault, bundle_fault, level_fault, built_fault, entered_fault, settle_fault, defaults_fault, check_fault}
use Rattle.clap.specs.Kinds.{Kinds, or_else}
use Rattle.clap.specs.Lexer.{long_of, long_of_rest, short_of, short_of_rest, strip_byte}
use Rattle.clap.specs.Simple.{App, Shape, entered, label_of, names_of, rows_at}
use Rattle.clap.specs.Walk.{Held, Names, Rule, Step, Text, Waiting, Walk, idle, positional, trailing, value, after_step, answers_to, arg_by_index, finished, long_or_other, nothing_held, settled, short_or_plain, stop_after, to_positional, walk, walk_from, walked, walked_from, word_met}
use Rattle.cf_plain.specs.Plain.{is_plain}

-- ---- a plain word is no flag

pub record NoFlag (word : Text) : Type 0 where
  pub dashes : bytes_eq word (45 ∷ 45 ∷ []) ≡ false
  pub long : long_of word ≡ None
  pub short : short_of word ≡ None

isnt : (b : Bool) → not b ≡ true → b ≡ false
isnt true e = cc
isnt false e = refl

pub no_flag : (word : Text) → is_plain word ≡ true → NoFlag word
no_flag [] e = record { dashes = refl; long = refl; short = refl }
no_flag (b ∷ word) e =
    let off : (b == 45) ≡ false = isnt (b == 45) e in
    record {
      dashes = ap (λ x. x && bytes_eq word (45 ∷ [])) off;
      long =
          ap (λ x. option_and_then long_of_rest (option_and_then (strip_byte 45) (if x then Some word else None))) off;
      short = ap (λ x. option_and_then short_of_rest (if x then Some word else None)) off;
    }

-- ---- in a command with no subcommand it is a value

-- between two words, with no subcommand met and no `--`
abbrev pub at_place : Held → Waiting → ℕ → Walk
at_place held waiting position =
    record { held = held; waiting = waiting; position = position; is_trailing = false; stopped = None }

-- nothing waits for a value of an option
abbrev pub TakesValues : Waiting → Type 0
TakesValues idle = Unit {0}
TakesValues positional = Unit {0}
TakesValues w = ⊥

met_value : (c : List Rule) (held : Held) (waiting : Waiting) (position : ℕ) (word : Text) → TakesValues waiting
    → NoFlag word
    → word_met c [] false waiting position word held ≡ (held, value)
met_value c held idle position word takes none =
    ap (λ b. if b then (held, trailing position) else long_or_other c idle word (long_of word) held) none.dashes
    ∙ ap (λ o. long_or_other c idle word o held) none.long ∙ ap (λ o. short_or_plain c idle word o held) none.short
met_value c held positional position word takes none =
    ap (λ b. if b then (held, trailing position) else long_or_other c positional word (long_of word) held) none.dashes
    ∙ ap (λ o. long_or_other c positional word o held) none.long
    ∙ ap (λ o. short_or_plain c positional word o held) none.short
met_value c held w position word takes none = absurd takes

pub value_step : (c : List Rule) (held : Held) (waiting : Waiting) (position : ℕ) (word : Text) → TakesValues waiting
    → NoFlag word
    → walked c [] (at_place held waiting position) word ≡ to_positional c (arg_by_index c position) word
    (at_place held waiting position) held
unfolding walked
value_step c held waiting position word takes none =
    ap (λ (met : Held × Step). after_step c word (at_place held waiting position) met.0 met.1)
    (met_value c held waiting position word takes none)

flag_none : (s : Shape) (held : Held) (word : Text) → NoFlag word
    → (if bytes_eq word (45 ∷ 45 ∷ []) then [] else flag_word_fault s.rules s.args_override_self (long_of word) word
    held) ≡ []
flag_none s held word none =
    ap (λ b. if b then [] else flag_word_fault s.rules s.args_override_self (long_of word) word held) none.dashes
    ∙ ap (λ o. flag_word_fault s.rules s.args_override_self o word held) none.long
    ∙ ap (λ o. option_map_or (λ flags. bundle_fault s.rules s.args_override_self flags held) o []) none.short

pub value_fault : (s : Shape) (held : Held) (waiting : Waiting) (position : ℕ) (word : Text) → TakesValues waiting
    → NoFlag word
    → turn_fault s [] (at_place held waiting position) word ≡ step_fault s position held value
value_fault s held idle position word takes none =
    ap (λ k. or_else k (step_fault s position (word_met s.rules [] false idle position word held).0
    (word_met s.rules [] false idle position word held).1))
    (flag_none s held word none)
    ∙ ap (λ (met : Held × Step). step_fault s position met.0 met.1)
    (met_value s.rules held idle position word takes none)
value_fault s held positional position word takes none =
    ap (λ k. or_else k (step_fault s position (word_met s.rules [] false positional position word held).0
    (word_met s.rules [] false positional position word held).1))
    (flag_none s held word none)
    ∙ ap (λ (met : Held × Step). step_fault s position met.0 met.1)
    (met_value s.rules held positional position word takes none)
value_fault s held w position word takes none = absurd takes

-- ---- behind a subcommand's name all words are its

stopped_next : (c : List Rule) (names : Names) (w : Walk) (p : Text × List Text) (word : Text) → w.stopped ≡ Some p
    → walked c names w word ≡ record w { stopped = Some (p.0, p.1 ++ word ∷ []) }
unfolding walked
stopped_next c names w p word is = ap (λ o. walked_from c names o w word) is

pub stopped_all : (c : List Rule) (names : Names) (held : Held) (waiting : Waiting) (position : ℕ) (name : Text)
    (before words : List Text)
    → fold (walked c names) (record (at_place held waiting position) { stopped = Some (name, before) }) words
    ≡ record (at_place held waiting position) { stopped = Some (name, before ++ words) }
stopped_all c names held waiting position name before [] =
    ap (λ l. record (at_place held waiting position) { stopped = Some (name, l) }) (sym (append-nil before))
stopped_all c names held waiting position name before (word ∷ words) =
    ap (λ w. fold (walked c names) w words)
    (stopped_next c names (record (at_place held waiting position) { stopped = Some (name, before) }) (name, before)
    word refl)
    ∙ stopped_all c names held waiting position name (before ++ word ∷ []) words
    ∙ ap (λ l. record (at_place held waiting position) { stopped = Some (name, l) })
    (append_assoc before (word ∷ []) words)

stopped_fault : (s : Shape) (names : Names) (held : Held) (waiting : Waiting) (position : ℕ) (name : Text)
    (before words : List Text)
    → walk_fault s names (record (at_place held waiting position) { stopped = Some (name, before) }) words ≡ []
unfolding walk_fault
stopped_fault s names held waiting position name before [] = refl
stopped_fault s names held waiting position name before (word ∷ words) =
    ap (λ w. walk_fault s names w words)
    (stopped_next s.rules names (record (at_place held waiting position) { stopped = Some (name, before) })
    (name, before) word refl)
    ∙ stopped_fault s names held waiting position name (before ++ word ∷ []) words

-- what a first word does that names a subcommand
pub record MeetsLeaf (a : App) (name : Text) (leaf : Shape) : Type 0 where
  pub first : walked a.top.rules (names_of a) (walk_from nothing_held) name ≡ record (walk_from nothing_held)
      { stopped = Some (name, []) }
  pub turn : turn_fault a.top (names_of a) (walk_from nothing_held) name ≡ []
  pub rest : or_else (settle_fault a.top.rules a.top.args_override_self nothing_held)
      (or_else (defaults_fault (settled a.top.rules nothing_held).rows a.top.rules)
      (check_fault a.top (finished a.top.rules nothing_held) true)) ≡ []
  pub leaf_is : find (λ s. answers_to name (label_of s)) a.subs ≡ Some leaf

walk_is : (a : App) (name : Text) (leaf : Shape) (words : List Text) → MeetsLeaf a name leaf
    → walk a.top.rules (names_of a) nothing_held (name ∷ words) ≡ record (walk_from nothing_held)
    { stopped = Some (name, words) }
walk_is a name leaf words is =
    ap (λ w. fold (walked a.top.rules (names_of a)) w words) is.first
    ∙ stopped_all a.top.rules (names_of a) nothing_held idle 1 name [] words

-- the rows of its words
pub enters : (a : App) (name : Text) (leaf : Shape) (words : List Text) → MeetsLeaf a name leaf
    → entered a (stop_after a.top.rules (names_of a) (name ∷ words)) ≡ Some (rows_at leaf words)
enters a name leaf words is =
    ap (λ (w : Walk). entered a w.stopped) (walk_is a name leaf words is)
    ∙ ap (λ o. option_map (λ s. rows_at s words) o) is.leaf_is

-- what is judged at the end of the words
abbrev ends_fault : App → Held → Kinds
ends_fault a end =
    or_else (settle_fault a.top.rules a.top.args_override_self end)
    (or_else (defaults_fault (settled a.top.rules end).rows a.top.rules)
    (check_fault a.top (finished a.top.rules end) true))

walk_none : (a : App) (name : Text) (leaf : Shape) (words : List Text) → MeetsLeaf a name leaf
    → walk_fault a.top (names_of a) (walk_from nothing_held) (name ∷ words) ≡ []
unfolding walk_fault
walk_none a name leaf words is =
    ap (λ k. or_else k (walk_fault a.top (names_of a) (walked a.top.rules (names_of a) (walk_from nothing_held) name)
    words)) is.turn
    ∙ ap (λ w. walk_fault a.top (names_of a) w words) is.first
    ∙ stopped_fault a.top (names_of a) nothing_held idle 1 name [] words

top_none : (a : App) (name : Text) (leaf : Shape) (words : List Text) → MeetsLeaf a name leaf
    → level_fault a.top (names_of a) nothing_held (name ∷ words) true [] ≡ []
top_none a name leaf words is =
    ap (λ k. or_else k (ends_fault a (walk a.top.rules (names_of a) nothing_held (name ∷ words)).held))
    (walk_none a name leaf words is)
    ∙ ap (λ (w : Walk). ends_fault a w.held) (walk_is a name leaf words is) ∙ is.rest

-- and their fault
pub enters_fault : (a : App) (name : Text) (leaf : Shape) (words : List Text) → MeetsLeaf a name leaf
    → level_fault leaf [] nothing_held words false [] ≡ []
    → built_fault a nothing_held (name ∷ words) ≡ []
enters_fault a name leaf words is below =
    ap (λ (w : Walk). level_fault a.top (names_of a) nothing_held (name ∷ words) (is_some (entered a w.stopped))
    (entered_fault a w.stopped)) (walk_is a name leaf words is)
    ∙ ap (λ o. level_fault a.top (names_of a) nothing_held (name ∷ words)
    (is_some (option_map (λ s. rows_at s words) o))
    (option_map_or (λ s. level_fault s [] nothing_held words false []) o [])) is.leaf_is
    ∙ ap (λ k. level_fault a.top (names_of a) nothing_held (name ∷ words) true k) below ∙ top_none a name leaf words is
