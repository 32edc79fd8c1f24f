-- The words of `cf replay WATCH SESSION`.
use Rattle.std.proofs.Common.{◌≡◌, List, [], ◌∷◌, Some, true, false, if◌then◌else◌, refl, ap, ◌∙◌}
use Rattle.std.specs.Prelude.{codes, None}
use Rattle.clap.proofs.OnLiterals.{clap_on_literals}
use Rattle.clap.specs.Faults.{fault_of, level_fault, walk_fault, settle_fault, defaults_fault, check_fault}
use Rattle.clap.specs.Kinds.{Kinds, or_else}
use Rattle.clap.specs.Simple.{Shape, built, built_leaf, rows_at, subcommand_of}
use Rattle.clap.specs.Walk.{Held, Text, Walk, idle, finished, settled, nothing_held, rows_after, to_positional, arg_by_index, walk, walk_from, walked}
use Rattle.cf_input.specs.Words.{cli_app, client_app, with_sub, replay_app, asked_of, command_of, is_faultless}
use Rattle.cf_input.specs.declared.words.Command.TheVariants.{Replay}
use Rattle.cf_plain.specs.Plain.{is_plain, replay_words}
use Rattle.cf_plain.proofs.Walking.{NoFlag, no_flag, MeetsLeaf, at_place, value_step, value_fault, enters, enters_fault}

abbrev replay_leaf : Shape
replay_leaf = built_leaf replay_app.top

names_replay : MeetsLeaf (built cli_app) (codes "replay") replay_leaf
unfolding clap_on_literals cli_app client_app with_sub
names_replay = record { first = refl; turn = refl; rest = refl; leaf_is = refl }

-- what is held once the watch file's name has come
abbrev held_one : Text → Held
held_one watch =
    (to_positional replay_leaf.rules (arg_by_index replay_leaf.rules 1) watch (walk_from nothing_held)
    nothing_held).held

-- and the session's
abbrev held_two : Text → Text → Held
held_two watch session =
    (to_positional replay_leaf.rules (arg_by_index replay_leaf.rules 2) session (at_place (held_one watch) idle 2)
    (held_one watch)).held

replay_walk : (watch session : Text) → NoFlag watch → NoFlag session
    → walk replay_leaf.rules [] nothing_held (watch ∷ session ∷ []) ≡ at_place (held_two watch session) idle 3
replay_walk watch session one two =
    ap (λ w. walked replay_leaf.rules [] w session) (value_step replay_leaf.rules nothing_held idle 1 watch tt one)
    ∙ value_step replay_leaf.rules (held_one watch) idle 2 session tt two

replay_rows : (watch session : Text) → NoFlag watch → NoFlag session
    → asked_of (Some (codes "replay", rows_after replay_leaf.rules [] (watch ∷ session ∷ []))) ≡ Some
    (Replay false false watch session)
unfolding clap_on_literals
replay_rows watch session one two =
    ap (λ (w : Walk). asked_of (Some (codes "replay", finished replay_leaf.rules w.held)))
    (replay_walk watch session one two)

replay_none : (watch session : Text) → NoFlag watch → NoFlag session
    → walk_fault replay_leaf [] (walk_from nothing_held) (watch ∷ session ∷ []) ≡ []
unfolding clap_on_literals
replay_none watch session one two =
    ap (λ k. or_else k (walk_fault replay_leaf [] (walked replay_leaf.rules [] (walk_from nothing_held) watch)
    (session ∷ [])))
    (value_fault replay_leaf nothing_held idle 1 watch tt one)
    ∙ ap (λ w. walk_fault replay_leaf [] w (session ∷ []))
    (value_step replay_leaf.rules nothing_held idle 1 watch tt one)
    ∙ ap (λ k. or_else k []) (value_fault replay_leaf (held_one watch) idle 2 session tt two)

-- what is judged at the end of the words
abbrev ends_fault : Held → Kinds
ends_fault end =
    or_else (settle_fault replay_leaf.rules replay_leaf.args_override_self end)
    (or_else (defaults_fault (settled replay_leaf.rules end).rows replay_leaf.rules)
    (check_fault replay_leaf (finished replay_leaf.rules end) false))

replay_ends : (watch session : Text) → ends_fault (held_two watch session) ≡ []
unfolding clap_on_literals
replay_ends watch session = refl

replay_fault : (watch session : Text) → NoFlag watch → NoFlag session
    → level_fault replay_leaf [] nothing_held (watch ∷ session ∷ []) false [] ≡ []
replay_fault watch session one two =
    ap (λ k. or_else k (ends_fault (walk replay_leaf.rules [] nothing_held (watch ∷ session ∷ [])).held))
    (replay_none watch session one two)
    ∙ ap (λ (w : Walk). ends_fault w.held) (replay_walk watch session one two) ∙ replay_ends watch session

no_fault : (program watch session : Text) → NoFlag watch → NoFlag session
    → fault_of cli_app (replay_words program watch session) ≡ []
unfolding cli_app client_app with_sub
no_fault program watch session one two =
    enters_fault (built cli_app) (codes "replay") replay_leaf (watch ∷ session ∷ []) names_replay
    (replay_fault watch session one two)

found : (program watch session : Text)
    → subcommand_of cli_app (replay_words program watch session) ≡ Some (rows_at replay_leaf (watch ∷ session ∷ []))
unfolding cli_app client_app with_sub
found program watch session = enters (built cli_app) (codes "replay") replay_leaf (watch ∷ session ∷ []) names_replay

pub replay_command : (program watch session : Text) → is_plain watch ≡ true → is_plain session ≡ true
    → command_of (replay_words program watch session) ≡ Some (Replay false false watch session)
replay_command program watch session one two =
    let words : List Text = replay_words program watch session in
    ap (λ k. if is_faultless k then asked_of (subcommand_of cli_app words) else None)
    (no_fault program watch session (no_flag watch one) (no_flag session two))
    ∙ ap asked_of (found program watch session) ∙ replay_rows watch session (no_flag watch one) (no_flag session two)
