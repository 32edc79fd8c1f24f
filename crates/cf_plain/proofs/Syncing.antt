-- The words of `cf sync WATCH PEER..`.
use Rattle.std.proofs.Common.{◌≡◌, ℕ, ◌≤◌, List, [], ◌∷◌, ◌++◌, Some, true, false, Bool, ◌&&◌, ◌==◌, if◌then◌else◌, length, refl, sym, ap, ◌∙◌, append_assoc, arith, Option, eqb-true, ltb-true, leb-true}
use Rattle.std.proofs.lemmas.Bool.{and_parts, false_from_ne_true}
use Rattle.std.proofs.lemmas.List.{append-nil}
use Rattle.std.specs.Prelude.{codes, None, nat_lt, nat_le}
use Rattle.std.specs.List.{fold, list_all}
use Rattle.clap.proofs.OnLiterals.{clap_on_literals}
use Rattle.clap.specs.Faults.{fault_of, level_fault, walk_fault, settle_fault, defaults_fault, check_fault}
use Rattle.clap.specs.Kinds.{Kinds, or_else, range_kinds, values_kinds}
use Rattle.clap.specs.Lexer.{usize_max}
use Rattle.clap.specs.Simple.{Shape, built, built_leaf, rows_at, subcommand_of}
use Rattle.clap.specs.Walk.{Held, Text, Walk, idle, positional, finished, settled, nothing_held, to_positional, arg_by_index, walk, walk_from, walked}
use Rattle.clap.specs.declared.builder.value_parser.ValueParser.TheVariants as vp
use Rattle.cf_input.specs.Name.{is_name}
use Rattle.cf_input.specs.Words.{cli_app, client_app, with_sub, sync_app, asked_of, command_of, is_faultless, are_names, most_turns, over_peers}
use Rattle.cf_input.specs.declared.words.Command.{Command}
use Rattle.cf_input.specs.declared.words.Command.TheVariants.{Sync}
use Rattle.cf_plain.specs.Plain.{is_plain, sync_words}
use Rattle.cf_plain.proofs.Walking.{NoFlag, no_flag, MeetsLeaf, at_place, value_step, value_fault, enters, enters_fault}

abbrev sync_leaf : Shape
sync_leaf = built_leaf sync_app.top

names_sync : MeetsLeaf (built cli_app) (codes "sync") sync_leaf
unfolding clap_on_literals cli_app client_app with_sub
names_sync = record { first = refl; turn = refl; rest = refl; leaf_is = refl }

-- ---- the walk

-- what is held once the watch file's name has come
abbrev held_watch : Text → Held
held_watch watch =
    (to_positional sync_leaf.rules (arg_by_index sync_leaf.rules 1) watch (walk_from nothing_held) nothing_held).held

-- and these peers
abbrev held_peers : Text → List Text → Held
held_peers watch peers = record (settled sync_leaf.rules (held_watch watch)) { pending = Some (codes "peer", peers) }

first_peer : (watch peer : Text) → NoFlag peer
    → walked sync_leaf.rules [] (at_place (held_watch watch) idle 2) peer ≡ at_place (held_peers watch (peer ∷ []))
    positional 2
unfolding clap_on_literals
first_peer watch peer none = value_step sync_leaf.rules (held_watch watch) idle 2 peer tt none

next_peer : (watch peer : Text) (before : List Text) → NoFlag peer
    → walked sync_leaf.rules [] (at_place (held_peers watch before) positional 2) peer ≡ at_place
    (held_peers watch (before ++ peer ∷ [])) positional 2
unfolding clap_on_literals
next_peer watch peer before none = value_step sync_leaf.rules (held_peers watch before) positional 2 peer tt none

abbrev ArePlain : List Text → Type 0
ArePlain peers = list_all is_plain peers ≡ true

more_peers : (watch : Text) (before peers : List Text) → ArePlain peers
    → fold (walked sync_leaf.rules []) (at_place (held_peers watch before) positional 2) peers ≡ at_place
    (held_peers watch (before ++ peers)) positional 2
more_peers watch before [] plain = ap (λ l. at_place (held_peers watch l) positional 2) (sym (append-nil before))
more_peers watch before (peer ∷ peers) plain =
    let both = and_parts (is_plain peer) (list_all is_plain peers) plain in
    ap (λ w. fold (walked sync_leaf.rules []) w peers) (next_peer watch peer before (no_flag peer both.0))
    ∙ more_peers watch (before ++ peer ∷ []) peers both.1
    ∙ ap (λ l. at_place (held_peers watch l) positional 2) (append_assoc before (peer ∷ []) peers)

sync_walk : (watch peer : Text) (peers : List Text) → NoFlag watch → ArePlain (peer ∷ peers)
    → walk sync_leaf.rules [] nothing_held (watch ∷ peer ∷ peers) ≡ at_place (held_peers watch (peer ∷ peers))
    positional 2
sync_walk watch peer peers one plain =
    let both = and_parts (is_plain peer) (list_all is_plain peers) plain in
    ap (λ w. fold (walked sync_leaf.rules []) w (peer ∷ peers))
    (value_step sync_leaf.rules nothing_held idle 1 watch tt one)
    ∙ ap (λ w. fold (walked sync_leaf.rules []) w peers) (first_peer watch peer (no_flag peer both.0))
    ∙ more_peers watch (peer ∷ []) peers both.1

-- ---- its fault

first_none : (watch peer : Text) → NoFlag peer → (peers : List Text)
    → walk_fault sync_leaf [] (at_place (held_watch watch) idle 2) (peer ∷ peers) ≡ walk_fault sync_leaf []
    (at_place (held_peers watch (peer ∷ [])) positional 2) peers
unfolding clap_on_literals
first_none watch peer none peers =
    ap (λ k. or_else k (walk_fault sync_leaf [] (walked sync_leaf.rules [] (at_place (held_watch watch) idle 2) peer)
    peers))
    (value_fault sync_leaf (held_watch watch) idle 2 peer tt none)
    ∙ ap (λ w. walk_fault sync_leaf [] w peers) (first_peer watch peer none)

next_none : (watch peer : Text) (before : List Text) → NoFlag peer → (peers : List Text)
    → walk_fault sync_leaf [] (at_place (held_peers watch before) positional 2) (peer ∷ peers)
    ≡ walk_fault sync_leaf [] (at_place (held_peers watch (before ++ peer ∷ [])) positional 2) peers
unfolding clap_on_literals
next_none watch peer before none peers =
    ap (λ k. or_else k (walk_fault sync_leaf []
    (walked sync_leaf.rules [] (at_place (held_peers watch before) positional 2) peer) peers))
    (value_fault sync_leaf (held_peers watch before) positional 2 peer tt none)
    ∙ ap (λ w. walk_fault sync_leaf [] w peers) (next_peer watch peer before none)

more_none : (watch : Text) (before peers : List Text) → ArePlain peers
    → walk_fault sync_leaf [] (at_place (held_peers watch before) positional 2) peers ≡ []
unfolding walk_fault
more_none watch before [] plain = refl
more_none watch before (peer ∷ peers) plain =
    let both = and_parts (is_plain peer) (list_all is_plain peers) plain in
    next_none watch peer before (no_flag peer both.0) peers ∙ more_none watch (before ++ peer ∷ []) peers both.1

sync_none : (watch peer : Text) (peers : List Text) → NoFlag watch → ArePlain (peer ∷ peers)
    → walk_fault sync_leaf [] (walk_from nothing_held) (watch ∷ peer ∷ peers) ≡ []
unfolding clap_on_literals
sync_none watch peer peers one plain =
    let both = and_parts (is_plain peer) (list_all is_plain peers) plain in
    ap (λ k. or_else k (walk_fault sync_leaf [] (walked sync_leaf.rules [] (walk_from nothing_held) watch)
    (peer ∷ peers)))
    (value_fault sync_leaf nothing_held idle 1 watch tt one)
    ∙ ap (λ w. walk_fault sync_leaf [] w (peer ∷ peers)) (value_step sync_leaf.rules nothing_held idle 1 watch tt one)
    ∙ first_none watch peer (no_flag peer both.0) peers ∙ more_none watch (peer ∷ []) peers both.1

-- texts of any kind are taken
texts_none : (values : List Text) → values_kinds false vp.String values ≡ []
texts_none [] = refl
texts_none (v ∷ vs) = texts_none vs

-- one or more, and not too many
range_none : (n : ℕ) → 1 ≤ n → n ≤ 8 → range_kinds 1 usize_max n ≡ []
range_none n low high =
    let some : (n == 0) ≡ false =
    false_from_ne_true (n == 0) (λ e. let z = eqb-true n 0 e in absurd (omega (arith, z, low))) in
    let enough : nat_lt n 1 ≡ false =
    false_from_ne_true (nat_lt n 1) (λ e. let z = ltb-true n 1 e in absurd (omega (arith, z, low))) in
    let few : nat_lt usize_max n ≡ false =
    false_from_ne_true (nat_lt usize_max n)
    (λ e. let z = ltb-true usize_max n e in absurd (omega (arith, z, high))) in
    rw (some, enough, few) refl

-- what is judged at the end of the words
abbrev ends_fault : Held → Kinds
ends_fault end =
    or_else (settle_fault sync_leaf.rules sync_leaf.args_override_self end)
    (or_else (defaults_fault (settled sync_leaf.rules end).rows sync_leaf.rules)
    (check_fault sync_leaf (finished sync_leaf.rules end) false))

sync_ends : (watch peer : Text) (peers : List Text) → length (peer ∷ peers) ≤ 8
    → ends_fault (held_peers watch (peer ∷ peers)) ≡ []
unfolding clap_on_literals
sync_ends watch peer peers few = rw (range_none (length (peer ∷ peers)) (omega arith) few, texts_none peers) refl

sync_fault : (watch peer : Text) (peers : List Text) → NoFlag watch → ArePlain (peer ∷ peers)
    → length (peer ∷ peers) ≤ 8
    → level_fault sync_leaf [] nothing_held (watch ∷ peer ∷ peers) false [] ≡ []
sync_fault watch peer peers one plain few =
    ap (λ k. or_else k (ends_fault (walk sync_leaf.rules [] nothing_held (watch ∷ peer ∷ peers)).held))
    (sync_none watch peer peers one plain)
    ∙ ap (λ (w : Walk). ends_fault w.held) (sync_walk watch peer peers one plain) ∙ sync_ends watch peer peers few

-- ---- what it asks for

abbrev if_names : Bool → Text → List Text → Option Command
if_names b watch peers = if b then Some (over_peers false most_turns 4 None watch peers) else None

rows_ask : (watch peer : Text) (peers : List Text)
    → asked_of (Some (codes "sync", finished sync_leaf.rules (held_peers watch (peer ∷ peers)))) ≡ if_names
    (are_names (peer ∷ peers)) watch (peer ∷ peers)
unfolding clap_on_literals
rows_ask watch peer peers = refl

sync_rows : (watch peer : Text) (peers : List Text) → NoFlag watch → ArePlain (peer ∷ peers)
    → are_names (peer ∷ peers) ≡ true
    → asked_of (Some (rows_at sync_leaf (watch ∷ peer ∷ peers))) ≡ Some (Sync most_turns 4 None watch (peer ∷ peers))
sync_rows watch peer peers one plain names =
    ap (λ (w : Walk). asked_of (Some (codes "sync", finished sync_leaf.rules w.held)))
    (sync_walk watch peer peers one plain)
    ∙ rows_ask watch peer peers ∙ ap (λ b. if_names b watch (peer ∷ peers)) names

few_names : (peers : List Text) → are_names peers ≡ true → length peers ≤ 8
few_names peers names =
    let both = and_parts (list_all is_name peers) (nat_lt 0 (length peers) && nat_le (length peers) 8) names in
    leb-true (length peers) 8 (and_parts (nat_lt 0 (length peers)) (nat_le (length peers) 8) both.1).1

no_fault : (program watch peer : Text) (peers : List Text) → NoFlag watch → ArePlain (peer ∷ peers)
    → length (peer ∷ peers) ≤ 8
    → fault_of cli_app (sync_words program watch (peer ∷ peers)) ≡ []
unfolding cli_app client_app with_sub
no_fault program watch peer peers one plain few =
    enters_fault (built cli_app) (codes "sync") sync_leaf (watch ∷ peer ∷ peers) names_sync
    (sync_fault watch peer peers one plain few)

found : (program watch peer : Text) (peers : List Text)
    → subcommand_of cli_app (sync_words program watch (peer ∷ peers)) ≡ Some (rows_at sync_leaf (watch ∷ peer ∷ peers))
unfolding cli_app client_app with_sub
found program watch peer peers = enters (built cli_app) (codes "sync") sync_leaf (watch ∷ peer ∷ peers) names_sync

pub sync_command : (program watch : Text) (peers : List Text) → is_plain watch ≡ true → list_all is_plain peers ≡ true
    → are_names peers ≡ true
    → command_of (sync_words program watch peers) ≡ Some (Sync most_turns 4 None watch peers)
sync_command program watch [] one plain names = absurd (let clash = names in cc)
sync_command program watch (peer ∷ peers) one plain names =
    let words : List Text = sync_words program watch (peer ∷ peers) in
    ap (λ k. if is_faultless k then asked_of (subcommand_of cli_app words) else None)
    (no_fault program watch peer peers (no_flag watch one) plain (few_names (peer ∷ peers) names))
    ∙ ap asked_of (found program watch peer peers) ∙ sync_rows watch peer peers (no_flag watch one) plain names
