-- The whole command is simple.
use Rattle.std.proofs.Common.{◌≡◌, refl, true}
use Rattle.std.specs.Prelude.{codes}
use Rattle.std.proofs.lemmas.Bool.{and_parts}
use Rattle.clap.specs.Words.{is_simple, is_simple_and_free, new_app}
use Rattle.clap.proofs.OnLiterals.{clap_on_literals}
use Rattle.cf_input.specs.Words.{cli_app, client_app, with_sub, sync_app, follow_app, replay_app, scan_app, filter_app, address_app, prove_app, check_app, serve_app, make_app, demo_app}

pub client_is : client_app ≡ with_sub (with_sub (with_sub (new_app (codes "cf")) sync_app) follow_app) replay_app
unfolding client_app
client_is = refl

pub cli_is : cli_app ≡ with_sub (with_sub (with_sub (with_sub (with_sub (with_sub (with_sub (with_sub client_app scan_app) filter_app) address_app) prove_app) check_app) serve_app) make_app) demo_app
unfolding cli_app
cli_is = refl

pub free_cli : is_simple_and_free cli_app ≡ true
unfolding clap_on_literals cli_app client_app with_sub
free_cli = refl

pub simple_cli : is_simple cli_app ≡ true
simple_cli = (and_parts (is_simple cli_app) _ free_cli).0
