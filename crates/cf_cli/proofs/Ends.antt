-- What a command tells of how each peer stands.
use Rattle.std.proofs.Common.{◌≡◌, ◌⊎◌, ℕ, Bool, false, List, map, length, Option, Some, None, Result, Ok, inl, inr, refl, sym, ◌∙◌, ap, subst}
use Rattle.std.specs.Prelude.{IfSome}
use Rattle.std.proofs.lemmas.List.{length-map}
use Rattle.cf_bytes.specs.Files.{Named}
use Rattle.cf_place.specs.declared.place.PeerEnd.{PeerEnd}
use Rattle.cf_wires.specs.declared.event.Dial.{Dial}
use Rattle.cf_wires.specs.Log.{Told}
use Rattle.cf_wires.specs.Wires.{WireScript}
use Rattle.cf_input.specs.SessionFile.{session_of}
use Rattle.cf_input.specs.declared.session.SessionFault.{SessionFault}
use Rattle.cf_input.specs.declared.words.Command.{Command}
use Rattle.cf_input.specs.declared.words.Command.TheVariants.{Replay, Sync, Follow, Scan, Filter, Address, Prove, Check, Serve, Make, Demo}
use Rattle.cf_answers.specs.declared.status.Status.{Status}
use Rattle.cf_loading.specs.Verdicts.{IsOfFile}
use Rattle.cf_cli.proofs.Plays.{no_run, told_so}
use Rattle.cf_cli_client.proofs.Stays.{not_over}
use Rattle.cf_cli_client.specs.Ends.{AreEndsBy, AreEndsAfter, AreEndsOver}
use Rattle.cf_cli.specs.Ends.{AreEnds, dials_in, dials_held, dials_read}
use Rattle.cf_answers.specs.Statuses.{has_run}
use Rattle.std.specs.FinMap as finite
use Rattle.cf_cli_client.proofs.Ends.{ends_stay}

-- nor where a file could not be read
pub ends_early : (status : Status) (recorded : Bool) (names : ℕ) (now : Told) (ends : List PeerEnd) → IsOfFile status
    → AreEndsAfter status recorded names now ends ends
ends_early status recorded names now ends is = ends_stay status recorded names now ends (no_run status is)

pub over_early : (status : Status) (recorded : Bool) (names : ℕ) (now : Told) (ends : List PeerEnd) → IsOfFile status
    → AreEndsOver status recorded names now ends ends
over_early status recorded names now ends is = ends_stay status recorded names now ends (not_over status (no_run status is))

-- a session that was read has so many dials
read_dials : (r : Result WireScript SessionFault) (script : WireScript) (dialled : ℕ) → r ≡ Ok script → dials_read r dialled ≡ length script.dials
read_dials r script dialled e = ap (λ (x : Result WireScript SessionFault). dials_read x dialled) e

-- and so has its file, where the files tell; else so many as were dialled
told_dials : (o : Option Named) (name : List ℕ) (script : WireScript) (dialled : ℕ)
    → IfSome o (λ m. IfSome (finite.get m name) (λ bytes. session_of bytes ≡ Ok script)) → dialled ≡ length script.dials → dials_in o name dialled ≡ length script.dials
told_dials None name script dialled read all = all
told_dials (Some m) name script dialled read all = held_dials (finite.get m name) read where
  held_dials : (held : Option (List ℕ)) → IfSome held (λ bytes. session_of bytes ≡ Ok script) → dials_held held dialled ≡ length script.dials
  held_dials None h = all
  held_dials (Some bytes) h = read_dials (session_of bytes) script dialled h

-- a run over a tape that was loaded with the session of this file
pub ends_played : (o p : Option Named) (name : List ℕ) (status : Status) (names : List (List ℕ)) (script : WireScript) (now : Told)
    (before after : List PeerEnd) → IfSome o (λ m. IfSome (finite.get m name) (λ bytes. session_of bytes ≡ Ok script)) → o ≡ p
    → names ≡ map (λ (d : Dial). d.name) script.dials
    → AreEndsAfter status false (length names) now before after
    → AreEndsAfter status false (dials_in p name now.tally.dials) now before after
ends_played o p name status names script now before after read same named are = record {
  told = λ is. played (are.told is);
  unbegun = are.unbegun;
  either = either_played are.either;
} where
  many : length names ≡ length script.dials
  many = ap length named ∙ length-map script.dials (λ (d : Dial). d.name)

  played : AreEndsBy (length names) now after → AreEndsBy (dials_in p name now.tally.dials) now after
  played by = record {
    whole = record {
      dialled = by.whole.dialled ∙ many
          ∙ sym (told_dials p name script now.tally.dials (told_so o p name script same read) (by.whole.dialled ∙ many));
      finished = by.whole.finished;
    };
    tell = by.tell;
  }

  either_played : (after ≡ before) ⊎ AreEndsBy (length names) now after
      → (after ≡ before) ⊎ AreEndsBy (dials_in p name now.tally.dials) now after
  either_played (inl stay) = inl stay
  either_played (inr by) = inr (played by)

-- no command changes them where no run was made
pub ends_untold : (found : Option Command) (status : Status) (files : Option Named) (wires tape : Told) (ends : List PeerEnd)
    → has_run status ≡ false → AreEnds found status files wires tape ends ends
ends_untold None status files wires tape ends not = refl
ends_untold (Some (Replay follow trace watch session)) status files wires tape ends not = ends_stay status false _ tape ends not
ends_untold (Some (Sync turns workers file watch peers)) status files wires tape ends not = ends_stay status _ _ wires ends not
ends_untold (Some (Follow turns workers file watch peers)) status files wires tape ends not = ends_stay status _ _ wires ends (not_over status not)
ends_untold (Some (Scan file watch)) status files wires tape ends not = refl
ends_untold (Some (Filter file height)) status files wires tape ends not = refl
ends_untold (Some (Address text)) status files wires tape ends not = refl
ends_untold (Some (Prove file txid)) status files wires tape ends not = refl
ends_untold (Some (Check witness file chain)) status files wires tape ends not = refl
ends_untold (Some (Serve grow count at_once budget file address)) status files wires tape ends not = refl
ends_untold (Some (Make witness seed blocks file)) status files wires tape ends not = refl
ends_untold (Some (Demo seed blocks)) status files wires tape ends not = refl

-- what a command says of them, told of its words
pub ends_so : (found : Option Command) (command : Command) (status : Status) (files : Option Named) (wires tape : Told) (before after : List PeerEnd)
    → found ≡ Some command → AreEnds (Some command) status files wires tape before after
    → AreEnds found status files wires tape before after
ends_so found command status files wires tape before after is = subst (λ (o : Option Command). AreEnds o status files wires tape before after) (sym is)
