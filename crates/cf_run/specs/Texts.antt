-- statement: what was put of the texts of a run that follows.
use Rattle.std.specs.Prelude.{◌≡◌, ◌⊎◌, ℕ, ◌≤◌, List, [], ◌∷◌, ◌++◌, length, take, Option, Some, None, IfSome, Result, OnOk, IsErrOf, String, string_bytes}
use Rattle.std.specs.declared.alloc.Global.{Global}
use Rattle.cf_bytes.specs.Outside.{HasRisen, with_more}
use Rattle.cf_headers.specs.declared.store.HeaderStore.{Ghosts}
use Rattle.cf_match.specs.declared.matcher.Matcher.{Ghosts as Judges}
use Rattle.cf_peer.specs.declared.mode.Mode.TheVariants.{Following}
use Rattle.cf_wires.specs.Log.{Log, Tally, Told}
use Rattle.cf_sync.specs.Fetching.{AreBytes, RightlyIn, following}
use Rattle.cf_sync.specs.Putting.{WerePut, ArePut, PutsAt, EndsWith, put}
use Rattle.cf_client.specs.declared.client.Client.{Client}
use Rattle.cf_client.specs.Stands.{Reflects, watch_by}
use Rattle.cf_tracker.specs.declared.tracker.Report.{Report}
use Rattle.cf_run.specs.Run.{WasRun}
use Rattle.cf_run.specs.declared.shown.Shown.{Shown}
use Rattle.cf_run.specs.declared.texts.TextFail.{TextFail}
use Rattle.cf_run.specs.declared.texts.TextFail.TheVariants.{NoMemory, Failed}

-- a beginning of a text was taken
pub record HasBegun (text : List ℕ) (before now : Option (List ℕ)) : Type 0 where
  pub n : ℕ
  pub within : n ≤ length text
  pub taken : now ≡ with_more before (take n text)

-- texts, the newest first, one after the other from the oldest on
abbrev pub joined : List (List ℕ) → List ℕ
joined [] = []
joined (text ∷ before) = joined before ++ text

-- the texts of all moments at rest were put whole, that of the last moment among them, each unless it is the one that was put before it, and no others
pub record HasPut (watch : List (List ℕ)) (log : Log) (before now : Option (List ℕ)) : Type 0 where
  pub texts : List (List ℕ)
  pub puts : ArePut watch log texts
  pub taken : now ≡ with_more before (joined texts)

-- where no memory was found: the texts of all moments at rest before the last delivery were put whole, or by now, and no others
pub record HasPutSo (watch : List (List ℕ)) (log : Log) (before now : Option (List ℕ)) : Type 0 where
  pub texts : List (List ℕ)
  pub puts : WerePut watch log texts ⊎ ArePut watch log texts
  pub taken : now ≡ with_more before (joined texts)

-- where what takes the texts has failed: the texts of all moments at rest before the last delivery were put whole, and of the one that is due now a
-- beginning
pub record HasPutBut (watch : List (List ℕ)) (log : Log) (before now : Option (List ℕ)) : Type 0 where
  pub texts : List (List ℕ)
  pub text : List ℕ
  pub earlier : WerePut watch log texts
  pub due : PutsAt watch log texts (text ∷ texts)
  pub begun : HasBegun text (with_more before (joined texts)) now

-- what was put of a run that was given up: all that was due before the last delivery whole, and at most a beginning of what is due now
abbrev pub HasPutSome : List (List ℕ) → Log → Option (List ℕ) → Option (List ℕ) → Type 0
HasPutSome watch log before now = HasPutSo watch log before now ⊎ HasPutBut watch log before now

-- the turns are taken, or the wires have no more to give
abbrev pub IsOver : ℕ → Tally → Type 0
IsOver turns tally = (tally.taken ≡ turns) ⊎ (tally.ended ≡ 1)

-- where the log is told: the texts that were put before each of its deliveries; and by now
abbrev pub PutBefore : List (List ℕ) → List (List ℕ) → Told → Type 0
PutBefore watch texts t = IfSome t.log (λ log. WerePut watch log texts)

abbrev pub PutBy : List (List ℕ) → List (List ℕ) → Told → Type 0
PutBy watch texts t = IfSome t.log (λ log. ArePut watch log texts)

-- the last text is the newest of these
abbrev pub IsLast : Option (String Global) → List (List ℕ) → Type 0
IsLast None texts = texts ≡ []
IsLast (Some last) texts = EndsWith (string_bytes last) texts

-- the text that was put last
abbrev pub last_text : Option Shown → Option (String Global)
last_text None = None
last_text (Some shown) = Some shown.text

-- the same height and hash of the tip, and the same history
pub record IsSameTold (a b : Report) : Type 0 where
  pub height : a.height ≡ b.height
  pub tip : a.tip.0 ≡ b.tip.0
  pub history : a.history ≡ b.history

-- texts that were put so far: those before each delivery, of which this is the last one; and what was taken of them
pub record HavePut (watch : List (List ℕ)) (last : Option (String Global)) (t : Told) (before now : Option (List ℕ)) : Type 0 where
  pub texts : List (List ℕ)
  pub newest : IsLast last texts
  pub puts : PutBefore watch texts t
  pub taken : now ≡ with_more before (joined texts)

-- a text was put, unless it is the one that was put before it
pub record PutsOne (text : List ℕ) (before : List (List ℕ)) (last : Option (String Global)) (old new : Option (List ℕ)) : Type 0 where
  pub newest : IsLast last (put text before)
  pub taken : (first : Option (List ℕ)) → old ≡ with_more first (joined before) → new ≡ with_more first (joined (put text before))

-- texts, with what a moment adds, of each log that the client reflects
pub record PutsNext {H M : Type 0} {g : Ghosts H} {j : Judges M} (c : Client H M g j) (before : List (List ℕ)) (last : Option (String Global)) (old new : Option (List ℕ)) : Type 0 where
  pub texts : List (List ℕ)
  pub newest : IsLast last texts
  pub puts : (log : Log) → Reflects c log → AreBytes log → RightlyIn Following log → PutsAt (watch_by c) log before texts
  pub taken : (first : Option (List ℕ)) → old ≡ with_more first (joined before) → new ≡ with_more first (joined texts)

-- a text wasn't put: for want of memory nothing of it was taken, else it isn't the last one, and a beginning of it was
abbrev pub PutsBegun : TextFail → List ℕ → List (List ℕ) → Option (List ℕ) → Option (List ℕ) → Type 0
PutsBegun NoMemory text before old new = new ≡ old
PutsBegun Failed text before old new = (put text before ≡ text ∷ before) × HasBegun text old new

-- a beginning of the text that is due by each log that the client reflects
pub record PutsBut {H M : Type 0} {g : Ghosts H} {j : Judges M} (c : Client H M g j) (before : List (List ℕ)) (old new : Option (List ℕ)) : Type 0 where
  pub text : List ℕ
  pub due : (log : Log) → Reflects c log → AreBytes log → RightlyIn Following log → PutsAt (watch_by c) log before (text ∷ before)
  pub begun : HasBegun text old new

-- what was put at a moment at which it failed so
abbrev pub PutsSome : {H M : Type 0} → {g : Ghosts H} {j : Judges M} → TextFail → Client H M g j → List (List ℕ) → Option (List ℕ) → Option (List ℕ) → Type 0
PutsSome NoMemory c before old new = new ≡ old
PutsSome Failed c before old new = PutsBut c before old new

-- all texts were put, by now
pub record AllPut (watch : List (List ℕ)) (t : Told) (before now : Option (List ℕ)) : Type 0 where
  pub texts : List (List ℕ)
  pub puts : PutBy watch texts t
  pub taken : now ≡ with_more before (joined texts)

-- all texts were put, before the last delivery or by now
pub record SoPut (watch : List (List ℕ)) (t : Told) (before now : Option (List ℕ)) : Type 0 where
  pub texts : List (List ℕ)
  pub puts : PutBefore watch texts t ⊎ PutBy watch texts t
  pub taken : now ≡ with_more before (joined texts)

-- all texts were put, before the last delivery, and a beginning of the one that is due now; and the log is that of a run which dialled these names
pub record ButPut (watch called : List (List ℕ)) (t : Told) (before now : Option (List ℕ)) : Type 0 where
  pub texts : List (List ℕ)
  pub text : List ℕ
  pub earlier : PutBefore watch texts t
  pub due : IfSome t.log (λ log. PutsAt watch log texts (text ∷ texts))
  pub begun : HasBegun text (with_more before (joined texts)) now
  pub run : IfSome t.log (WasRun (following watch) called)

-- what was put of a run that failed so
abbrev pub SomePut : TextFail → (watch called : List (List ℕ)) → Told → Option (List ℕ) → Option (List ℕ) → Type 0
SomePut NoMemory watch called t before now = SoPut watch t before now
SomePut Failed watch called t before now = ButPut watch called t before now

-- over a call that is answered so what takes the texts counts a failure where it has failed, and else none; and the reference that it goes to stays
pub record CountsTexts {A T : Type 0} (faults holds : T → ℕ) (result : Result A TextFail) (before after : T) : Type 0 where
  pub fine : OnOk result (faults after ≡ faults before)
  pub short : IsErrOf result NoMemory → faults after ≡ faults before
  pub failed : IsErrOf result Failed → HasRisen (faults before) (faults after)
  pub same_reference : holds after ≡ holds before
