-- machine: whose verdicts are kept of the filters that came.
use Rattle.std.specs.Prelude.{◌≡◌, ◌⊎◌, ℕ, zero, suc, List, Result, Ok, Vec}
use Rattle.std.specs.Global.{Global}
use Rattle.cf_bytes.specs.declared.memory.NoMemory.{NoMemory}
use Rattle.cf_headers.specs.declared.store.HeaderStore.{Ghosts}
use Rattle.cf_match.specs.declared.job.Job.{Job}
use Rattle.cf_match.specs.declared.job.Verdict.{Verdict}
use Rattle.cf_match.specs.Verdicts.{Verdicts, AreSameVerdicts, with_verdicts}
use Rattle.cf_tracker.specs.declared.tracker.Tracker.{Tracker}
use Rattle.cf_tracker.specs.Tracker.{verdicts_of, watch_of}

-- which answers a matcher of this type may give of filters and watched scripts, and what it is afterwards
abbrev pub Judges : Type 0 → Type 1
Judges M = M → List Job → List (List ℕ) → Result (Vec Verdict Global) NoMemory → M → Type 0

-- a matcher, and the verdicts that are kept
pub record Judging (M : Type 0) : Type 0 where
  pub matcher : M
  pub verdicts : Verdicts

-- a matcher, and the verdicts that a tracker keeps
abbrev pub judging_of : {H M : Type 0} {g : Ghosts H} → Tracker H g → M → Judging M
judging_of tracker matcher = record { matcher = matcher; verdicts = verdicts_of tracker }

-- nothing was judged: the matcher is as it was, and so are the verdicts
pub record IsUnjudged {M : Type 0} (before now : Judging M) : Type 0 where
  pub same : now.matcher ≡ before.matcher
  pub kept : AreSameVerdicts now.verdicts before.verdicts

-- the matcher has judged some filters by the watched scripts, in one call, and the verdicts on these are kept beside those before
pub record HasJudged {M : Type 0} (judges : Judges M) (watch : List (List ℕ)) (before now : Judging M) : Type 0 where
  pub jobs : List Job
  pub answer : Vec Verdict Global
  pub judged : judges before.matcher jobs watch (Ok answer) now.matcher
  pub kept : AreSameVerdicts now.verdicts (with_verdicts watch jobs before.verdicts)

-- nothing was judged, or the matcher has judged once
abbrev pub IsJudgedBy : {M : Type 0} → Judges M → List (List ℕ) → Judging M → Judging M → Type 0
IsJudgedBy judges watch before now = IsUnjudged before now ⊎ HasJudged judges watch before now

-- between two states of a tracker and its matcher the matcher was called once, to judge by what is watched, or nothing
-- was judged
abbrev pub MayJudge : {H M : Type 0} {g : Ghosts H} → Judges M → Tracker H g → M → Tracker H g → M → Type 0
MayJudge judges tracker matcher now after =
    IsJudgedBy judges (watch_of tracker) (judging_of tracker matcher) (judging_of now after)

-- the matcher has judged so many times, one after another
abbrev pub HasJudgedTimes : {M : Type 0} → Judges M → List (List ℕ) → ℕ → Judging M → Judging M → Type 0
HasJudgedTimes judges watch zero before now = IsUnjudged before now
HasJudgedTimes {M} judges watch (suc n) before now = (last : Judging M) × HasJudgedTimes judges watch n before last × HasJudged judges watch last now

-- all that was judged meanwhile was judged by the matcher, each time as the call before had left it
abbrev pub AreJudgedBy : {M : Type 0} → Judges M → List (List ℕ) → Judging M → Judging M → Type 0
AreJudgedBy judges watch before now = (n : ℕ) × HasJudgedTimes judges watch n before now
