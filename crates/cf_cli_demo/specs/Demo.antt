-- statement: what is promised of `demo`, and of the session of a played peer.
use Rattle.std.specs.Prelude.{◌≡◌, ◌⊎◌, ℕ, ◌+◌, Bool, true, false, List, [], ◌++◌, length, codes, decimal, Option, Some}
use Rattle.std.specs.List.{count_by}
use Rattle.cf_block.specs.declared.tx.Block.{Block}
use Rattle.cf_bytes.specs.Hash.{shown}
use Rattle.cf_chain.specs.Good.{headers_of}
use Rattle.cf_run.specs.declared.outcome.End.{End}
use Rattle.cf_run.specs.declared.outcome.End.TheVariants.{Synced as IsSynced, NoPeers as HasNoPeers, Tired as IsTired}
use Rattle.cf_place.specs.declared.place.PeerEnd.{PeerEnd}
use Rattle.cf_demo.specs.declared.demo.Demo.{Demo}
use Rattle.cf_demo.specs.declared.unplayed.Unplayed.TheVariants.{Clash}
use Rattle.cf_demo.specs.Demo.{IsApart, IsClashing, IsDemo, IsMade, IsUnplayed, demo_watch, is_close, is_fetch}
use Rattle.cf_headers.specs.Chain.{tip_hash}
use Rattle.cf_input.specs.declared.words.Command.{Command}
use Rattle.cf_input.specs.declared.words.Command.TheVariants.{Demo as AsksDemo}
use Rattle.cf_make.specs.Made.{StopsAt}
use Rattle.cf_wires.specs.Log.{Log}
use Rattle.cf_scan.specs.Scan.{balance_of, scan_of}
use Rattle.cf_answers.specs.declared.status.Status.{Status}
use Rattle.cf_answers.specs.declared.status.Status.TheVariants.{Done, NoMemory, OutFault, NoPeers, Tired, NoNonce}
use Rattle.cf_answers.specs.Writing.{IsWritten, named_line}

-- ---- the text

-- a line of a name and a number
abbrev pub count_line : List ℕ → ℕ → List ℕ
count_line name n = named_line name (decimal n)

-- seven lines: how many blocks, peers and entries, the last balance, how many blocks were fetched and peers closed, and the tip's hash
abbrev pub demo_lines : ℕ → ℕ → ℕ → ℕ → ℕ → List ℕ → List ℕ
demo_lines blocks entries balance fetched closed tip =
    count_line (codes "blocks") blocks ++ (count_line (codes "peers") 3 ++ (count_line (codes "entries") entries ++ (count_line (codes "balance") balance
    ++ (count_line (codes "fetched") fetched ++ (count_line (codes "closed") closed ++ named_line (codes "tip") (shown tip))))))

-- the lines over a log: so many blocks were asked for in it and so many peers closed
abbrev pub lines_over : Log → ℕ → ℕ → ℕ → List ℕ → List ℕ
lines_over log blocks entries balance tip = demo_lines blocks entries balance (count_by is_fetch log) (count_by is_close log) tip

-- those of a plain scan of every block of a chain
abbrev pub scan_lines : Log → ℕ → List Block → List ℕ
scan_lines log blocks chain = lines_over log blocks (length (scan_of chain demo_watch)) (balance_of (scan_of chain demo_watch)) (tip_hash (headers_of chain))

-- The text of a run over a log that is synced. Where no strings clash it tells the plain scan of the honest peer's chain.
pub record IsDemoText (seed blocks : ℕ) (text : List ℕ) (log : Log) : Type 0 where
  pub demo : Demo
  pub told : IsDemo seed blocks demo log
  pub synced : demo.end ≡ IsSynced
  pub lines : text ≡ lines_over log blocks demo.entries demo.balance demo.tip.0
  pub exact : IsApart told.chain told.longer log → text ≡ scan_lines log blocks told.chain

-- ---- runs without a text

-- a run was made that has ended so, and left its peers so
pub record HasPlayed (seed blocks : ℕ) (end : End) (ends : List PeerEnd) (log : Log) : Type 0 where
  pub demo : Demo
  pub told : IsDemo seed blocks demo log
  pub ended : demo.end ≡ end
  pub left : demo.ends.items ≡ ends

-- of the demo's chain, or of its longer one where that is made, this is the lowest height at which no nonce serves
abbrev pub StopsDemo : ℕ → ℕ → ℕ → Type 0
StopsDemo seed blocks height = StopsAt [] seed blocks height ⊎ (IsMade seed blocks × StopsAt [] (seed + 1) (blocks + 2) height)

-- no peer is left, which takes a clash; or there was none, since two transactions of one of the chains have one hash
abbrev pub LeavesNobody : ℕ → ℕ → List PeerEnd → Log → Type 0
LeavesNobody seed blocks ends log = HasPlayed seed blocks HasNoPeers ends log ⊎ (IsUnplayed seed blocks Clash × (ends ≡ []) × (log ≡ []))

-- why there is no text
abbrev pub IsUntold : Status → ℕ → ℕ → Log → Type 0
IsUntold NoMemory seed blocks log = Unit {0}
IsUntold Tired seed blocks log = (ends : List PeerEnd) × HasPlayed seed blocks IsTired ends log
IsUntold (NoPeers ends) seed blocks log = LeavesNobody seed blocks ends.items log
IsUntold (NoNonce height) seed blocks log = StopsDemo seed blocks height × (log ≡ [])
IsUntold status seed blocks log = ⊥

-- ---- what is written

-- the text of a demo was written, or a beginning of it, as the answer tells
abbrev pub WritesDemo : Status → ℕ → ℕ → Option (List ℕ) → Option (List ℕ) → Log → Type 0
WritesDemo status seed blocks before after log = (text : List ℕ) × IsDemoText seed blocks text log × IsWritten status before after text

-- all that is promised of `demo`, over the log of the peers that were handed in: by its answer, the text or a beginning of it was written, or nothing
abbrev pub IsDemoed : Status → ℕ → ℕ → Option (List ℕ) → Option (List ℕ) → Log → Type 0
IsDemoed Done seed blocks before after log = WritesDemo Done seed blocks before after log
IsDemoed OutFault seed blocks before after log = WritesDemo OutFault seed blocks before after log
IsDemoed Tired seed blocks before after log = IsUntold Tired seed blocks log × (after ≡ before)
IsDemoed (NoPeers ends) seed blocks before after log = IsUntold (NoPeers ends) seed blocks log × (after ≡ before)
IsDemoed (NoNonce height) seed blocks before after log = IsUntold (NoNonce height) seed blocks log × (after ≡ before)
IsDemoed NoMemory seed blocks before after log = after ≡ before
IsDemoed status seed blocks before after log = ⊥

-- whether a command may use the peers that were handed in: `demo` alone does
abbrev pub may_show : Option Command → Bool
may_show (Some (AsksDemo seed blocks)) = true
may_show command = false

-- ---- sessions

-- why there is no session of a peer on the chain that the seed makes
abbrev pub IsUnrecorded : Status → ℕ → ℕ → Type 0
IsUnrecorded NoMemory seed blocks = Unit {0}
IsUnrecorded (NoPeers ends) seed blocks = IsClashing seed blocks × (ends.items ≡ [])
IsUnrecorded (NoNonce height) seed blocks = StopsAt [] seed blocks height
IsUnrecorded status seed blocks = ⊥
