-- The headline, from the sync theorem.
use Rattle.std.proofs.Common.{◌≡◌, ℕ, List, length, ◌∙◌, ap}
use Rattle.cf_block.specs.declared.tx.Block.{Block}
use Rattle.cf_scan.specs.HistoryText.{history_text}
use Rattle.cf_scan.specs.Scan.{scan_of}
use Rattle.cf_wires.specs.Log.{Log}
use Rattle.cf_sync.specs.Fetching.{AreBytes, Rightly}
use Rattle.cf_sync.specs.Honesty.{IsHonest, IsNeverClosed}
use Rattle.cf_sync.proofs.Settles.{honest_never_closed, sync_theorem_of}
use Rattle.cf_headline.specs.Grounds.{HasWritten, WereGreeted}
use Rattle.cf_headline.specs.Headline.{Headline, IsLongest, IsServing, scan_lines}
use Rattle.cf_headline.proofs.Others.{called_is, none_shows}
use Rattle.cf_headline.proofs.Strings.{clash_hashed}
use Rattle.cf_headline.proofs.Timely.{honest_over, within_limit}

-- who serves by its bytes is an honest peer
pub serving_honest : (log : Log) (p : ℕ) (blocks : List Block) → AreBytes log → Rightly log → WereGreeted log
    → IsServing log p blocks → IsHonest log p blocks
serving_honest log p blocks are right were serving = record {
  good = serving.good;
  low = within_limit blocks serving.good;
  dialled = called_is log p ∙ serving.dialled;
  honest =
      honest_over blocks log p serving.good are (clash_hashed log blocks are serving.apart) right were serving.honest;
}

pub never_closes : (log : Log) (p : ℕ) (blocks : List Block) → AreBytes log → Rightly log → WereGreeted log
    → IsServing log p blocks → IsNeverClosed log p
never_closes log p blocks are right were serving =
    honest_never_closed log p blocks are (clash_hashed log blocks are serving.apart) right
    (serving_honest log p blocks are right were serving)

pub writes_exactly : (scripts : List (List ℕ)) (text : List ℕ) (log : Log) (p : ℕ) (blocks : List Block) → AreBytes log
    → Rightly log → WereGreeted log
    → HasWritten scripts text log → IsServing log p blocks → IsLongest log blocks → text ≡ scan_lines blocks scripts
writes_exactly scripts text log p blocks are right were has serving longest =
    let is =
    (sync_theorem_of scripts has.height has.hash has.entries log has.asked).exact p blocks
    (clash_hashed log blocks are serving.apart)
    (serving_honest log p blocks are right were serving) (none_shows log blocks are longest) has.quiet in
    has.written
    ∙ ap (λ entries. history_text entries has.height has.hash.0) is.history
    ∙ ap (λ height. history_text (scan_of blocks scripts) height has.hash.0) is.height_is
    ∙ ap (λ hash. history_text (scan_of blocks scripts) (length blocks) hash) is.tip_is

pub headline_of : (done : Type 0) (scripts : List (List ℕ)) (text : List ℕ) (log : Log) → AreBytes log → Rightly log
    → WereGreeted log
    → (done → HasWritten scripts text log) → Headline done scripts text log
headline_of done scripts text log are right were has = record {
  exact =
      λ p blocks serving longest is. writes_exactly scripts text log p blocks are right were (has is) serving longest;
  never = λ p blocks serving. never_closes log p blocks are right were serving;
}
