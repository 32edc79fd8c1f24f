-- machine: what comes of a task that is handed over.
use Rattle.std.specs.Prelude.{◌≡◌, Option, Some, None}
use Rattle.cf_tasks.specs.declared.entry.View.{View}
use Rattle.cf_tasks.specs.declared.workers.Answer.{Answer}
use Rattle.cf_tasks.specs.Queue.{with_got, entry}

-- nothing came, or a task came and was run
abbrev pub HasWaited : {J O : Type 0} → (J → O → Type 0) → View J → View J → Option (Answer J O) → Type 0
HasWaited gives before after None = after ≡ before
HasWaited gives before after (Some a) = (after ≡ with_got before (entry a.from a.of.value)) × gives a.of.value a.out
