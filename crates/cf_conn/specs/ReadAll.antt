-- statement: reading a source to its end.
use Rattle.std.specs.Prelude.{◌≡◌, ℕ, ◌≤◌, ◌<◌, List, [], length, Option, IfSome, Result, Ok, Err, Vec}
use Rattle.std.specs.Global.{Global}
use Rattle.cf_bytes.specs.Outside.{HasRisen}
use Rattle.cf_conn.specs.Source.{with_front}
use Rattle.cf_conn.specs.declared.reading.ReadFail.{ReadFail}
use Rattle.cf_conn.specs.declared.reading.ReadFail.TheVariants as fails

-- what is answered where at most so many bytes may come, by the bytes left before and after
abbrev pub ReadsAll : ℕ → Option (List ℕ) → Option (List ℕ) → Result (Vec ℕ Global) ReadFail → Type 0
ReadsAll most before after (Ok v) =
    (length v.items ≤ most) × IfSome before (λ bytes. v.items ≡ bytes) × IfSome after (λ bytes. bytes ≡ [])
ReadsAll most before after (Err fails.TooBig) = IfSome before (λ bytes. most < length bytes)
ReadsAll most before after (Err fails.Failed) = Unit {0}
ReadsAll most before after (Err fails.NoMemory) = Unit {0}

-- what the call does to the count of faults: it rises where the answer is Failed, and else stays
abbrev pub Counts : Result (Vec ℕ Global) ReadFail → ℕ → ℕ → Type 0
Counts (Ok v) before after = after ≡ before
Counts (Err fails.TooBig) before after = after ≡ before
Counts (Err fails.Failed) before after = HasRisen before after
Counts (Err fails.NoMemory) before after = after ≡ before

-- at most so many of the bytes that were left have been read
abbrev pub HasRead : ℕ → Option (List ℕ) → Option (List ℕ) → Type 0
HasRead most before after = (front : List ℕ) × (length front ≤ most) × (before ≡ with_front front after)
