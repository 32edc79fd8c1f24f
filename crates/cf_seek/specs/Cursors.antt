-- machine: marks, by the peers' numbers.
use Rattle.std.specs.Prelude.{ℕ, ◌-◌, min, max, List, Option, Some, None, slice_index_or, slice_set}
use Rattle.cf_headers.specs.declared.change.Change.{Change}
use Rattle.cf_headers.specs.declared.change.Change.TheVariants.{Longer}
use Rattle.cf_seek.specs.declared.cursors.Marks.{Marks}

-- the marks of a peer of which nothing is known yet: all at genesis
abbrev pub no_marks : Marks
no_marks = record { claimed = 0; sought = 0; passed = 0 }

-- a peer's marks
abbrev pub marks_at : List Marks → ℕ → Marks
marks_at cursors p = slice_index_or cursors p no_marks

-- no higher than a height
abbrev pub lowered : Marks → ℕ → Marks
lowered marks most = record { claimed = min marks.claimed most; sought = min marks.sought most; passed = min marks.passed most }

-- with so much claimed; and no lower than two heights, as far as that is claimed
abbrev pub raised : Marks → ℕ → ℕ → ℕ → Marks
raised marks claimed sought passed =
    record { claimed = claimed; sought = max marks.sought (min sought claimed); passed = max marks.passed (min passed claimed) }

-- with no less claimed and sought than up to a height, if there is one
abbrev pub reached_to : Option ℕ → Marks → Marks
reached_to None marks = marks
reached_to (Some top) marks = record { claimed = max marks.claimed top; sought = max marks.sought top; passed = marks.passed }

-- a peer's marks with so much claimed
abbrev pub further : List Marks → ℕ → ℕ → List Marks
further cursors p claimed = slice_set cursors p (record (marks_at cursors p) { claimed = claimed })

-- a peer's marks are no higher than its chain stays the same
abbrev pub fallen : List Marks → ℕ → Change → List Marks
fallen cursors p (Longer link) = slice_set cursors p (lowered (marks_at cursors p) link)
fallen cursors p _ = cursors

-- a mark of what is passed, where a block stands at this height, or at none
abbrev pub passed_under : Option ℕ → ℕ → ℕ
passed_under None passed = passed
passed_under (Some height) passed = min passed (height - 1)

-- marks from which blocks are looked for anew
abbrev pub unpassed : Marks → Marks
unpassed marks = record marks { passed = 0 }

-- marks from which filters and blocks are looked for anew
abbrev pub unsought : Marks → Marks
unsought marks = record marks { sought = 0; passed = 0 }

-- marks from which filters are looked for anew above what is passed
abbrev pub settled : Marks → Marks
settled marks = record marks { sought = min marks.sought marks.passed }
