-- What is open where memory was lacking.
use Rattle.std.proofs.Common.{inl, inr, ℕ, List, [], ◌∷◌, refl, sym, ◌∙◌}
use Rattle.std.specs.Prelude.{Result, Ok, Err, OnErr}
use Rattle.cf_bytes.specs.declared.memory.NoMemory.{NoMemory}
use Rattle.cf_headers.specs.Chain.{Hash}
use Rattle.cf_dispute.specs.Tables.{blocks_of}
use Rattle.cf_seek.specs.declared.spans.Wish.{Wish}
use Rattle.cf_seek.specs.declared.spans.Wish.TheVariants.{Nothing, Claims, Filters, Block, Test}
use Rattle.cf_seek.specs.Opens.{Opens}
use Rattle.cf_seek.specs.Opening.{IsSameOpens, OpensSome}
use Rattle.cf_seek.specs.Spans.{IsAskedInPart}

-- what is said of a failure
pub failed : {T A : Type 0} (result : Result T NoMemory) → A → OnErr result A
failed (Ok x) a = tt
failed (Err n) a = a

unchanged : (opens : Opens) → IsSameOpens opens opens
unchanged opens = record { filters = λ q block. refl; blocks = λ q block. refl }

same_some : (p : ℕ) (asked : List Hash) (before after : Opens) → IsSameOpens before after → OpensSome before after p asked
same_some p asked before after same = record {
  stays = λ block is. same.filters p block ∙ is;
  only = λ block is. inr (sym (same.filters p block) ∙ is);
  blocks = λ block. same.blocks p block;
  others = record { filters = λ q off block. same.filters q block; blocks = λ q off block. same.blocks q block };
}

-- nothing was asked for
pub none_asked : (p : ℕ) (wish : Wish) (opens : Opens) → IsAskedInPart p wish opens opens
none_asked p Nothing opens = unchanged opens
none_asked p (Claims span) opens = unchanged opens
none_asked p (Filters span) opens = same_some p (blocks_of span.blocks.items) opens opens (unchanged opens)
none_asked p (Block hash) opens = unchanged opens
none_asked p (Test trial) opens = same_some p (trial.block.0 ∷ []) opens opens (unchanged opens)

-- what was asked for in part
some_asked : (p : ℕ) (wish : Wish) (before after : Opens) → IsAskedInPart p wish before after
    → (asked : List Hash) × OpensSome before after p asked
some_asked p Nothing before after same = ([], same_some p [] before after same)
some_asked p (Claims span) before after same = ([], same_some p [] before after same)
some_asked p (Filters span) before after some = (blocks_of span.blocks.items, some)
some_asked p (Block hash) before after same = ([], same_some p [] before after same)
some_asked p (Test trial) before after some = (trial.block.0 ∷ [], some)

-- the same where before that nothing changed
pub some_later : (p : ℕ) (wish : Wish) (first before after : Opens) → IsSameOpens first before → IsAskedInPart p wish before after
    → (asked : List Hash) × OpensSome first after p asked
some_later p wish first before after same part =
    let some = some_asked p wish before after part in (
      some.0,
      record {
        stays = λ block is. some.1.stays block (same.filters p block ∙ is);
        only = λ block is. elim (some.1.only block is) [
          | inl asked ↦ inl asked
          | inr was ↦ inr (sym (same.filters p block) ∙ was)
        ];
        blocks = λ block. some.1.blocks block ∙ same.blocks p block;
        others = record {
          filters = λ q off block. some.1.others.filters q off block ∙ same.filters q block;
          blocks = λ q off block. some.1.others.blocks q off block ∙ same.blocks q block;
        };
      },
    )
