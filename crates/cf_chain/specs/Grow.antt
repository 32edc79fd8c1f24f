-- statement: what the serving machine of a chain that grows answers: that of the chain as it stands, and the tip where the asker wasn't told
-- of it yet.
use Rattle.std.specs.Prelude.{◌≡◌, ℕ, ℤ, ◌==◌, ◌&&◌, ◌||◌, nat_lt, Bool, true, false, if◌then◌else◌, List, [], ◌∷◌, ◌++◌, length, is_none}
use Rattle.std.specs.List.{flat_map}
use Rattle.cf_block.specs.declared.tx.Block.{Block}
use Rattle.cf_headers.specs.Chain.{Hash, tip_hash}
use Rattle.cf_msg.specs.declared.msg.Inventory.{Inventory}
use Rattle.cf_msg.specs.declared.msg.Msg.{Msg}
use Rattle.cf_msg.specs.declared.msg.Msg.TheVariants.{GetData, Inv, Block as BlockMessage}
use Rattle.cf_msg.specs.Message.{is_version}
use Rattle.cf_chain.specs.Good.{headers_of}
use Rattle.cf_chain.specs.Heights.{block_height}
use Rattle.cf_chain.specs.Serve.{replies_to}

-- the hash of a chain's highest block
abbrev pub top_hash : List Block → Hash
top_hash blocks = tip_hash (headers_of blocks)

-- the message that tells of one block, by its hash
abbrev pub announcement : Hash → Msg
announcement hash = Inv (record { kind = 2; hash = record { 0 = hash } } ∷ [])

-- an entry names a block that isn't in the chain
abbrev pub is_unknown : List Block → Inventory → Bool
is_unknown blocks entry = entry.kind == 2 && is_none (block_height entry.hash blocks)

-- an entry, where it names such a block
abbrev pub unknown_entry : List Block → Inventory → List Inventory
unknown_entry blocks entry = if is_unknown blocks entry then entry ∷ [] else []

-- the entries of an `inv` that name blocks that aren't in the chain, in order; none before the asker's version
abbrev pub wanted_entries : List Block → Bool → Msg → List Inventory
wanted_entries blocks true (Inv entries) = flat_map (unknown_entry blocks) entries
wanted_entries blocks met m = []

-- one `getdata` for these entries, where there are any
abbrev pub asked_for : List Inventory → List Msg
asked_for [] = []
asked_for (entry ∷ more) = GetData (entry ∷ more) ∷ []

-- what is answered by this chain, the announcement apart; met tells whether a version came before
abbrev pub growing_answers : ℤ → ℕ → List Block → Bool → Msg → List Msg
growing_answers moment nonce blocks met m = asked_for (wanted_entries blocks met m) ++ replies_to moment nonce blocks met m

-- what the asker was told of the chain: nothing before its version; then the height and the hash of the tip that it was told of
-- last
pub data TipMark : Type 0 where
  NotMet : TipMark
  TipTold : (height : ℕ) → (hash : Hash) → TipMark

-- the asker's version has come
abbrev pub is_met : TipMark → Bool
is_met NotMet = false
is_met (TipTold height hash) = true

-- the mark of an asker that was told of this chain's tip
abbrev pub mark_at : List Block → TipMark
mark_at blocks = TipTold (length blocks) (top_hash blocks)

-- a tip above the mark is told first
abbrev pub told_first : List Block → TipMark → List Msg
told_first blocks NotMet = []
told_first blocks (TipTold height hash) = if nat_lt height (length blocks) then announcement (top_hash blocks) ∷ [] else []

-- the mark after a message: at the tip once a first version has come or a higher tip was told, else as before
abbrev pub marked : List Block → TipMark → Msg → TipMark
marked blocks NotMet m = if is_version m then mark_at blocks else NotMet
marked blocks (TipTold height hash) m = if nat_lt height (length blocks) then mark_at blocks else TipTold height hash

-- the answer to one message, and where the mark stands then
pub record GrowAnswer : Type 0 where
  pub replies : List Msg
  pub mark : TipMark

-- a message is answered: a tip above the mark is told first, and then comes what is answered by this chain
abbrev pub grow_answer : ℤ → ℕ → List Block → TipMark → Msg → GrowAnswer
grow_answer moment nonce blocks mark m = record {
  replies = told_first blocks mark ++ growing_answers moment nonce blocks (is_met mark) m;
  mark = marked blocks mark m;
}

-- the tip is told first, and the asker's mark is the tip then
pub record IsToldFirst (moment : ℤ) (nonce : ℕ) (blocks : List Block) (answer : GrowAnswer) (m : Msg) : Type 0 where
  pub replies : answer.replies ≡ announcement (top_hash blocks) ∷ growing_answers moment nonce blocks true m
  pub mark : answer.mark ≡ mark_at blocks

-- ---- a chain that many ask, and that grows

-- a block that fits makes the chain longer, where its sender was met; fits is what is asked of a block on a chain
abbrev pub grown : (List Block → Block → Bool) → List Block → Bool → Msg → List Block
grown fits blocks true (BlockMessage b) = if fits blocks b then blocks ++ b ∷ [] else blocks
grown fits blocks met m = blocks

-- the chain and each asker's mark, and what each was answered, in order
pub record Service : Type 0 where
  pub blocks : List Block
  pub marks : ℕ → TipMark
  pub replies : ℕ → List Msg

abbrev pub put_at : {A : Type 0} → (ℕ → A) → ℕ → A → ℕ → A
put_at f c x d = if d == c then x else f d

-- one message of one asker: the chain as it stands answers it, and a block that it brings makes the chain longer after that
abbrev pub served : ℤ → ℕ → (List Block → Block → Bool) → Service → ℕ → Msg → Service
served moment nonce fits s c m =
    let a : GrowAnswer = grow_answer moment nonce s.blocks (s.marks c) m in
    record {
      blocks = grown fits s.blocks (is_met (s.marks c)) m;
      marks = put_at s.marks c a.mark;
      replies = put_at s.replies c (s.replies c ++ a.replies);
    }

-- an asker's number, and a message of it
abbrev pub Asking : Type 0
Asking = ℕ × Msg

-- messages of many askers, the newest first, over the chain with which the service began
abbrev pub served_all : ℤ → ℕ → (List Block → Block → Bool) → List Block → List Asking → Service
served_all moment nonce fits blocks [] = record { blocks = blocks; marks = λ c. NotMet; replies = λ c. [] }
served_all moment nonce fits blocks (x ∷ xs) = served moment nonce fits (served_all moment nonce fits blocks xs) x.0 x.1

-- the messages of one asker, each with the chain as it stood then, the newest first
abbrev pub At : Type 0
At = List Block × Msg

abbrev pub asked_by : ℤ → ℕ → (List Block → Block → Bool) → List Block → ℕ → List Asking → List At
asked_by moment nonce fits blocks c [] = []
asked_by moment nonce fits blocks c (x ∷ xs) =
    if c == x.0
    then ((served_all moment nonce fits blocks xs).blocks, x.1) ∷ asked_by moment nonce fits blocks c xs
    else asked_by moment nonce fits blocks c xs

-- what one asker is answered whose messages find these chains
abbrev pub answers_over : ℤ → ℕ → List At → GrowAnswer
answers_over moment nonce [] = record { replies = []; mark = NotMet }
answers_over moment nonce (x ∷ xs) =
    let before : GrowAnswer = answers_over moment nonce xs in
    let a : GrowAnswer = grow_answer moment nonce x.0 before.mark x.1 in
    record { replies = before.replies ++ a.replies; mark = a.mark }

-- an asker has the same replies, and the same mark, as if it were alone and found the chain as it stood with each of its messages
pub record IsAnsweredAlone (moment : ℤ) (nonce : ℕ) (fits : List Block → Block → Bool) (blocks : List Block) (asked : List Asking) (c : ℕ) : Type 0 where
  pub replies :
      (served_all moment nonce fits blocks asked).replies c ≡ (answers_over moment nonce (asked_by moment nonce fits blocks c asked)).replies
  pub mark : (served_all moment nonce fits blocks asked).marks c ≡ (answers_over moment nonce (asked_by moment nonce fits blocks c asked)).mark
