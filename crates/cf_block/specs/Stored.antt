-- statement: blocks as files keep them: a transaction stands in its form without witnesses, or in the one with them (BIP 144,
-- "Serialization"), of which the witnesses aren't kept.
use Rattle.std.specs.Prelude.{◌≡◌, ◌⊎◌, ℕ, ◌≤◌, ◌==◌, nat_lt, Bool, true, false, ◌&&◌, ◌||◌, if◌then◌else◌, List, [], ◌∷◌, ◌++◌, drop, length, Ok, Err}
use Rattle.std.specs.Int.{w32, to_le_bytes, cast_unsigned}
use Rattle.std.specs.List.{flat_map, AllByRecursion}
use Rattle.cf_bytes.specs.Cut.{Read, bytes_at, int_at, ◌>>=◌}
use Rattle.cf_bytes.specs.Compact.{compact, compact_at}
use Rattle.cf_bytes.specs.Lists.{list_at, counted_bytes}
use Rattle.cf_block.specs.declared.fault.BlockFault.{BlockFault}
use Rattle.cf_block.specs.declared.fault.BlockFaultKind.{BlockFaultKind}
use Rattle.cf_block.specs.declared.fault.BlockFaultKind.TheVariants.{NoInput, NoOutput, NoTx, TooLong, EmptyWitness}
use Rattle.cf_block.specs.declared.tx.Tx.{Tx}
use Rattle.cf_block.specs.declared.tx.Block.{Block}
use Rattle.cf_block.specs.Header.{header_at, header_spelling}
use Rattle.cf_block.specs.Tx.{max_block, max_count, IsBlock, input_spelling, output_spelling, tx_spelling, block_spelling}
use Rattle.cf_block.specs.Reading.{of_cut, of_header, u32_at, script_at, input_at, output_at, count_at, tx_fields_at, to_end, placed}

-- ---- what stands there

-- an input's witness: a stack of items, each of which is bytes (BIP 144, "Serialization")
abbrev pub Stack : Type 0
Stack = List (List ℕ)

-- counts of items and of an item's bytes are in range
abbrev pub IsStack : Stack → Type 0
IsStack stack = (length stack ≤ max_count) × AllByRecursion (λ item. length item ≤ max_count) stack

-- how many items there are, and of each its length and its bytes
unfoldable pub stack_spelling : Stack → List ℕ
stack_spelling stack = compact (length stack) ++ flat_map counted_bytes stack

-- some stack isn't empty; an item of no bytes is an item
abbrev pub has_item : List Stack → Bool
has_item [] = false
has_item ([] ∷ stacks) = has_item stacks
has_item ((item ∷ items) ∷ stacks) = true

-- the form with witnesses: behind the version a zero byte, where the other form has the count of inputs, and a one; and
-- before the lock time the stacks, which have no count of their own
unfoldable pub extended_spelling : Tx → List Stack → List ℕ
extended_spelling t stacks =
    to_le_bytes w32 (cast_unsigned w32 t.version) ++ ((0 ∷ 1 ∷ []) ++ (compact (length t.inputs) ++ (flat_map input_spelling t.inputs
    ++ (compact (length t.outputs) ++ (flat_map output_spelling t.outputs ++ (flat_map stack_spelling stacks ++ to_le_bytes w32 t.lock_time))))))

-- bytes that are the form with witnesses: a stack for each input, in the inputs' order, and not all of them empty, since a
-- transaction without witnesses has the other form alone (BIP 144, "Serialization")
pub record IsExtended (text : List ℕ) (t : Tx) : Type 0 where
  pub stacks : List Stack
  pub count : length stacks ≡ length t.inputs
  pub each : AllByRecursion IsStack stacks
  pub some : has_item stacks ≡ true
  pub spelled : text ≡ extended_spelling t stacks

-- one of a transaction's forms
abbrev pub IsStoredTx : List ℕ → Tx → Type 0
IsStoredTx text t = (text ≡ tx_spelling t) ⊎ IsExtended text t

-- so each of these is one of the forms of the transaction at its place
abbrev pub AreStored : List (List ℕ) → List Tx → Type 0
AreStored [] [] = Unit {0}
AreStored [] (t ∷ ts) = ⊥
AreStored (text ∷ texts) [] = ⊥
AreStored (text ∷ texts) (t ∷ ts) = IsStoredTx text t × AreStored texts ts

-- a block's bytes in a file: its header, how many transactions there are, and one of the forms of each; the block has a
-- spelling without witnesses, of at most 1,000,000 bytes
pub record IsStored (bytes : List ℕ) (b : Block) : Type 0 where
  pub texts : List (List ℕ)
  pub txs : AreStored texts b.txs
  pub spelled : bytes ≡ header_spelling b.header ++ (compact (length b.txs) ++ flat_map (λ text. text) texts)
  pub block : IsBlock b

-- ---- what reading gives

-- a zero byte and a one behind the version
abbrev pub begins_marked : List ℕ → Bool
begins_marked [] = false
begins_marked (a ∷ []) = false
begins_marked (a ∷ b ∷ rest) = a == 0 && b == 1

-- these bytes begin as a transaction in the form with witnesses does
abbrev pub is_extended : List ℕ → Bool
is_extended bytes = begins_marked (drop 4 bytes)

-- an input's witness: how many items there are, and of each its length and its bytes
unfoldable pub stack_at : List ℕ → Read Stack BlockFaultKind
stack_at bytes = of_cut (compact_at bytes) >>= λ n. list_at script_at n.0 n.1

-- stacks that are all empty are refused where they begin
abbrev pub some_item : List ℕ → List Stack × List ℕ → Read (List Stack) BlockFaultKind
some_item bytes x = if has_item x.0 then Ok x else Err (EmptyWitness, bytes)

-- as many stacks as there are inputs
unfoldable pub witness_at : ℕ → List ℕ → Read (List Stack) BlockFaultKind
witness_at n bytes = list_at stack_at n bytes >>= some_item bytes

-- what is read and not kept
abbrev pub skip : {X E : Type 0} → Read X E → Read (Unit {0}) E
skip read = read >>= λ x. Ok (tt, x.1)

-- a transaction with witnesses, which aren't kept
unfoldable pub extended_at : List ℕ → Read Tx BlockFaultKind
extended_at bytes = do
  version ← of_cut (int_at w32 bytes)
  marker ← skip (of_cut (bytes_at 2 version.1))
  in_count ← count_at NoInput marker.1
  inputs ← list_at input_at in_count.0 in_count.1
  out_count ← count_at NoOutput inputs.1
  outputs ← list_at output_at out_count.0 out_count.1
  witness ← skip (witness_at in_count.0 outputs.1)
  lock_time ← u32_at witness.1
  Ok (record { version = version.0; inputs = inputs.0; outputs = outputs.0; lock_time = lock_time.0 }, lock_time.1)

-- a transaction in the form that its bytes begin with
unfoldable pub stored_tx_at : List ℕ → Read Tx BlockFaultKind
stored_tx_at bytes = if is_extended bytes then extended_at bytes else tx_fields_at bytes

-- a block whose form without witnesses is too long is refused as a whole, before the bytes after it
abbrev pub short_stored : List ℕ → Block × List ℕ → Read Block BlockFaultKind
short_stored bytes x = if nat_lt max_block (length (block_spelling x.0)) then Err (TooLong, bytes) else to_end x

-- a block, and nothing after it
unfoldable pub stored_fields_at : List ℕ → Read Block BlockFaultKind
stored_fields_at bytes = do
  header ← of_header (header_at bytes)
  count ← count_at NoTx header.1
  txs ← list_at stored_tx_at count.0 count.1
  short_stored bytes (record { header = header.0; txs = txs.0 }, txs.1)

-- the block whose bytes these are in a file, or the first fault and its place
unfoldable pub stored_block_at : List ℕ → Read Block BlockFault
stored_block_at bytes = placed bytes (stored_fields_at bytes)

-- ---- reading that keeps no stack

-- whether a stack has an item
abbrev pub is_some_stack : Stack → Bool
is_some_stack [] = false
is_some_stack (item ∷ items) = true

abbrev pub has_one : Read Stack BlockFaultKind → Read Bool BlockFaultKind
has_one read = read >>= λ x. Ok (is_some_stack x.0, x.1)

-- the same of the stack that stands here, whose count alone tells it
unfoldable pub seen_stack_at : List ℕ → Read Bool BlockFaultKind
seen_stack_at bytes = do
  count ← of_cut (compact_at bytes)
  items ← skip (list_at script_at count.0 count.1)
  Ok (nat_lt 0 count.0, items.1)

-- whether some stack has an item, where some one before had
abbrev pub seen_item : Bool → Read (List Stack) BlockFaultKind → Read Bool BlockFaultKind
seen_item some read = read >>= λ x. Ok (some || has_item x.0, x.1)
