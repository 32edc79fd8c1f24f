-- At most one body of a block is fetched.
use Rattle.std.proofs.Common.{◌≡◌, ◌⊎◌, inl, inr, ℕ, List, [], ◌∷◌, ◌++◌, Option, Some, None, Ok, Err, Bool, true, false, ◌==◌, ◌&&◌, if◌then◌else◌, refl, sym, ◌∙◌, subst}
use Rattle.std.proofs.lemmas.Bool.{eqb-true}
use Rattle.cf_block.specs.declared.tx.Block.{Block}
use Rattle.cf_block.specs.Header.{block_hash_of}
use Rattle.cf_frame.specs.declared.frame.Frame.{Frame}
use Rattle.cf_frame.specs.declared.frame.FrameFault.{FrameFault}
use Rattle.cf_frame.specs.Stream.{StreamRead, read_stream}
use Rattle.cf_headers.specs.Chain.{IsIn}
use Rattle.cf_msg.specs.declared.msg.Msg.{Msg}
use Rattle.cf_msg.specs.declared.msg.Msg.TheVariants.{Block as BlockMessage}
use Rattle.cf_msg.specs.Reading.{message_of}
use Rattle.cf_wires.specs.declared.event.Delivery.TheVariants.{Got}
use Rattle.cf_wires.specs.declared.event.Event.{Event}
use Rattle.cf_wires.specs.declared.event.Event.TheVariants.{Took}
use Rattle.cf_wires.specs.Log.{Log}
use Rattle.cf_peer.specs.declared.mode.Mode.TheVariants.{Following}
use Rattle.cf_peer.specs.Trail.{Trail, Said, item_of, item_of_read, hears, hears_fault, part_after, heard_part, part_of, trail}
use Rattle.cf_peer.specs.Asking.{OpenRequest, BlockOpen, is_wanted, is_committed, counts, counted, fetched_blocks, fetched_by, request}
use Rattle.cf_sync.specs.Fetching.{IsFetched, RightlyIn}
use Rattle.cf_sync.proofs.Grows.{fetched_before}
use Rattle.cf_sync.proofs.Modes.{rightly_before_in}
use Rattle.cf_sync.proofs.Listed.{in_either}
use Rattle.cf_sync.proofs.Once.{Brings, frames_bring, in_if, newly, open_unfetched, said_brings}

-- of two blocks one was there before, or they are one
abbrev OneOf : Trail → Block → Block → Type 0
OneOf t a b = (IsIn a (fetched_blocks (counted t)) ⊎ IsIn b (fetched_blocks (counted t))) ⊎ (a ≡ b)

turned : (t : Trail) (a b : Block) → OneOf t b a → OneOf t a b
turned t a b (inl (inl x)) = inl (inr x)
turned t a b (inl (inr x)) = inl (inl x)
turned t a b (inr e) = inr (sym e)

-- a message brings one at most
by_one : (m : Msg) (r : OpenRequest) (a b : Block) → IsIn a (fetched_by m r) → IsIn b (fetched_by m r) → a ≡ b
by_one (BlockMessage c) (BlockOpen wanted) a b i j = in_if (is_wanted c wanted && is_committed c) a c i ∙ sym (in_if (is_wanted c wanted && is_committed c) b c j)
by_one m r a b i j = absurd i

said_one : (m : Msg) (t : Trail) (a b : Block) → IsIn a (fetched_blocks (counted (Said m ∷ t))) → IsIn b (fetched_blocks (counted (Said m ∷ t))) → OneOf t a b
said_one m t a b i j = by (counts m t) i j where
  both : IsIn a (fetched_by m (request (counted t))) ⊎ IsIn a (fetched_blocks (counted t)) → IsIn b (fetched_by m (request (counted t))) ⊎ IsIn b (fetched_blocks (counted t)) → OneOf t a b
  both (inr old) z = inl (inl old)
  both (inl new) (inr old) = inl (inr old)
  both (inl new) (inl new2) = inr (by_one m (request (counted t)) a b new new2)

  by : (x : Bool) → IsIn a (fetched_blocks (if x then Said m ∷ counted t else counted t)) → IsIn b (fetched_blocks (if x then Said m ∷ counted t else counted t)) → OneOf t a b
  by false i j = inl (inl i)
  by true i j =
      both (in_either a (fetched_by m (request (counted t))) (fetched_blocks (counted t)) i)
      (in_either b (fetched_by m (request (counted t))) (fetched_blocks (counted t)) j)

item_one : (f : Frame) (t : Trail) (a b : Block) → IsIn a (fetched_blocks (counted (item_of f ∷ t))) → IsIn b (fetched_blocks (counted (item_of f ∷ t))) → OneOf t a b
item_one f t a b = by (message_of f) where
  by : (r : _) → IsIn a (fetched_blocks (counted (item_of_read r ∷ t))) → IsIn b (fetched_blocks (counted (item_of_read r ∷ t))) → OneOf t a b
  by (Ok m) i j = said_one m t a b i j
  by (Err x) i j = inl (inl i)

item_brings : (f : Frame) (t : Trail) (a : Block) → IsIn a (fetched_blocks (counted (item_of f ∷ t))) → Brings t (item_of f ∷ t) a
item_brings f t a = by (message_of f) where
  by : (r : _) → IsIn a (fetched_blocks (counted (item_of_read r ∷ t))) → Brings t (item_of_read r ∷ t) a
  by (Ok m) i = said_brings m t a i
  by (Err x) i = inl i

-- what a frame brought leaves nothing open that a later one could bring
one_side : (fs : List Frame) (f : Frame) (t : Trail) (a b : Block) → IsIn a (fetched_blocks (counted (item_of f ∷ t))) → IsIn b (fetched_blocks (counted (hears fs (item_of f ∷ t)))) → OneOf t a b
one_side fs f t a b i j = elim (frames_bring fs (item_of f ∷ t) b j) [
  | inl here ↦ item_one f t a b i here
  | inr stands ↦ elim (item_brings f t a i) [
    | inl old ↦ inl (inl old)
    | inr new ↦ absurd (new.1 (block_hash_of b.header) stands.0.1)
  ]
]

frames_one : (fs : List Frame) (t : Trail) (a b : Block) → IsIn a (fetched_blocks (counted (hears fs t))) → IsIn b (fetched_blocks (counted (hears fs t))) → OneOf t a b
frames_one [] t a b i j = inl (inl i)
frames_one (f ∷ fs) t a b i j = elim (frames_one fs (item_of f ∷ t) a b i j) [
  | inr same ↦ inr same
  | inl either ↦ elim either [
    | inl x ↦ one_side fs f t a b x j
    | inr y ↦ turned t a b (one_side fs f t b a y i)
  ]
]

read_one : (r : StreamRead) (t : Trail) (a b : Block) → IsIn a (fetched_blocks (counted (part_after r t).trail)) → IsIn b (fetched_blocks (counted (part_after r t).trail)) → OneOf t a b
read_one r t a b i j = by r.fault i j where
  by : (o : Option FrameFault) → IsIn a (fetched_blocks (counted (hears_fault o (hears r.frames t)))) → IsIn b (fetched_blocks (counted (hears_fault o (hears r.frames t)))) → OneOf t a b
  by None i j = frames_one r.frames t a b i j
  by (Some fault) i j = frames_one r.frames t a b i j

-- an entry brings one at most
one_entry : (e : Event) (log : Log) (a b : Block) → IsFetched (e ∷ log) a → IsFetched (e ∷ log) b → (IsFetched log a ⊎ IsFetched log b) ⊎ (a ≡ b)
one_entry (Took (Got q piece)) log a b i j = by (q.0 == i.0) refl i.1 (q.0 == j.0) refl j.1 where
  Now : ℕ → Bool → Block → Type 0
  Now p x c = IsIn c (fetched_blocks (counted (if x then heard_part piece (part_of log p) else part_of log p).trail))

  by : (x : Bool) → (q.0 == i.0) ≡ x → Now i.0 x a → (y : Bool) → (q.0 == j.0) ≡ y → Now j.0 y b → (IsFetched log a ⊎ IsFetched log b) ⊎ (a ≡ b)
  by false e u y f v = inl (inl (i.0, u))
  by true e u false f v = inl (inr (j.0, v))
  by true e u true f v =
      let here : j.0 ≡ i.0 = sym (eqb-true q.0 j.0 f) ∙ eqb-true q.0 i.0 e in
      let w : IsIn b (fetched_blocks (counted (heard_part piece (part_of log i.0)).trail)) = subst (λ (p : ℕ). IsIn b (fetched_blocks (counted (heard_part piece (part_of log p)).trail))) here v in
      elim (read_one (read_stream ((part_of log i.0).waits ++ piece)) (trail log i.0) a b u w) [
        | inr same ↦ inr same
        | inl either ↦ elim either [ inl x ↦ inl (inl (i.0, x)) | inr z ↦ inl (inr (i.0, z)) ]
      ]
one_entry e log a b i j = elim (fetched_before e log a i) [ inl old ↦ inl (inl old) | inr none ↦ absurd none ]

-- two fetched blocks with one hash are one
pub one_body : (log : Log) → RightlyIn Following log → (a b : Block) → IsFetched log a → IsFetched log b
    → block_hash_of a.header ≡ block_hash_of b.header → a ≡ b
one_body [] right a b i j e = absurd i.1
one_body (entry ∷ log) right a b i j e =
    let before : RightlyIn Following log = rightly_before_in Following entry log right in
    elim (one_entry entry log a b i j) [
      | inr same ↦ same
      | inl either ↦ elim either [
        | inl old ↦ elim (newly entry log b j) [
          | inl old_too ↦ one_body log before a b old old_too e
          | inr new ↦ absurd (open_unfetched log before new.0 (block_hash_of b.header) new.1.0 (a, old, e))
        ]
        | inr old ↦ elim (newly entry log a i) [
          | inl old_too ↦ one_body log before a b old_too old e
          | inr new ↦ absurd (open_unfetched log before new.0 (block_hash_of a.header) new.1.0 (b, old, sym e))
        ]
      ]
    ]
