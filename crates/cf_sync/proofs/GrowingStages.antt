-- What is due to a growing peer by stage: ready, met, greeted or new, and the blocks that it takes up by announcements.
use Rattle.std.proofs.Common.{◌≡◌, ◌⊎◌, inl, inr, ℕ, zero, suc, pos, ◌<◌, ◌≤◌, List, [], ◌∷◌, ◌++◌, length, take, Option, Some, None, Bool, true, false, ◌||◌, refl, sym, ◌∙◌, ap, subst, arith, length-take}
use Rattle.std.specs.FinMap.{empty}
use Rattle.cf_block.specs.declared.header.Header.{Header}
use Rattle.cf_block.specs.declared.tx.Block.{Block}
use Rattle.cf_chain.specs.Coins.{CoinMap, after_block}
use Rattle.cf_chain.specs.Filters.{Filtered, prevouts, filtered, filtered_on, first_filtered}
use Rattle.cf_chain.specs.Good.{headers_of}
use Rattle.cf_chain.specs.Grow.{top_hash, growing_answers}
use Rattle.cf_dispute.specs.Claims.{Table}
use Rattle.cf_headers.specs.Chain.{Chain, back_to, IsIn}
use Rattle.cf_headers.specs.Shown.{IsShown, IsShownSpelling}
use Rattle.cf_msg.specs.declared.msg.Msg.{Msg}
use Rattle.cf_msg.specs.declared.msg.Msg.TheVariants.{Version, Verack, Pong}
use Rattle.cf_msg.specs.Message.{is_version}
use Rattle.cf_peer.specs.Trail.{IsReply}
use Rattle.cf_peer.specs.Asking.{OpenRequest, NothingOpen, PingOpen, is_idle}
use Rattle.cf_sync.specs.Honesty.{filters_above}
use Rattle.cf_sync.specs.Growing.{Turn, left_then, met_then, asked_then, taking_up, taken_up}
use Rattle.cf_sync.proofs.Chains.{heads, up_to, headers_length, up_valid, in_heads, Setting, one_height}
use Rattle.cf_sync.proofs.Listed.{reverse_in}
use Rattle.cf_sync.proofs.Ranges.{in_take, ends_at}
use Rattle.cf_sync.proofs.Serves.{OwesRequest, AreTrue, Stays}

-- ---- the lower chains of a chain

take_take : {A : Type 0} (xs : List A) (j k : ℕ) → j ≤ k → take j (take k xs) ≡ take j xs
take_take xs zero k le = refl
take_take [] (suc j) zero le = refl
take_take [] (suc j) (suc k) le = refl
take_take (x ∷ xs) (suc j) zero le = absurd (omega (arith, le))
take_take {A = A} (x ∷ xs) (suc j) (suc k) le = ap (λ (l : List A). x ∷ l) (take_take xs j k (omega (arith, le)))

pub up_within : (blocks : List Block) (j k : ℕ) → j ≤ k → up_to j (take k blocks) ≡ up_to j blocks
up_within blocks j k le = ap headers_of (take_take blocks j k le)

filtered_take : (coins : CoinMap) (previous : List ℕ) (blocks : List Block) (k : ℕ)
    → filtered_on coins previous (take k blocks) ≡ take k (filtered_on coins previous blocks)
filtered_take coins previous blocks zero = refl
filtered_take coins previous [] (suc k) = refl
filtered_take coins previous (b ∷ bs) (suc k) =
    let f : Filtered = filtered (prevouts coins b) previous b in
    ap (λ (fs : List Filtered). f ∷ fs) (filtered_take (after_block coins b) f.header bs k)

pub filter_within : (blocks : List Block) (k : ℕ) (f : Filtered) → IsIn f (filters_above (take k blocks))
    → IsIn f (filters_above blocks)
filter_within blocks k f i = in_take f k (filters_above blocks)
    (subst (λ (fs : List Filtered). IsIn f fs) (filtered_take empty first_filtered.header blocks k) i)

pub true_up : (blocks : List Block) (j k : ℕ) (cs : Table) → j ≤ k → AreTrue (take j blocks) cs → AreTrue (take k blocks) cs
true_up blocks j k cs le tr block claim e =
    let w = tr block claim e in
    record {
      filter = w.filter;
      in_chain = filter_within (take k blocks) j w.filter
          (subst (λ (bs : List Block). IsIn w.filter (filters_above bs)) (sym (take_take blocks j k le)) w.in_chain);
      of_block = w.of_block;
      hash = w.hash;
      header = w.header;
    }

pub lower_setting : (blocks : List Block) (k : ℕ) → Setting blocks → Setting (take k blocks)
lower_setting blocks k s = record {
  valid = up_valid k blocks s.valid;
  low = (let a = headers_length (take k blocks) in let b = headers_length blocks in let c = length-take k blocks in
      let l = s.low in omega (arith, a, b, c, l));
  committed = λ b i. s.committed b (in_take b k blocks i);
  apart = record {
    fit = λ h shown. s.apart.fit h (wide h shown);
    apart = record {
      apart = λ a b i j e. s.apart.apart.apart a b (wide_spelling a i) (wide_spelling b j) e;
      real = λ a i e. s.apart.apart.real a (wide_spelling a i) e;
    };
  };
} where
  wide : (h : Header) → IsShown (heads (take k blocks) ∷ []) h → IsShown (heads blocks ∷ []) h
  wide h (inl i) = inl (in_heads k blocks h (reverse_in h (heads (take k blocks)) i))
  wide h (inr i) = absurd i

  wide_spelling : (bytes : List ℕ) → IsShownSpelling (heads (take k blocks) ∷ []) bytes
      → IsShownSpelling (heads blocks ∷ []) bytes
  wide_spelling bytes x =
      record {
        header = x.header;
        known = elim x.known [ inl e ↦ inl e | inr shown ↦ inr (wide x.header shown) ];
        is =
            x.is;
      }

-- the tip of a higher chain isn't on a lower one
pub not_on : (blocks : List Block) → Setting blocks → (j k : ℕ) → j < k → k ≤ length blocks
    → back_to (top_hash (take k blocks)) (up_to j blocks) ≡ None
not_on blocks s j k lt low = by_found (back_to (top_hash (take k blocks)) (up_to j blocks)) refl where
  by_found : (o : Option Chain) → back_to (top_hash (take k blocks)) (up_to j blocks) ≡ o
      → back_to (top_hash (take k blocks)) (up_to j blocks) ≡ None
  by_found None e = e
  by_found (Some part) e =
      let w = ends_at blocks j (top_hash (take k blocks)) part (omega (arith, lt, low)) e in
      let wl = w.low in
      let one = one_height blocks s (length part) k (omega (arith, wl, lt, low)) low w.tip in
      absurd (omega (arith, one, wl, lt))

-- ---- what is due

abbrev pub AreSilent : List Msg → Type 0
AreSilent [] = Unit {0}
AreSilent (m ∷ ms) = IsReply m × AreSilent ms

silent_answer : (blocks : List Block) (m : Msg) → IsReply m → growing_answers (pos 0) 0 blocks true m ≡ []
silent_answer blocks Verack is = refl
silent_answer blocks (Pong number) is = refl
silent_answer blocks m is = absurd is

pub silent_more : (ms : List Msg) (m : Msg) → AreSilent ms → IsReply m → AreSilent (ms ++ m ∷ [])
silent_more [] m all is = (is, tt)
silent_more (n ∷ ms) m all is = (all.0, silent_more ms m all.1 is)

-- for a peer whose own chain has this height, by the machine of this chain
abbrev pub Owing : List Block → Table → ℕ → OpenRequest → List Msg → Type 0
Owing blocks cs j (PingOpen number) owed = owed ≡ Pong number ∷ []
Owing blocks cs j r owed = OwesRequest blocks cs j r owed

pub owing_from : (blocks : List Block) (cs : Table) (j : ℕ) (r : OpenRequest) (owed : List Msg)
    → OwesRequest blocks cs j r owed → Owing blocks cs j r owed
owing_from blocks cs j (PingOpen number) owed o = absurd o
owing_from blocks cs j r owed o = o

-- the answer to the open request is given, and the messages after it have no answer
pub record Began (blocks : List Block) (k : ℕ) (cs : Table) (j : ℕ) (r : OpenRequest) (left asked : List Msg) : Type 0
  where
    pub silent : AreSilent asked
    pub owing : Owing (take k blocks) cs j r left

-- the open request isn't taken up: whatever chain it finds then, its answer is that of the chain
pub record Awaits (blocks : List Block) (k : ℕ) (cs : Table) (j : ℕ) (r : OpenRequest) (left asked : List Msg) : Type 0
  where
    pub none : left ≡ []
    pub before : List Msg
    pub question : Msg
    pub after : List Msg
    pub these : asked ≡ before ++ question ∷ after
    pub early : AreSilent before
    pub late : AreSilent after
    pub busy : is_idle r ≡ false
    pub owing : (h : ℕ) → k ≤ h → h ≤ length blocks
        → Owing (take h blocks) cs j r (growing_answers (pos 0) 0 (take h blocks) true question)

abbrev pub Due : List Block → ℕ → Table → ℕ → OpenRequest → List Msg → List Msg → Type 0
Due blocks k cs j r left asked = Began blocks k cs j r left asked ⊎ Awaits blocks k cs j r left asked

-- one more message is taken up
due_up : (blocks : List Block) (k : ℕ) (cs : Table) (j : ℕ) (r : OpenRequest) (left asked : List Msg)
    → k ≤ length blocks → Due blocks k cs j r left asked
    → Due blocks k cs j r (left_then (take k blocks) true left asked) (asked_then left asked)
due_up blocks k cs j r (n ∷ left) asked low d = d
due_up blocks k cs j r [] [] low d = d
due_up blocks k cs j r [] (q ∷ asked) low (inl b) = inl (record {
  silent = b.silent.1;
  owing = subst (λ (x : List Msg). Owing (take k blocks) cs j r x) (sym (silent_answer (take k blocks) q b.silent.0))
      b.owing;
})
due_up blocks k cs j r [] (q ∷ asked) low (inr a) = by_before a.before a.these a.early where
  by_before : (before : List Msg) → q ∷ asked ≡ before ++ a.question ∷ a.after → AreSilent before
      → Due blocks k cs j r (growing_answers (pos 0) 0 (take k blocks) true q) asked
  by_before [] e early =
      let one : q ≡ a.question = cc in
      let more : asked ≡ a.after = cc in
      inl (record {
        silent = subst AreSilent (sym more) a.late;
        owing = subst (λ (x : Msg). Owing (take k blocks) cs j r (growing_answers (pos 0) 0 (take k blocks) true x)) (sym one)
            (a.owing k (omega arith) low);
      })
  by_before (b ∷ before) e early =
      let one : q ≡ b = cc in
      let more : asked ≡ before ++ a.question ∷ a.after = cc in
      inr (record {
        none = silent_answer (take k blocks) q (subst IsReply (sym one) early.0);
        before = before;
        question = a.question;
        after = a.after;
        these = more;
        early = early.1;
        late = a.late;
        busy = a.busy;
        owing = a.owing;
      })

met_on : (left asked : List Msg) → met_then true left asked ≡ true
met_on (n ∷ left) asked = refl
met_on [] [] = refl
met_on [] (q ∷ asked) = refl

-- ---- by stage: ready, its version has come, it was sent a version

pub record Waiting (s : Turn) : Type 0 where
  pub unmet : s.met ≡ false
  pub none : s.left ≡ []
  pub version : Msg
  pub these : s.asked ≡ version ∷ []
  pub is : is_version version ≡ true

pub record Greeting (s : Turn) : Type 0 where
  pub known : s.met ≡ true
  pub none : s.asked ≡ []
  pub version : Msg
  pub left : s.left ≡ version ∷ Verack ∷ []
  pub is : is_version version ≡ true

pub record Shaking (s : Turn) : Type 0 where
  pub known : s.met ≡ true
  pub left : s.left ≡ Verack ∷ []
  pub silent : AreSilent s.asked

pub record Untouched (s : Turn) : Type 0 where
  pub unmet : s.met ≡ false
  pub left : s.left ≡ []
  pub none : s.asked ≡ []

pub record Serving (blocks : List Block) (cs : Table) (j : ℕ) (r : OpenRequest) (s : Turn) : Type 0 where
  pub known : s.met ≡ true
  pub due : Due blocks s.height cs j r s.left s.asked

abbrev pub Stage : List Block → Table → Bool → Bool → Bool → ℕ → OpenRequest → Turn → Type 0
Stage blocks cs true mt gr j r s = (gr ≡ true) × Serving blocks cs j r s
Stage blocks cs false true gr j r s = (gr ≡ true) × ((r ≡ NothingOpen) × Shaking s)
Stage blocks cs false false true j r s = (r ≡ NothingOpen) × (Waiting s ⊎ Greeting s)
Stage blocks cs false false false j r s = (r ≡ NothingOpen) × Untouched s

-- what holds of a growing peer's part: its own chain, whether it was heard out, what it claims, its open request, its
-- stage, and where it stands
pub record Grows (blocks : List Block) (o : Chain) (h : Bool) (cs : Table) (r : OpenRequest) (rd mt gr : Bool)
    (s : Turn) : Type 0 where
  pub low : s.height ≤ length blocks
  pub stays : Stays (take s.height blocks) o h
  pub true_claims : AreTrue (take s.height blocks) cs
  pub stage : Stage blocks cs rd mt gr stays.height r s

-- ---- messages that it takes up

stage_up : (blocks : List Block) (cs : Table) (rd mt gr : Bool) (j : ℕ) (r : OpenRequest) (s : Turn)
    → s.height ≤ length blocks → Stage blocks cs rd mt gr j r s → Stage blocks cs rd mt gr j r (taking_up blocks s)
stage_up blocks cs true mt gr j r s low st = (
  st.0,
  record {
    known = ap (λ (b : Bool). met_then b s.left s.asked) st.1.known ∙ met_on s.left s.asked;
    due = subst (λ (b : Bool). Due blocks s.height cs j r (left_then (take s.height blocks) b s.left s.asked)
        (asked_then s.left s.asked)) (sym st.1.known)
        (due_up blocks s.height cs j r s.left s.asked low st.1.due);
  },
)
stage_up blocks cs false true gr j r s low st = (
  st.0,
  (
    st.1.0,
    record {
      known = ap (λ (l : List Msg). met_then s.met l s.asked) st.1.1.left ∙ st.1.1.known;
      left = ap (λ (l : List Msg). left_then (take s.height blocks) s.met l s.asked) st.1.1.left;
      silent = subst (λ (l : List Msg). AreSilent (asked_then l s.asked)) (sym st.1.1.left) st.1.1.silent;
    },
  ),
)
stage_up blocks cs false false true j r s low st = (
  st.0,
  elim st.1 [
    | inl w ↦ inr (greets w)
    | inr g ↦ inr (record {
      known = ap (λ (l : List Msg). met_then s.met l s.asked) g.left ∙ g.known;
      none = ap (λ (l : List Msg). asked_then l s.asked) g.left ∙ g.none;
      version = g.version;
      left = ap (λ (l : List Msg). left_then (take s.height blocks) s.met l s.asked) g.left;
      is = g.is;
    })
  ],
) where
  first_answer : (chain : List Block) (v : Msg) → is_version v ≡ true
      → (n : Msg) × ((growing_answers (pos 0) 0 chain false v ≡ n ∷ Verack ∷ []) × (is_version n ≡ true))
  first_answer chain (Version version services time to from nonce agent height relay) is = (_, (refl, refl))
  first_answer chain v is = cc

  greets : Waiting s → Greeting (taking_up blocks s)
  greets w =
      let a = first_answer (take s.height blocks) w.version w.is in
      record {
        known = ap (λ (l : List Msg). met_then s.met l s.asked) w.none ∙ ap (λ (qs : List Msg). met_then s.met [] qs)
            w.these ∙ ap (λ (b : Bool). b || is_version w.version) w.unmet ∙ w.is;
        none = ap (λ (l : List Msg). asked_then l s.asked) w.none ∙ ap (λ (qs : List Msg). asked_then [] qs) w.these;
        version = a.0;
        left = ap (λ (l : List Msg). left_then (take s.height blocks) s.met l s.asked) w.none
            ∙ ap (λ (qs : List Msg). left_then (take s.height blocks) s.met [] qs) w.these
            ∙ ap (λ (b : Bool). growing_answers (pos 0) 0 (take s.height blocks) b w.version) w.unmet ∙ a.1.0;
        is = a.1.1;
      }
stage_up blocks cs false false false j r s low st = (
  st.0,
  record {
    unmet = ap (λ (l : List Msg). met_then s.met l s.asked) st.1.left ∙ ap (λ (qs : List Msg). met_then s.met [] qs)
        st.1.none ∙ st.1.unmet;
    left = ap (λ (l : List Msg). left_then (take s.height blocks) s.met l s.asked) st.1.left
        ∙ ap (λ (qs : List Msg). left_then (take s.height blocks) s.met [] qs) st.1.none;
    none = ap (λ (l : List Msg). asked_then l s.asked) st.1.left ∙ ap (λ (qs : List Msg). asked_then [] qs) st.1.none;
  },
)

grows_one : (blocks : List Block) (o : Chain) (h : Bool) (cs : Table) (r : OpenRequest) (rd mt gr : Bool) (s : Turn)
    → Grows blocks o h cs r rd mt gr s → Grows blocks o h cs r rd mt gr (taking_up blocks s)
grows_one blocks o h cs r rd mt gr s g = record {
  low = g.low;
  stays = g.stays;
  true_claims = g.true_claims;
  stage = stage_up blocks cs rd mt gr g.stays.height r s g.low g.stage;
}

pub grows_up : (blocks : List Block) (o : Chain) (h : Bool) (cs : Table) (r : OpenRequest) (rd mt gr : Bool) (n : ℕ)
    (s : Turn) → Grows blocks o h cs r rd mt gr s → Grows blocks o h cs r rd mt gr (taken_up n blocks s)
grows_up blocks o h cs r rd mt gr zero s g = g
grows_up blocks o h cs r rd mt gr (suc n) s g = grows_up blocks o h cs r rd mt gr n (taking_up blocks s)
    (grows_one blocks o h cs r rd mt gr s g)

pub height_up : (blocks : List Block) (n : ℕ) (s : Turn) → (taken_up n blocks s).height ≡ s.height
height_up blocks zero s = refl
height_up blocks (suc n) s = height_up blocks n (taking_up blocks s)
