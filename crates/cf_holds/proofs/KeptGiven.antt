-- What is kept of given filters goes on with a piece: verdicts are put in on what it brought, where that wasn't
-- asked for so that it is tested.
use Rattle.std.proofs.Common.{◌≡◌, ◌⊎◌, inl, inr, ℕ, List, [], ◌∷◌, ◌++◌, Bool, true, false, refl, sym, ◌∙◌, ap, subst}
use Rattle.std.proofs.lemmas.Bool.{cases_Bool}
use Rattle.std.proofs.lemmas.List.{append_cancel_right}
use Rattle.cf_bytes.specs.declared.peer.PeerNo.{PeerNo}
use Rattle.cf_headers.specs.Chain.{Hash, IsIn}
use Rattle.cf_match.specs.declared.job.Job.{Job}
use Rattle.cf_match.specs.Verdicts.{AreSameVerdicts, Verdicts}
use Rattle.cf_wires.specs.declared.event.Delivery.TheVariants.{Got}
use Rattle.cf_wires.specs.declared.event.Event.{Event}
use Rattle.cf_wires.specs.declared.event.Event.TheVariants.{Took}
use Rattle.cf_wires.specs.Log.{Log}
use Rattle.cf_peer.specs.Asking.{counted, given_filters, request}
use Rattle.cf_peer.specs.Trail.{Part, is_connected, part_of, trail}
use Rattle.cf_tables.specs.Trials.{Trials, judged_if}
use Rattle.cf_sync.specs.Fetching.{counted_part, filters_open, IsConnected, IsGiven, IsTest}
use Rattle.cf_holds.specs.HeldTests.{HoldsTrials}
use Rattle.cf_holds.specs.Known.{HoldsGiven}
use Rattle.cf_sync.proofs.Answered.{given_stays}
use Rattle.cf_sync.proofs.Deaf.{heard_deaf}
use Rattle.cf_holds.proofs.KeptAims.{HasAnswered, got_here, named, piece_brings}
use Rattle.cf_holds.proofs.VerdictsGrow.{grown_given, same_given}

module _ (p : PeerNo) (piece : List ℕ) (log : Log) (jobs : List Job)
    (gives : given_filters (counted_part (Took (Got p piece) ∷ log) p.0) ≡ jobs ++ given_filters (counted_part log p.0)) where
  abbrev e : Event
  e = Took (Got p piece)

  abbrev due : List Hash
  due = filters_open (request (counted_part log p.0))

  -- what came is of the blocks whose filters were open to the peer, which is connected
  abbrev IsDue : Job → Type 0
  IsDue job = IsConnected log p.0 × IsIn job.block.0 due

  none_due : jobs ≡ [] → (job : Job) → IsIn job jobs → IsDue job
  none_due none job i = absurd (subst (λ (xs : List Job). IsIn job xs) none i)

  are_due : (job : Job) → IsIn job jobs → IsDue job
  are_due = elim (cases_Bool (is_connected (trail log p.0))) [
    | inl on ↦ by_piece on (piece_brings p piece log)
    | inr off ↦ unheard off
  ] where
    unheard : is_connected (trail log p.0) ≡ false → (job : Job) → IsIn job jobs → IsDue job
    unheard off =
        let same1 : counted_part (Took (Got p piece) ∷ log) p.0 ≡ counted_part log p.0 =
        ap (λ (x : Part). counted x.trail) (got_here p piece (part_of log p.0))
        ∙ heard_deaf piece (part_of log p.0) off in
        none_due (append_cancel_right jobs [] (given_filters (counted_part log p.0)) (sym gives ∙ ap given_filters same1))

    by_piece : IsConnected log p.0 → HasAnswered (trail log p.0) (counted_part (Took (Got p piece) ∷ log) p.0)
        → (job : Job) → IsIn job jobs → IsDue job
    by_piece on (inl s) = none_due (append_cancel_right jobs [] (given_filters (counted_part log p.0)) (sym gives ∙ s.1))
    by_piece on (inr s) =
        let w = s.1 in
        let same_jobs : w.jobs ≡ jobs =
        append_cancel_right w.jobs jobs (given_filters (counted_part log p.0)) (sym w.filters ∙ gives) in
        elim w.answer.asked [
          | inl none ↦ none_due (sym same_jobs ∙ none)
          | inr is ↦ λ job i. (
            on,
            subst (λ (xs : List Hash). IsIn job.block.0 xs) is
                (named job w.jobs (subst (λ (xs : List Job). IsIn job xs) (sym same_jobs) i)),
          )
        ]

  -- what is given besides is among what came
  comes : (job : Job) → IsGiven (e ∷ log) job → IsGiven log job ⊎ (IsIn job jobs × (IsTest log p.0 job.block.0 → ⊥))
  comes job (inr old) = inl old
  comes job (inl new) =
      let one : new.1.news ≡ jobs =
      append_cancel_right new.1.news jobs (given_filters (counted_part log p.0)) (sym new.1.joined ∙ gives) in
      inr (subst (λ (xs : List Job). IsIn job xs) one new.1.among, new.0)

  -- filters that were asked for so that they are tested give nothing; others are given
  go : (watch : List (List ℕ)) (aim : Bool) (before after : Verdicts)
      → (aim ≡ true → (job : Job) → IsIn job jobs → IsTest log p.0 job.block.0)
      → (aim ≡ false → (job : Job) → IsIn job jobs → IsTest log p.0 job.block.0 → ⊥)
      → AreSameVerdicts after (judged_if aim watch jobs before)
      → HoldsGiven watch log before → HoldsGiven watch (Took (Got p piece) ∷ log) after
  go watch true before after tests judges alike holds =
      same_given watch log (e ∷ log) before after (λ job. (given_stays e log job, was job)) alike holds where
        was : (job : Job) → IsGiven (e ∷ log) job → IsGiven log job
        was job g = elim (comes job g) [ inl old ↦ old | inr new ↦ absurd (new.1 (tests refl job new.0)) ]
  go watch false before after tests judges alike holds =
      grown_given watch log (e ∷ log) jobs before after fresh
      (given_stays e log) one_of alike holds where
        fresh : (job : Job) → IsIn job jobs → IsGiven (e ∷ log) job
        fresh job i = inl (judges refl job i, record { news = jobs; joined = gives; among = i })

        one_of : (job : Job) → IsGiven (e ∷ log) job → IsGiven log job ⊎ IsIn job jobs
        one_of job g = elim (comes job g) [ inl old ↦ inl old | inr new ↦ inr new.0 ]

pub verdicts_go : (p : PeerNo) (piece : List ℕ) (log : Log) (watch : List (List ℕ)) (trials : Trials) (before after : Verdicts)
    (jobs : List Job)
    → given_filters (counted_part (Took (Got p piece) ∷ log) p.0) ≡ jobs ++ given_filters (counted_part log p.0)
    → AreSameVerdicts after (judged_if (trials.aims p.0) watch jobs before) → HoldsTrials log trials
    → HoldsGiven watch log before → HoldsGiven watch (Took (Got p piece) ∷ log) after
verdicts_go p piece log watch trials before after jobs gives alike h holds =
    let due_of = are_due p piece log jobs gives in
    go p piece log jobs gives watch (trials.aims p.0) before after
    (λ on job i. (let w = due_of job i in (h.aims p.0 w.0).tests on job.block.0 w.1))
    (λ off job i. (let w = due_of job i in (h.aims p.0 w.0).judges off job.block.0 w.1)) alike holds
